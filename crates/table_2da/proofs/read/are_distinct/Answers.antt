use Rattle.table_2da.proofs.RowLemmas.{distinct_more, distinct_stop, distinct_end}
use Rattle.table_2da.proofs.read.are_distinct.Goals as goal

pub returns-then-has_name : goal.returns-then-has_name
returns-then-has_name c = record {
  distinct = distinct_stop c.args.file.now c.loop-name.rest.now c.in-Some.others.now c.args.names.now c.in-Some.name.now c.bytes_at.result.now c.has_name.result
      c.in-Some.ensures.cases.0 c.bytes_at.ensures.bytes c.has_name.ensures.named c.if-has_name.true c.loop-name.invariant;
}

pub loop-name-preserved : goal.loop-name-preserved
loop-name-preserved c =
    distinct_more c.args.file.now c.loop-name.rest.now c.in-Some.others.now c.args.names.now c.in-Some.name.now c.bytes_at.result.now c.has_name.result
    c.in-Some.ensures.cases.0 c.bytes_at.ensures.bytes c.has_name.ensures.named c.if-has_name.false c.loop-name.invariant

pub returns : goal.returns
returns c = record { distinct = distinct_end c.args.file.now c.loop-name.rest.now c.args.names.now c.in_default.ensures.cases c.loop-name.invariant }
