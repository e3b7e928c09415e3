use Rattle.std.proofs.Common.{◌+◌, subst, ◌∙◌, Ok, Err}
use Rattle.table_2da.specs.Grammar.{Adds}
use Rattle.table_2da.specs.Ranges.{rows_at, StandsAt}
use Rattle.table_2da.specs.Steps.{Took}
use Rattle.table_2da.proofs.RangeLemmas.{line_there}
use Rattle.table_2da.proofs.TableLemmas.{no_lines, more_lines, bad_line}
use Rattle.table_2da.proofs.read.read_rows.Goals as goal

pub returns-then-not-branch-clause-fault : goal.returns-then-not-branch-clause-fault
returns-then-not-branch-clause-fault c =
    let there : StandsAt c.loop-line.lines.text c.in-Some.line.place c.in-Some.line.bytes.now
    = line_there c.loop-line.lines.text c.in-Some.line.bytes.now c.in-Some.line.place c.in-Some.ensures.inside c.in-Some.ensures.place in
    let here : StandsAt c.args.lines.now.text c.in-Some.line.place c.in-Some.line.bytes.now
    = subst (λ text. StandsAt text c.in-Some.line.place c.in-Some.line.bytes.now) c.loop-line.invariant.text there in
    c.loop-line.invariant.goes (Err c.in-Some.line.number)
    (bad_line c.args.width _ _ (rows_at c.args.lines.now.text c.loop-line.rows) c.in-Some.line.bytes.now _ _ c.in-Some.ensures.first c.in-Some.ensures.number
    (subst (λ took. Took (Adds c.args.width (rows_at c.args.lines.now.text c.loop-line.rows) c.in-Some.line.bytes.now) took (rows_at c.args.lines.now.text c.add_row.new.rows))
    c.if-not-branch.true (c.in_ok-add_row.ensures.took c.args.lines.now.text here)))

pub loop-line-preserved : goal.loop-line-preserved
loop-line-preserved c =
    let there : StandsAt c.loop-line.lines.text c.in-Some.line.place c.in-Some.line.bytes.now
    = line_there c.loop-line.lines.text c.in-Some.line.bytes.now c.in-Some.line.place c.in-Some.ensures.inside c.in-Some.ensures.place in
    let here : StandsAt c.args.lines.now.text c.in-Some.line.place c.in-Some.line.bytes.now
    = subst (λ text. StandsAt text c.in-Some.line.place c.in-Some.line.bytes.now) c.loop-line.invariant.text there in
    record {
      goes = λ end on. c.loop-line.invariant.goes end
          (more_lines c.args.width _ _ _ (rows_at c.args.lines.now.text c.loop-line.rows) (rows_at c.args.lines.now.text c.add_row.new.rows) c.in-Some.line.bytes.now _ _ end
          c.in-Some.ensures.first c.in-Some.ensures.number c.in-Some.ensures.read
          (subst (λ took. Took (Adds c.args.width (rows_at c.args.lines.now.text c.loop-line.rows) c.in-Some.line.bytes.now) took (rows_at c.args.lines.now.text c.add_row.new.rows))
          c.if-not-branch.false (c.in_ok-add_row.ensures.took c.args.lines.now.text here)) on);
      text = c.in-Some.ensures.text ∙ c.loop-line.invariant.text;
    }

pub returns-clause-rows : goal.returns-clause-rows
returns-clause-rows c =
    c.loop-line.invariant.goes (Ok (rows_at c.args.lines.now.text c.loop-line.rows))
    (no_lines c.args.width (c.loop-line.lines.read + 1) (rows_at c.args.lines.now.text c.loop-line.rows) c.loop-line.lines.left c.in_default.ensures.none)
