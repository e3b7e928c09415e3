use Rattle.table_2da.proofs.TableLemmas.{second_missing, second_bad, second_comes}
use Rattle.table_2da.proofs.read.read_second.Goals as goal

pub returns-in_default : goal.returns-in_default
returns-in_default c = record { comes = second_missing c.args.lines.now.left c.in_default.ensures.none }

pub returns-then-not-is_second : goal.returns-then-not-is_second
returns-then-not-is_second c = record {
  comes = second_bad c.args.lines.now.left _ c.in-Some.line.bytes.now c.in-Some.ensures.first c.if-not-is_second.ensures.second;
}

pub returns : goal.returns
returns c = record {
  comes = second_comes c.args.lines.now.left _ c.in-Some.line.bytes.now c.read_third.result c.in-Some.ensures.first c.if-not-is_second.ensures.second
      c.read_third.ensures.comes;
}
