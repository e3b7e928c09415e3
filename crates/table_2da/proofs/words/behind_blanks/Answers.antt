use Rattle.std.proofs.Common.{sym, ◌∙◌}
use Rattle.table_2da.proofs.FrontLemmas.{blank_stops, blank_end}
use Rattle.table_2da.proofs.words.behind_blanks.Goals as goal

pub returns-then-not-is_blank : goal.returns-then-not-is_blank
returns-then-not-is_blank c = record {
  rest = blank_stops c.loop-first.rest.now c.in-Some.after.now c.args.line.now c.in-Some.first.now c.in-Some.ensures.cases.0
      (sym c.is_blank.ensures.blank ∙ c.if-not-is_blank.true) c.loop-first.invariant;
}

pub returns : goal.returns
returns c = record { rest = blank_end c.loop-first.rest.now c.args.line.now c.in_default.ensures.cases c.loop-first.invariant }
