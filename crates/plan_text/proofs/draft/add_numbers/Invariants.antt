use Rattle.std.proofs.Common.{length}
use Rattle.plan_text.proofs.AddsLemmas.{SameEnd}
use Rattle.plan_text.proofs.draft.add_numbers.Given as goal

abbrev pub invariant-loop-digits : goal.invariant-loop-digits
invariant-loop-digits l = SameEnd l.fn.random l.fn.numbers l.random l.rest

abbrev pub decreases-loop-digits : goal.decreases-loop-digits
decreases-loop-digits l = length l.rest
