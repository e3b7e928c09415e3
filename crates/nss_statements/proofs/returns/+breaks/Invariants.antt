use Rattle.std.proofs.Common.{◌≡◌, drop}
use Rattle.typing_rules.specs.UnitReading.{typed_stmts}
use Rattle.typing_rules.specs.Returns.{have_break}
use Rattle.nss_statements.proofs.returns.+breaks.Given as goal

abbrev pub invariant-have_break-loop-x : goal.invariant-have_break-loop-x
invariant-have_break-loop-x l = have_break (typed_stmts (drop l.x-index l.xs)) ≡ have_break (typed_stmts l.xs)
