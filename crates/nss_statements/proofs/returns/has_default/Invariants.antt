use Rattle.std.proofs.Common.{◌≡◌, drop}
use Rattle.typing_rules.specs.UnitReading.{typed_stmts}
use Rattle.typing_rules.specs.Returns.{has_default}
use Rattle.nss_statements.proofs.returns.has_default.Given as goal

abbrev pub invariant-loop-x : goal.invariant-loop-x
invariant-loop-x l = has_default (typed_stmts (drop l.x-index l.xs)) ≡ has_default (typed_stmts l.xs)
