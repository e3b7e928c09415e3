use Rattle.std.proofs.Common.{◌≡◌, drop}
use Rattle.typing_rules.specs.UnitReading.{typed_stmts}
use Rattle.typing_rules.specs.Returns.{last_returns, some_returns}
use Rattle.nss_statements.specs.Returns.{last_or}
use Rattle.nss_statements.proofs.returns.+returns.Given as goal

abbrev pub invariant-some_returns-loop-x : goal.invariant-some_returns-loop-x
invariant-some_returns-loop-x l = some_returns (typed_stmts (drop l.x-index l.xs)) ≡ some_returns (typed_stmts l.xs)

abbrev pub invariant-last_returns-loop-x : goal.invariant-last_returns-loop-x
invariant-last_returns-loop-x l = last_or l.last (typed_stmts (drop l.x-index l.xs)) ≡ last_returns (typed_stmts l.xs)
