use Rattle.std.proofs.Common.{◌≡◌, ◌++◌, drop}
use Rattle.typing_rules.specs.Rules.{params_of}
use Rattle.nss_types.proofs.function.params_of.Given as goal

abbrev pub invariant-loop-param : goal.invariant-loop-param
invariant-loop-param l = l.all ++ params_of (drop l.param-index l.params) ≡ params_of l.params
