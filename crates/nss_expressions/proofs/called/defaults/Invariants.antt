use Rattle.std.proofs.Common.{◌≡◌, ◌++◌, drop}
use Rattle.std.specs.Option.{option_map}
use Rattle.typing_rules.specs.Rules.{defaults}
use Rattle.nss_expressions.proofs.called.defaults.Given as goal

abbrev pub invariant-loop-param : goal.invariant-loop-param
invariant-loop-param l = option_map (λ ks. l.all ++ ks) (defaults (drop l.param-index l.params)) ≡ defaults l.params
