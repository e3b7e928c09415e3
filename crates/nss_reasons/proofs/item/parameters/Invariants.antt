use Rattle.std.proofs.Common.{◌≡◌, drop, false}
use Rattle.typing_rules.specs.Verdicts.{after_params}
use Rattle.nss_expressions.specs.Views.{sight_in}
use Rattle.nss_reasons.specs.Reasons.{params_nodes}
use Rattle.expression_reasons.specs.Seen.{seen}
use Rattle.nss_reasons.proofs.item.parameters.Given as goal

abbrev pub invariant-loop-p : goal.invariant-loop-p
invariant-loop-p l =
    (seen l.k l.found (params_nodes (sight_in l.given l.c) l.late (drop l.p-index l.ps)) ≡ seen l.k l.initial.found (params_nodes (sight_in l.given l.initial.c) false l.ps))
    × (after_params (sight_in l.given l.c) (drop l.p-index l.ps) ≡ after_params (sight_in l.given l.initial.c) l.ps)
