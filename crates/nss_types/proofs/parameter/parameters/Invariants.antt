use Rattle.std.proofs.Common.{◌≡◌, drop, false}
use Rattle.typing_rules.specs.Nodes.{kept}
use Rattle.typing_rules.specs.Verdicts.{after_params, params_faults, params_fine}
use Rattle.nss_scopes.specs.Views.{in_sight}
use Rattle.nss_expressions.specs.Rows.{with_rest}
use Rattle.nss_types.proofs.parameter.parameters.Given as goal

abbrev pub invariant-loop-p : goal.invariant-loop-p
invariant-loop-p l =
    (with_rest l.all (params_fine (in_sight l.table l.c) l.late (drop l.p-index l.ps)) ≡ params_fine (in_sight l.table l.initial.c) false l.ps)
    × (kept l.least (params_faults (in_sight l.table l.c) l.late (drop l.p-index l.ps)) ≡ kept l.initial.least (params_faults (in_sight l.table l.initial.c) false l.ps))
    × (after_params (in_sight l.table l.c) (drop l.p-index l.ps) ≡ after_params (in_sight l.table l.initial.c) l.ps)
