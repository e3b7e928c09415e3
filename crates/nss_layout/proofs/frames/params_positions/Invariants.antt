use Rattle.std.proofs.Common.{◌≡◌, ◌++◌, drop}
use Rattle.emission_rules.specs.Layout as laid
use Rattle.nss_layout.proofs.frames.params_positions.Given as goal

abbrev pub invariant-loop-parameter : goal.invariant-loop-parameter
invariant-loop-parameter l =
    (l.above ≡ laid.params_cells l.structs (drop l.parameter-index l.parameters))
    × (l.positions ++ laid.params_positions l.structs (drop l.parameter-index l.parameters) ≡ l.initial.positions ++ laid.params_positions l.structs l.parameters)
