use Rattle.std.proofs.Common.{◌≡◌, ◌++◌, drop}
use Rattle.typing_rules.specs.UnitReading.{typed_names}
use Rattle.emission_rules.specs.Layout as laid
use Rattle.nss_layout.proofs.frames.names_positions.Given as goal

abbrev pub invariant-loop-name : goal.invariant-loop-name
invariant-loop-name l = l.positions ++ laid.names_positions l.structs l.depth (typed_names (drop l.name-index l.names))
    ≡ l.initial.positions ++ laid.names_positions l.structs l.initial.depth (typed_names l.names)
