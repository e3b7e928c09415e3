use Rattle.std.proofs.Common.{◌≡◌, ◌+◌, drop}
use Rattle.typing_rules.specs.UnitReading.{typed_names}
use Rattle.emission_rules.specs.Layout as laid
use Rattle.nss_layout.proofs.frames.names_behind.Given as goal

abbrev pub invariant-loop-name : goal.invariant-loop-name
invariant-loop-name l = l.depth + laid.names_cells l.structs (typed_names (drop l.name-index l.names)) ≡ l.initial.depth + laid.names_cells l.structs (typed_names l.names)
