use Rattle.std.proofs.Common.{◌≡◌, drop}
use Rattle.typing_rules.specs.UnitReading.{typed_names}
use Rattle.code_places.specs.Numbers as numbers
use Rattle.code_places.proofs.numbers.behind_names.Given as goal

abbrev pub invariant-loop-name : goal.invariant-loop-name
invariant-loop-name l = numbers.behind_names l.node (typed_names (drop l.name-index l.names)) ≡ numbers.behind_names l.initial.node (typed_names l.names)
