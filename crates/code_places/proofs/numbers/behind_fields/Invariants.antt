use Rattle.std.proofs.Common.{◌≡◌, drop}
use Rattle.code_places.specs.Numbers as numbers
use Rattle.code_places.proofs.numbers.behind_fields.Given as goal

abbrev pub invariant-loop-name : goal.invariant-loop-name
invariant-loop-name l = numbers.behind_fields l.node (drop l._name-index l.names) ≡ numbers.behind_fields l.initial.node l.names
