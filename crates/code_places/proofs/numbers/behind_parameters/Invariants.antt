use Rattle.std.proofs.Common.{◌≡◌, drop}
use Rattle.code_places.specs.Numbers as numbers
use Rattle.code_places.proofs.numbers.behind_parameters.Given as goal

abbrev pub invariant-loop-parameter : goal.invariant-loop-parameter
invariant-loop-parameter l = numbers.behind_parameters l.node (drop l.parameter-index l.parameters) ≡ numbers.behind_parameters l.initial.node l.parameters
