use Rattle.std.proofs.Common.{◌≡◌, drop}
use Rattle.typing_rules.specs.Reading.{plain_all}
use Rattle.code_places.specs.Numbers as numbers
use Rattle.code_places.proofs.numbers.+expressions.Given as goal

abbrev pub invariant-behind_all-loop-argument : goal.invariant-behind_all-loop-argument
invariant-behind_all-loop-argument l = numbers.behind_all l.node (plain_all (drop l.argument-index l.arguments))
    ≡ numbers.behind_all l.initial.node (plain_all l.arguments)
