use Rattle.std.proofs.Common.{◌≡◌, ◌++◌, map}
use Rattle.gff_tree.specs.Tree.{plain_node}
use Rattle.play_generator.specs.Made.{below, creature_node}
use Rattle.play_generator.proofs.tree.fill_creatures.Given as goal

abbrev pub invariant-loop-number : goal.invariant-loop-number
invariant-loop-number l = map plain_node l.creatures.items ≡ map plain_node l.fn.creatures.items ++ map creature_node (below l.number)
