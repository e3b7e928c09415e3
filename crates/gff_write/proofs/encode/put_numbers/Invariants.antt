use Rattle.std.proofs.Common.{◌≡◌, ◌+◌, ◌++◌, drop}
use Rattle.gff_tree.specs.Tree.{nodes_list}
use Rattle.gff_tree.specs.Count.{nodes_count}
use Rattle.gff_write.specs.Flat.{numbers_from}
use Rattle.gff_write.proofs.encode.put_numbers.Given as goal

abbrev pub invariant-loop-node : goal.invariant-loop-node
invariant-loop-node l = record {
  numbers : l.numbers ++ numbers_from l.next (nodes_list (drop l.node-index l.nodes)) ≡ l.fn.numbers ++ numbers_from l.first (nodes_list l.nodes);
  counted : l.next + nodes_count (nodes_list (drop l.node-index l.nodes)) ≡ l.first + nodes_count (nodes_list l.nodes);
}
