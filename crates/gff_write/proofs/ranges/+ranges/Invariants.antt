use Rattle.std.proofs.Common.{drop}
use Rattle.gff_tree.specs.Tree.{fields_list, nodes_list}
use Rattle.gff_write.specs.Laws.{AreFields, AreNodes}
use Rattle.gff_write.proofs.ranges.+ranges.Given as goal

abbrev pub invariant-leaf_ranges-loop-node : goal.invariant-leaf_ranges-loop-node
invariant-leaf_ranges-loop-node l = AreNodes (nodes_list (drop l.node-index l.node-items)) → AreNodes (nodes_list l.node-items)

abbrev pub invariant-node_ranges-loop-field : goal.invariant-node_ranges-loop-field
invariant-node_ranges-loop-field l = AreFields (fields_list (drop l.field-index l.field-items)) → AreFields (fields_list l.field-items)
