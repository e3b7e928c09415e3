use Rattle.std.proofs.Common.{◌≡◌, ◌+◌, ◌*◌, drop}
use Rattle.gff_tree.specs.Tree.{plain_node, plain_leaf, fields_list, nodes_list}
use Rattle.gff_tree.specs.Count.{node_count, leaf_count, fields_count, nodes_count}
use Rattle.gff_write.proofs.count.+count.Given as goal

abbrev pub invariant-count_leaf-loop-node : goal.invariant-count_leaf-loop-node
invariant-count_leaf-loop-node l = l.total + nodes_count (nodes_list (drop l.node-index l.node-items)) ≡ nodes_count (nodes_list l.node-items)

abbrev pub invariant-count_node-loop-field : goal.invariant-count_node-loop-field
invariant-count_node-loop-field l = l.total + fields_count (fields_list (drop l.field-index l.field-items)) ≡ 1 + fields_count (fields_list l.field-items)

abbrev pub decreases-count_node : goal.decreases-count_node
decreases-count_node l = 2 * node_count (plain_node l.node.now)

abbrev pub decreases-count_leaf : goal.decreases-count_leaf
decreases-count_leaf l = 2 * leaf_count (plain_leaf l.leaf.now) + 1
