use Rattle.std.proofs.Common.{◌≡◌, ◌+◌, ◌*◌, ◌++◌, length, drop}
use Rattle.gff_tree.specs.Tree.{plain_node, plain_leaf, fields_list, nodes_list}
use Rattle.gff_tree.specs.Count.{node_count, leaf_count}
use Rattle.gff_write.specs.Flat.{rows_below, list_rows}
use Rattle.gff_write.proofs.flatten.+flatten.Given as goal

abbrev pub invariant-flatten_node-loop-field : goal.invariant-flatten_node-loop-field
invariant-flatten_node-loop-field l = l.rows
    ++ rows_below (length l.rows) (fields_list (drop l.field-index l.field-items))
    ≡ l.initial.rows ++ rows_below (length l.initial.rows) (fields_list l.field-items)

abbrev pub invariant-flatten_leaf-loop-node : goal.invariant-flatten_leaf-loop-node
invariant-flatten_leaf-loop-node l = l.rows ++ list_rows (length l.rows) (nodes_list (drop l.node-index l.node-items)) ≡ l.initial.rows ++ list_rows (length l.initial.rows) (nodes_list l.node-items)

abbrev pub decreases-flatten_node : goal.decreases-flatten_node
decreases-flatten_node l = 2 * node_count (plain_node l.node.now)

abbrev pub decreases-flatten_leaf : goal.decreases-flatten_leaf
decreases-flatten_leaf l = 2 * leaf_count (plain_leaf l.leaf.now) + 1
