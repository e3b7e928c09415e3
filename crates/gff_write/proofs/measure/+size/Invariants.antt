use Rattle.std.proofs.Common.{◌≡◌, ◌+◌, ◌≤◌, length, drop}
use Rattle.gff_tree.specs.Tree.{fields_list, nodes_list}
use Rattle.gff_write.specs.Size.{capped, index_bytes, fields_bytes, nodes_bytes}
use Rattle.gff_write.proofs.measure.+size.Given as goal

abbrev pub invariant-leaf_size-loop-node : goal.invariant-leaf_size-loop-node
invariant-leaf_size-loop-node l = record {
  sum : capped (l.total + nodes_bytes (nodes_list (drop l.node-index l.node-items))) ≡ capped (4 + nodes_bytes (nodes_list l.node-items));
  small : l.total ≤ 18446744073709551615;
}

abbrev pub invariant-node_size-loop-field : goal.invariant-node_size-loop-field
invariant-node_size-loop-field l = record {
  sum : capped (l.total + fields_bytes (fields_list (drop l.field-index l.field-items))) ≡ capped (12 + index_bytes (length l.field-items) + fields_bytes (fields_list l.field-items));
  small : l.total ≤ 18446744073709551615;
}
