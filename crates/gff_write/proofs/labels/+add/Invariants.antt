use Rattle.std.proofs.Common.{◌≡◌, drop}
use Rattle.std.specs.Map.{values_of}
use Rattle.gff_tree.specs.Tree.{fields_list, nodes_list}
use Rattle.gff_write.specs.Size.{labels_below, list_labels, with_labels}
use Rattle.gff_write.specs.Labels.{IsTable}
use Rattle.gff_write.proofs.labels.+add.Given as goal

abbrev pub invariant-add_labels-loop-field : goal.invariant-add_labels-loop-field
invariant-add_labels-loop-field l = record {
  table : IsTable l.rows.entries l.numbers;
  labels : with_labels (values_of l.rows.entries) (labels_below (fields_list (drop l.field-index l.field-items)))
      ≡ with_labels (values_of l.initial.rows.entries) (labels_below (fields_list l.field-items));
}

abbrev pub invariant-add_below-loop-node : goal.invariant-add_below-loop-node
invariant-add_below-loop-node l = record {
  table : IsTable l.rows.entries l.numbers;
  labels : with_labels (values_of l.rows.entries) (list_labels (nodes_list (drop l.node-index l.node-items))) ≡ with_labels (values_of l.initial.rows.entries) (list_labels (nodes_list l.node-items));
}
