use Rattle.std.proofs.Common.{◌≡◌, drop}
use Rattle.std.specs.Map.{values_of}
use Rattle.gff_tree.specs.Tree.{fields_list}
use Rattle.gff_write.specs.Size.{own_labels, with_labels}
use Rattle.gff_write.specs.Labels.{IsTable}
use Rattle.gff_write.proofs.labels.add_own.Given as goal

abbrev pub invariant-loop-field : goal.invariant-loop-field
invariant-loop-field l = record {
  table : IsTable l.rows.entries l.numbers;
  labels : with_labels (values_of l.rows.entries) (own_labels (fields_list (drop l.field-index l.fields))) ≡ with_labels (values_of l.fn.rows.entries) (own_labels (fields_list l.fields));
}
