use Rattle.std.proofs.Common.{◌≡◌, ◌+◌, ◌++◌, drop}
use Rattle.gff_tree.specs.Tree.{fields_list}
use Rattle.gff_tree.specs.Count.{fields_count}
use Rattle.gff_write.specs.Flat.{entries_from}
use Rattle.gff_write.proofs.encode.put_fields.Given as goal

abbrev pub invariant-loop-field : goal.invariant-loop-field
invariant-loop-field l = record {
  entries : l.entries ++ entries_from l.next (fields_list (drop l.field-index l.fields)) ≡ l.fn.entries ++ entries_from l.first (fields_list l.fields);
  counted : l.next + fields_count (fields_list (drop l.field-index l.fields)) ≡ l.first + fields_count (fields_list l.fields);
}
