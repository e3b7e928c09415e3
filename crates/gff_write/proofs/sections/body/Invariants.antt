use Rattle.std.proofs.Common.{◌≡◌, ◌+◌, ◌++◌, length, drop}
use Rattle.gff_write.specs.File.{field_count, rows_structs, rows_indices, rows_fields, rows_data, rows_lists}
use Rattle.gff_write.proofs.sections.body.Given as goal

abbrev pub invariant-loop-row : goal.invariant-loop-row
invariant-loop-row l = record {
  structs : l.structs ++ rows_structs l.first (length l.indices) (drop l.row-index l.rows) ≡ rows_structs 0 0 l.rows;
  indices : l.indices ++ rows_indices l.first (drop l.row-index l.rows) ≡ rows_indices 0 l.rows;
  fields : l.fields ++ rows_fields l.table (length l.data_bytes) (length l.lists) (drop l.row-index l.rows) ≡ rows_fields l.table 0 0 l.rows;
  datum : l.data_bytes ++ rows_data (drop l.row-index l.rows) ≡ rows_data l.rows;
  lists : l.lists ++ rows_lists (drop l.row-index l.rows) ≡ rows_lists l.rows;
  counted : l.first + field_count (drop l.row-index l.rows) ≡ field_count l.rows;
}
