use Rattle.std.proofs.Common.{◌≡◌, ◌++◌, length, drop}
use Rattle.gff_write.specs.File.{entries_bytes, entries_data, entries_lists}
use Rattle.gff_write.proofs.sections.put_entries.Given as goal

abbrev pub invariant-loop-entry : goal.invariant-loop-entry
invariant-loop-entry l = record {
  fields : l.fields ++ entries_bytes l.table (length l.datum) (length l.lists) (drop l.entry-index l.entries) ≡ l.fn.fields ++ entries_bytes l.table (length l.fn.datum) (length l.fn.lists) l.entries;
  datum : l.datum ++ entries_data (drop l.entry-index l.entries) ≡ l.fn.datum ++ entries_data l.entries;
  lists : l.lists ++ entries_lists (drop l.entry-index l.entries) ≡ l.fn.lists ++ entries_lists l.entries;
}
