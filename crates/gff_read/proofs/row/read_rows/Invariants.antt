use Rattle.std.proofs.Common.{◌≡◌, ◌≢◌, ◌-◌, ◌≤◌, ◌+◌, ◌*◌, map, []}
use Rattle.gff_read.specs.Rows.{rows_from}
use Rattle.gff_read.specs.Held.{plain_row}
use Rattle.gff_read.specs.Charge.{rows_charge}
use Rattle.gff_read.specs.Used.{HasLabels}
use Rattle.gff_read.proofs.row.read_rows.Given as goal
use Rattle.nwq_value.specs.Limits.{file_limit}

abbrev pub invariant-loop-i : goal.invariant-loop-i
invariant-loop-i l = record {
  read : rows_from l.view l.entry l.i (l.entry.count - l.i) (map plain_row l.rows.items) ≡ rows_from l.view l.entry 0 l.entry.count [];
  inside : l.entry.count ≢ 1 → 1 ≤ l.i → l.entry.word + 4 * l.i ≤ file_limit;
  labels : HasLabels l.used (map plain_row l.rows.items);
  charged : l.fn.left ≡ l.left + rows_charge (map plain_row l.rows.items);
}
