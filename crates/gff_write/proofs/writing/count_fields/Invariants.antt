use Rattle.std.proofs.Common.{◌≡◌, ◌+◌, drop}
use Rattle.gff_write.specs.File.{field_count}
use Rattle.gff_write.proofs.writing.count_fields.Given as goal

abbrev pub invariant-loop-row : goal.invariant-loop-row
invariant-loop-row l = l.total + field_count (drop l.row-index l.rows) ≡ field_count l.rows
