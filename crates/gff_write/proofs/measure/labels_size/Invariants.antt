use Rattle.std.proofs.Common.{◌≡◌, ◌+◌, ◌≤◌, length, drop}
use Rattle.gff_write.specs.File.{joined}
use Rattle.gff_write.specs.Size.{capped}
use Rattle.gff_write.proofs.measure.labels_size.Given as goal

abbrev pub invariant-loop-label : goal.invariant-loop-label
invariant-loop-label l = record {
  sum : capped (l.total + length (joined (drop l.label-index l.labels))) ≡ capped (length (joined l.labels));
  small : l.total ≤ 18446744073709551615;
}
