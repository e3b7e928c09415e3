use Rattle.std.proofs.Common.{◌≡◌, ◌+◌, ◌≤◌, length, drop}
use Rattle.std.specs.List.{flat_map}
use Rattle.gff_write.specs.Flat.{part_bytes}
use Rattle.gff_write.specs.Size.{capped}
use Rattle.gff_write.proofs.measure.parts_size.Given as goal

abbrev pub invariant-loop-part : goal.invariant-loop-part
invariant-loop-part l = record {
  sum : capped (l.total + length (flat_map part_bytes (drop l.part-index l.parts))) ≡ capped (12 + length (flat_map part_bytes l.parts));
  small : l.total ≤ 18446744073709551615;
}
