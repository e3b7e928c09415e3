use Rattle.std.proofs.Common.{drop}
use Rattle.gff_write.specs.Laws.{AreParts}
use Rattle.gff_write.proofs.ranges.part_ranges.Given as goal

abbrev pub invariant-loop-part : goal.invariant-loop-part
invariant-loop-part l = AreParts (drop l.part-index l.parts) → AreParts l.parts
