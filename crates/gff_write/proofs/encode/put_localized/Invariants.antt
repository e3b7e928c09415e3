use Rattle.std.proofs.Common.{◌≡◌, ◌++◌, length, drop}
use Rattle.std.specs.List.{flat_map}
use Rattle.gff_write.specs.Flat.{word, part_bytes}
use Rattle.gff_write.proofs.encode.put_localized.Given as goal

abbrev pub invariant-loop-part : goal.invariant-loop-part
invariant-loop-part l = l.bytes ++ flat_map part_bytes (drop l.part-index l.part-items) ≡ (l.fn.bytes ++ word l.loc.str_ref ++ word (length l.loc.parts)) ++ flat_map part_bytes l.part-items
