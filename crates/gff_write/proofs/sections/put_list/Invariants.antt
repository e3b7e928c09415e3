use Rattle.std.proofs.Common.{◌≡◌, ◌++◌, length, drop}
use Rattle.std.specs.List.{flat_map}
use Rattle.gff_write.specs.Flat.{word}
use Rattle.gff_write.proofs.sections.put_list.Given as goal

abbrev pub invariant-loop-n : goal.invariant-loop-n
invariant-loop-n l = l.lists ++ flat_map word (drop l.n-index l.numbers) ≡ (l.fn.lists ++ word (length l.numbers)) ++ flat_map word l.numbers
