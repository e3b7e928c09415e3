use Rattle.std.proofs.Common.{◌≡◌, ◌++◌, drop}
use Rattle.std.specs.List.{flat_map}
use Rattle.gff_text.specs.Text.{part_line}
use Rattle.gff_text.proofs.tree.put_parts.Given as goal

abbrev pub invariant-loop-part : goal.invariant-loop-part
invariant-loop-part l = l.out.items ++ flat_map (part_line l.depth) (drop l.part-index l.parts) ≡ l.fn.out.items ++ flat_map (part_line l.depth) l.parts
