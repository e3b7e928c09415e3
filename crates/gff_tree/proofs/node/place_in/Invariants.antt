use Rattle.std.proofs.Common.{◌≡◌, ◌+◌, map, drop}
use Rattle.std.specs.Option.{option_map}
use Rattle.gff_tree.specs.Tree.{plain_field}
use Rattle.gff_tree.specs.Places.{place_of_field}
use Rattle.gff_tree.proofs.node.place_in.Given as goal

abbrev pub invariant-loop-i : goal.invariant-loop-i
invariant-loop-i l = option_map (λ k. l.i + k) (place_of_field l.label (map plain_field (drop l.i l.fields))) ≡ place_of_field l.label (map plain_field l.fields)
