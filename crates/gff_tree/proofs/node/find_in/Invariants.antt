use Rattle.std.proofs.Common.{◌≡◌, map, drop}
use Rattle.gff_tree.specs.Tree.{plain_field}
use Rattle.gff_tree.specs.Fields.{found}
use Rattle.gff_tree.proofs.node.find_in.Given as goal

abbrev pub invariant-loop-field : goal.invariant-loop-field
invariant-loop-field l = found l.label (map plain_field (drop l.field-index l.fields)) ≡ found l.label (map plain_field l.fields)
