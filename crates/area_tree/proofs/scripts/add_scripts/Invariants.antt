use Rattle.std.proofs.Common.{◌≡◌, ◌++◌, map, drop}
use Rattle.gff_tree.specs.Tree.{plain_field}
use Rattle.area_rules.specs.Objects.{scripts_in}
use Rattle.area_tree.proofs.scripts.add_scripts.Given as goal

abbrev pub invariant-loop-field : goal.invariant-loop-field
invariant-loop-field l = l.scripts.items ++ scripts_in (map plain_field (drop l.field-index l.fields)) ≡ scripts_in (map plain_field l.fields)
