use Rattle.std.proofs.Common.{◌≡◌, ◌||◌, map, drop}
use Rattle.std.specs.List.{list_any}
use Rattle.gff_tree.specs.Tree.{plain_node}
use Rattle.local_variables.specs.Variables.{Variable, same_variable}
use Rattle.area_rules.specs.Objects.{variables_in}
use Rattle.area_back.proofs.back.add_told.Given as goal

abbrev pub invariant-loop-entry : goal.invariant-loop-entry
invariant-loop-entry l =
    (v : Variable) → (list_any (same_variable v) l.told
    || list_any (same_variable v) (variables_in (map plain_node (drop l.entry-index l.entries))))
    ≡ list_any (same_variable v) (variables_in (map plain_node l.entries))
