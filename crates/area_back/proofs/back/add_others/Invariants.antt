use Rattle.std.proofs.Common.{◌≡◌, ◌++◌, map, filter, not, length}
use Rattle.std.specs.List.{list_any}
use Rattle.gff_tree.specs.Tree.{plain_node}
use Rattle.local_variables.specs.Variables.{same_variable}
use Rattle.area_back.specs.Back.{new_entry}
use Rattle.area_back.proofs.back.add_others.Given as goal

abbrev pub invariant-loop-v : goal.invariant-loop-v
invariant-loop-v l =
    map plain_node l.entries.items ++ map new_entry (filter (λ v. not (list_any (same_variable v) l.told)) l.walk)
    ≡ map plain_node l.fn.entries.items ++ map new_entry (filter (λ v. not (list_any (same_variable v) l.told)) l.vars)

abbrev pub decreases-loop-v : goal.decreases-loop-v
decreases-loop-v l = length l.walk
