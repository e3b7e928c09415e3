use Rattle.std.proofs.Common.{◌≡◌, ◌++◌, ◌+◌, map, drop, []}
use Rattle.gff_tree.specs.Tree.{plain_node}
use Rattle.area_rules.specs.Objects.{variables_in}
use Rattle.area_rules.specs.Broken.{entries_places}
use Rattle.area_tree.proofs.object.add_entries.Given as goal

abbrev pub invariant-loop-entry : goal.invariant-loop-entry
invariant-loop-entry l = record {
  number : l.number ≡ l.entry-index;
  places : entries_places l.list l.member (l.number + 1) l.vars (map plain_node (drop l.entry-index l.entries)) ≡ entries_places l.list l.member 1 [] (map plain_node l.entries);
  vars : l.vars ++ variables_in (map plain_node (drop l.entry-index l.entries)) ≡ variables_in (map plain_node l.entries);
}
