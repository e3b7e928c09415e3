use Rattle.std.proofs.Common.{◌≡◌, ◌++◌, drop}
use Rattle.gff_tree.specs.Tree.{plain_node}
use Rattle.gff_tree.specs.Fields.{fields_of}
use Rattle.area_rules.specs.Objects.{list_labels, objects_under, objects_of}
use Rattle.area_rules.specs.Broken.{lists_places, broken_places}
use Rattle.area_tree.proofs.object.add_lists.Given as goal

abbrev pub invariant-loop-list : goal.invariant-loop-list
invariant-loop-list l = record {
  places : lists_places l.list (drop l.list list_labels) (fields_of (plain_node l.top)) ≡ broken_places (plain_node l.top);
  objects : l.objects.items ++ objects_under (drop l.list list_labels) (fields_of (plain_node l.top)) ≡ objects_of (plain_node l.top);
}
