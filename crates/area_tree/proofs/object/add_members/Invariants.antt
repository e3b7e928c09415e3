use Rattle.std.proofs.Common.{◌≡◌, ◌++◌, ◌+◌, ◌<◌, map, drop}
use Rattle.gff_tree.specs.Tree.{plain_node, nodes_list}
use Rattle.gff_tree.specs.Count.{nodes_count}
use Rattle.area_rules.specs.Objects.{object_of}
use Rattle.area_rules.specs.Broken.{members_places}
use Rattle.area_tree.proofs.object.add_members.Given as goal

abbrev pub invariant-loop-node : goal.invariant-loop-node
invariant-loop-node l = record {
  number : l.member ≡ l.node-index;
  few : l.member + nodes_count (nodes_list (drop l.node-index l.nodes)) < 4294967296;
  places : members_places l.list (l.member + 1) (map plain_node (drop l.node-index l.nodes)) ≡ members_places l.list 1 (map plain_node l.nodes);
  objects : l.objects.items ++ map object_of (map plain_node (drop l.node-index l.nodes)) ≡ l.initial.objects.items ++ map object_of (map plain_node l.nodes);
}
