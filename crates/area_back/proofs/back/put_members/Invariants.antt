use Rattle.std.proofs.Common.{◌≡◌, map, take, drop, vec_len}
use Rattle.std.specs.Vec.Iter.{into_iter_items}
use Rattle.gff_tree.specs.Tree.{plain_node}
use Rattle.area_back.specs.Back.{members_back}
use Rattle.area_back.proofs.back.put_members.Given as goal

abbrev pub invariant-loop-i : goal.invariant-loop-i
invariant-loop-i l = record {
  members : map plain_node l.nodes.items ≡ members_back (take l.i (into_iter_items l.fn.objects)) (map plain_node l.fn.nodes.items);
  rest : into_iter_items l.objects ≡ drop l.i (into_iter_items l.fn.objects);
  long : vec_len l.nodes ≡ vec_len l.fn.nodes;
}
