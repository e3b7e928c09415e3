use Rattle.std.proofs.Common.{◌≡◌, ◌++◌, map, take, drop, vec_len}
use Rattle.gff_tree.specs.Tree.{plain_node}
use Rattle.area_back.specs.Back.{valued}
use Rattle.area_back.proofs.back.set_values.Given as goal

abbrev pub invariant-loop-i : goal.invariant-loop-i
invariant-loop-i l = record {
  values : map plain_node l.entries.items ≡ map (valued l.vars) (take l.i (map plain_node l.fn.entries.items)) ++ drop l.i (map plain_node l.fn.entries.items);
  long : vec_len l.entries ≡ vec_len l.fn.entries;
}
