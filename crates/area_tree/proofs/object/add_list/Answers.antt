use Rattle.std.proofs.Common.{◌<◌, map, arith, subst}
use Rattle.gff_tree.specs.Tree.{plain_node, plain_leaf}
use Rattle.gff_tree.specs.Count.{leaf_count}
use Rattle.area_tree.specs.Reading.{leaf_in, leaves_count}
use Rattle.area_tree.proofs.ReadLemmas.{list_count}
use Rattle.area_tree.proofs.object.add_list.Goals as goal

pub add_members-requires : goal.add_members-requires
add_members-requires c =
    let few : leaf_count (plain_leaf c.in-Some.leaf.now) < 4294967296 = subst (λ o. leaves_count (leaf_in o) < 4294967296) c.in-Some.is c.requires.few in
    record { few = omega (arith, few, list_count (plain_leaf c.in-Some.leaf.now) (map plain_node c.in-Some-list.nodes.now) c.in-Some-list.ensures.list) }
