use Rattle.gff_tree.proofs.NodeLemmas.{leaf_is_list}
use Rattle.gff_tree.proofs.tree.Leaf.into_list.Goals as goal

pub returns-in-List : goal.returns-in-List
returns-in-List c = record { list = leaf_is_list c.args.self c.in-List.nodes c.in-List.is }
