use Rattle.gff_tree.proofs.NodeLemmas.{nodes_of_list}
use Rattle.gff_tree.proofs.tree.Leaf.list.Goals as goal

pub returns-in-List : goal.returns-in-List
returns-in-List c = record { list = nodes_of_list c.args.self.now c.in-List.nodes c.deref.result.now c.in-List.is c.deref.ensures.value }
