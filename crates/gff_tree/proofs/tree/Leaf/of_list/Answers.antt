use Rattle.gff_tree.proofs.NodeLemmas.{plain_list_is}
use Rattle.gff_tree.proofs.tree.Leaf.of_list.Goals as goal

pub returns : goal.returns
returns c = record { list = plain_list_is c.args.nodes }
