use Rattle.gff_tree.proofs.NodeLemmas.{plain_node_is}
use Rattle.gff_tree.proofs.tree.Node.new.Goals as goal

pub returns : goal.returns
returns c = record { node = plain_node_is c.args.kind c.args.fields }
