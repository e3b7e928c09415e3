use Rattle.gff_tree.proofs.NodeLemmas.{plain_node_out}
use Rattle.gff_tree.proofs.tree.Node.into_parts.Goals as goal

pub returns : goal.returns
returns c = record { node = plain_node_out c.args.self }
