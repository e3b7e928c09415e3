use Rattle.std.proofs.Common.{sym, ap}
use Rattle.gff_tree.specs.Fields.{kind_of}
use Rattle.gff_tree.proofs.NodeLemmas.{plain_node_out}
use Rattle.gff_tree.proofs.tree.Node.kind.Goals as goal

pub returns : goal.returns
returns c = record { kind = sym (ap kind_of (plain_node_out c.args.self.now)) }
