use Rattle.gff_tree.proofs.NodeLemmas.{fields_out, node_out}
use Rattle.gff_tree.proofs.tree.Node.fields.Goals as goal

pub returns : goal.returns
returns c = record {
  fields = fields_out c.args.self.now c.deref.result.now c.deref.ensures.value;
  node = node_out c.args.self.now c.deref.result.now c.deref.ensures.value;
}
