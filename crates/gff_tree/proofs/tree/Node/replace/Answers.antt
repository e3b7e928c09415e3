use Rattle.gff_tree.specs.Tree.{plain_leaf}
use Rattle.gff_tree.proofs.NodeLemmas.{replace_old, replace_new}
use Rattle.gff_tree.proofs.tree.Node.replace.Goals as goal

pub returns-clause-old : goal.returns-clause-old
returns-clause-old c = replace_old c.args.self.now c.args.label.now c.replace_in.result c.replace_in.ensures.old

pub returns-clause-new : goal.returns-clause-new
returns-clause-new c = replace_new c.args.self.now c.replace_in.new.fields c.args.label.now (plain_leaf c.args.leaf) c.replace_in.ensures.new
