use Rattle.gff_tree.specs.Tree.{plain_leaf}
use Rattle.gff_tree.proofs.NodeLemmas.{append_made, append_kept}
use Rattle.gff_tree.proofs.tree.Node.append.Goals as goal

pub returns-clause-ok : goal.returns-clause-ok
returns-clause-ok c = append_made c.args.self.now c.append_to.new.fields c.args.label (plain_leaf c.args.leaf) c.append_to.result c.append_to.ensures.ok

pub returns-clause-err : goal.returns-clause-err
returns-clause-err c = append_kept c.args.self.now c.append_to.new.fields c.append_to.result c.append_to.ensures.err
