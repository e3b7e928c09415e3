use Rattle.gff_read.proofs.TreeLaws.{tree_is}
use Rattle.gff_read.proofs.reader.read.Goals as goal

pub returns-clause-only : goal.returns-clause-only
returns-clause-only c gff stands = rw (tree_is c.args.view.now gff stands) at c.read_within.ensures.exact
