use Rattle.gff_read.proofs.TreeLaws as laws
use Rattle.gff_read.proofs.laws.read_trees_stand.Goals as goal

pub returns : goal.returns
returns c = record { read = laws.tree_is; stands = laws.read_stands }
