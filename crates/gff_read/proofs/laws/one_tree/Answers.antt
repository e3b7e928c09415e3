use Rattle.gff_read.proofs.TreeLaws as laws
use Rattle.gff_read.proofs.laws.one_tree.Goals as goal

pub returns : goal.returns
returns c = record { one = laws.one_tree }
