use Rattle.gff_read.proofs.TreeLaws as laws
use Rattle.gff_read.proofs.laws.trees_are_sound.Goals as goal

pub returns : goal.returns
returns c = record { sound = laws.stood_sound; few = laws.stood_few }
