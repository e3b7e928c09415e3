use Rattle.gff_write.proofs.WrittenLaws as laws
use Rattle.gff_write.proofs.laws.written_stands.Goals as goal

pub returns : goal.returns
returns c = record { stands = laws.written_stands }
