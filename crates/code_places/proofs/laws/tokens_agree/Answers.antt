use Rattle.code_places.proofs.Sources.{tokens_agree}
use Rattle.code_places.proofs.laws.tokens_agree.Goals as goal

pub returns : goal.returns
returns c = record { tokens = tokens_agree }
