use Rattle.code_places.proofs.Sources.{tokens_hold}
use Rattle.code_places.proofs.laws.tokens_hold.Goals as goal

pub returns : goal.returns
returns c = record { tokens = tokens_hold }
