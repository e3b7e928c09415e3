use Rattle.nwq_text.proofs.EscapeLemmas.{escapes_apart}
use Rattle.nwq_text.proofs.escape.escapes_apart.Goals as goal

pub returns : goal.returns
returns c = record { apart = escapes_apart }
