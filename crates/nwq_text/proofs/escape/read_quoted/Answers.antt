use Rattle.nwq_text.proofs.EscapeLemmas.{no_quoted}
use Rattle.nwq_text.proofs.escape.read_quoted.Goals as goal

pub returns-in-None : goal.returns-in-None
returns-in-None c = record { reads = no_quoted _ c.in-None.ensures }
