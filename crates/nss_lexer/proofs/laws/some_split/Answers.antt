use Rattle.nss_lexer.proofs.SomeSplit.{some_split}
use Rattle.nss_lexer.proofs.laws.some_split.Goals as goal

pub returns : goal.returns
returns c = record { some = some_split }
