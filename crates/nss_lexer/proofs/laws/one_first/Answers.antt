use Rattle.nss_lexer.proofs.FirstLaws.{one_first}
use Rattle.nss_lexer.proofs.laws.one_first.Goals as goal

pub returns : goal.returns
returns c = record { one = one_first }
