use Rattle.nss_lexer.proofs.FirstLaws.{one_split}
use Rattle.nss_lexer.proofs.laws.one_split.Goals as goal

pub returns : goal.returns
returns c = record { one = one_split }
