use Rattle.nss_lexer.proofs.StringLaws.{one_value}
use Rattle.nss_lexer.proofs.laws.one_value.Goals as goal

pub returns : goal.returns
returns c = record { one = one_value }
