use Rattle.typing_rules.proofs.UnitLaws.{some_answer, one_token}
use Rattle.typing_rules.proofs.laws.one_answer.Goals as goal

pub returns-clause-some : goal.returns-clause-some
returns-clause-some c = some_answer

pub returns-clause-token : goal.returns-clause-token
returns-clause-token c = one_token
