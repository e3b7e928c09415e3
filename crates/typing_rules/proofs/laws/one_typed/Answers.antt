use Rattle.typing_rules.proofs.UnitLaws.{one_typed}
use Rattle.typing_rules.proofs.laws.one_typed.Goals as goal

pub returns : goal.returns
returns c = record { one = one_typed }
