use Rattle.typing_rules.proofs.UnitLaws.{items_are_right}
use Rattle.typing_rules.proofs.laws.items_are_right.Goals as goal

pub returns : goal.returns
returns c = record { typed = items_are_right }
