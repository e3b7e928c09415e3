use Rattle.typing_rules.proofs.Numbering.{numbered_in_order}
use Rattle.typing_rules.proofs.laws.numbered_in_order.Goals as goal

pub returns : goal.returns
returns c = record { numbered = numbered_in_order }
