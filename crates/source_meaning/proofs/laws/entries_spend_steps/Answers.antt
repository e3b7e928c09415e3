use Rattle.source_meaning.proofs.Steps.{entries_spend_steps}
use Rattle.source_meaning.proofs.laws.entries_spend_steps.Goals as goal

pub returns : goal.returns
returns c = record { spend = entries_spend_steps }
