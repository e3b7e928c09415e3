use Rattle.saved_state.proofs.Resuming.{are_resumed}
use Rattle.saved_state.proofs.laws.resumed_values.Goals as goal

pub returns : goal.returns
returns c = record { law = are_resumed }
