use Rattle.saved_state.proofs.Resuming.{are_captured}
use Rattle.saved_state.proofs.laws.captured_values.Goals as goal

pub returns : goal.returns
returns c = record { law = are_captured }
