use Rattle.saved_state.proofs.Resuming.{are_again}
use Rattle.saved_state.proofs.laws.captures_again.Goals as goal

pub returns : goal.returns
returns c = record { law = are_again }
