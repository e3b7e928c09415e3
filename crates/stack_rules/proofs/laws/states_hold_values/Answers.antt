use Rattle.stack_rules.proofs.SavedLemmas.{fitting_holds, kept_holds}
use Rattle.stack_rules.proofs.laws.states_hold_values.Goals as goal

pub returns : goal.returns
returns g c = record { fitting = fitting_holds; kept = kept_holds }
