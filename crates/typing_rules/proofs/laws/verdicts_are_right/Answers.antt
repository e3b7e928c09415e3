use Rattle.typing_rules.proofs.UnitLaws.{verdicts_are_right, faults_are_listed, least_is_kept, none_kept_is_typed}
use Rattle.typing_rules.proofs.laws.verdicts_are_right.Goals as goal

pub returns-clause-typed : goal.returns-clause-typed
returns-clause-typed c = verdicts_are_right

pub returns-clause-listed : goal.returns-clause-listed
returns-clause-listed c = faults_are_listed

pub returns-clause-least : goal.returns-clause-least
returns-clause-least c = least_is_kept

pub returns-clause-settled : goal.returns-clause-settled
returns-clause-settled c = none_kept_is_typed
