use Rattle.typing_rules.proofs.UnitLaws.{typed_is_faultless, faultless_is_typed}
use Rattle.typing_rules.proofs.laws.typed_exactly.Goals as goal

pub returns-clause-faultless : goal.returns-clause-faultless
returns-clause-faultless c = typed_is_faultless

pub returns-clause-typed : goal.returns-clause-typed
returns-clause-typed c = faultless_is_typed
