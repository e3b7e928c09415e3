use Rattle.source_laws.proofs.Placing.{functions_stand}
use Rattle.source_laws.proofs.laws.functions_stand.Goals as goal

pub returns : goal.returns
returns c = record { stand = functions_stand c.code_stands.ensures.stands }
