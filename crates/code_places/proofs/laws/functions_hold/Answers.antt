use Rattle.code_places.proofs.Functions.{functions_hold}
use Rattle.code_places.proofs.laws.functions_hold.Goals as goal

pub returns : goal.returns
returns c = record { functions = functions_hold }
