use Rattle.source_laws.proofs.Functions.{functions_run}
use Rattle.source_laws.proofs.laws.functions_run.Goals as goal

pub returns : goal.returns
returns c = record { runs = functions_run c.equality_is_tested.ensures.tested }
