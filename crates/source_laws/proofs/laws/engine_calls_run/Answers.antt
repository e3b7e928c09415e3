use Rattle.source_laws.proofs.Induction.{engine_calls_run}
use Rattle.source_laws.proofs.laws.engine_calls_run.Goals as goal

pub returns : goal.returns
returns c = record { runs = engine_calls_run c.equality_is_tested.ensures.tested }
