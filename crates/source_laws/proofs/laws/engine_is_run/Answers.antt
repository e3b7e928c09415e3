use Rattle.source_laws.proofs.EngineAlike.{engine_is_run}
use Rattle.source_laws.proofs.laws.engine_is_run.Goals as goal

pub returns : goal.returns
returns c = record { run = engine_is_run }
