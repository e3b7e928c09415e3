use Rattle.source_laws.proofs.Executing.{scripts_execute}
use Rattle.source_laws.proofs.laws.scripts_execute.Goals as goal

pub returns : goal.returns
returns c = record { execute = scripts_execute }
