use Rattle.source_laws.proofs.Resumes.{resumed_run}
use Rattle.source_laws.proofs.laws.resumed_run.Goals as goal

pub returns : goal.returns
returns c = record { runs = resumed_run c.equality_is_tested.ensures.tested }
