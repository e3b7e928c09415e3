use Rattle.source_laws.proofs.Induction.{expressions_run}
use Rattle.source_laws.proofs.laws.expressions_run.Goals as goal

pub returns : goal.returns
returns c = record { runs = expressions_run c.equality_is_tested.ensures.tested }
