use Rattle.source_laws.proofs.Starts.{mains_run, conditions_run}
use Rattle.source_laws.proofs.laws.starts_run.Goals as goal

pub returns : goal.returns
returns c = record {
  mains = mains_run c.equality_is_tested.ensures.tested c.code_stands.ensures.stands;
  conditions = conditions_run c.equality_is_tested.ensures.tested c.code_stands.ensures.stands;
}
