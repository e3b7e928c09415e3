use Rattle.source_laws.proofs.AllStatements.{statements_run, engine_statements_run}
use Rattle.source_laws.proofs.laws.statements_run.Goals as goal

pub returns : goal.returns
returns c = record {
  quiet = statements_run c.equality_is_tested.ensures.tested;
  engine = engine_statements_run c.equality_is_tested.ensures.tested;
}
