use Rattle.command_run.proofs.OneRun.{sure_runs}
use Rattle.command_run.proofs.laws.one_run.Goals as goal

pub returns : goal.returns
returns c = record { runs = sure_runs c.one_source.ensures.tables c.one_script.ensures.compiled c.one_code.ensures.plays }
