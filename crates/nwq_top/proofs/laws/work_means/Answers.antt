use Rattle.nwq_top.proofs.Meaning.{work_means}
use Rattle.nwq_top.proofs.laws.work_means.Goals as goal

pub returns : goal.returns
returns c = record {
  means = work_means c.one_file.ensures.commands c.one_check.ensures.command c.runs_mean.ensures.means c.compiles_mean.ensures.means
      c.plays_mean.ensures.means c.saves_mean.ensures.means c.resumes_mean.ensures.means c.generates_mean.ensures.means;
}
