use Rattle.command_save.proofs.FrontLemmas.{fronts_go_on}
use Rattle.command_save.proofs.laws.fronts_go_on.Goals as goal

pub returns : goal.returns
returns c = record { fronts = fronts_go_on c.plays_go_on.ensures.goes_on }
