use Rattle.world_rules.proofs.PlayLemmas.{plays_go_on}
use Rattle.world_rules.proofs.plays.plays_go_on.Goals as goal

pub returns : goal.returns
returns g c = record { goes_on = plays_go_on }
