use Rattle.module_player.proofs.Resting.{plays_can_rest}
use Rattle.module_player.proofs.laws.plays_can_rest.Goals as goal

pub returns : goal.returns
returns c = record { rest = plays_can_rest c.plays_settle.ensures.plays c.runs_lead.ensures.lead }
