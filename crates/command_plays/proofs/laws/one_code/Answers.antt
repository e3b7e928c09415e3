use Rattle.command_plays.proofs.OneCode.{sure_plays}
use Rattle.command_plays.proofs.laws.one_code.Goals as goal

pub returns : goal.returns
returns c = record { plays = sure_plays c.one_check.ensures.loaded }
