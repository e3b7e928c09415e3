use Rattle.command_meaning.proofs.Telling.{ends_are_answered}
use Rattle.command_meaning.proofs.laws.ends_are_answered.Goals as goal

pub returns : goal.returns
returns c = record { answered = ends_are_answered }
