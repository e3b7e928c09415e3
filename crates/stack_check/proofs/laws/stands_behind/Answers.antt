use Rattle.stack_check.proofs.Behind.{fitting_stands}
use Rattle.stack_check.proofs.laws.stands_behind.Goals as goal

pub returns : goal.returns
returns c = record { behind = fitting_stands }
