use Rattle.stack_reasons.proofs.Walking.{left_there}
use Rattle.stack_reasons.proofs.walk.leave.Goals as goal

pub returns : goal.returns
returns c = left_there _ _ _ _ _ _ _ _ c.requires.there c.requires.enters c.requires.last c.in_ok-shape.ensures
