use Rattle.stack_reasons.proofs.Starting.{nothing_home}
use Rattle.stack_reasons.proofs.find.start.Goals as goal

pub returns : goal.returns
returns c = nothing_home _ _ _ _ _ c.new.ensures.empty c.new-2.ensures.empty c.new-3.ensures.empty
