use Rattle.std.proofs.Common.{refl}
use Rattle.stack_reasons.proofs.Walking.{callee_home}
use Rattle.stack_reasons.proofs.walk.enter.Goals as goal

pub returns-clause-home : goal.returns-clause-home
returns-clause-home c = callee_home _ _ _ _ _ _ _ c.requires.home c.requires.there c.requires.call refl refl refl c.in_ok-first.ensures
