use Rattle.std.proofs.Common.{subst}
use Rattle.std.specs.List.{AllByRecursion}
use Rattle.ncs_emit.specs.Leading.{IsPlacedOnce, LineFits}
use Rattle.ncs_emit.proofs.Counting.{placed_once}
use Rattle.ncs_emit.proofs.emitter.Emitter.sound.Goals as goal

pub returns-clause-fits : goal.returns-clause-fits
returns-clause-fits c = subst (λ d. AllByRecursion (LineFits d.labels) d.lines) c.self.view_is c.self.invariant.fit

pub returns-clause-once : goal.returns-clause-once
returns-clause-once c = subst (λ d. IsPlacedOnce d.lines) c.self.view_is (placed_once _ _ _ _ _ _ c.self.invariant)
