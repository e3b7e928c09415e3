use Rattle.std.proofs.Common.{subst}
use Rattle.nss_include.specs.declared.step.Step.{Step}
use Rattle.nss_include.specs.Progress.{HasStep}
use Rattle.nss_include.proofs.ProgressLemmas.{advances-ends, halts-breaks, halts-misses, halts-own, counts-own}
use Rattle.nss_include.proofs.gatherer.Gatherer.advance.Goals as goal

pub returns-in-Ends-clause-advances : goal.returns-in-Ends-clause-advances
returns-in-Ends-clause-advances g c =
    advances-ends _ _ c.args.self.now c.args.here c.requires
    (subst (λ (s : Step). HasStep c.args.self.now c.args.here s) c.in-Ends.is (c.in_ok-step_at.ensures {u = tt}))

pub returns-in-Breaks-clause-halts : goal.returns-in-Breaks-clause-halts
returns-in-Breaks-clause-halts g c =
    halts-breaks _ _ c.args.self.now c.args.here c.in-Breaks.place
    (subst (λ (s : Step). HasStep c.args.self.now c.args.here s) c.in-Breaks.is (c.in_ok-step_at.ensures {u = tt})) _ c.in_ok-spot-in-Breaks.ensures.spot

pub returns-in-Ok-clause-advances : goal.returns-in-Ok-clause-advances
returns-in-Ok-clause-advances g c = c.in-Ok.ensures.advances _ _

pub returns-clause-halts : goal.returns-clause-halts
returns-clause-halts g c =
    halts-misses _ _ c.args.self.now c.args.here c.in-Misses.place
    (subst (λ (s : Step). HasStep c.args.self.now c.args.here s) c.in-Misses.is (c.in_ok-step_at.ensures {u = tt})) _ c.in_ok-spot-in-Misses.ensures.spot

pub returns-in-Gives-clause-halts : goal.returns-in-Gives-clause-halts
returns-in-Gives-clause-halts g c = halts-own _ _ _ c.in-Err.fault c.in-Err.ensures.own c.in-Err.ensures.stops

pub returns-in-Gives-clause-counts : goal.returns-in-Gives-clause-counts
returns-in-Gives-clause-counts g c = counts-own (Unit {0}) c.in-Err.fault _ c.in-Err.ensures.own
