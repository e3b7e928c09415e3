use Rattle.std.proofs.Common.{ap, subst}
use Rattle.stamped_slots.specs.Stamps.{Stamps, Rise}
use Rattle.stamped_slots.proofs.SlotLemmas.{seen_rise}
use Rattle.stamped_slots.proofs.stamped.Stamped.keeps.Goals as goal

pub returns-clause-rise : goal.returns-clause-rise
returns-clause-rise g c = subst (Rise 0) (ap (λ (v : Stamps _). v.items) c.self.view_is) (seen_rise 0 c.self.inside.slots.items c.self.invariant.ascend)
