use Rattle.std.proofs.Common.{arith}
use Rattle.stamped_slots.proofs.SlotLemmas.{few_seen}
use Rattle.stamped_slots.proofs.stamped.Stamped.insert.Goals as goal

pub overflow_add-self : goal.overflow_add-self
overflow_add-self g c = let q = c.self.inside.slots in omega (arith, q.ok.0, q.ok.1, q.small, few_seen q.items, c.self.invariant.counted)
