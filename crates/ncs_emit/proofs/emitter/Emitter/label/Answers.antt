use Rattle.std.proofs.Common.{arith, ap, length}
use Rattle.ncs_emit.proofs.Counting.{kept_made, made_unplaced, missing_few}
use Rattle.ncs_emit.proofs.emitter.Emitter.label.Goals as goal

pub overflow_add-self : goal.overflow_add-self
overflow_add-self c = omega (arith, missing_few _ _ _ _ _ _ c.self.invariant, ap (λ d. d.labels) c.self.view_is, c.requires.few)

pub invariant_of-self-2 : goal.invariant_of-self-2
invariant_of-self-2 c =
    rw (c.make_room.ensures.same, c.in_ok-push.ensures.items)
    (kept_made _ _ _ _ _ _ _ c.self.invariant (omega (arith, ap (λ d. d.labels) c.self.view_is, c.requires.few))
    (λ small. omega (arith, c.in_ok-make_room.ensures.room (omega (arith, small, c.size.ensures)), ap length c.make_room.ensures.same, c.make_room.new.kept.ok.0)))

pub returns-clause-unplaced : goal.returns-clause-unplaced
returns-clause-unplaced c = made_unplaced _ _ _ _ _ _ _ c.self.invariant (omega (arith, c.len-label.ensures, c.self.inside.placed.ok.0))
