use Rattle.std.proofs.Common.{sym, ap, ◌∙◌, not, is_some}
use Rattle.std.specs.VecDeque.{deque_capacity}
use Rattle.stamped_slots.specs.Stamps.{Stamps, at, replaced}
use Rattle.stamped_slots.proofs.SlotLemmas.{item_is, lacks_at, empty_at, kept_replaced, replaced_none}
use Rattle.stamped_slots.proofs.stamped.Stamped.replace.Goals as goal
use Rattle.stamped_slots.proofs.stamped.Stamped.replace.Goals.{then-not-is_of-via-then-not-is_of, then-not-is_of-via-else-not-is_of+then-is_none}

pub returns-then-not-is_of-clause-was : goal.returns-then-not-is_of-clause-was
returns-then-not-is_of-clause-was g c =
    sym (elim c.then-not-is_of.branch [
      | then-not-is_of-via-then-not-is_of w ↦ lacks_at c.self.inside.live c.args.stamp _ c.below-at.result c.self.inside.slots.items c.self.invariant c.below-at.ensures.place
          (sym w.if-not-is_of.true ∙ c.is_of.ensures.test)
      | then-not-is_of-via-else-not-is_of+then-is_none w ↦ empty_at c.self.inside.live c.args.stamp _ c.below-at.result c.self.inside.slots.items c.self.invariant c.below-at.ensures.place
          (sym w.if-not-is_of.false ∙ c.is_of.ensures.test)
          (ap is_some (sym (item_is c.below-at.result c.self.inside.slots.items w.index.result.now (c.is_of.ensures.inside w.if-not-is_of.false) w.index.ensures))
          ∙ w.is_none.ensures ∙ ap not w.if-is_none.true)
    ])
    ∙ ap (λ (v : Stamps _). at c.args.stamp v.items) c.self.view_is

pub returns-then-not-is_of-clause-now : goal.returns-then-not-is_of-clause-now
returns-then-not-is_of-clause-now g c = sym (replaced_none c.args.stamp c.args.item c.args.self.now.items (sym (returns-then-not-is_of-clause-was g c)))

pub invariant_of-self : goal.invariant_of-self
invariant_of-self g c =
    (kept_replaced c.self.inside.live c.args.stamp _ (deque_capacity c.exchange.new.slots) c.below-at.result c.args.item c.self.inside.slots.items c.exchange.new.slots.items c.exchange.result
    c.self.invariant c.below-at.ensures.place (sym c.if-not-is_of.false ∙ c.is_of.ensures.test)
    (ap is_some (sym (item_is c.below-at.result c.self.inside.slots.items c.index.result.now (c.is_of.ensures.inside c.if-not-is_of.false) c.index.ensures))
    ∙ c.is_none.ensures ∙ ap not c.if-is_none.false) c.exchange.ensures.now c.exchange.ensures.was c.exchange.ensures.room).2

pub returns-clause-was : goal.returns-clause-was
returns-clause-was g c =
    (kept_replaced c.self.inside.live c.args.stamp _ (deque_capacity c.exchange.new.slots) c.below-at.result c.args.item c.self.inside.slots.items c.exchange.new.slots.items c.exchange.result
    c.self.invariant c.below-at.ensures.place (sym c.if-not-is_of.false ∙ c.is_of.ensures.test)
    (ap is_some (sym (item_is c.below-at.result c.self.inside.slots.items c.index.result.now (c.is_of.ensures.inside c.if-not-is_of.false) c.index.ensures))
    ∙ c.is_none.ensures ∙ ap not c.if-is_none.false) c.exchange.ensures.now c.exchange.ensures.was c.exchange.ensures.room).1
    ∙ ap (λ (v : Stamps _). at c.args.stamp v.items) c.self.view_is

pub returns-clause-now : goal.returns-clause-now
returns-clause-now g c =
    (kept_replaced c.self.inside.live c.args.stamp _ (deque_capacity c.exchange.new.slots) c.below-at.result c.args.item c.self.inside.slots.items c.exchange.new.slots.items c.exchange.result
    c.self.invariant c.below-at.ensures.place (sym c.if-not-is_of.false ∙ c.is_of.ensures.test)
    (ap is_some (sym (item_is c.below-at.result c.self.inside.slots.items c.index.result.now (c.is_of.ensures.inside c.if-not-is_of.false) c.index.ensures))
    ∙ c.is_none.ensures ∙ ap not c.if-is_none.false) c.exchange.ensures.now c.exchange.ensures.was c.exchange.ensures.room).0
    ∙ ap (λ (v : Stamps _). replaced c.args.stamp c.args.item v.items) c.self.view_is
