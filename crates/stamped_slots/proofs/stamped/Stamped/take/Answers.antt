use Rattle.std.proofs.Common.{sym, ap, ◌∙◌, arith}
use Rattle.std.specs.VecDeque.{deque_capacity}
use Rattle.stamped_slots.specs.Stamps.{Stamps, at, without}
use Rattle.stamped_slots.proofs.SlotLemmas.{kept_emptied, kept_empty, lacks_at, without_none, one_less}
use Rattle.stamped_slots.proofs.stamped.Stamped.take.Goals as goal

pub returns-then-not-is_of-clause-taken : goal.returns-then-not-is_of-clause-taken
returns-then-not-is_of-clause-taken g c =
    sym (lacks_at c.self.inside.live c.args.stamp _ c.below-at.result c.self.inside.slots.items c.self.invariant c.below-at.ensures.place (sym c.if-not-is_of.true ∙ c.is_of.ensures.test))
    ∙ ap (λ (v : Stamps _). at c.args.stamp v.items) c.self.view_is

pub returns-then-not-is_of-clause-left : goal.returns-then-not-is_of-clause-left
returns-then-not-is_of-clause-left g c =
    let none = lacks_at c.self.inside.live c.args.stamp _ c.below-at.result c.self.inside.slots.items c.self.invariant c.below-at.ensures.place (sym c.if-not-is_of.true ∙ c.is_of.ensures.test) in
    sym (without_none c.args.stamp c.args.self.now.items (sym (ap (λ (v : Stamps _). at c.args.stamp v.items) c.self.view_is) ∙ none))

pub invariant_of-self : goal.invariant_of-self
invariant_of-self g c =
    kept_empty c.self.inside.live (deque_capacity c.self.inside.slots)
    (deque_capacity c.exchange.new.slots) c.below-at.result c.self.inside.slots.items c.exchange.new.slots.items c.self.invariant c.exchange.ensures.now
    c.in-None.ensures.was c.exchange.ensures.room

pub settle-requires-clause-ascend : goal.settle-requires-clause-ascend
settle-requires-clause-ascend g c =
    (kept_emptied c.self.inside.live c.args.stamp _ c.below-at.result c.self.inside.slots.items c.exchange.new.slots.items c.exchange.result c.self.invariant c.below-at.ensures.place
    (sym c.if-not-is_of.false ∙ c.is_of.ensures.test) c.exchange.ensures.now c.exchange.ensures.was).2

pub settle-requires-clause-counted : goal.settle-requires-clause-counted
settle-requires-clause-counted g c =
    let all = kept_emptied c.self.inside.live c.args.stamp _ c.below-at.result c.self.inside.slots.items c.exchange.new.slots.items c.exchange.result c.self.invariant c.below-at.ensures.place
    (sym c.if-not-is_of.false ∙ c.is_of.ensures.test) c.exchange.ensures.now c.exchange.ensures.was in
    let less = one_less c.self.inside.live c.args.stamp _ c.in-Some.item c.self.inside.slots.items c.exchange.new.slots.items c.self.invariant all.0 (sym c.in-Some.is ∙ all.1) in
    omega (arith, less)

pub returns-in-None-clause-taken : goal.returns-in-None-clause-taken
returns-in-None-clause-taken g c =
    let all = kept_emptied c.self.inside.live c.args.stamp _ c.below-at.result c.self.inside.slots.items c.exchange.new.slots.items c.exchange.result c.self.invariant c.below-at.ensures.place
    (sym c.if-not-is_of.false ∙ c.is_of.ensures.test) c.exchange.ensures.now c.exchange.ensures.was in
    sym c.in-None.is ∙ all.1 ∙ ap (λ (v : Stamps _). at c.args.stamp v.items) c.self.view_is

pub returns-in-None-clause-left : goal.returns-in-None-clause-left
returns-in-None-clause-left g c =
    let all = kept_emptied c.self.inside.live c.args.stamp _ c.below-at.result c.self.inside.slots.items c.exchange.new.slots.items c.exchange.result c.self.invariant c.below-at.ensures.place
    (sym c.if-not-is_of.false ∙ c.is_of.ensures.test) c.exchange.ensures.now c.exchange.ensures.was in
    all.0 ∙ ap (λ (v : Stamps _). without c.args.stamp v.items) c.self.view_is

pub returns-in-Some-clause-taken : goal.returns-in-Some-clause-taken
returns-in-Some-clause-taken g c =
    let all = kept_emptied c.self.inside.live c.args.stamp _ c.below-at.result c.self.inside.slots.items c.exchange.new.slots.items c.exchange.result c.self.invariant c.below-at.ensures.place
    (sym c.if-not-is_of.false ∙ c.is_of.ensures.test) c.exchange.ensures.now c.exchange.ensures.was in
    sym c.in-Some.is ∙ all.1 ∙ ap (λ (v : Stamps _). at c.args.stamp v.items) c.self.view_is

pub returns-in-Some-clause-left : goal.returns-in-Some-clause-left
returns-in-Some-clause-left g c =
    let all = kept_emptied c.self.inside.live c.args.stamp _ c.below-at.result c.self.inside.slots.items c.exchange.new.slots.items c.exchange.result c.self.invariant c.below-at.ensures.place
    (sym c.if-not-is_of.false ∙ c.is_of.ensures.test) c.exchange.ensures.now c.exchange.ensures.was in
    c.settle.ensures.same ∙ all.0 ∙ ap (λ (v : Stamps _). without c.args.stamp v.items) c.self.view_is
