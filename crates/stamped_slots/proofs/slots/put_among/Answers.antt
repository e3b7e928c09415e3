use Rattle.std.proofs.Common.{refl, sym, ap, ◌∙◌, ◌≡◌, ◌+◌, true, false, insert, Some}
use Rattle.std.specs.VecDeque.{deque_capacity}
use Rattle.stamped_slots.specs.Kept.{has_stamp, below, written}
use Rattle.stamped_slots.proofs.SlotLemmas.{kept_filled, kept_added}
use Rattle.stamped_slots.proofs.slots.put_among.Goals as goal

pub returns-then-is_of-clause-ok : goal.returns-then-is_of-clause-ok
returns-then-is_of-clause-ok g c =
    let slots = c.args.slots.now.items in
    let here : has_stamp c.args.stamp (below c.args.stamp slots) slots ≡ true = sym (ap (λ k. has_stamp c.args.stamp k slots) c.below-at.ensures.place) ∙ sym c.is_of.ensures.test ∙ c.if-is_of.true in
    (kept_filled c.args.live c.args.stamp _ c.args.item slots c.exchange.new.slots.items c.requires.kept here c.requires.new
    (c.exchange.ensures.now ∙ ap (λ k. written k (Some c.args.item) slots) c.below-at.ensures.place) c.requires.some _
    (deque_capacity c.exchange.new.slots) refl).0

pub returns-then-is_of-clause-kept : goal.returns-then-is_of-clause-kept
returns-then-is_of-clause-kept g c =
    let slots = c.args.slots.now.items in
    let here : has_stamp c.args.stamp (below c.args.stamp slots) slots ≡ true = sym (ap (λ k. has_stamp c.args.stamp k slots) c.below-at.ensures.place) ∙ sym c.is_of.ensures.test ∙ c.if-is_of.true in
    (kept_filled c.args.live c.args.stamp _ c.args.item slots c.exchange.new.slots.items c.requires.kept here c.requires.new
    (c.exchange.ensures.now ∙ ap (λ k. written k (Some c.args.item) slots) c.below-at.ensures.place) c.requires.some _
    (deque_capacity c.exchange.new.slots) refl).1

pub returns-in-Ok-clause-ok : goal.returns-in-Ok-clause-ok
returns-in-Ok-clause-ok g c =
    let slots = c.args.slots.now in
    let now = c.insert.new.self in
    let here : has_stamp c.args.stamp (below c.args.stamp slots.items) slots.items ≡ false =
    sym (ap (λ k. has_stamp c.args.stamp k slots.items) c.below-at.ensures.place) ∙ sym c.is_of.ensures.test ∙ c.if-is_of.false in
    (kept_added c.args.live c.args.stamp _ c.args.item slots.items now.items c.requires.kept here
    (c.in-Ok.ensures.items ∙ ap
    (λ k. insert slots.items k (record { stamp = c.args.stamp; item = Some c.args.item })) c.below-at.ensures.place)
    (sym now.ok.0 ∙ c.in-Ok.ensures.len ∙ ap (λ n. n + 1) slots.ok.0) _ (deque_capacity now) refl).0

pub returns-in-Ok-clause-kept : goal.returns-in-Ok-clause-kept
returns-in-Ok-clause-kept g c =
    let slots = c.args.slots.now in
    let now = c.insert.new.self in
    let here : has_stamp c.args.stamp (below c.args.stamp slots.items) slots.items ≡ false =
    sym (ap (λ k. has_stamp c.args.stamp k slots.items) c.below-at.ensures.place) ∙ sym c.is_of.ensures.test ∙ c.if-is_of.false in
    (kept_added c.args.live c.args.stamp _ c.args.item slots.items now.items c.requires.kept here
    (c.in-Ok.ensures.items ∙ ap
    (λ k. insert slots.items k (record { stamp = c.args.stamp; item = Some c.args.item })) c.below-at.ensures.place)
    (sym now.ok.0 ∙ c.in-Ok.ensures.len ∙ ap (λ n. n + 1) slots.ok.0) _ (deque_capacity now) refl).1
