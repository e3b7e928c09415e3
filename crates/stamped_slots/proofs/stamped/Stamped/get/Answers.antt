use Rattle.std.proofs.Common.{rules, sym, ap, ◌∙◌, ◌≡◌, true}
use Rattle.stamped_slots.specs.Stamps.{Stamps, at}
use Rattle.stamped_slots.specs.Kept.{has_stamp, below, item_at}
use Rattle.stamped_slots.proofs.SlotLemmas.{item_is, found, lacks_at}
use Rattle.stamped_slots.proofs.stamped.Stamped.get.Goals as goal

pub returns-then-is_of : goal.returns-then-is_of
returns-then-is_of g c =
    let slots = c.self.inside.slots.items in
    let stamp = c.args.stamp in
    let here : has_stamp stamp (below stamp slots) slots ≡ true = sym (ap (λ k. has_stamp stamp k slots) c.below-at.ensures.place) ∙ sym c.is_of.ensures.test ∙ c.if-is_of.true in
    record {
      item =
          search rules ∙ item_is c.below-at.result slots c.index.result.now (c.is_of.ensures.inside c.if-is_of.true) c.index.ensures ∙ ap (λ k. item_at k slots) c.below-at.ensures.place
          ∙ found 0 stamp slots c.self.invariant.ascend here ∙ ap (λ (v : Stamps _). at stamp v.items) c.self.view_is;
    }

pub returns : goal.returns
returns g c = record {
  item =
      sym (lacks_at c.self.inside.live c.args.stamp _ c.below-at.result c.self.inside.slots.items c.self.invariant c.below-at.ensures.place (sym c.if-is_of.false ∙ c.is_of.ensures.test))
      ∙ ap (λ (v : Stamps _). at c.args.stamp v.items) c.self.view_is;
}
