use Rattle.std.proofs.Common.{◌≡◌, ◌∙◌, ap, None, Some, Option, slice_get}
use Rattle.std.specs.Option.{option_map}
use Rattle.typing_rules.specs.Sight as sight
use Rattle.nss_scopes.specs.Slots.{entry_in}
use Rattle.nss_scopes.proofs.NameLemmas.{found_by}
use Rattle.nss_scopes.proofs.names.Names.find.Goals as goal

pub returns-in-Some-item_at : goal.returns-in-Some-item_at
returns-in-Some-item_at c = record {
  found =
      let at : ◌≡◌ {A = Option sight.Entry} (Some (entry_in c.in-Some-item_at.slot.now)) (option_map entry_in (slice_get c.self.inside.slots.items c.in-Some.at)) =
      ap (option_map entry_in) (c.in-Some-item_at.ensures.item ∙ ap (λ ss. slice_get ss c.in-Some.at) c.deref.ensures.value) in
      at ∙ found_by c.args.name.now c.self.inside.slots.items c.self.inside.last c.args.self.now (Some c.in-Some.at) c.self.invariant c.self.view_is c.in-Some.ensures.number;
}

pub returns-in-None-item_at : goal.returns-in-None-item_at
returns-in-None-item_at c = record {
  found =
      let at : ◌≡◌ {A = Option sight.Entry} None (option_map entry_in (slice_get c.self.inside.slots.items c.in-Some.at)) =
      ap (option_map entry_in) (c.in-None-item_at.ensures.item ∙ ap (λ ss. slice_get ss c.in-Some.at) c.deref.ensures.value) in
      at ∙ found_by c.args.name.now c.self.inside.slots.items c.self.inside.last c.args.self.now (Some c.in-Some.at) c.self.invariant c.self.view_is c.in-Some.ensures.number;
}

pub returns-in-None : goal.returns-in-None
returns-in-None c = record {
  found = found_by c.args.name.now c.self.inside.slots.items c.self.inside.last c.args.self.now None c.self.invariant c.self.view_is c.in-None.ensures.number;
}
