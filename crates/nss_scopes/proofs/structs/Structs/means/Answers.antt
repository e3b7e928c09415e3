use Rattle.std.proofs.Common.{◌∙◌, ap, slice_get}
use Rattle.nss_scopes.proofs.EntryLemmas.{is_within, means_found, means_missing, nothing_there}
use Rattle.nss_scopes.proofs.structs.Structs.means.Goals as goal

pub returns-in-Some-item_at : goal.returns-in-Some-item_at
returns-in-Some-item_at c = record {
  means = c.number_means.ensures ∙ means_found c.args.name.now c.self.inside.all.items c.self.inside.places c.args.self.now c.self.invariant c.self.view_is
      c.in-Some.at c.in-Some-item_at.structure.now c.in-Some.ensures.first (c.in-Some-item_at.ensures.item ∙ ap (λ ss. slice_get ss c.in-Some.at) c.deref.ensures.value);
}

pub returns-in-None-item_at : goal.returns-in-None-item_at
returns-in-None-item_at c = record {
  means =
      let below = is_within c.args.name.now c.self.inside.all.items c.self.inside.places c.args.self.now c.self.invariant c.self.view_is c.in-Some.at c.in-Some.ensures.first in
      let there = c.in-None-item_at.ensures.item ∙ ap (λ ss. slice_get ss c.in-Some.at) c.deref.ensures.value in
      absurd (nothing_there c.self.inside.all.items c.in-Some.at below there);
}

pub returns-in-None : goal.returns-in-None
returns-in-None c = record {
  means = means_missing c.args.name.now c.self.inside.all.items c.self.inside.places c.args.self.now c.self.invariant c.self.view_is c.in-None.ensures.first;
}
