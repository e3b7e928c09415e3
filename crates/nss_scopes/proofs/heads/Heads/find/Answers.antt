use Rattle.std.proofs.Common.{◌∙◌, ap, None, Some, slice_get}
use Rattle.std.specs.Option.{option_map}
use Rattle.nss_scopes.specs.Entries.{head_of}
use Rattle.nss_scopes.proofs.EntryLemmas.{head_is, lent_map}
use Rattle.nss_scopes.proofs.heads.Heads.find.Goals as goal

pub returns-in-Some : goal.returns-in-Some
returns-in-Some c = record {
  found =
      lent_map head_of c.item_at.result
      ∙ (ap (option_map head_of) (c.item_at.ensures.item ∙ ap (λ hs. slice_get hs c.in-Some.at) c.deref.ensures.value)
      ∙ head_is c.args.name.now c.self.inside.all.items c.self.inside.places c.self.inside.bodies c.args.self.now (Some c.in-Some.at) c.self.invariant c.self.view_is c.in-Some.ensures.first);
}

pub returns-in-None : goal.returns-in-None
returns-in-None c = record {
  found = head_is c.args.name.now c.self.inside.all.items c.self.inside.places c.self.inside.bodies c.args.self.now None c.self.invariant c.self.view_is c.in-None.ensures.first;
}
