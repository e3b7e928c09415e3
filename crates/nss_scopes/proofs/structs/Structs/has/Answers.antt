use Rattle.std.proofs.Common.{◌∙◌, ap, is_some}
use Rattle.nss_scopes.proofs.EntryLemmas.{struct_is_there}
use Rattle.nss_scopes.proofs.structs.Structs.has.Goals as goal

pub returns : goal.returns
returns c = record {
  has = c.is_some.ensures ∙ (ap is_some c.first.ensures.first
      ∙ struct_is_there c.args.name.now c.self.inside.all.items c.self.inside.places c.args.self.now c.self.invariant c.self.view_is);
}
