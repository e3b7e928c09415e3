use Rattle.std.proofs.Common.{◌∙◌, ap, map, take}
use Rattle.nss_scopes.specs.Slots.{entry_in}
use Rattle.nss_scopes.proofs.NameLemmas.{taken}
use Rattle.nss_scopes.proofs.names.Names.truncate.Goals as goal

pub returns : goal.returns
returns c = record {
  kept = ap (map entry_in) c.cut.ensures.items ∙ (taken c.args.len c.self.inside.slots.items ∙ ap (take c.args.len) c.self.view_is);
}
