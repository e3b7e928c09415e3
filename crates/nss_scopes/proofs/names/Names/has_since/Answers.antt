use Rattle.std.proofs.Common.{None, Some}
use Rattle.nss_scopes.proofs.NameLemmas.{since_by}
use Rattle.nss_scopes.proofs.names.Names.has_since.Goals as goal

pub returns-in-Some : goal.returns-in-Some
returns-in-Some c = record {
  has = since_by c.args.name.now c.args.scope c.self.inside.slots.items c.self.inside.last c.args.self.now (Some c.in-Some.at) c.self.invariant c.self.view_is c.in-Some.ensures.number;
}

pub returns-in-None : goal.returns-in-None
returns-in-None c = record {
  has = since_by c.args.name.now c.args.scope c.self.inside.slots.items c.self.inside.last c.args.self.now None c.self.invariant c.self.view_is c.in-None.ensures.number;
}
