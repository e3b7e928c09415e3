use Rattle.std.proofs.Common.{◌∙◌, rules}
use Rattle.nss_scopes.proofs.EntryLemmas.{body_is, number_below}
use Rattle.nss_scopes.proofs.heads.Heads.body.Goals as goal

pub overflow_cast-result : goal.overflow_cast-result
overflow_cast-result c =
    let below = number_below c.args.name.now c.self.inside.all.items c.self.inside.places c.self.inside.bodies c.args.self.now c.self.invariant c.self.view_is c.in-Some.number
    c.in-Some.ensures.first in
    search (rules, below)

pub returns-in-Some : goal.returns-in-Some
returns-in-Some c = record {
  number = c.in-Some.ensures.first ∙ body_is c.args.name.now c.self.inside.all.items c.self.inside.places c.self.inside.bodies c.args.self.now c.self.invariant c.self.view_is;
}

pub returns-in-None : goal.returns-in-None
returns-in-None c = record {
  number = c.in-None.ensures.first ∙ body_is c.args.name.now c.self.inside.all.items c.self.inside.places c.self.inside.bodies c.args.self.now c.self.invariant c.self.view_is;
}
