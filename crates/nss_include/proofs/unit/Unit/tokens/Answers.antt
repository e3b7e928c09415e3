use Rattle.nss_include.proofs.UnitLemmas.{stand_in}
use Rattle.nss_include.proofs.unit.Unit.tokens.Goals as goal

pub returns-clause-placed : goal.returns-clause-placed
returns-clause-placed c = rw (← c.self.view_is) (stand_in c.self.inside.files.items c.self.inside.spans c.self.invariant.0.inside)
