use Rattle.nss_scopes.proofs.ScopeLemmas.{scopes_are_left}
use Rattle.nss_scopes.proofs.laws.scopes_are_left.Goals as goal

pub returns : goal.returns
returns c = record { left = scopes_are_left c.scopes_only_add.ensures.first }
