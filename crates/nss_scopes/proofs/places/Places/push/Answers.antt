use Rattle.std.proofs.Common.{rules}
use Rattle.nss_scopes.proofs.PlaceLemmas.{first_old}
use Rattle.nss_scopes.proofs.places.Places.push.Goals as goal

pub invariant_of-self-then-is_some : goal.invariant_of-self-then-is_some
invariant_of-self-then-is_some c =
    rw c.in_ok-push.ensures.items (first_old c.self.inside.names.items c.args.name c.self.inside.first c.self.invariant (search rules))
