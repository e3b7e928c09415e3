use Rattle.std.proofs.Common.{◌≡◌, ◌↔◌, IsTrue, rules}
use Rattle.nwq_value.proofs.RoleLemmas.{told_ty}
use Rattle.nwq_value.proofs.roles.same_type.Goals as goal

pub returns : goal.returns
returns c =
    let same : IsTrue c.eq.result ↔ (c.args.a ≡ c.args.b) = let h = c.eq.ensures in search rules in
    told_ty _ _ _ same
