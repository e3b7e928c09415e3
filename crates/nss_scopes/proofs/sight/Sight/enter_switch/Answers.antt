use Rattle.std.proofs.Common.{refl}
use Rattle.nss_scopes.proofs.sight.Sight.enter_switch.Goals as goal

pub returns-clause-switched : goal.returns-clause-switched
returns-clause-switched c = λ t.
    rw (c.len-self.ensures.len, c.new.ensures.none, c.frame_with-frame.ensures.frame t, c.mark-mark.ensures.inside) refl
