use Rattle.std.proofs.Common.{refl}
use Rattle.nss_scopes.proofs.sight.Sight.declare.Goals as goal

pub returns : goal.returns
returns c = record {
  declared = λ t.
      rw (
        c.in_ok-declare.ensures.ok,
        c.in_ok-called.ensures.ok,
        c.variable-means.ensures.variable t,
        c.in_ok-next.ensures.next,
        c.frame_with-frame.ensures.frame t,
        c.cells_if-cells.ensures.cells t,
      ) refl;
  few = c.in_ok-next.ensures.few;
}
