use Rattle.std.proofs.Common.{sym, subst}
use Rattle.nss_include.specs.View.{HasNames}
use Rattle.nss_include.proofs.UnitLemmas.{sound_none, no_names}
use Rattle.nss_include.proofs.unit.Unit.new.Goals as goal

pub invariant_of-result : goal.invariant_of-result
invariant_of-result c = (
  sound_none c.new.result.items c.new-3.result c.new.ensures.items c.new-3.ensures.empty,
  subst (λ files. HasNames files c.new-2.result) (sym c.new.ensures.items) (no_names c.new-2.result c.new-2.ensures.empty),
)
