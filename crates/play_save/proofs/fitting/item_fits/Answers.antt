use Rattle.std.proofs.Common.{◌↔◌, IfOk, IsTrue, subst, sym}
use Rattle.state_format.specs.declared.parts.Item.{Item}
use Rattle.play_save.specs.Rules.{ItemHolds}
use Rattle.play_save.specs.Breaking.{IsFitting}
use Rattle.play_save.proofs.fitting.item_fits.Goals as goal

pub returns-in-Do : goal.returns-in-Do
returns-in-Do c = record {
  test = subst (λ (i : Item). IfOk c.is_fitting.result (λ fits. IsTrue fits ↔ ItemHolds (IsFitting c.args.scripts.now) i)) (sym c.in-Do.is) c.is_fitting.ensures.test;
}
