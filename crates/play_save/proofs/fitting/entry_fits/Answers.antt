use Rattle.std.proofs.Common.{◌↔◌, IfOk, IsTrue, subst, sym}
use Rattle.state_format.specs.declared.parts.KindPart.{KindPart}
use Rattle.play_save.specs.Rules.{KindHolds}
use Rattle.play_save.specs.Breaking.{IsFitting}
use Rattle.play_save.proofs.fitting.entry_fits.Goals as goal

pub returns-in-Stored : goal.returns-in-Stored
returns-in-Stored c = record {
  test = subst (λ (k : KindPart). IfOk c.is_fitting.result (λ fits. IsTrue fits ↔ KindHolds (IsFitting c.args.scripts.now) k)) (sym c.in-Stored.is) c.is_fitting.ensures.test;
}
