use Rattle.module_player.proofs.Entering.{unapply_fits}
use Rattle.module_player.proofs.entry.unapply_entry.Goals as goal

pub returns-clause-fit : goal.returns-clause-fit
returns-clause-fit c = unapply_fits _ _ _ _ c.entries_keep_fits.ensures.unapply c.in_ok-unapply.ensures.ok
