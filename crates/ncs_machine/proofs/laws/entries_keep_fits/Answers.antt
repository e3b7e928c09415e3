use Rattle.ncs_machine.proofs.Fitting.{begin_keeps, turn_keeps, turn_done_keeps, unapply_keeps}
use Rattle.ncs_machine.proofs.laws.entries_keep_fits.Goals as goal

pub returns : goal.returns
returns c = record { begin = begin_keeps; turn = turn_keeps; turn_done = turn_done_keeps; unapply = unapply_keeps }
