use Rattle.module_player.proofs.Entering.{done_fits, fault_fits}
use Rattle.module_player.proofs.entry.finish_turn.Goals as goal

pub returns-in-Over-clause-fit : goal.returns-in-Over-clause-fit
returns-in-Over-clause-fit c = done_fits _ _ _ c.entries_keep_fits.ensures.turn_done c.turn_done.ensures.done

pub returns-in_ok-fault-in-Divided-clause-fit : goal.returns-in_ok-fault-in-Divided-clause-fit
returns-in_ok-fault-in-Divided-clause-fit c = fault_fits _ _ _ _ _ c.entries_keep_fits.ensures.turn_done c.in_ok-fault-in-Divided.ensures.ok c.turn_done-in-Divided.ensures.done
