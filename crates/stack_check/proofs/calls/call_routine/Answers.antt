use Rattle.stack_check.proofs.calls.call_routine.Goals as goal

pub counting-requires : goal.counting-requires
counting-requires c = record { formed = c.requires.keeps.formed }
