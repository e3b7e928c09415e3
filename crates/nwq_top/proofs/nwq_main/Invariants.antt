use Rattle.nwq_top.proofs.nwq_main.Given as goal

abbrev pub ghosts-status_told : goal.ghosts-status_told
ghosts-status_told g a = record { name = a.out.ghost_name }
