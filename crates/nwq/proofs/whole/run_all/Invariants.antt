use Rattle.nwq.proofs.whole.run_all.Given as goal

abbrev pub ghosts-run_told : goal.ghosts-run_told
ghosts-run_told g a = record { name = a.out.ghost_name }
