use Rattle.real_files.proofs.paths.+last_slash.Given as goal

abbrev pub decreases-last_slash : goal.decreases-last_slash
decreases-last_slash l = l.end
