use Rattle.memory_disk.proofs.paths.+follow_most.Given as goal

abbrev pub decreases-follow_most : goal.decreases-follow_most
decreases-follow_most l = l.most
