use Rattle.state_format.proofs.tally.Tally.count.Given as goal

abbrev pub ghost-then : goal.ghost-then
ghost-then a = a._event.now.now
