use Rattle.std.proofs.Common.{[], ◌∷◌}
use Rattle.ncs_emit.proofs.tally.Tally.tell.Given as goal

abbrev pub ghost-then : goal.ghost-then
ghost-then a = a._event.now ∷ []
