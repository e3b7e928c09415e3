use Rattle.play_states.proofs.Counting.{plays_count_few}
use Rattle.play_states.proofs.laws.counts_are_few.Goals as goal

pub returns : goal.returns
returns c = record { few = plays_count_few c.variables_tell.ensures.put c.variables_tell.ensures.filter }
