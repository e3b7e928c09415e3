use Rattle.play_save.proofs.States.{plays_have_states}
use Rattle.play_save.proofs.laws.plays_have_states.Goals as goal

pub returns : goal.returns
returns c = record { states = plays_have_states c.one_header.ensures.one c.spelling_laws.ensures.spelling c.size_laws.ensures.sizes.file }
