use Rattle.saved_state.proofs.Places.{split_places}
use Rattle.saved_state.proofs.laws.places_split.Goals as goal

pub returns : goal.returns
returns c = record { law = split_places }
