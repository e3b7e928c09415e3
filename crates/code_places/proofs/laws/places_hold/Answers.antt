use Rattle.code_places.proofs.Found.{places_hold}
use Rattle.code_places.proofs.laws.places_hold.Goals as goal

pub returns : goal.returns
returns c = record { places = places_hold }
