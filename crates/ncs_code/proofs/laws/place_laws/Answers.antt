use Rattle.ncs_code.proofs.Places.{begun_stands, stood_begins, begun_lies, ops_apart, placed_begins, begun_is_placed}
use Rattle.ncs_code.proofs.laws.place_laws.Goals as goal

pub returns : goal.returns
returns c = record { places = record { stands = begun_stands; begins = stood_begins; lies = begun_lies; apart = ops_apart; placed = placed_begins; listed = begun_is_placed } }
