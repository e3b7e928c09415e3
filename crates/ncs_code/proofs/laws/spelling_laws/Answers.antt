use Rattle.ncs_code.proofs.Listings.{ops_of_spellings}
use Rattle.ncs_code.proofs.Readings.{op_again, none_begins_another}
use Rattle.ncs_code.proofs.Sound.{sound}
use Rattle.ncs_code.proofs.laws.spelling_laws.Goals as goal

pub returns : goal.returns
returns c = record { spelling = record { again = op_again; none = none_begins_another; sound = sound; listed = ops_of_spellings } }
