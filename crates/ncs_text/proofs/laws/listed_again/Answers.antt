use Rattle.ncs_text.proofs.Again.{listed_again}
use Rattle.ncs_text.proofs.laws.listed_again.Goals as goal

pub returns : goal.returns
returns c = record { again = listed_again c.size_laws.ensures.sizes c.place_laws.ensures.places c.one_name.ensures.code }
