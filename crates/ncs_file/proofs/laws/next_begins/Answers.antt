use Rattle.ncs_file.proofs.Following.{next_begins}
use Rattle.ncs_file.proofs.laws.next_begins.Goals as goal

pub returns : goal.returns
returns c = record { next = next_begins c.size_laws.ensures.sizes c.place_laws.ensures.places }
