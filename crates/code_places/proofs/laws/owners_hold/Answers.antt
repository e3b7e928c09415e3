use Rattle.code_places.proofs.Whole.{owners_hold}
use Rattle.code_places.proofs.laws.owners_hold.Goals as goal

pub returns : goal.returns
returns c = record { owners = owners_hold }
