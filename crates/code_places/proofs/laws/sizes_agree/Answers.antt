use Rattle.code_places.proofs.Whole.{unit_marked}
use Rattle.code_places.proofs.laws.sizes_agree.Goals as goal

pub returns : goal.returns
returns c = record { sizes = λ u. (unit_marked u).sizes }
