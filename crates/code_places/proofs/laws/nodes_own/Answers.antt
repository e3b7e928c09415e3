use Rattle.code_places.proofs.Inside.{nodes_own}
use Rattle.code_places.proofs.laws.nodes_own.Goals as goal

pub returns : goal.returns
returns c = record { own = nodes_own }
