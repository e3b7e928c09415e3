use Rattle.nss_parser.proofs.Whole as whole
use Rattle.nss_parser.proofs.laws.tree_or_place.Goals as goal

pub returns : goal.returns
returns c = record { either = whole.tree_or_place }
