use Rattle.nss_parser.proofs.Trees.{each_tree_is_known}
use Rattle.nss_parser.proofs.laws.each_tree_is_known.Goals as goal

pub returns : goal.returns
returns c = record { known = each_tree_is_known }
