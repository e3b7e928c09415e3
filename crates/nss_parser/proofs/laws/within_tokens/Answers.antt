use Rattle.nss_parser.proofs.Weight.{each_tree_within}
use Rattle.nss_parser.proofs.laws.within_tokens.Goals as goal

pub returns : goal.returns
returns c = record { within = each_tree_within }
