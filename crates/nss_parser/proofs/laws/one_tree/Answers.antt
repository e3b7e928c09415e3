use Rattle.nss_parser.proofs.Whole as whole
use Rattle.nss_parser.proofs.laws.one_tree.Goals as goal

pub returns : goal.returns
returns c = record { one = whole.one_tree }
