use Rattle.nss_parser.proofs.Whole as whole
use Rattle.nss_parser.proofs.laws.reading_gives_tree.Goals as goal

pub returns : goal.returns
returns c = record { read = whole.whole_got }
