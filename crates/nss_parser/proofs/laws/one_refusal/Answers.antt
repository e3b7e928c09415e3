use Rattle.nss_parser.proofs.OneRefusal.{no_refusal_of_trees, one_refusal}
use Rattle.nss_parser.proofs.laws.one_refusal.Goals as goal

pub returns-clause-one : goal.returns-clause-one
returns-clause-one c = one_refusal

pub returns-clause-none : goal.returns-clause-none
returns-clause-none c = no_refusal_of_trees
