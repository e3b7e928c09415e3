use Rattle.nwq_top.proofs.Changes.{names_change, whole_names_change}
use Rattle.nwq_top.proofs.laws.names_change.Goals as goal

pub returns-clause-change : goal.returns-clause-change
returns-clause-change c = names_change

pub returns-clause-whole : goal.returns-clause-whole
returns-clause-whole c = whole_names_change
