use Rattle.local_variables.proofs.VariableLaws.{same_equiv, put_is_there, put_distinct, filter_distinct}
use Rattle.local_variables.proofs.laws.variables_tell.Goals as goal

pub returns : goal.returns
returns c = record { same = same_equiv; there = put_is_there; put = put_distinct; filter = filter_distinct }
