use Rattle.ncs_code.proofs.Places.{one_first_bad}
use Rattle.ncs_code.proofs.laws.one_first_bad.Goals as goal

pub returns : goal.returns
returns c = record { one = one_first_bad }
