use Rattle.std.proofs.Common.{refl}
use Rattle.nwq.proofs.whole.run_told.Goals as goal

pub returns-clause-once : goal.returns-clause-once
returns-clause-once g c = λ files_tell. c.run_in_order-number.ensures.once files_tell refl
