use Rattle.std.proofs.Common.{refl}
use Rattle.nwq_top.proofs.told.status_told.Goals as goal

pub returns-clause-once : goal.returns-clause-once
returns-clause-once g c = λ files_tell. c.status_of_words-status.ensures.once files_tell refl
