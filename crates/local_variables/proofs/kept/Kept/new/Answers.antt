use Rattle.std.proofs.Common.{ap}
use Rattle.stamped_slots.specs.Stamps.{Stamps}
use Rattle.local_variables.proofs.KeptLemmas.{kept_none}
use Rattle.local_variables.proofs.kept.Kept.new.Goals as goal

pub invariant_of-result : goal.invariant_of-result
invariant_of-result c = kept_none (ap (λ (s : Stamps _). s.items) c.new.ensures.empty) c.new-2.ensures.empty c.new-3.ensures.empty
