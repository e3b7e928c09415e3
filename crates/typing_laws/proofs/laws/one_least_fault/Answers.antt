use Rattle.typing_laws.proofs.LeastFault.{least_is_the_kept, one_at_each, one_least}
use Rattle.typing_laws.proofs.laws.one_least_fault.Goals as goal

pub returns : goal.returns
returns c = record {
  token = one_at_each c.verdicts_are_right.ensures.listed;
  least = one_least c.verdicts_are_right.ensures.listed;
  kept = let right = c.verdicts_are_right.ensures in least_is_the_kept right.typed c.typed_exactly.ensures.faultless right.listed right.least right.settled;
}
