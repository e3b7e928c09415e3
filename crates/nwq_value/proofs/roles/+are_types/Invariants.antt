use Rattle.std.proofs.Common.{length}
use Rattle.nwq_value.proofs.roles.+are_types.Given as goal

-- the parameters that are left
abbrev pub decreases-are_types : goal.decreases-are_types
decreases-are_types l = length l.params.now
