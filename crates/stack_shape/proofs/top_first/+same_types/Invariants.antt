use Rattle.std.proofs.Common.{length}
use Rattle.stack_shape.proofs.top_first.+same_types.Given as goal

-- the types that are left
abbrev pub decreases-same_types : goal.decreases-same_types
decreases-same_types l = length l.a.now
