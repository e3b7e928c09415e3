use Rattle.std.proofs.Common.{length}
use Rattle.nwq_value.proofs.roles.+role_in.Given as goal

-- the rows that are left
abbrev pub decreases-role_in : goal.decreases-role_in
decreases-role_in l = length l.rows.now
