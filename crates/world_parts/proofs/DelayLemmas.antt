-- Times from now on.
use Rattle.std.proofs.Common.{◌≡◌, ◌≤◌, ◌+◌, ℤ, ap, sym}
use Rattle.std.proofs.Math.Nat.{min-eq_left}
use Rattle.world_rules.specs.Arguments.{at_least_zero}
use Rattle.world_rules.specs.Changes.{later, longest_delay}
use Rattle.world_rules.specs.World.{World}

-- no int is longer than the longest delay
pub later_is : {X : Type 0} (ms : ℤ) (w : World X) → at_least_zero ms ≤ longest_delay → w.clock + at_least_zero ms ≡ later ms w
later_is ms w most = ap (λ n. w.clock + n) (sym (min-eq_left most))
