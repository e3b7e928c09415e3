use Rattle.std.proofs.Common.{◌≡◌}
use Rattle.nwq_value.specs.Effect.{Effect}

-- effects with equal routines and equal integers are equal
pub same_effect : (a b : Effect) → a.routine ≡ b.routine → a.ints ≡ b.ints → a ≡ b
same_effect a b routine ints = λ k. record { routine = routine k; ints = ints k }
