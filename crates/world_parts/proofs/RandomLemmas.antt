-- Random numbers.
use Rattle.std.proofs.Common.{◌≡◌, ℕ, ℤ, pos, negsuc, zero, suc, refl}
use Rattle.nwq_value.specs.declared.value.Value.TheVariants as value
use Rattle.world_rules.specs.Arguments.{at_least_zero}
use Rattle.world_rules.specs.World.{World}
use Rattle.world_rules.specs.Rows.{Answered, drawn, drawn_from, gives}

-- the next number modulo a natural number
abbrev pub drawn_modulo : {X : Type 0} → ℕ → World X → Answered X
drawn_modulo zero w = gives (value.Int (pos 0)) w
drawn_modulo (suc n) w = drawn_from w.random (suc n) w

pub drawn_by : {X : Type 0} → (n : ℤ) (w : World X) → drawn n w ≡ drawn_modulo (at_least_zero n) w
drawn_by (negsuc n) w = refl
drawn_by (pos zero) w = refl
drawn_by (pos (suc n)) w = refl
