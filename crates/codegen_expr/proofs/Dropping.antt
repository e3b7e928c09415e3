-- Lines that many nodes share.
use Rattle.std.proofs.Common.{◌≡◌, ◌<◌, ℕ, suc, zero, [], ◌∷◌, arith, refl}
use Rattle.ncs_code.specs.Plain as ops
use Rattle.ncs_emit.specs.Labelled.{Instruction}
use Rattle.emission_rules.specs.Operations.{beneath, dropped}

pub dropped_some : (n : ℕ) → 0 < n → dropped n ≡ Instruction (ops.MovSp (beneath n)) ∷ []
dropped_some zero lt = absurd (omega arith)
dropped_some (suc n) lt = refl
