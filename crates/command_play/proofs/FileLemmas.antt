-- A plan lists few scripts.
use Rattle.std.proofs.Common.{◌≡◌, ◌<◌, ◌^◌, ℕ, length, arith}
use Rattle.plan_text.specs.declared.plan.Plan.{Plan}
use Rattle.plan_text.specs.Plans.{IsPlan}

pub few_listed : (plan : Plan) (kept : IsPlan plan) (n : ℕ) → n ≡ length plan.scripts → n < 2 ^ 32
few_listed plan kept n is = omega (arith, is, kept.few_scripts)
