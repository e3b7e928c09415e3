-- The text of a made plan has the plan of its number, and no other.
use Rattle.std.proofs.Common.{◌≡◌, ◌≤◌, ℕ, List, subst, sym}
use Rattle.plan_text.specs.declared.plan.Plan.{Plan}
use Rattle.plan_text.specs.declared.fault.PlanFault.TheVariants.{Line}
use Rattle.plan_text.specs.Plans.{HasPlan, IsFaulty, OnePlan}
use Rattle.play_generator.specs.Made.{number_limit, play_of}
use Rattle.play_generator.specs.Reads.{PlanIsRead}
use Rattle.command_generate.specs.Generated.{plan_of}

module _ (read : PlanIsRead) (one : OnePlan) (n : ℕ) (text : List ℕ) (small : n ≤ number_limit) (is : text ≡ (play_of n).plan) where
  has_plan : HasPlan text (plan_of n)
  has_plan = subst (λ t. HasPlan t (plan_of n)) (sym is) (read n small)

  pub plan_is : (plan : Plan) → HasPlan text plan → plan ≡ plan_of n
  plan_is plan has = one.one_plan text plan (plan_of n) has has_plan

  pub not_faulty : (line : ℕ) → IsFaulty text (Line line) → ⊥
  not_faulty line faulty = one.not_both text (plan_of n) line has_plan faulty

pub ruleset plans = (not_faulty)
