-- One thing comes of a plan's text.
use Rattle.std.proofs.Common.{◌≡◌, ℕ, List, ap}
use Rattle.plan_text.specs.Plans.{OnePlan}
use Rattle.command_work.specs.Outcomes.{IsSure, sure_then, sure_file}
use Rattle.command_work.specs.Work.{file_named}
use Rattle.play_inputs.specs.Plans.{PlanFate, Whole, Faulty, IsPlanFate, whole, faulty, plan_by, plan_in, plan_named}
use Rattle.play_inputs.specs.Laws.{SurePlans}

module _ (one : OnePlan) (bytes : List ℕ) where
  one_fate : {a b : PlanFate} → IsPlanFate bytes a → IsPlanFate bytes b → a ≡ b
  one_fate (whole x h) (whole y k) = ap Whole (one.one_plan bytes x y h k)
  one_fate (whole x h) (faulty n k) = absurd (one.not_both bytes x n h k)
  one_fate (faulty n h) (whole y k) = absurd (one.not_both bytes y n k h)
  one_fate (faulty n h) (faulty m k) = ap Faulty (one.one_fault bytes n m h k)

sure_by : (name : List ℕ) (fate : PlanFate) → IsSure (plan_by name fate)
sure_by name (Whole plan) = tt
sure_by name (Faulty line) = tt

module _ (one : OnePlan) where
  sure_in : (name bytes : List ℕ) → IsSure (plan_in name bytes)
  unfolding plan_in
  sure_in name bytes = (λ c a b p q. one_fate one bytes p q, sure_by name)

  pub sure_plans : SurePlans
  unfolding plan_named
  sure_plans name = sure_then (file_named name) (plan_in name) (sure_file name) (sure_in name)
