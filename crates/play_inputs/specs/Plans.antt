-- The plan that a command names.
use Rattle.std.specs.Prelude.{ℕ, List}
use Rattle.nwq_outside.specs.Outside.{Contents}
use Rattle.plan_text.specs.declared.plan.Plan.{Plan}
use Rattle.plan_text.specs.declared.fault.PlanFault.TheVariants as fault
use Rattle.plan_text.specs.Plans.{HasPlan, IsFaulty}
use Rattle.command_work.specs.declared.flaw.AreaFlaw.TheVariants as flaw
use Rattle.command_work.specs.Refusal.{BadArea}
use Rattle.command_work.specs.Work.{Work, Gives, Refused, Finds, then, file_named}

-- what comes of a text: its plan, or its first line without a reading
pub data PlanFate : Type 0 where
  Whole : (plan : Plan) → PlanFate
  Faulty : (line : ℕ) → PlanFate

pub data IsPlanFate (bytes : List ℕ) : PlanFate → Type 0 where
  whole : (plan : Plan) → HasPlan bytes plan → IsPlanFate bytes (Whole plan)
  faulty : (line : ℕ) → IsFaulty bytes (fault.Line line) → IsPlanFate bytes (Faulty line)

abbrev pub plan_by : List ℕ → PlanFate → Work Plan
plan_by name (Whole plan) = Gives plan
plan_by name (Faulty line) = Refused (BadArea name (flaw.Line line))

-- the plan of a text, which is that of the file of this name
unfoldable pub plan_in : List ℕ → List ℕ → Work Plan
plan_in name bytes = Finds (λ (c : Contents) fate. IsPlanFate bytes fate) (plan_by name)

-- the plan of the file of this name
unfoldable pub plan_named : List ℕ → Work Plan
plan_named name = then (file_named name) (plan_in name)
