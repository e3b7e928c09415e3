-- What comes of a plan's text does its work.
use Rattle.std.proofs.Common.{ℕ, List, Result, Ok, Err, refl}
use Rattle.nwq_outside.specs.Outside.{Contents}
use Rattle.plan_text.specs.declared.plan.Plan.{Plan}
use Rattle.plan_text.specs.declared.fault.PlanFault.TheVariants as fault
use Rattle.plan_text.specs.Plans.{HasPlan, IsFaulty}
use Rattle.command_work.specs.declared.flaw.AreaFlaw.TheVariants as flaw
use Rattle.command_work.specs.declared.status.Status.{Status}
use Rattle.command_work.specs.declared.status.Status.TheVariants.{Memory}
use Rattle.command_work.specs.Refusal.{BadArea}
use Rattle.command_work.specs.Work.{Does}
use Rattle.command_work.specs.Parts.{Refuses, cut_here, finds_one, refused}
use Rattle.play_inputs.specs.Plans.{PlanFate, Whole, Faulty, IsPlanFate, whole, faulty, plan_by, plan_in}

module _ (name bytes : List ℕ) (c : Contents) where
  goes : (fate : PlanFate) (r : Result Plan Status) (t t' : List ℕ) → IsPlanFate bytes fate → Does (plan_by name fate) c t r c t'
      → Does (plan_in name bytes) c t r c t'
  unfolding plan_in
  goes fate r t t' is does = finds_one (λ (d : Contents) (f : PlanFate). IsPlanFate bytes f) (plan_by name) fate c c t t' r is does

  pub plan_does : (plan : Plan) (t : List ℕ) → HasPlan bytes plan → Does (plan_in name bytes) c t (Ok plan) c t
  plan_does plan t has = goes (Whole plan) (Ok plan) t t (whole plan has) (refl, (refl, refl))

  pub plan_faulty : (line : ℕ) (answer : Status) (t t' : List ℕ) → IsFaulty bytes (fault.Line line) → Refuses (BadArea name (flaw.Line line)) t answer t'
      → Does (plan_in name bytes) c t (Err answer) c t'
  plan_faulty line answer t t' is h =
      goes (Faulty line) (Err answer) t t' (faulty line is) (refused (BadArea name (flaw.Line line)) answer c t t' h)

  pub plan_cut : (t : List ℕ) → Does (plan_in name bytes) c t (Err Memory) c t
  unfolding plan_in
  plan_cut t = cut_here (plan_in name bytes) Memory c c t t tt tt refl refl

pub ruleset plans = (plan_does, plan_faulty, plan_cut)
