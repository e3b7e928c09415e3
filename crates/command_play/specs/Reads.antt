-- How often files are read for the play of a plan: each once, where its turn comes.
use mathlib.Core.Path.{subst}
use Rattle.std.specs.Prelude.{◌≡◌, ℕ, List, Result, Ok, Err, OnOk}
use Rattle.nwq_outside.specs.Outside.{Contents, next}
use Rattle.plan_text.specs.declared.plan.Plan.{Plan}
use Rattle.plan_text.specs.declared.plan.Script.{Script as ScriptLine}
use Rattle.command_sources.specs.Reads.{header_read}
use Rattle.play_inputs.specs.Reads.{HasPlanFile, ReadsLines}

-- the scripts of these lines were read, and then the area, once
pub record ReadsArea (lines : List ScriptLine) (c : Contents) (before now : ℕ) : Type 0 where
  pub between : Contents
  pub mid : ℕ
  pub scripts : ReadsLines lines c between before mid
  pub area : now ≡ next mid

-- the plan was read once, then the header, unless it is the built-in one, and then scripts and area
pub record ReadsGame (header plan : List ℕ) (c : Contents) (before now : ℕ) : Type 0 where
  pub is : Plan
  pub has : HasPlanFile c plan is
  pub reads : ReadsArea is.scripts c (header_read header (next before)) now

-- what was done before changed nothing
pub area_after : {A B : Type 0} (r : Result A B) (lines : List ScriptLine) (c d : Contents)
    (before mid now : ℕ) → d ≡ c → mid ≡ before
    → OnOk r (ReadsArea lines d mid now) → OnOk r (ReadsArea lines c before now)
area_after r lines c d before mid now same read h =
    subst (λ x. OnOk r (ReadsArea lines x before now)) same
    (subst (λ n. OnOk r (ReadsArea lines d n now)) read h)

pub game_of : {A B : Type 0} (r : Result A B) (header plan : List ℕ) (is : Plan) (c : Contents)
    (before now : ℕ) → HasPlanFile c plan is
    → OnOk r (ReadsArea is.scripts c (header_read header (next before)) now)
    → OnOk r (ReadsGame header plan c before now)
game_of (Ok a) header plan is c before now has reads = record { is = is; has = has; reads = reads }
game_of (Err e) header plan is c before now has reads = tt
