-- How often files are read for a plan and for the scripts that it lists: each once, where its turn
-- comes.
use Rattle.std.specs.Prelude.{◌≡◌, ℕ, Bool, true, false, List, [], ◌∷◌, ◌++◌, Some}
use Rattle.nwq_outside.specs.Outside.{Contents, content, next}
use Rattle.plan_text.specs.declared.plan.Plan.{Plan}
use Rattle.plan_text.specs.declared.plan.Script.{Script as ScriptLine}
use Rattle.plan_text.specs.Plans.{HasPlan}
use Rattle.command_work.specs.Counts.{KeepsBut}
use Rattle.command_sources.specs.Reads.{ReadsUnit}
use Rattle.play_inputs.specs.Listings.{IsOwnFile}

-- the file of this name has this plan
pub record HasPlanFile (c : Contents) (name : List ℕ) (plan : Plan) : Type 0 where
  pub bytes : List ℕ
  pub held : content c name ≡ Some bytes
  pub is : HasPlan bytes plan

-- there was one read for a binary, or for each file of a source's unit
abbrev pub ReadsCode : Bool → Contents → List ℕ → ℕ → ℕ → Type 0
ReadsCode true c name before now = now ≡ next before
ReadsCode false c name before now = ReadsUnit c name before now

-- so there were for each of these lines, in their order: before each one those before it were read,
-- and the files of their sources written
pub data ReadsLines : List ScriptLine → Contents → Contents → ℕ → ℕ → Type 0 where
  none : (c : Contents) (count : ℕ) → ReadsLines [] c c count count
  more : (lines : List ScriptLine) (line : ScriptLine) (c d e : Contents) (before mid now : ℕ)
      → ReadsLines lines c d before mid
      → ReadsCode line.binary d line.name mid now → KeepsBut (IsOwnFile line) d e
      → ReadsLines (lines ++ line ∷ []) c e before now
