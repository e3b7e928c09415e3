-- The play of a made play's code.
use Rattle.std.proofs.Common.{◌≡◌, ◌++◌, ℕ, inr, List, [], codes, Result, Err, refl, ap, subst, ◌∙◌}
use Rattle.nwq_value.specs.Engine.{EngineTable}
use Rattle.nwq_value.specs.HeaderTable.{header_table}
use Rattle.nwq_outside.specs.Outside.{Contents}
use Rattle.area_rules.specs.Area.{PlainArea}
use Rattle.ncs_code.specs.Plain.{PlainOp}
use Rattle.plan_text.specs.declared.plan.Plan.{Plan}
use Rattle.saved_state.specs.declared.saved.Saved.{Saved}
use Rattle.world_rules.specs.Pure.{CellLookup}
use Rattle.machine_rules.specs.Machine.{Script}
use Rattle.world_rules.specs.Plays.{Played}
use Rattle.command_work.specs.declared.status.Status.{Status}
use Rattle.command_work.specs.declared.status.Status.TheVariants.{Memory, Limit}
use Rattle.command_work.specs.Work.{Does, CutsShort, Finished}
use Rattle.command_work.specs.Counts.{Refusing}
use Rattle.command_work.specs.Parts.{cut_here}
use Rattle.play_worlds.specs.Worlds.{plan_world}
use Rattle.command_plays.specs.Plays.{plan_played}
use Rattle.command_plays.specs.Scripts.{listed}
use Rattle.command_generate.specs.Generated.{plan_of, made_area, tells, plays_made, source_compiled, generates}

-- ---- a play that is cut

pub play_cut : (n : ℕ) (p : Played Saved) (s : Status) (c : Contents) (t : List ℕ) → CutsShort s → Does (tells n p) c t (Err s) c t
play_cut n p s c t cut = cut_here (tells n p) s c c t t tt cut refl refl

pub cut_limits : (s : Status) → CutsShort s → Refusing Limit s
cut_limits s cut = inr cut

pub ruleset plays = (play_cut, cut_limits)

-- the header, the play of the number or its code is still to be made
pub play_wanted : (cell : CellLookup) (n : ℕ) (c : Contents) (t : List ℕ) → Does (generates cell n) c t (Err Memory) c t
unfolding generates source_compiled
play_wanted cell n c t = cut_here (generates cell n) Memory c c t t tt tt refl refl

-- ---- the play of a number

module _ (cell : CellLookup) (n : ℕ) (ops : List PlainOp) (c : Contents) where
  pub made_cut : (t : List ℕ) → Does (plays_made cell n ops) c t (Err Memory) c t
  unfolding plays_made
  made_cut t = cut_here (plays_made cell n ops) Memory c c t t tt tt refl refl

  pub made_does : (header : EngineTable) (area : PlainArea) (plan : Plan) (scripts : List Script) (r : Result Finished Status) (t t' : List ℕ)
      → header ≡ header_table → area ≡ made_area n → plan ≡ plan_of n → scripts ≡ listed (codes "beat") ops
      → Does (tells n (plan_played cell header plan scripts (plan_world area plan))) c t r c t' → Does (plays_made cell n ops) c t r c t'
  unfolding plays_made
  made_does header area plan scripts r t t' built_in areas plans lists does =
      subst (λ h. Does (tells n (plan_played cell h (plan_of n) (listed (codes "beat") ops) (plan_world (made_area n) (plan_of n)))) c t r c t') built_in
      (subst (λ s. Does (tells n (plan_played cell header (plan_of n) s (plan_world (made_area n) (plan_of n)))) c t r c t') lists
      (subst (λ q. Does (tells n (plan_played cell header q scripts (plan_world (made_area n) q))) c t r c t') plans
      (subst (λ a. Does (tells n (plan_played cell header plan scripts (plan_world a plan))) c t r c t') areas does)))

pub ruleset made = (made_cut)

-- ---- the trace, as it was kept

pub all_kept : (bytes after before text : List ℕ) → bytes ≡ after → after ≡ before ++ text → before ≡ [] → bytes ≡ text
all_kept bytes after before text same took empty = same ∙ took ∙ ap (λ (t : List ℕ). t ++ text) empty
