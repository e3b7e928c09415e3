-- A play that is told does the work of its trace and its end.
use Rattle.std.proofs.Common.{◌≡◌, ℕ, inl, inr, List, ◌++◌, Result, Err, subst}
use Rattle.nwq_value.specs.Engine.{EngineTable}
use Rattle.nwq_outside.specs.Outside.{Contents, TookPrefix}
use Rattle.area_rules.specs.Area.{PlainArea}
use Rattle.plan_text.specs.declared.plan.Plan.{Plan}
use Rattle.plan_text.specs.declared.plan.Script.{Script as ScriptLine}
use Rattle.world_rules.specs.Pure.{CellLookup}
use Rattle.world_rules.specs.Trace.{trace_text}
use Rattle.machine_rules.specs.Machine.{Script}
use Rattle.hook_table.specs.declared.hook.Known.{Known}
use Rattle.world_core.specs.Calls.{cells_of}
use Rattle.ncs_machine.specs.declared.scripts.Loaded.{Loaded}
use Rattle.ncs_machine.specs.Host.{scripts_of}
use Rattle.ncs_machine.specs.Settings.{CodeSetting, checked_listing, code_setting}
use Rattle.command_work.specs.declared.status.Status.{Status}
use Rattle.command_work.specs.Work.{Does, CutsShort, Finished}
use Rattle.play_inputs.specs.Listings.{scripts_listed}
use Rattle.play_worlds.specs.Worlds.{plan_world}
use Rattle.command_plays.specs.Plays.{plan_played}
use Rattle.command_play.specs.Games.{tells_end, plays_plan, plays_plan_in}

module _ (cell : CellLookup) (header : EngineTable) (area : PlainArea) (plan : Plan) (to : List ℕ) (scripts : List Script) (c c' : Contents) (t t1 : List ℕ) where
  pub trace_cut : (e : Status) → CutsShort e × TookPrefix (trace_text (plan_played cell header plan scripts (plan_world area plan)).last.trace) t t1 → c' ≡ c
      → Does (plays_plan cell header area plan scripts to) c t (Err e) c' t1
  unfolding plays_plan
  trace_cut e h same = inl (h.0, same, h.1)

  pub trace_whole : (r : Result Finished Status) (t' : List ℕ) → t1 ≡ t ++ trace_text (plan_played cell header plan scripts (plan_world area plan)).last.trace
      → Does (tells_end to scripts (plan_played cell header plan scripts (plan_world area plan))) c t1 r c' t'
      → Does (plays_plan cell header area plan scripts to) c t r c' t'
  unfolding plays_plan
  trace_whole r t' taken does =
      inr (subst (λ x. Does (tells_end to scripts (plan_played cell header plan scripts (plan_world area plan))) c x r c' t') taken does)

pub ruleset plays_in = (trace_cut, trace_whole)

-- ---- in the setting that is made of what was listed

pub plan_in : (s : CodeSetting) (scripts : List Loaded) (table : EngineTable) (hooks : List Known) (area : PlainArea) (plan : Plan) (to : List ℕ)
    (r : Result Finished Status) (c c' : Contents) (t t' : List ℕ) → s ≡ code_setting (checked_listing scripts table) hooks
    → Does (plays_plan_in s area plan to) c t r c' t' → Does (plays_plan (cells_of hooks) table area plan (scripts_of scripts) to) c t r c' t'
plan_in s scripts table hooks area plan to r c c' t t' same does = subst (λ (x : CodeSetting). Does (plays_plan_in x area plan to) c t r c' t') same does

-- ---- lines of scripts, as they are handed on

pub listed_in : (header : EngineTable) (lines own : List ScriptLine) (r : Result (List Script) Status) (c c' : Contents) (t t' : List ℕ) → lines ≡ own
    → Does (scripts_listed header lines) c t r c' t' → Does (scripts_listed header own) c t r c' t'
listed_in header lines own r c c' t t' same does = subst (λ (ls : List ScriptLine). Does (scripts_listed header ls) c t r c' t') same does
