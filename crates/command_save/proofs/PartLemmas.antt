-- The first part of a play ends in a world that can be saved.
use Rattle.std.proofs.Common.{arith, ◌≡◌, ◌≢◌, ◌<◌, ◌≤◌, ◌+◌, ◌^◌, ℕ, inl, inr, List, ◌++◌, min, Result, Err, sym, ◌∙◌, subst}
use Rattle.nwq_value.specs.Engine.{EngineTable}
use Rattle.nwq_value.specs.Limits.{event_limit}
use Rattle.nwq_outside.specs.Outside.{Contents, TookPrefix}
use Rattle.gff_tree.specs.Whole.{PlainGff}
use Rattle.area_rules.specs.Area.{PlainArea}
use Rattle.plan_text.specs.declared.plan.Plan.{Plan}
use Rattle.plan_text.specs.Plans.{IsPlan, limits_of}
use Rattle.saved_state.specs.declared.saved.Saved.{Saved}
use Rattle.hook_table.specs.declared.hook.Known.{Known}
use Rattle.world_rules.specs.World.{World}
use Rattle.world_rules.specs.Pure.{CellLookup}
use Rattle.world_rules.specs.Trace.{trace_text}
use Rattle.world_rules.specs.Plays as plays
use Rattle.world_rules.specs.Plays.{PlayEnd, Played}
use Rattle.machine_rules.specs.Machine.{Script}
use Rattle.world_core.specs.Calls.{cells_of}
use Rattle.ncs_machine.specs.declared.scripts.Loaded.{Loaded}
use Rattle.ncs_machine.specs.Host.{scripts_of, tables_of}
use Rattle.ncs_machine.specs.Settings.{CodeSetting, checked_listing, code_setting, scripts_in}
use Rattle.ncs_machine.specs.Stored.{StatesFit}
use Rattle.module_player.specs.Answers.{EndsAs}
use Rattle.module_player.specs.EndTexts.{IsEnding}
use Rattle.module_player.specs.Resting.{CanRest, PlaysCanRest}
use Rattle.module_player.specs.declared.played.How.{How}
use Rattle.module_player.specs.declared.played.How.TheVariants.{Done, InstrStop, EntryStop, Pause, Fault, NoMemory}
use Rattle.module_player.specs.declared.played.Played.{Played as Answer}
use Rattle.play_save.specs.Rules.{IsAreaOf}
use Rattle.play_worlds.specs.Worlds.{plan_world}
use Rattle.play_worlds.specs.Fresh.{PlanWorldsAreFresh}
use Rattle.command_work.specs.declared.status.Status.{Status}
use Rattle.command_work.specs.Work.{Does, CutsShort, Finished}
use Rattle.command_work.specs.Counts.{Counts, Tallies}
use Rattle.command_plays.specs.Plays.{played_first}
use Rattle.command_save.specs.declared.inputs.HeaderFile.{HeaderFile}
use Rattle.command_save.specs.declared.inputs.AreaFile.{AreaFile}
use Rattle.command_save.specs.Saves.{saves_by, saves_plan}
use Rattle.command_save.specs.Tellings.{MaySave, WhereBroken}

-- the play in the setting that is made
pub first_in : (s : CodeSetting) (scripts : List Loaded) (table : EngineTable) (hooks : List Known) → s ≡ code_setting (checked_listing scripts table) hooks → (plan : Plan) (n : ℕ) (w : World Saved)
    (P : Played Saved → Type 0) → P (played_first (cells_of s.hooks) s.table plan (scripts_in s) n w) → P (played_first (cells_of hooks) table plan (scripts_of scripts) n w)
first_in s scripts table hooks same plan n w P h = subst (λ (t : CodeSetting). P (played_first (cells_of t.hooks) t.table plan (scripts_in t) n w)) same h

where_broken : (how : How) (fact : Type 0) (ending : PlayEnd) → EndsAs how ending → (ending ≢ plays.StoppedInside → fact) → WhereBroken how fact
where_broken Done fact ending is so = so (λ e. absurd (let a = is in let b = e in cc))
where_broken EntryStop fact ending is so = so (λ e. absurd (let a = is in let b = e in cc))
where_broken Pause fact ending is so = so (λ e. absurd (let a = is in let b = e in cc))
where_broken InstrStop fact ending is so = tt
where_broken Fault fact ending is so = tt
where_broken NoMemory fact ending is so = tt

module _ (rest : PlaysCanRest) (fresh : PlanWorldsAreFresh) (scripts : List Loaded) (table : EngineTable) (hooks : List Known) (area : PlainArea) (file : List ℕ) (plan : Plan) (n : ℕ)
    (kept : IsPlan plan) (of : IsAreaOf area.tree file) (w : World Saved) (answer : Answer) where
  abbrev first : Played Saved
  first = played_first (cells_of hooks) table plan (scripts_of scripts) n (plan_world area plan)

  can_rest : first.ending ≢ plays.StoppedInside → CanRest (plan_world area plan).area.tree plan.entries plan.until first.last
  can_rest broken =
      let begins = fresh area plan kept in
      let early : (plan_world area plan).clock ≤ plan.until = let e = begins.clock in omega arith in
      rest scripts table hooks plan.limit plan.entries plan.until (min n plan.entries) 0 0 (plan_world area plan) kept.until.1 (omega arith)
      (record { between = begins.between; version = begins.version; random = begins.random; clock = early; due = begins.due }) broken

  saved_of : IsEnding answer first w → StatesFit (scripts_of scripts) (tables_of scripts) w → w.agenda.next < 2 ^ 61 → answer.instructions < 2 ^ 61
      → CanRest (plan_world area plan).area.tree plan.entries plan.until first.last → MaySave scripts file (limits_of plan) w answer
  saved_of ends fit next executed can =
      let there : CanRest (plan_world area plan).area.tree plan.entries plan.until (record first.last { world = w }) =
      subst (λ (v : World Saved). CanRest (plan_world area plan).area.tree plan.entries plan.until (record first.last { world = v })) (sym ends.world) can in
      record {
        rests = record {
          file = subst (λ (g : PlainGff). IsAreaOf g file) (sym (fresh area plan kept).tree ∙ sym there.file) of;
          version = there.version;
          random = there.random;
          next = next;
          due = there.due;
          turns = there.turns;
          idle = there.idle;
          fit = fit;
        };
        come = record { entries = subst (λ (k : ℕ). k ≤ plan.entries) (sym ends.entries) there.entries; clock = there.clock; instructions = executed };
      }

  pub may_save : IsEnding answer first w → StatesFit (scripts_of scripts) (tables_of scripts) w → w.agenda.next ≤ event_limit + 2 ^ 45
      → answer.instructions ≤ 2 ^ 45 → WhereBroken answer.how (MaySave scripts file (limits_of plan) w answer)
  may_save ends fit posted executed =
      where_broken answer.how (MaySave scripts file (limits_of plan) w answer) first.ending ends.ending
      (λ broken. saved_of ends fit (let p = posted in omega (arith, p)) (let e = executed in omega (arith, e)) (can_rest broken))

-- ---- the work

module _ (cell : CellLookup) (header : HeaderFile) (area : AreaFile) (plan : Plan) (scripts : List Script) (n : ℕ) (name : List ℕ) (c c' : Contents) (t t1 : List ℕ) where
  abbrev begun : Played Saved
  begun = played_first cell header.table plan scripts n (plan_world area.area plan)

  pub first_cut : (e : Status) → CutsShort e × TookPrefix (trace_text begun.last.trace) t t1 → c' ≡ c → Does (saves_plan cell header plan scripts n name area) c t (Err e) c' t1
  unfolding saves_plan
  first_cut e h same = inl (h.0, same, h.1)

  pub first_whole : (r : Result Finished Status) (t' : List ℕ) → t1 ≡ t ++ trace_text begun.last.trace
      → Does (saves_by begun.ending header area.bytes plan scripts name begun) c t1 r c' t' → Does (saves_plan cell header plan scripts n name area) c t r c' t'
  unfolding saves_plan
  first_whole r t' taken does = inr (subst (λ (x : List ℕ). Does (saves_by begun.ending header area.bytes plan scripts name begun) c x r c' t') taken does)

-- the counts of a part that was done go on to those of the next
pub counted_on : (r : Result Finished Status) (before between after : Counts) → between ≡ before → Tallies r between after → Tallies r before after
counted_on r before between after same tallies = subst (λ (x : Counts). Tallies r x after) same tallies

pub ruleset parts = (first_cut, first_whole, counted_on)

-- what is said of a world and of how far its play came, is said of equal ones
pub of_equal : {W P : Type 0} (Q : W → P → Type 0) (w w' : W) (p p' : P) → w ≡ w' → p ≡ p' → Q w' p' → Q w p
of_equal Q w w' p p' one two holds = subst (λ x. Q x p) (sym one) (subst (λ y. Q w' y) (sym two) holds)
