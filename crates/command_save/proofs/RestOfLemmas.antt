-- What a state opens can be played on, and its play is the rest of the one that was saved.
use Rattle.std.proofs.Common.{arith, ◌≡◌, ◌≢◌, ◌<◌, ◌≤◌, ◌^◌, ◌+◌, ℕ, inl, inr, List, ◌++◌, length, None, Result, Err, refl, sym, ap, ◌∙◌, subst}
use Rattle.std.specs.List.{AllByRecursion}
use Rattle.nwq_outside.specs.Outside.{Contents, TookPrefix}
use Rattle.ncs_code.specs.File.{IsCode}
use Rattle.saved_state.specs.declared.saved.Saved.{Saved}
use Rattle.stack_rules.specs.Laws.{AllMeet}
use Rattle.hook_table.specs.declared.hook.Known.{Known}
use Rattle.world_rules.specs.World.{World}
use Rattle.world_rules.specs.Pure.{CellLookup}
use Rattle.world_rules.specs.Trace.{trace_text}
use Rattle.world_rules.specs.Plays as plays
use Rattle.world_rules.specs.Plays.{PlayEnd, Played}
use Rattle.machine_rules.specs.Machine.{Script}
use Rattle.world_core.specs.Calls.{cells_of}
use Rattle.ncs_machine.specs.declared.scripts.Loaded.{Loaded}
use Rattle.ncs_machine.specs.Host.{scripts_of, tables_of}
use Rattle.ncs_machine.specs.Settings.{CodeSetting, checked_listing, code_setting}
use Rattle.ncs_machine.specs.Stored.{StatesFit}
use Rattle.module_player.specs.Answers.{EndsAs}
use Rattle.module_player.specs.CodePlays.{code_runner, played_before}
use Rattle.module_player.specs.EndTexts.{HasText}
use Rattle.module_player.specs.Limits.{limits_in}
use Rattle.module_player.specs.declared.played.How.{How}
use Rattle.module_player.specs.declared.played.How.TheVariants.{Done, InstrStop, EntryStop, Pause, Fault, NoMemory}
use Rattle.state_format.specs.declared.parts.Parts.{Parts}
use Rattle.plan_text.specs.Plans.{Limits}
use Rattle.play_save.specs.declared.state.Opened.{Opened}
use Rattle.play_save.specs.Scripts.{script_parts}
use Rattle.play_save.specs.Rules.{IsHeaderOf, IsAccepted}
use Rattle.play_save.specs.States.{IsPlayOf, HasCome, IsWorldOf}
use Rattle.command_work.specs.declared.status.Status.{Status}
use Rattle.command_work.specs.declared.status.Status.TheVariants.{Memory}
use Rattle.command_work.specs.Work.{Does, CutsShort, Finished}
use Rattle.command_work.specs.Parts.{cut_here, finds_one}
use Rattle.command_plays.specs.Plays.{host_of, played_on, played_on_in}
use Rattle.command_plays.specs.Tellings.{cut_of}
use Rattle.command_play.specs.Games.{tells_end, tells}
use Rattle.command_save.specs.Resumes.{Going, GoesFrom, played_rest, resumes_from, resumes_state}
use Rattle.command_save.specs.Tellings.{MayGoOn, rest_of}
use Rattle.command_save.proofs.GoingLemmas.{on_ends}
use Rattle.command_save.proofs.StateLemmas.{parts_are, are_spelled}

-- ---- the play in the setting that is made of what is opened

pub rest_in : (s : CodeSetting) (o : Opened) (hooks : List Known) → s ≡ code_setting (checked_listing o.scripts o.table) hooks → (P : Played Saved → Type 0)
    → P (played_on_in s o.limits (o.limits.entries + 1) o.taken o.done o.world.world) → P (rest_of (cells_of hooks) o)
rest_in s o hooks same P h =
    subst (λ (t : CodeSetting). P (played_on_in t o.limits (o.limits.entries + 1) o.taken o.done o.world.world)) same h

-- ---- the end is told

text_told : (how : How) (ending : PlayEnd) → cut_of how ≡ None → EndsAs how ending → ending ≢ plays.Paused → HasText how
text_told Done ending told is ends = tt
text_told InstrStop ending told is ends = tt
text_told EntryStop ending told is ends = tt
text_told Pause ending told is ends = absurd (ends is)
text_told Fault ending told is ends = absurd cc
text_told NoMemory ending told is ends = absurd cc

rest_ends : (cell : CellLookup) (o : Opened) → o.taken ≤ o.limits.entries → (rest_of cell o).ending ≢ plays.Paused
rest_ends cell o within =
    on_ends (code_runner (host_of cell o.table (scripts_of o.scripts)) o.limits.instructions)
    (record { entries = o.limits.entries; until = o.limits.until; stop = o.limits.entries + 1 })
    (played_before o.taken o.done o.world.world) within

pub has_text : (cell : CellLookup) (o : Opened) (how : How) → o.taken ≤ o.limits.entries → cut_of how ≡ None → EndsAs how (rest_of cell o).ending → HasText how
has_text cell o how within told ends = text_told how (rest_of cell o).ending told ends (rest_ends cell o within)

-- ---- the work of what is told

module _ (to : List ℕ) (scripts : List Script) (p : Played Saved) (c c' : Contents) (t t1 : List ℕ) where
  pub told_cut : (e : Status) → CutsShort e × TookPrefix (trace_text p.last.trace) t t1 → c' ≡ c → Does (tells to scripts p) c t (Err e) c' t1
  told_cut e h same = inl (h.0, same, h.1)

  pub told_whole : (r : Result Finished Status) (t' : List ℕ) → t1 ≡ t ++ trace_text p.last.trace → Does (tells_end to scripts p) c t1 r c' t'
      → Does (tells to scripts p) c t r c' t'
  told_whole r t' taken does = inr (subst (λ (x : List ℕ). Does (tells_end to scripts p) c x r c' t') taken does)

pub ruleset rests = (told_cut, told_whole)

-- ---- what a state opens

pub may_go_on : (s : Parts) (o : Opened) → IsAccepted s → IsPlayOf s s.header (script_parts o.scripts) s.area (limits_in o.limits) → HasCome s o.taken o.done
    → IsWorldOf s o.world.world → length o.scripts < 2 ^ 32 → AllMeet o.table (scripts_of o.scripts) (tables_of o.scripts)
    → StatesFit (scripts_of o.scripts) (tables_of o.scripts) o.world.world → MayGoOn o
may_go_on s o accepted play come world few meets fit =
    let limits = accepted.1.1.1.0 in
    let next : o.world.world.agenda.next ≡ s.next = ap (λ (w : World Saved). w.agenda.next) world.world in
    record {
      few = few;
      meets = meets;
      fit = fit;
      quiet = ap (λ (w : World Saved). w.trace) world.world;
      next = let most = limits.counts.next in omega (arith, next, most);
      taken = let most = limits.counts.taken in let same = play.entries in let count = come.taken in omega (arith, same, count, most);
      done = let most = limits.counts.done in let count = come.done in omega (arith, count, most);
    }

module _ (cell : CellLookup) (to : List ℕ) (s : Parts) (o : Opened) (play : IsPlayOf s s.header (script_parts o.scripts) s.area (limits_in o.limits)) (come : HasCome s o.taken o.done) where
  abbrev going : Going
  going = record { table = o.table; scripts = scripts_of o.scripts; world = o.world.world }

  abbrev part : Limits → ℕ → ℕ → Played Saved
  part limits taken done = played_on cell o.table limits (scripts_of o.scripts) (limits.1 + 1) taken done o.world.world

  same_rest : rest_of cell o ≡ played_rest cell s going
  same_rest =
      ap (λ (n : ℕ). part (n, o.limits.entries, o.limits.until) o.taken o.done) (sym play.limit)
      ∙ ap (λ (n : ℕ). part (s.limit, n, o.limits.until) o.taken o.done) (sym play.entries)
      ∙ ap (λ (n : ℕ). part (s.limit, s.entries, n) o.taken o.done) (sym play.until)
      ∙ ap (λ (n : ℕ). part (s.limit, s.entries, s.until) n o.done) (sym come.taken)
      ∙ ap (λ (n : ℕ). part (s.limit, s.entries, s.until) s.taken n) (sym come.done)

  pub opened_does : (r : Result Finished Status) (c c' : Contents) (t t' : List ℕ) → IsHeaderOf s.header o.table → IsWorldOf s o.world.world
      → AllByRecursion (λ (l : Loaded). IsCode l.code.code) o.scripts → Does (tells to (scripts_of o.scripts) (rest_of cell o)) c t r c' t'
      → Does (resumes_state cell to s) c t r c' t'
  unfolding resumes_state resumes_from
  opened_does r c c' t t' headed world code does =
      let goes : GoesFrom s going = record { header = headed; scripts = play.scripts ∙ parts_are o.scripts; spelled = are_spelled o.scripts code; world = world } in
      finds_one (λ (d : Contents) (g : Going). GoesFrom s g) (resumes_from cell to s) going c c' t t' r goes
      (subst (λ (p : Played Saved). Does (tells to (scripts_of o.scripts) p) c t r c' t') same_rest does)

pub states_cut : (cell : CellLookup) (to : List ℕ) (s : Parts) (c : Contents) (t : List ℕ) → Does (resumes_state cell to s) c t (Err Memory) c t
unfolding resumes_state
states_cut cell to s c t = cut_here (resumes_state cell to s) Memory c c t t tt tt refl refl

pub ruleset states = (states_cut)
