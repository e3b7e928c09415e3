-- The state that is taken of a play is the one in which it stands.
use Rattle.std.proofs.Common.{◌≡◌, ◌≢◌, ℕ, List, [], ◌∷◌, map, ◌⊎◌, inl, inr, Option, None, Result, Err, refl, sym, ap, ◌∙◌, subst}
use Rattle.std.specs.List.{AllByRecursion}
use Rattle.std.specs.Prelude.{MatchResult}
use Rattle.nwq_outside.specs.Outside.{Contents}
use Rattle.ncs_code.specs.File.{IsCode, file_bytes}
use Rattle.plan_text.specs.declared.plan.Plan.{Plan}
use Rattle.plan_text.specs.Plans.{Limits, limits_of}
use Rattle.saved_state.specs.declared.saved.Saved.{Saved}
use Rattle.world_rules.specs.World.{World}
use Rattle.world_rules.specs.Plays.{PlayEnd, Progress, Played}
use Rattle.machine_rules.specs.Machine.{Script}
use Rattle.ncs_machine.specs.declared.scripts.Loaded.{Loaded}
use Rattle.ncs_machine.specs.Host.{scripts_of}
use Rattle.module_player.specs.CodePlays.{code_end_text}
use Rattle.module_player.specs.Answers.{EndsAs}
use Rattle.module_player.specs.EndTexts.{IsEnding}
use Rattle.module_player.specs.declared.played.How.{How}
use Rattle.module_player.specs.declared.played.How.TheVariants.{Done, InstrStop, EntryStop, Pause, Fault, NoMemory}
use Rattle.module_player.specs.declared.played.Played.{Played as Answer}
use Rattle.state_format.specs.declared.fault.SaveFault.{SaveFault}
use Rattle.state_format.specs.declared.fault.SaveFault.TheVariants as unsaved
use Rattle.state_format.specs.declared.parts.Script.{Script as ScriptPart}
use Rattle.state_format.specs.declared.parts.Parts.{Parts}
use Rattle.state_format.specs.Parts.{HasForm}
use Rattle.play_save.specs.Scripts.{script_parts}
use Rattle.play_save.specs.Rules.{IsAccepted}
use Rattle.play_save.specs.States.{resting, IsPlayOf, HasCome, IsWorldOf, IsStateFor, IsWrittenState, IsLargeState}
use Rattle.command_work.specs.declared.status.Status.{Status}
use Rattle.command_work.specs.declared.status.Status.TheVariants as status
use Rattle.command_work.specs.Work.{Does, Puts, Ends, Finished}
use Rattle.command_work.specs.Counts.{Refusing}
use Rattle.command_work.specs.declared.flaw.AreaFlaw.TheVariants as flaw
use Rattle.command_work.specs.Refusal.{BadArea}
use Rattle.command_work.specs.Parts.{Refuses, cut_here, finds_one}
use Rattle.command_plays.specs.Tellings.{cut_of}
use Rattle.command_save.specs.declared.inputs.HeaderFile.{HeaderFile}
use Rattle.command_save.specs.Saves.{file_of, AreSpelled, IsStateAt, state_told, state_written, saves_at, saves_by}
use Rattle.command_save.specs.Tellings.{IsProgress, WhereBroken}
use Rattle.command_save.proofs.WriteLemmas.{state_put, state_large, cut_refuses}

-- ---- scripts

pub parts_are : (scripts : List Loaded) → script_parts scripts ≡ map file_of (scripts_of scripts)
parts_are [] = refl
parts_are (l ∷ scripts) = ap (λ (ps : List ScriptPart). record { name = l.name; code = file_bytes l.code.code } ∷ ps) (parts_are scripts)

pub are_spelled : (scripts : List Loaded) → AllByRecursion (λ (l : Loaded). IsCode l.code.code) scripts → AreSpelled (scripts_of scripts)
are_spelled [] all = tt
are_spelled (l ∷ scripts) all = (all.0, are_spelled scripts all.1)

-- ---- the state

pub state_at : (header : HeaderFile) (text : Option (List ℕ)) (file area : List ℕ) (plan : Plan) (scripts : List Loaded) (w : World Saved) (answer : Answer) (s : Parts)
    → text ≡ header.text → area ≡ file → IsPlayOf s text (script_parts scripts) area (limits_of plan) → HasCome s answer.entries answer.instructions
    → IsWorldOf s (resting w) → AllByRecursion (λ (l : Loaded). IsCode l.code.code) scripts → HasForm s → IsAccepted s
    → (p : Progress Saved) → IsProgress answer w p → IsStateAt header file plan (scripts_of scripts) p s
state_at header text file area plan scripts w answer s same_text same_area play come world code form accepted p is = record {
  form = λ small. form;
  accepted = accepted;
  play = record {
    header = play.header ∙ same_text;
    scripts = play.scripts ∙ parts_are scripts;
    area = play.area ∙ same_area;
    limit = play.limit;
    entries = play.entries;
    until = play.until;
  };
  spelled = are_spelled scripts code;
  come = record { taken = come.taken ∙ is.entries; done = come.done ∙ is.instructions };
  world = subst (λ (v : World Saved). IsWorldOf s (resting v)) is.world world;
}

-- by limits that are the plan's
pub for_limits : {A : Type 0} (items : A → List ℕ) (text : Option (List ℕ)) (scripts : List Loaded) (file : List ℕ) {limits own : Limits} (taken done : ℕ) (w : World Saved) (r : Result A SaveFault)
    → limits ≡ own
    → MatchResult r (λ v. IsWrittenState (IsStateFor text scripts file limits taken done w) (items v)) (IsLargeState (IsStateFor text scripts file limits taken done w))
    → MatchResult r (λ v. IsWrittenState (IsStateFor text scripts file own taken done w) (items v)) (IsLargeState (IsStateFor text scripts file own taken done w))
for_limits items text scripts file taken done w r same exact =
    subst (λ (l : Limits). MatchResult r (λ v. IsWrittenState (IsStateFor text scripts file l taken done w) (items v)) (IsLargeState (IsStateFor text scripts file l taken done w))) same exact

-- the state of a play is the one in which it stands
pub state_for : (header : HeaderFile) (text : Option (List ℕ)) (file area : List ℕ) (plan : Plan) (scripts : List Loaded) (w : World Saved) (answer : Answer) → text ≡ header.text → area ≡ file
    → (p : Progress Saved) → IsProgress answer w p → (s : Parts) → IsStateFor text scripts area (limits_of plan) answer.entries answer.instructions w s
    → IsStateAt header file plan (scripts_of scripts) p s
state_for header text file area plan scripts w answer same_text same_area p is s state =
    state_at header text file area plan scripts w answer s same_text same_area state.play state.come state.world state.code state.form state.accepted p is

pub written_for : {P Q : Parts → Type 0} (f : (s : Parts) → P s → Q s) (v : List ℕ) → IsWrittenState P v → IsWrittenState Q v
written_for f v found = (found.0, f found.0 found.1, found.2)

pub large_for : {P Q : Parts → Type 0} (f : (s : Parts) → P s → Q s) (e : SaveFault) → IsLargeState P e → IsLargeState Q e
large_for f (unsaved.Large size) found = (found.0, f found.0 found.1, found.2)
large_for f unsaved.NoMemory found = tt

-- ---- the work

module _ (header : HeaderFile) (file : List ℕ) (plan : Plan) (scripts : List Script) (name : List ℕ) (p : Progress Saved) where
  pub at_does : (s : Parts) (r : Result Finished Status) (c c' : Contents) (t t' : List ℕ) → IsStateAt header file plan scripts p s
      → Does (state_written name s) c t r c' t' → Does (saves_at header file plan scripts name p) c t r c' t'
  unfolding saves_at
  at_does s r c c' t t' is does = finds_one (λ (d : Contents) (x : Parts). IsStateAt header file plan scripts p x) (state_written name) s c c' t t' r is does

  -- its bytes are written
  pub at_written : (bytes : List ℕ) (answer : Answer) (w : World Saved) (r : Result Finished Status) (c c' : Contents) (t t' : List ℕ) → IsProgress answer w p
      → IsWrittenState (IsStateAt header file plan scripts p) bytes → Does (state_told name bytes answer.entries) c t r c' t' → Does (saves_at header file plan scripts name p) c t r c' t'
  at_written bytes answer w r c c' t t' is found does =
      at_does found.0 r c c' t t' found.1 (state_put name found.0 bytes answer.entries r c c' t t' found.2.0 found.2.1 (found.1.come.taken ∙ sym is.entries) does)

  -- or they are too many
  pub at_large : (size : ℕ) (answer : Status) (c : Contents) (t t' : List ℕ) → IsLargeState (IsStateAt header file plan scripts p) (unsaved.Large size)
      → Refuses (BadArea name (flaw.Large size)) t answer t' → Does (saves_at header file plan scripts name p) c t (Err answer) c t'
  at_large size answer c t t' found refused =
      at_does found.0 (Err answer) c c t t' found.1 (state_large name found.0 size answer c t t' found.2 refused)

  pub at_cut : (c : Contents) (t : List ℕ) → Does (saves_at header file plan scripts name p) c t (Err status.Memory) c t
  unfolding saves_at
  at_cut c t = cut_here (saves_at header file plan scripts name p) status.Memory c c t t tt tt refl refl

pub memory_refuses : Refusing status.Area status.Memory
memory_refuses = inr tt

pub ruleset saves = (at_written, at_large, at_cut, memory_refuses, cut_refuses)

-- ---- by how the play ended

pub progress_is : (answer : Answer) (w : World Saved) (p : Played Saved) → IsEnding answer p w → IsProgress answer w p.last
progress_is answer w p is = record { entries = is.entries; instructions = is.instructions; world = is.world }

module _ (header : HeaderFile) (file : List ℕ) (plan : Plan) (scripts : List Script) (name : List ℕ) (p : Played Saved) (r : Result Finished Status) (c c' : Contents) (t t' : List ℕ) where
  pub broken_does : (how : How) (ending : PlayEnd) → EndsAs how ending → how ≢ InstrStop → cut_of how ≡ None → Does (saves_at header file plan scripts name p.last) c t r c' t'
      → Does (saves_by ending header file plan scripts name p) c t r c' t'
  broken_does Done ending is apart told does = subst (λ (e : PlayEnd). Does (saves_by e header file plan scripts name p) c t r c' t') (sym is) does
  broken_does EntryStop ending is apart told does = subst (λ (e : PlayEnd). Does (saves_by e header file plan scripts name p) c t r c' t') (sym is) does
  broken_does Pause ending is apart told does = subst (λ (e : PlayEnd). Does (saves_by e header file plan scripts name p) c t r c' t') (sym is) does
  broken_does InstrStop ending is apart told does = absurd (apart refl)
  broken_does Fault ending is apart told does = absurd cc
  broken_does NoMemory ending is apart told does = absurd cc

  pub stopped_does : (ending : PlayEnd) → EndsAs InstrStop ending → Does {A = Finished} (Puts (code_end_text scripts p) (Ends status.Limit)) c t r c' t'
      → Does (saves_by ending header file plan scripts name p) c t r c' t'
  stopped_does ending is does = subst (λ (e : PlayEnd). Does (saves_by e header file plan scripts name p) c t r c' t') (sym is) does

-- what is known of every play that isn't inside an entry is known of these
pub between_entries : (how : How) (Fact : Type 0) → (how ≡ Done) ⊎ ((how ≡ EntryStop) ⊎ (how ≡ Pause)) → WhereBroken how Fact → Fact
between_entries how Fact (inl is) broken = subst (λ (h : How). WhereBroken h Fact) is broken
between_entries how Fact (inr (inl is)) broken = subst (λ (h : How). WhereBroken h Fact) is broken
between_entries how Fact (inr (inr is)) broken = subst (λ (h : How). WhereBroken h Fact) is broken

pub ruleset endings = (broken_does, stopped_does, progress_is)

-- ---- a play that was stopped inside an entry

pub end_told : (scripts : List Script) (p : Played Saved) (text : List ℕ) (r : Result Finished Status) (c : Contents) (t t' : List ℕ) → text ≡ code_end_text scripts p
    → Does {A = Finished} (Puts text (Ends status.Limit)) c t r c t' → Does {A = Finished} (Puts (code_end_text scripts p) (Ends status.Limit)) c t r c t'
end_told scripts p text r c t t' is does = subst (λ (x : List ℕ). Does {A = Finished} (Puts x (Ends status.Limit)) c t r c t') is does

pub end_cut : (text : List ℕ) (c : Contents) (t : List ℕ) → Does {A = Finished} (Puts text (Ends status.Limit)) c t (Err status.Memory) c t
end_cut text c t = cut_here (Puts text (Ends status.Limit)) status.Memory c c t t tt tt refl refl

pub memory_limits : Refusing status.Limit status.Memory
memory_limits = inr tt

pub ruleset stopped = (end_told, end_cut, memory_limits)

pub ruleset states = (state_at)
