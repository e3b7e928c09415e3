-- What `run` prints and answers of a script is what the script's source means.
use Rattle.std.specs.Prelude.{◌≡◌, ◌≢◌, ℕ, List, [], ◌∷◌, ◌++◌, Result, Ok, Err}
use Rattle.nwq_value.specs.Engine.{EngineTable}
use Rattle.nwq_value.specs.Limits.{default_instruction_limit, default_entry_limit, default_until}
use Rattle.nwq_outside.specs.Outside.{Contents}
use Rattle.typing_rules.specs.Typed.{TypedUnit}
use Rattle.area_rules.specs.Area.{empty_area}
use Rattle.saved_state.specs.declared.saved.Saved.{Saved}
use Rattle.world_rules.specs.Pure.{CellLookup}
use Rattle.world_rules.specs.Trace.{trace_text}
use Rattle.world_rules.specs.Turns.{new_world}
use Rattle.world_rules.specs.World.{World}
use Rattle.world_rules.specs.Plays.{PlayEnd, Done, OutOfEntries, StoppedInside, Paused, Played, unplayed}
use Rattle.module_player.specs.CodePlays.{code_runner, code_end_text}
use Rattle.source_meaning.specs.Evaluation.{Deferred}
use Rattle.source_meaning.specs.Scripts.{Setting}
use Rattle.source_meaning.specs.Plays.{source_play}
use Rattle.source_laws.specs.Carries.{Carries}
use Rattle.play_meaning.specs.Together.{IsFirstPartOf, PlaysAlike, StoppedAt, whole}
use Rattle.play_meaning.specs.EndTexts.{source_end_text}
use Rattle.command_work.specs.declared.status.Status.{Status}
use Rattle.command_work.specs.declared.status.Status.TheVariants.{Limit}
use Rattle.command_work.specs.Work.{Stays, IsCut, Does, Finished}
use Rattle.play_worlds.specs.Worlds.{text_name, start_of, first_world}
use Rattle.command_plays.specs.Plays.{host_of, ends_by}
use Rattle.command_plays.specs.Scripts.{listed, run_played}
use Rattle.command_meaning.specs.Units.{code_of}
use Rattle.command_meaning.specs.Files.{PlaysFile}

-- ---- the play of one script's source

-- the one script that is listed, under a header
abbrev pub setting_of : CellLookup → EngineTable → List ℕ → TypedUnit → Setting
setting_of cell header name u = record {
  table = header;
  tables = cell;
  scripts = record { name = text_name name; unit = u } ∷ [];
}

-- the world that has nothing but a start of it, as its code begins
abbrev pub source_world : List ℕ → World Deferred
source_world name = new_world empty_area [] (start_of name ∷ []) 2

-- what its source means, where an entry may take so many steps
unfoldable pub source_played : CellLookup → EngineTable → List ℕ → TypedUnit → ℕ → Played Deferred
source_played cell header name u n = source_play
    (setting_of cell header name u) n default_entry_limit default_until (source_world name)

-- what its code does, where an entry may take 131,072 instructions
unfoldable pub code_played : CellLookup → EngineTable → List ℕ → TypedUnit → Played Saved
code_played cell header name u = run_played cell header (listed name (code_of u)) (first_world name)

-- As many steps of an entry surely end: 16 instructions for each are as many as an entry may take.
abbrev pub sure_steps : ℕ
sure_steps = 8192

-- ---- what is told of it

-- the answer of a command whose play ended so
abbrev pub answer_by : PlayEnd → Result Finished Status
answer_by Done = Ok tt
answer_by OutOfEntries = Err Limit
answer_by StoppedInside = Err Limit
answer_by Paused = Ok tt

-- so each end of a play is answered
abbrev pub EndsAreAnswered : Type 0
EndsAreAnswered =
    (e : PlayEnd) (c : Contents) (t : List ℕ) (r : Result Finished Status) (c' : Contents)
    (t' : List ℕ) → Does (ends_by e) c t r c' t'
    → (r ≡ answer_by e) × Stays c c' t t'

-- The lines that a play of source tells were put, and then the text of its end, with the number of
-- instructions that were made: at least one and at most 16 for each of its steps. The answer is as
-- the play ends, and no file has changed.
pub record TellsMeaning (s : Setting) (code : Played Saved) (source : Played Deferred)
    (c : Contents) (t : List ℕ) (r : Result Finished Status)
    (c' : Contents) (t' : List ℕ) : Type 0 where
  pub alike : PlaysAlike (Carries s) code source
  pub taken : t' ≡ t ++ (trace_text source.last.trace ++ source_end_text s code.last.count source)
  pub answer : r ≡ answer_by source.ending
  pub contents : c' ≡ c

-- The play was stopped in its last entry, for which all the instructions were made that it may
-- take. The lines that were put are a beginning of those that the play of source tells.
pub record TellsBeginning (cell : CellLookup) (header : EngineTable) (name : List ℕ) (u : TypedUnit)
    (c : Contents) (t : List ℕ) (r : Result Finished Status)
    (c' : Contents) (t' : List ℕ) : Type 0 where
  pub stopped : StoppedAt (code_runner
      (host_of cell header (listed name (code_of u))) default_instruction_limit)
      (whole default_entry_limit default_until) default_instruction_limit
      (unplayed (first_world name)) (code_played cell header name u)
  pub begins : IsFirstPartOf (code_played cell header name u).last.trace
      (source_played cell header name u default_instruction_limit).last.trace
  pub taken : t' ≡ t ++ (trace_text (code_played cell header name u).last.trace
      ++ code_end_text (listed name (code_of u)) (code_played cell header name u))
  pub answer : r ≡ Err Limit
  pub contents : c' ≡ c

-- ---- what is promised of a play that was not cut by a failed call or by want of memory

-- Where each entry of the source ends in 8,192 steps, the play is told as the source means.
abbrev pub FewStepsEndAsMeant : Type 0
FewStepsEndAsMeant =
    (cell : CellLookup) (header : EngineTable) (name : List ℕ) (u : TypedUnit) (c : Contents)
    (t : List ℕ) (r : Result Finished Status) (c' : Contents) (t' : List ℕ)
    → PlaysFile cell header name u c t r c' t' → (IsCut r → ⊥)
    → (source_played cell header name u sure_steps).ending ≢ StoppedInside
    → TellsMeaning (setting_of cell header name u) (code_played cell header name u)
    (source_played cell header name u sure_steps) c t r c' t'

-- Where no entry of the code was stopped, the play is told as the source means whose entries may
-- take 131,072 steps.
abbrev pub UnstoppedRunsEndAsMeant : Type 0
UnstoppedRunsEndAsMeant =
    (cell : CellLookup) (header : EngineTable) (name : List ℕ) (u : TypedUnit) (c : Contents)
    (t : List ℕ) (r : Result Finished Status) (c' : Contents) (t' : List ℕ)
    → PlaysFile cell header name u c t r c' t' → (IsCut r → ⊥)
    → (code_played cell header name u).ending ≢ StoppedInside
    → TellsMeaning (setting_of cell header name u) (code_played cell header name u)
    (source_played cell header name u default_instruction_limit) c t r c' t'

-- Where one was stopped, what is told is a beginning of what the source means.
abbrev pub StoppedRunsBeginAsMeant : Type 0
StoppedRunsBeginAsMeant =
    (cell : CellLookup) (header : EngineTable) (name : List ℕ) (u : TypedUnit) (c : Contents)
    (t : List ℕ) (r : Result Finished Status) (c' : Contents) (t' : List ℕ)
    → PlaysFile cell header name u c t r c' t' → (IsCut r → ⊥)
    → (code_played cell header name u).ending ≡ StoppedInside
    → TellsBeginning cell header name u c t r c' t'
