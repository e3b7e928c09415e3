-- What the words `generate N` mean.
use Rattle.std.specs.Prelude.{◌≡◌, ◌≢◌, ◌≤◌, ℕ, ◌*◌, List, [], ◌∷◌, ◌++◌, length, map, codes, Result, Err}
use Rattle.nwq_value.specs.HeaderTable.{header_table}
use Rattle.nwq_outside.specs.Outside.{Contents}
use Rattle.typing_rules.specs.Typed.{TypedUnit}
use Rattle.saved_state.specs.declared.saved.Saved.{Saved}
use Rattle.world_rules.specs.Pure.{CellLookup}
use Rattle.world_rules.specs.Trace.{trace_text}
use Rattle.world_rules.specs.Plays.{StoppedInside, Played, unplayed}
use Rattle.world_rules.specs.EndText.{end_line}
use Rattle.module_player.specs.CodePlays.{code_runner}
use Rattle.source_meaning.specs.Evaluation.{Deferred}
use Rattle.source_meaning.specs.Scripts.{Listed, Setting}
use Rattle.source_laws.specs.Ledger.{step_cost}
use Rattle.source_laws.specs.Carries.{Carries}
use Rattle.source_laws.specs.Executing.{script_of}
use Rattle.play_meaning.specs.Together.{IsFirstPartOf, PlaysAlike, StoppedAt, whole}
use Rattle.play_generator.specs.Made.{creatures_of, rounds_of, play_of}
use Rattle.command_work.specs.declared.status.Status.{Status}
use Rattle.command_work.specs.declared.status.Status.TheVariants.{Limit}
use Rattle.command_work.specs.Work.{Finished}
use Rattle.command_plays.specs.Plays.{host_of}
use Rattle.play_worlds.specs.Worlds.{plan_world}
use Rattle.command_generate.specs.Generated.{files_with, made_line, summary, plan_of, made_area}
use Rattle.command_meaning.specs.CodeEnds.{EndsWithoutFault}
use Rattle.command_meaning.specs.Runs.{answer_by}
use Rattle.nwq_top.specs.SourcePlans.{listing_of, source_plan_played, code_plan_played}
use Rattle.nwq_top.specs.Accepting.{Compiles}

-- ---- the play of the source that is made from a number

-- the files in which it is compiled: it alone is there
abbrev pub made_files : ℕ → Contents
made_files n = files_with (play_of n).source

-- the one script that is listed
abbrev pub beat_of : TypedUnit → List Listed
beat_of unit = record { name = codes "beat"; unit = unit } ∷ []

-- what its source means, over the area and the plan of the number, where an entry may take so many
-- steps
abbrev pub source_made : CellLookup → ℕ → TypedUnit → ℕ → Played Deferred
source_made cell n unit k = source_plan_played cell header_table (made_area n) (plan_of n)
    (beat_of unit) k

-- what its code does, with the plan's limit of instructions
abbrev pub code_made : CellLookup → ℕ → TypedUnit → Played Saved
code_made cell n unit = code_plan_played cell header_table (made_area n) (plan_of n) (beat_of unit)

-- the summary of a play of source for which so many instructions were made
abbrev pub source_summary : ℕ → ℕ → Played Deferred → List ℕ
source_summary n count p =
    made_line (creatures_of n) (creatures_of n * rounds_of n) (length p.last.trace)
    (length (trace_text p.last.trace))
    ++ end_line p.ending p.last.world.clock p.last.entries count

-- ---- what is told of it

-- the summary of a play of source was put, with the number of instructions that were made, and the
-- answer is as it ends
pub record TellsMade (n : ℕ) (s : Setting) (code : Played Saved) (source : Played Deferred)
    (c : Contents) (t : List ℕ) (r : Result Finished Status)
    (c' : Contents) (t' : List ℕ) : Type 0 where
  pub alike : PlaysAlike (Carries s) code source
  pub taken : t' ≡ t ++ source_summary n code.last.count source
  pub answer : r ≡ answer_by source.ending
  pub contents : c' ≡ c

-- the play was stopped in its last entry, for which all the instructions were made that it may
-- take; its lines are a beginning of the source's
pub record TellsMadeBeginning (cell : CellLookup) (n : ℕ) (unit : TypedUnit) (c : Contents)
    (t : List ℕ) (r : Result Finished Status)
    (c' : Contents) (t' : List ℕ) : Type 0 where
  pub stopped : StoppedAt (code_runner
      (host_of cell header_table (script_of (record { name = codes "beat"; unit = unit }) ∷ []))
      (plan_of n).limit)
      (whole (plan_of n).entries (plan_of n).until) (plan_of n).limit
      (unplayed (plan_world (made_area n) (plan_of n))) (code_made cell n unit)
  pub begins : IsFirstPartOf (code_made cell n unit).last.trace
      (source_made cell n unit (plan_of n).limit).last.trace
  pub taken : t' ≡ t ++ summary n (code_made cell n unit)
  pub answer : r ≡ Err Limit
  pub contents : c' ≡ c

pub record MeansMade (cell : CellLookup) (n : ℕ) (unit : TypedUnit) (c : Contents) (t : List ℕ)
    (r : Result Finished Status) (c' : Contents) (t' : List ℕ) : Type 0 where
  -- where each entry of the source ends in k steps, and 16 k is within the plan's limit
  pub few : (k : ℕ) → step_cost * k ≤ (plan_of n).limit
      → (source_made cell n unit k).ending ≢ StoppedInside
      → TellsMade n (listing_of cell header_table (beat_of unit)) (code_made cell n unit)
      (source_made cell n unit k) c t r c' t'
  -- where no entry of the code was stopped
  pub unstopped : (code_made cell n unit).ending ≢ StoppedInside
      → TellsMade n (listing_of cell header_table (beat_of unit)) (code_made cell n unit)
      (source_made cell n unit (plan_of n).limit) c t r c' t'
  -- where one was
  pub stopped : (code_made cell n unit).ending ≡ StoppedInside
      → TellsMadeBeginning cell n unit c t r c' t'
  -- the play of the code comes to no stack fault
  pub no_fault : EndsWithoutFault (host_of cell header_table (map script_of (beat_of unit)))
      (plan_of n).limit (plan_of n).entries (plan_of n).until
      (plan_world (made_area n) (plan_of n))

-- What `generate N` does, unless a failed call or want of memory cut it: the source has a typed
-- unit, whose file passes the stack checker, and its play is told as the source means.
pub record MeansGenerate (cell : CellLookup) (n : ℕ) (c : Contents) (t : List ℕ)
    (r : Result Finished Status) (c' : Contents) (t' : List ℕ) : Type 0 where
  pub unit : TypedUnit
  pub compiles : Compiles header_table (made_files n) (codes "beat") unit
  pub means : MeansMade cell n unit c t r c' t'
