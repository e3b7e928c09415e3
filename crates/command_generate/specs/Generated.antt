-- The command `generate`: the play that is made from a number is compiled, checked and played, and
-- a summary of it is put.
use Rattle.std.specs.Prelude.{◌≡◌, ◌≤◌, ℕ, ◌*◌, List, [], ◌∷◌, ◌++◌, length, codes, Result, Ok}
use Rattle.std.specs.FinMap as map
use Rattle.std.specs.Fmt.{decimal}
use Rattle.nwq_value.specs.Engine.{EngineTable}
use Rattle.nwq_value.specs.HeaderTable.{header_table}
use Rattle.nwq_value.specs.Limits.{file_limit}
use Rattle.nwq_outside.specs.declared.counts.FileCounts.{FileCounts}
use Rattle.nwq_outside.specs.Outside.{Contents, plain}
use Rattle.area_rules.specs.Area.{PlainArea, area_of}
use Rattle.ncs_code.specs.Plain.{PlainOp}
use Rattle.saved_state.specs.declared.saved.Saved.{Saved}
use Rattle.world_rules.specs.Pure.{CellLookup}
use Rattle.world_rules.specs.Trace.{trace_text}
use Rattle.plan_text.specs.declared.plan.Plan.{Plan}
use Rattle.world_rules.specs.Plays.{Played}
use Rattle.world_rules.specs.EndText.{end_line}
use Rattle.play_generator.specs.Made.{Play, creatures_of, number_limit, rounds_of, area_tree, play_of}
use Rattle.play_generator.specs.Reads.{plan_made}
use Rattle.command_work.specs.declared.status.Status.{Status}
use Rattle.command_work.specs.declared.status.Status.TheVariants.{Limit}
use Rattle.command_work.specs.Work.{Work, Gives, Puts, Finds, then, CutsShort, Does, Finished}
use Rattle.command_compile.specs.Files.{compiled_named}
use Rattle.command_files.specs.Checks.{IsStackedFile, loaded_in}
use Rattle.play_worlds.specs.Worlds.{plan_world}
use Rattle.command_plays.specs.Plays.{ends_by, plan_played}
use Rattle.command_plays.specs.Scripts.{listed}

-- ---- the source

-- the files in which a source is compiled: it alone is there
abbrev pub files_with : List ℕ → Contents
files_with source = plain (map.insert map.empty (codes "beat.nss") source)

-- the counts of files of which no call failed
abbrev pub faultless : (absences longs : ℕ) → FileCounts
faultless absences longs = record { faults = 0; absences = absences; longs = longs }

-- the source is compiled under the built-in header with this answer, and this text is put
abbrev pub Compiles : List ℕ → Result (List ℕ) Status → List ℕ → Type 0
Compiles source answer text = Does (compiled_named header_table (codes "beat"))
    (files_with source) [] answer (files_with source) text

-- the source of a number
pub record IsMadeSource (source : List ℕ) : Type 0 where
  pub number : ℕ
  pub few : number ≤ number_limit
  pub is : source ≡ (play_of number).source

-- the source has this file of bytecode
pub record IsFileOf (source file : List ℕ) : Type 0 where
  pub text : List ℕ
  pub compiled : Compiles source (Ok file) text

-- The file of a source, for which no file is read. The source of each number has one.
unfoldable pub source_compiled : List ℕ → Work (List ℕ)
source_compiled source = Finds (λ (c : Contents) file. IsFileOf source file) Gives

-- ---- the summary

-- a number behind its words
abbrev pub numbered_words : List ℕ → ℕ → List ℕ
numbered_words words n = words ++ decimal n

-- how many creatures and events were made, and how many lines and bytes a trace has
unfoldable pub made_line : ℕ → ℕ → ℕ → ℕ → List ℕ
made_line creatures events lines bytes =
    numbered_words (codes "generated creatures ") creatures
    ++ (numbered_words (codes " events ") events
    ++ (numbered_words (codes " lines ") lines
    ++ (numbered_words (codes " bytes ") bytes ++ 10 ∷ [])))

-- how much was made and told, and the last line of the play's text
unfoldable pub summary : ℕ → Played Saved → List ℕ
summary n p =
    made_line (creatures_of n) (creatures_of n * rounds_of n) (length p.last.trace)
    (length (trace_text p.last.trace))
    ++ end_line p.ending p.last.world.clock p.last.entries p.last.count

-- ---- the play

abbrev pub plan_of : ℕ → Plan
plan_of n = plan_made (rounds_of n) (creatures_of n)

abbrev pub made_area : ℕ → PlainArea
made_area n = area_of (area_tree (creatures_of n))

-- a play that a limit ended is told as others are, and its command ends with the status of limits
abbrev pub tells : ℕ → Played Saved → Work Finished
tells n p = Puts (summary n p) (ends_by p.ending)

-- instructions are played as the one script of the plan over the area of a number
unfoldable pub plays_made : CellLookup → ℕ → List PlainOp → Work Finished
plays_made cell n ops = tells n
    (plan_played cell header_table (plan_of n) (listed (codes "beat") ops)
    (plan_world (made_area n) (plan_of n)))

unfoldable pub checks_made : CellLookup → ℕ → List ℕ → Work Finished
checks_made cell n file = then (loaded_in header_table (codes "beat.ncs") file) (plays_made cell n)

-- the work of the command: no file is read, and none written
unfoldable pub generates : CellLookup → ℕ → Work Finished
generates cell n = then (source_compiled (play_of n).source) (checks_made cell n)

-- What stops it: a limit ended the play, or the work is cut. The source is never refused, nor its
-- file.
abbrev pub StopsGenerate : Status → Type 0
StopsGenerate Limit = Unit {0}
StopsGenerate status = CutsShort status

-- ---- what the steps are given

-- a made play is that of its number, which isn't too great, and its header is the built-in one
pub record IsMade (header : EngineTable) (number : ℕ) (made : Play) : Type 0 where
  pub built_in : header ≡ header_table
  pub few : number ≤ number_limit
  pub is : made ≡ play_of number

-- bytes can be loaded and are well stacked
pub record MayLoad (header : EngineTable) (bytes : List ℕ) : Type 0 where
  pub small : length bytes ≤ file_limit
  pub stacked : IsStackedFile header bytes
