-- A play that is broken off after some entries, and what is saved of it.
use Rattle.std.specs.Prelude.{◌≤◌, ℕ, Bool, true, false, nat_lt, List, map, length, ◌++◌, codes, decimal}
use Rattle.std.specs.List.{AllByRecursion}
use Rattle.nwq_value.specs.Limits.{file_limit}
use Rattle.nwq_outside.specs.Outside.{Contents}
use Rattle.nwq_text.specs.Escape.{escaped}
use Rattle.ncs_code.specs.File.{IsCode, file_bytes}
use Rattle.plan_text.specs.declared.plan.Plan.{Plan}
use Rattle.saved_state.specs.declared.saved.Saved.{Saved}
use Rattle.world_rules.specs.Pure.{CellLookup}
use Rattle.world_rules.specs.Trace.{trace_text}
use Rattle.world_rules.specs.Plays.{PlayEnd, Done, OutOfEntries, StoppedInside, Paused, Progress, Played}
use Rattle.machine_rules.specs.Machine.{Script}
use Rattle.module_player.specs.CodePlays.{code_end_text}
use Rattle.state_format.specs.declared.parts.Script.{Script as ScriptPart}
use Rattle.state_format.specs.declared.parts.Parts.{Parts}
use Rattle.state_format.specs.Parts.{HasForm}
use Rattle.state_format.specs.Fields.{parts_bytes}
use Rattle.plan_text.specs.Plans.{limits_of}
use Rattle.play_save.specs.Rules.{IsAccepted}
use Rattle.play_save.specs.States.{resting, IsPlayOf, HasCome, IsWorldOf}
use Rattle.command_work.specs.declared.flaw.AreaFlaw.TheVariants as flaw
use Rattle.command_work.specs.declared.status.Status.TheVariants.{Limit}
use Rattle.command_work.specs.Refusal.{BadArea}
use Rattle.command_work.specs.Work.{Work, Refused, Ends, Puts, Finds, then, Finished, puts, writes}
use Rattle.play_inputs.specs.Plans.{plan_named}
use Rattle.play_inputs.specs.Listings.{scripts_listed}
use Rattle.play_worlds.specs.Worlds.{plan_world}
use Rattle.command_plays.specs.Plays.{played_first}
use Rattle.command_save.specs.declared.inputs.HeaderFile.{HeaderFile}
use Rattle.command_save.specs.declared.inputs.AreaFile.{AreaFile}
use Rattle.command_save.specs.Inputs.{header_of, area_named}

-- ---- the state

-- a listed script as a state has it: its name, and the bytes of its file
abbrev pub file_of : Script → ScriptPart
file_of script = record { name = script.name; code = file_bytes script.code }

-- the code of each can stand in a file
abbrev pub AreSpelled : List Script → Type 0
AreSpelled scripts = AllByRecursion (λ (script : Script). IsCode script.code) scripts

-- A play of a plan can go on from the state as it stands here, between two entries. The state can
-- be written where it is no larger than a file may be.
pub record IsStateAt (header : HeaderFile) (file : List ℕ) (plan : Plan) (scripts : List Script)
    (p : Progress Saved) (s : Parts) : Type 0 where
  pub form : length (parts_bytes s) ≤ file_limit → HasForm s
  pub accepted : IsAccepted s
  pub play : IsPlayOf s header.text (map file_of scripts) file (limits_of plan)
  pub spelled : AreSpelled scripts
  pub come : HasCome s p.entries p.count
  pub world : IsWorldOf s (resting p.world)

-- ---- what is told and written

-- the line that tells how many entries were taken before
abbrev pub saved_line : List ℕ → ℕ → List ℕ
saved_line name entries = codes "saved " ++ escaped name ++ codes " entries " ++ decimal entries
    ++ codes "\n"

-- bytes are written under this name, and then it is told that they were saved after so many entries
unfoldable pub state_told : List ℕ → List ℕ → ℕ → Work Finished
state_told name bytes entries = then (writes name bytes) (λ done. puts (saved_line name entries))

abbrev pub state_by : Bool → List ℕ → List ℕ → ℕ → Work Finished
state_by true name bytes entries = Refused (BadArea name (flaw.Large (length bytes)))
state_by false name bytes entries = state_told name bytes entries

-- the bytes of a state are written under this name, unless they are more than a file may have; and
-- then it is told
unfoldable pub state_written : List ℕ → Parts → Work Finished
state_written name s = state_by (nat_lt file_limit (length (parts_bytes s))) name
    (parts_bytes s) s.taken

unfoldable pub saves_at : HeaderFile → List ℕ → Plan → List Script → List ℕ → Progress Saved
    → Work Finished
saves_at header file plan scripts name p = Finds
    (λ (c : Contents) s. IsStateAt header file plan scripts p s) (state_written name)

-- where a limit ended an entry, that is told, and nothing is saved
abbrev pub saves_by : PlayEnd → HeaderFile → List ℕ → Plan → List Script → List ℕ → Played Saved
    → Work Finished
saves_by StoppedInside header file plan scripts name p = Puts (code_end_text scripts p) (Ends Limit)
saves_by Done header file plan scripts name p = saves_at header file plan scripts name p.last
saves_by OutOfEntries header file plan scripts name p = saves_at header file plan scripts name p.last
saves_by Paused header file plan scripts name p = saves_at header file plan scripts name p.last

-- ---- the play

-- the trace stands in front
abbrev pub saves_played : HeaderFile → List ℕ → Plan → List Script → List ℕ → Played Saved
    → Work Finished
saves_played header file plan scripts name p = Puts (trace_text p.last.trace)
    (saves_by p.ending header file plan scripts name p)

unfoldable pub saves_plan : CellLookup → HeaderFile → Plan → List Script → ℕ → List ℕ → AreaFile
    → Work Finished
saves_plan cell header plan scripts n name area =
    saves_played header area.bytes plan scripts name
    (played_first cell header.table plan scripts n (plan_world area.area plan))

-- ---- the command: a play's files are read in its order

unfoldable pub saves_area : CellLookup → HeaderFile → List ℕ → Plan → ℕ → List ℕ → List Script
    → Work Finished
saves_area cell header area plan n name scripts = then (area_named area)
    (saves_plan cell header plan scripts n name)

unfoldable pub saves_scripts : CellLookup → List ℕ → Plan → ℕ → List ℕ → HeaderFile → Work Finished
saves_scripts cell area plan n name header = then (scripts_listed header.table plan.scripts)
    (saves_area cell header area plan n name)

unfoldable pub saves_under : CellLookup → List ℕ → List ℕ → ℕ → List ℕ → Plan → Work Finished
saves_under cell header area n name plan = then (header_of header)
    (saves_scripts cell area plan n name)

-- the words name a header, an area, a plan, how many entries are taken, and the file of the state
unfoldable pub saves : CellLookup → List ℕ → List ℕ → List ℕ → ℕ → List ℕ → Work Finished
saves cell header area plan n name = then (plan_named plan) (saves_under cell header area n name)
