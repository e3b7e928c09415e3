-- The scripts that a plan lists, in its order: the code of each, by which it is played.
use Rattle.std.specs.Prelude.{◌≡◌, ℕ, Bool, true, false, ◌⊎◌, List, [], ◌∷◌, ◌++◌, map, Result, Ok, Err}
use Rattle.nwq_value.specs.Engine.{EngineTable}
use Rattle.ncs_code.specs.Plain.{PlainOp}
use Rattle.plan_text.specs.declared.plan.Script.{Script as ScriptLine}
use Rattle.machine_rules.specs.Machine.{Script}
use Rattle.stack_rules.specs.Laws.{AllMeet}
use Rattle.stack_check.specs.Checked.{AllStand}
use Rattle.ncs_machine.specs.Host.{script_of, scripts_of, tables_of}
use Rattle.ncs_machine.specs.declared.scripts.Loaded.{Loaded}
use Rattle.command_work.specs.declared.status.Status.{Status}
use Rattle.command_work.specs.declared.status.Status.TheVariants.{Code}
use Rattle.command_work.specs.Counts.{StopsSource}
use Rattle.command_work.specs.Work.{Work, Gives, then, makes, Finished, writes}
use Rattle.command_files.specs.Checks.{checked_named, loaded_in}
use Rattle.command_compile.specs.Files.{code_name, compiled_named}

-- ---- the code of one script

-- a file of bytecode is written under this name, and its instructions are checked under a header
unfoldable pub writes_loaded : EngineTable → List ℕ → List ℕ → Work (List PlainOp)
writes_loaded header file bytes = then (writes file bytes) (λ done. loaded_in header file bytes)

-- a source is compiled under a header, and its file written at once
unfoldable pub source_named : EngineTable → List ℕ → Work (List PlainOp)
source_named header name = then (compiled_named header name) (writes_loaded header (code_name name))

-- a script is there as a binary, whose file is read and checked, or as a source
abbrev pub code_by : Bool → EngineTable → List ℕ → Work (List PlainOp)
code_by true header name = checked_named header (code_name name)
code_by false header name = source_named header name

-- the script of a plan's line, by which it is played
abbrev pub playable : ScriptLine → List PlainOp → Script
playable line ops = record { name = line.name; code = ops }

unfoldable pub script_in : EngineTable → ScriptLine → Work Script
script_in header line = then (code_by line.binary header line.name)
    (λ ops. makes (playable line ops))

-- ---- all of them

-- these are there, and those of the further lines follow
unfoldable pub lists_on : EngineTable → List Script → List ScriptLine → Work (List Script)
lists_on header scripts [] = Gives scripts
lists_on header scripts (line ∷ lines) = then (script_in header line)
    (λ script. lists_on header (scripts ++ script ∷ []) lines)

-- the scripts that a plan lists in these lines
unfoldable pub scripts_listed : EngineTable → List ScriptLine → Work (List Script)
scripts_listed header lines = lists_on header [] lines

-- ---- what is written

-- the file of a source
abbrev pub IsOwnFile : ScriptLine → List ℕ → Type 0
IsOwnFile line name = (line.binary ≡ false) × (name ≡ code_name line.name)

-- the file of some source among the lines
abbrev pub IsSourceFile : List ScriptLine → List ℕ → Type 0
IsSourceFile [] name = ⊥
IsSourceFile (line ∷ lines) name = IsOwnFile line name ⊎ IsSourceFile lines name

-- ---- what is listed

-- the names of the lines, and of the scripts, in order
abbrev pub line_names : List ScriptLine → List (List ℕ)
line_names lines = map (λ (line : ScriptLine). line.name) lines

abbrev pub loaded_names : List Loaded → List (List ℕ)
loaded_names scripts = map (λ (loaded : Loaded). loaded.name) scripts

-- each script's table meets the rules, and stands in every table that does
abbrev pub KeepTables : EngineTable → List Loaded → Type 0
KeepTables header scripts =
    AllMeet header (scripts_of scripts) (tables_of scripts)
    × AllStand header (scripts_of scripts) (tables_of scripts)

-- ---- answers

-- an answer, its script seen as the machine knows it
abbrev pub script_answer : Result Loaded Status → Result Script Status
script_answer (Ok loaded) = Ok (script_of loaded)
script_answer (Err status) = Err status

-- an answer that all are there, with those that are
abbrev pub listed_by : Result Finished Status → List Loaded → Result (List Script) Status
listed_by (Ok done) loaded = Ok (scripts_of loaded)
listed_by (Err status) loaded = Err status

abbrev pub listed_answer : Result (List Loaded) Status → Result (List Script) Status
listed_answer (Ok loaded) = Ok (scripts_of loaded)
listed_answer (Err status) = Err status

-- what stops the work: a file isn't there or is too long, a script or a binary is refused, or the
-- work is cut
abbrev pub StopsListing : Status → Type 0
StopsListing Code = Unit {0}
StopsListing status = StopsSource status
