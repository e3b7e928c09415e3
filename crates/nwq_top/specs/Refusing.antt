-- Why a command is refused, by what the files hold: exactly where grammar, typing or a stated limit
-- refuses a header, a script, a plan or an area, and each with its refusal.
use Rattle.std.specs.Prelude.{◌≡◌, ◌<◌, ℕ, true, false, List, ◌∷◌, ◌++◌, length, None, Result, Err, codes, bytes_eq}
use Rattle.nwq_value.specs.Limits.{file_limit}
use Rattle.nwq_value.specs.Engine.{EngineTable}
use Rattle.nwq_text.specs.Line.{line_number}
use Rattle.nwq_outside.specs.Outside.{Contents, content}
use Rattle.nss_include.specs.declared.fault.Spot.{Spot}
use Rattle.typing_rules.specs.declared.fault.Fault.{Fault}
use Rattle.typing_rules.specs.Nodes.{IsLeast}
use Rattle.typing_rules.specs.Typed.{TypedUnit}
use Rattle.typing_rules.specs.Meaning.{TypesUnit, FaultInUnit}
use Rattle.emission_rules.specs.Units.{unit_file}
use Rattle.ncs_code.specs.Plain.{PlainOp}
use Rattle.ncs_code.specs.File.{IsCode, file_bytes}
use Rattle.stack_rules.specs.Rules.{WellStacked}
use Rattle.gff_tree.specs.Whole.{PlainGff}
use Rattle.gff_read.specs.Stands.{Stands}
use Rattle.area_rules.specs.Broken.{Place, broken_places}
use Rattle.plan_text.specs.declared.plan.Script.{Script as ScriptLine}
use Rattle.plan_text.specs.declared.fault.PlanFault.TheVariants as plan
use Rattle.plan_text.specs.Plans.{IsFaulty}
use Rattle.machine_rules.specs.Machine.{Script}
use Rattle.command_work.specs.declared.cause.Cause.{Cause}
use Rattle.command_work.specs.declared.cause.Cause.TheVariants as cause
use Rattle.command_work.specs.declared.flaw.AreaFlaw.{AreaFlaw}
use Rattle.command_work.specs.declared.flaw.AreaFlaw.TheVariants as area
use Rattle.command_work.specs.declared.flaw.CodeFlaw.{CodeFlaw}
use Rattle.command_work.specs.declared.flaw.CodeFlaw.TheVariants as code
use Rattle.command_work.specs.declared.status.Status.{Status}
use Rattle.command_work.specs.Refusal.{Refusal, Absent, TooLong, At, BadCode, BadArea, line_of, status_of}
use Rattle.command_work.specs.Work.{Finished}
use Rattle.command_work.specs.Reading.{IsRead, IsUnread}
use Rattle.command_sources.specs.Headers as headers
use Rattle.command_sources.specs.Headers.{IsHeaderFate}
use Rattle.command_sources.specs.Units as units
use Rattle.command_sources.specs.Units.{PlainScript, IsUnitFate, spot_of, at_spot, at_token}
use Rattle.command_files.specs.Codes as codes_of
use Rattle.command_files.specs.Codes.{IsCodeFate}
use Rattle.command_files.specs.Assemblies as assemblies
use Rattle.command_files.specs.Assemblies.{IsAssemblyFate}
use Rattle.command_files.specs.Trees as trees
use Rattle.command_files.specs.Trees.{IsTreeFate}
use Rattle.play_inputs.specs.Areas.{place_flaw}
use Rattle.command_compile.specs.Files.{code_name}
use Rattle.command_compile.specs.Typings.{cause_of}
use Rattle.nwq_top.specs.Accepting.{HasLine}

-- the line of a refusal was put and its status answered, and the files hold this
pub record IsRefused (why : Refusal) (left : Contents) (t : List ℕ) (r : Result Finished Status)
    (c' : Contents) (t' : List ℕ) : Type 0 where
  pub answer : r ≡ Err (status_of why)
  pub taken : t' ≡ t ++ line_of why
  pub contents : c' ≡ left

-- ---- headers

pub data RefusesHeader (c : Contents) (word : List ℕ) : Refusal → Type 0 where
  unread : bytes_eq word (codes "-") ≡ false → (why : Refusal) → IsUnread c word why
      → RefusesHeader c word why
  faulty : bytes_eq word (codes "-") ≡ false → (bytes : List ℕ) → IsRead c word bytes
      → (why : Cause) (place : ℕ)
      → IsHeaderFate bytes (headers.Faulty why place)
      → RefusesHeader c word (At word (line_number bytes place) place why)

-- ---- scripts

-- A file of the unit isn't there or is too long; the unit has a first fault, nests too deep or has
-- no syntax tree; it has nodes at fault, and is refused for that of least token, with the kind of
-- the first row that fits it; or its file would be too large, which is told at the end of the
-- script's own file.
pub data RefusesSource (header : EngineTable) (c : Contents) (name : List ℕ) : Refusal
    → Type 0 where
  lacks : (file : List ℕ) → IsUnitFate (content c) name (units.Lacks file)
      → RefusesSource header c name (Absent file)
  exceeds : (file : List ℕ) → IsUnitFate (content c) name (units.Exceeds file)
      → RefusesSource header c name (TooLong file)
  faulty : (why : Cause) (spot : Spot) → IsUnitFate (content c) name (units.Faulty why spot)
      → RefusesSource header c name (at_spot why spot)
  untyped : (script : PlainScript) (fault : Fault)
      → IsUnitFate (content c) name (units.Whole script)
      → IsLeast (FaultInUnit header script.tree) fault
      → RefusesSource header c name (at_token script fault.token (cause_of fault.kind))
  large : (script : PlainScript) (unit : TypedUnit)
      → IsUnitFate (content c) name (units.Whole script) → TypesUnit header script.tree unit
      → file_limit < length (unit_file unit)
      → RefusesSource header c name (at_spot cause.Large (spot_of script.files None))

-- a file isn't there or is too long, or is no file of bytecode
pub data RefusesCode (c : Contents) (name : List ℕ) : Refusal → Type 0 where
  unread : (why : Refusal) → IsUnread c name why → RefusesCode c name why
  broken : (bytes : List ℕ) → IsRead c name bytes → (why : CodeFlaw)
      → IsCodeFate bytes (codes_of.Faulty why) → RefusesCode c name (BadCode name why)

-- or is no assembler text
pub data RefusesAssembly (c : Contents) (name : List ℕ) : Refusal → Type 0 where
  unread : (why : Refusal) → IsUnread c name why → RefusesAssembly c name why
  broken : (text : List ℕ) → IsRead c name text → (why : CodeFlaw)
      → IsAssemblyFate text (assemblies.Faulty why) → RefusesAssembly c name (BadCode name why)

-- a file of bytecode isn't there or is too long, is none, or isn't well stacked
pub data RefusesBinary (header : EngineTable) (c : Contents) (name : List ℕ) : Refusal
    → Type 0 where
  unread : (why : Refusal) → IsUnread c name why → RefusesBinary header c name why
  faulty : (bytes : List ℕ) → IsRead c name bytes → (why : CodeFlaw)
      → IsCodeFate bytes (codes_of.Faulty why)
      → RefusesBinary header c name (BadCode name why)
  unstacked : (ops : List PlainOp) → IsRead c name (file_bytes ops) → IsCode ops
      → (WellStacked header ops → ⊥)
      → RefusesBinary header c name (BadCode name code.Unstacked)

-- a line of a plan is refused
pub data RefusesLine (header : EngineTable) (c : Contents) (line : ScriptLine) : Refusal
    → Type 0 where
  source : line.binary ≡ false → (why : Refusal) → RefusesSource header c line.name why
      → RefusesLine header c line why
  binary : line.binary ≡ true → (why : Refusal) → RefusesBinary header c (code_name line.name) why
      → RefusesLine header c line why

-- the first line that is refused, when the sources before it have their files
pub data RefusesScripts (header : EngineTable) : List ScriptLine → Contents → Refusal → Contents
    → Type 0 where
  here : (line : ScriptLine) (lines : List ScriptLine) (c : Contents) (why : Refusal)
      → RefusesLine header c line why
      → RefusesScripts header (line ∷ lines) c why c
  later : (line : ScriptLine) (lines : List ScriptLine) (c d left : Contents) (script : Script)
      (why : Refusal)
      → HasLine header c line script d → RefusesScripts header lines d why left
      → RefusesScripts header (line ∷ lines) c why left

-- ---- plans and areas

pub data RefusesPlan (c : Contents) (name : List ℕ) : Refusal → Type 0 where
  unread : (why : Refusal) → IsUnread c name why → RefusesPlan c name why
  faulty : (bytes : List ℕ) → IsRead c name bytes → (line : ℕ) → IsFaulty bytes (plan.Line line)
      → RefusesPlan c name (BadArea name (area.Line line))

-- a file isn't there or is too long, or its bytes stand for no tree
pub data RefusesTree (c : Contents) (name : List ℕ) : Refusal → Type 0 where
  unread : (why : Refusal) → IsUnread c name why → RefusesTree c name why
  none : (bytes : List ℕ) → IsRead c name bytes → (why : AreaFlaw)
      → IsTreeFate bytes (trees.Faulty why) → RefusesTree c name (BadArea name why)

pub data RefusesArea (c : Contents) (name : List ℕ) : Refusal → Type 0 where
  unread : (why : Refusal) → IsUnread c name why → RefusesArea c name why
  faulty : (bytes : List ℕ) → IsRead c name bytes → (why : AreaFlaw)
      → IsTreeFate bytes (trees.Faulty why) → RefusesArea c name (BadArea name why)
  broken : (bytes : List ℕ) → IsRead c name bytes → (tree : PlainGff) → Stands bytes tree
      → (place : Place) (others : List Place)
      → broken_places tree.top ≡ place ∷ others
      → RefusesArea c name (BadArea name (place_flaw place))
