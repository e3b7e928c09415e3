-- What a command accepts, by what the files hold: headers, scripts, binaries, assembler texts,
-- plans, trees and areas.
use Rattle.std.specs.Prelude.{◌≡◌, ◌≤◌, ℕ, true, false, List, [], ◌∷◌, length, codes, bytes_eq}
use Rattle.nwq_value.specs.Limits.{file_limit}
use Rattle.nwq_value.specs.Engine.{EngineTable}
use Rattle.nwq_value.specs.HeaderTable.{header_table}
use Rattle.nwq_outside.specs.Outside.{Contents, with_content}
use Rattle.command_work.specs.Reading.{IsRead}
use Rattle.engine_table.specs.Headers.{HasTable}
use Rattle.typing_rules.specs.Typed.{TypedUnit}
use Rattle.emission_rules.specs.Units.{unit_file}
use Rattle.ncs_code.specs.Plain.{PlainOp}
use Rattle.ncs_code.specs.File.{IsCode, file_bytes}
use Rattle.ncs_text.specs.Assembly.{IsAssembled}
use Rattle.stack_rules.specs.Rules.{WellStacked}
use Rattle.gff_tree.specs.Whole.{PlainGff}
use Rattle.gff_read.specs.Stands.{Stands}
use Rattle.area_rules.specs.Broken.{broken_places}
use Rattle.area_rules.specs.Area.{PlainArea, area_of}
use Rattle.plan_text.specs.declared.plan.Plan.{Plan}
use Rattle.plan_text.specs.declared.plan.Script.{Script as ScriptLine}
use Rattle.plan_text.specs.Plans.{HasPlan}
use Rattle.machine_rules.specs.Machine.{Script}
use Rattle.source_meaning.specs.Scripts.{Listed}
use Rattle.command_compile.specs.Files.{code_name}
use Rattle.play_inputs.specs.Listings.{playable}
use Rattle.command_meaning.specs.Units.{code_of, Passes}
use Rattle.command_meaning.specs.Scripts.{IsScript}

-- ---- headers

-- the table of the header that a word names: `-` is the built-in one, every other word a file
pub data HasHeader (c : Contents) (word : List ℕ) : EngineTable → Type 0 where
  built_in : bytes_eq word (codes "-") ≡ true → HasHeader c word header_table
  read : bytes_eq word (codes "-") ≡ false → (bytes : List ℕ) → IsRead c word bytes
      → (table : EngineTable) → HasTable bytes table
      → HasHeader c word table

-- ---- scripts

-- The source of this name has this unit under a header. Its file isn't too large, and it passes the
-- stack checker: it loads, to the instructions of the unit's code, and some table of shapes meets
-- the rules for these.
pub record Compiles (header : EngineTable) (c : Contents) (name : List ℕ)
    (unit : TypedUnit) : Type 0 where
  pub script : IsScript header c name unit
  pub small : length (unit_file unit) ≤ file_limit
  pub passes : Passes header unit

-- the file of this name is that of these instructions
pub record ReadsCode (c : Contents) (name : List ℕ) (ops : List PlainOp) : Type 0 where
  pub read : IsRead c name (file_bytes ops)
  pub code : IsCode ops

-- the assembler text of this name stands for this file
pub record ReadsAssembly (c : Contents) (name file : List ℕ) : Type 0 where
  pub text : List ℕ
  pub read : IsRead c name text
  pub is : IsAssembled text file

-- the file of bytecode of this name has these instructions, and passes the stack checker
pub record HasCode (header : EngineTable) (c : Contents) (name : List ℕ)
    (ops : List PlainOp) : Type 0 where
  pub read : IsRead c name (file_bytes ops)
  pub code : IsCode ops
  pub stacked : WellStacked header ops

-- what the files hold when the file of a source was written
abbrev pub with_file : Contents → List ℕ → TypedUnit → Contents
with_file c name unit = with_content c (code_name name) (unit_file unit)

-- A line of a plan lists this script, and the files hold that then: a source is compiled and its
-- file written at once, a binary is read.
pub data HasLine (header : EngineTable) (c : Contents) (line : ScriptLine) : Script → Contents
    → Type 0 where
  source : line.binary ≡ false → (unit : TypedUnit) → Compiles header c line.name unit
      → HasLine header c line (playable line (code_of unit)) (with_file c line.name unit)
  binary : line.binary ≡ true → (ops : List PlainOp) → HasCode header c (code_name line.name) ops
      → HasLine header c line (playable line ops) c

-- so the lines, in order
pub data HasScripts (header : EngineTable) : List ScriptLine → Contents → List Script → Contents
    → Type 0 where
  none : (c : Contents) → HasScripts header [] c [] c
  more : (line : ScriptLine) (lines : List ScriptLine) (c d e : Contents) (script : Script)
      (scripts : List Script)
      → HasLine header c line script d → HasScripts header lines d scripts e
      → HasScripts header (line ∷ lines) c (script ∷ scripts) e

-- the lines list sources alone, whose units are these
pub data HasSources (header : EngineTable) : List ScriptLine → Contents → List Listed → Contents
    → Type 0 where
  none : (c : Contents) → HasSources header [] c [] c
  more : (line : ScriptLine) (lines : List ScriptLine) (c d : Contents) (unit : TypedUnit)
      (listed : List Listed) → line.binary ≡ false
      → Compiles header c line.name unit
      → HasSources header lines (with_file c line.name unit) listed d
      → HasSources header (line ∷ lines) c (record { name = line.name; unit = unit } ∷ listed) d

-- ---- plans and areas

-- the file of this name has this plan
pub record ReadsPlan (c : Contents) (name : List ℕ) (plan : Plan) : Type 0 where
  pub bytes : List ℕ
  pub read : IsRead c name bytes
  pub is : HasPlan bytes plan

-- the GFF file of this name stands for this tree
pub record ReadsTree (c : Contents) (name : List ℕ) (tree : PlainGff) : Type 0 where
  pub bytes : List ℕ
  pub read : IsRead c name bytes
  pub stands : Stands bytes tree

-- the GFF file of this name stands for a tree that breaks no rule of areas, and has this area
pub record ReadsArea (c : Contents) (name : List ℕ) (area : PlainArea) : Type 0 where
  pub bytes : List ℕ
  pub read : IsRead c name bytes
  pub tree : PlainGff
  pub stands : Stands bytes tree
  pub whole : broken_places tree.top ≡ []
  pub is : area ≡ area_of tree
