-- What the words of a command mean, and the whole program.
use Rattle.std.specs.Prelude.{◌≤◌, ℕ, List, Result}
use Rattle.nwq_outside.specs.Outside.{Contents, ContentsAreBytes}
use Rattle.table_2da.specs.declared.tables.Named.{Named}
use Rattle.table_2da.specs.Look.{cell_of}
use Rattle.world_rules.specs.Pure.{CellLookup}
use Rattle.play_generator.specs.Made.{number_limit}
use Rattle.command_work.specs.declared.status.Status.{Status}
use Rattle.command_work.specs.Refusal.{Refusal}
use Rattle.command_work.specs.Work.{IsCut, Does, Finished}
use Rattle.nwq_top.specs.Refusing.{IsRefused}
use Rattle.nwq_top.specs.Runs.{MeansRun, MeansCompile}
use Rattle.nwq_top.specs.Plays.{MeansPlay}
use Rattle.nwq_top.specs.Generated.{MeansGenerate}
use Rattle.nwq_top.specs.Saves.{MeansSave, MeansResume}
use Rattle.nwq_top.specs.FileCommands.{MeansTree, MeansCheck, MeansDisassemble, MeansAssemble}
use Rattle.command_work.specs.Refusal as refusal
use Rattle.command_words.specs.Words.{Form, Run, Compile, Tree, Check, Disassemble, Assemble, Play, Generate, Save, Resume, NoForm, list_of}
use Rattle.nwq_top.specs.Command.{work_of, whole_work}
use Rattle.nwq_top.specs.GivenTables.{GivesTables, RefusesGiven, TablesCome}

-- What a command does, from what the files hold and the bytes taken to those after it: in the words
-- of the language, of trees, tables of shapes and listings, where cells of tables are looked up so.
abbrev pub Means : CellLookup → Form → Contents → List ℕ → Result Finished Status → Contents
    → List ℕ → Type 0
Means cell (Run header script) c t r c' t' = MeansRun cell header script c t r c' t'
Means cell (Compile header script) c t r c' t' = MeansCompile header script c t r c' t'
Means cell (Tree file) c t r c' t' = MeansTree file c t r c' t'
Means cell (Check header file) c t r c' t' = MeansCheck header file c t r c' t'
Means cell (Disassemble file to) c t r c' t' = MeansDisassemble file to c t r c' t'
Means cell (Assemble file to) c t r c' t' = MeansAssemble file to c t r c' t'
Means cell (Play header area plan to list) c t r c' t' = MeansPlay cell header area plan to c t r c' t'
Means cell (Generate number) c t r c' t' = number ≤ number_limit
    → MeansGenerate cell number c t r c' t'
Means cell (Save header area plan entries state list) c t r c' t' = MeansSave cell header area plan entries state c t r c' t'
Means cell (Resume state to list) c t r c' t' = MeansResume cell state to c t r c' t'
Means cell NoForm c t r c' t' = IsRefused refusal.NoForm c t r c' t'

-- whatever does the work of words does what they mean, where the files hold bytes, unless a failed
-- call or want of memory cut it
abbrev pub WorkMeans : Type 0
WorkMeans = (cell : CellLookup) (form : Form) (c : Contents) (t : List ℕ)
    (r : Result Finished Status) (c' : Contents) (t' : List ℕ) → ContentsAreBytes c → (IsCut r → ⊥)
    → Does (work_of cell form) c t r c' t' → Means cell form c t r c' t'

-- What the whole program does, unless a failed call or want of memory cut it. It reads the tables
-- that its words give, which changes no file and puts nothing. Where they are refused, it puts the
-- one line of that and does no more. Else it does what the words mean, from the same files and
-- bytes taken, where cells are looked up in exactly these tables.
pub record MeansWhole (form : Form) (c : Contents) (t : List ℕ) (r : Result Finished Status)
    (c' : Contents) (t' : List ℕ) : Type 0 where
  pub comes : TablesCome c (list_of form)
  pub refused : (why : Refusal) → RefusesGiven c (list_of form) why → IsRefused why c t r c' t'
  pub meant : (tables : List Named) → GivesTables c (list_of form) tables
      → Means (cell_of tables) form c t r c' t'

-- whatever does the work of the whole program does what it means, likewise
abbrev pub WholeMeans : Type 0
WholeMeans = (form : Form) (c : Contents) (t : List ℕ) (r : Result Finished Status) (c' : Contents)
    (t' : List ℕ) → ContentsAreBytes c → (IsCut r → ⊥)
    → Does (whole_work form) c t r c' t' → MeansWhole form c t r c' t'
