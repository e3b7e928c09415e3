-- What each form of words does, as work.
use Rattle.std.specs.Prelude.{◌≡◌, ℕ, List}
use Rattle.table_2da.specs.Look.{cell_of}
use Rattle.table_2da.specs.declared.tables.Named.{Named}
use Rattle.world_rules.specs.Pure.{CellLookup}
use Rattle.command_work.specs.Refusal as refusal
use Rattle.command_work.specs.Work.{Work, Refused, then, Finished}
use Rattle.command_files.specs.Checks.{checks}
use Rattle.command_files.specs.Commands.{shows_tree, disassembles, assembles}
use Rattle.command_compile.specs.Files.{code_name, compiles}
use Rattle.command_run.specs.Runs.{runs}
use Rattle.command_play.specs.Games.{plays}
use Rattle.command_generate.specs.Generated.{generates}
use Rattle.command_play.specs.Tellings.{IsGameFile}
use Rattle.command_save.specs.Saves.{saves}
use Rattle.command_save.specs.Resumes.{resumes}
use Rattle.command_tables.specs.Tables.{tables_given}
use Rattle.command_words.specs.Words.{Form, Run, Compile, Tree, Check, Disassemble, Assemble, Play, Generate, Save, Resume, NoForm, list_of}

-- the work of each form of words, where cells of tables are looked up so
abbrev pub work_of : CellLookup → Form → Work Finished
work_of cell (Run header script) = runs cell header script
work_of cell (Compile header script) = compiles header script
work_of cell (Tree file) = shows_tree file
work_of cell (Check header file) = checks header file
work_of cell (Disassemble file to) = disassembles file to
work_of cell (Assemble file to) = assembles file to
work_of cell (Play header area plan to list) = plays cell header area plan to
work_of cell (Generate number) = generates cell number
work_of cell (Save header area plan entries state list) = saves cell header area plan entries state
work_of cell (Resume state to list) = resumes cell state to
work_of cell NoForm = Refused refusal.NoForm

-- the work of a form of words, where cells are looked up in these tables
abbrev pub work_with : Form → List Named → Work Finished
work_with form tables = work_of (cell_of tables) form

-- the work of the whole program: the tables that the words give are read first, and cells are
-- looked up in them
unfoldable pub whole_work : Form → Work Finished
whole_work form = then (tables_given (list_of form)) (work_with form)

-- which names a command may write
abbrev pub MayWrite : Form → List ℕ → Type 0
MayWrite (Run header script) name = ⊥
MayWrite (Compile header script) name = name ≡ code_name script
MayWrite (Tree file) name = ⊥
MayWrite (Check header file) name = ⊥
MayWrite (Disassemble file to) name = name ≡ to
MayWrite (Assemble file to) name = name ≡ to
MayWrite (Play header area plan to list) name = IsGameFile to name
MayWrite (Generate number) name = ⊥
MayWrite (Save header area plan entries state list) name = IsGameFile state name
MayWrite (Resume state to list) name = name ≡ to
MayWrite NoForm name = ⊥
