-- Each command may be cut as it begins: it has something to find, or a line to put. No contract
-- speaks of these lemmas; they serve the proofs of what ends the program before a command begins.
use Rattle.std.specs.Prelude.{ℕ, Bool, true, false, List, [], codes, bytes_eq, Option, None, Some}
use Rattle.world_rules.specs.Pure.{CellLookup}
use Rattle.table_2da.specs.Look.{cell_of}
use Rattle.command_words.specs.Words.{Form, Run, Compile, Tree, Check, Disassemble, Assemble, Play, Generate, Save, Resume, NoForm, list_of}
use Rattle.command_work.specs.Work.{Work, then, MayBeCut, file_named}
use Rattle.command_work.specs.Parts.{may_then}
use Rattle.command_tables.specs.Lists.{names_listed}
use Rattle.command_tables.specs.Tables.{tables_listed, tables_given}
use Rattle.nwq_value.specs.Engine.{EngineTable}
use Rattle.command_sources.specs.Headers.{table_named, table_unless, table_of_word}
use Rattle.command_files.specs.Assemblies.{assembly_named}
use Rattle.command_files.specs.Checks.{checks_under, checks}
use Rattle.command_files.specs.Codes.{code_named}
use Rattle.command_files.specs.Commands.{shows_tree, disassembles, assembles}
use Rattle.command_files.specs.Trees.{tree_named}
use Rattle.command_compile.specs.Files.{compiles_under, compiles}
use Rattle.command_run.specs.Runs.{runs_under, runs}
use Rattle.play_inputs.specs.Plans.{plan_named}
use Rattle.command_play.specs.Games.{plays}
use Rattle.command_save.specs.Resumes.{state_named, resumes}
use Rattle.command_save.specs.Saves.{saves}
use Rattle.command_generate.specs.Generated.{source_compiled, generates}
use Rattle.nwq_top.specs.Command.{work_of, work_with, whole_work}

-- a header is to be read or made
may_unless : (built_in : Bool) (word : List ℕ) → MayBeCut (table_unless built_in word)
unfolding table_named file_named
may_unless true word = tt
may_unless false word = tt

may_head : {A : Type 0} (word : List ℕ) (f : EngineTable → Work A)
    → MayBeCut (then (table_of_word word) f)
unfolding table_of_word
may_head word f = may_then (table_of_word word) f (may_unless (bytes_eq word (codes "-")) word)

pub command_may : (cell : CellLookup) (form : Form) → MayBeCut (work_of cell form)
unfolding runs compiles shows_tree tree_named checks disassembles code_named assembles assembly_named plays plan_named generates source_compiled saves resumes state_named file_named
command_may cell (Run header script) = may_head header (runs_under cell script)
command_may cell (Compile header script) = may_head header (compiles_under script)
command_may cell (Tree file) = tt
command_may cell (Check header file) = may_head header (checks_under file)
command_may cell (Disassemble file to) = tt
command_may cell (Assemble file to) = tt
command_may cell (Play header area plan to list) = tt
command_may cell (Generate number) = tt
command_may cell (Save header area plan entries state list) = tt
command_may cell (Resume state to list) = tt
command_may cell NoForm = tt

-- and so may the whole program, whether or not tables are given
given_may : (form : Form) (list : Option (List ℕ))
    → MayBeCut (then (tables_given list) (work_with form))
unfolding tables_listed names_listed file_named
given_may form None = command_may (cell_of []) form
given_may form (Some list) = tt

pub whole_may : (form : Form) → MayBeCut (whole_work form)
unfolding whole_work
whole_may form = given_may form (list_of form)
