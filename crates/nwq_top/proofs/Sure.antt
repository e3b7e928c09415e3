-- The work of each form of words has one outcome.
use Rattle.world_rules.specs.Pure.{CellLookup}
use Rattle.command_work.specs.Outcomes.{IsSure, agree, prefixes, sure_then}
use Rattle.command_files.specs.CheckLaws.{SureChecks}
use Rattle.command_files.specs.Laws.{SureCommands}
use Rattle.command_run.specs.Laws.{SureRuns}
use Rattle.command_play.specs.Laws.{SurePlays as SureGames}
use Rattle.command_generate.specs.Laws.{SureGenerated}
use Rattle.command_save.specs.Laws.{SureSaves, SureResumes}
use Rattle.command_compile.specs.Laws.{SureCompiles}
use Rattle.command_tables.specs.Tables.{tables_given}
use Rattle.command_tables.specs.Laws.{SureTables as SureGiven}
use Rattle.table_2da.specs.Look.{cell_of}
use Rattle.command_words.specs.Words.{Form, Run, Compile, Tree, Check, Disassemble, Assemble, Play, Generate, Save, Resume, NoForm, list_of}
use Rattle.nwq_top.specs.Command.{work_of, work_with, whole_work}
use Rattle.nwq_top.specs.Laws.{OneOutcome, Prefixes, OneWhole, WholePrefixes}

module _ (files : SureCommands) (checks : SureChecks) (compiled : SureCompiles) (ran : SureRuns) (games : SureGames) (made : SureGenerated) (saved : SureSaves) (resumed : SureResumes) where
  pub sure_work : (cell : CellLookup) (form : Form) → IsSure (work_of cell form)
  sure_work cell (Run header script) = ran cell header script
  sure_work cell (Compile header script) = compiled header script
  sure_work cell (Tree file) = files.tree file
  sure_work cell (Check header file) = checks header file
  sure_work cell (Disassemble file to) = files.disassembled file to
  sure_work cell (Assemble file to) = files.assembled file to
  sure_work cell (Play header area plan to list) = games cell header area plan to
  sure_work cell (Generate number) = made cell number
  sure_work cell (Save header area plan entries state list) = saved cell header area plan entries state
  sure_work cell (Resume state to list) = resumed cell state to
  sure_work cell NoForm = tt

  pub one_outcome : OneOutcome
  one_outcome cell form r s c d e t u v = agree (work_of cell form) (sure_work cell form) r s c d e t u v

  pub all_prefixes : Prefixes
  all_prefixes cell form r s c d e t u v = prefixes (work_of cell form) (sure_work cell form) r s c d e t u v

  pub sure_whole : (given : SureGiven) (form : Form) → IsSure (whole_work form)
  unfolding whole_work
  sure_whole given form = sure_then (tables_given (list_of form)) (work_with form) (given (list_of form)) (λ ts. sure_work (cell_of ts) form)

  pub one_whole : SureGiven → OneWhole
  one_whole given form r s c d e t u v = agree (whole_work form) (sure_whole given form) r s c d e t u v

  pub whole_prefixes : SureGiven → WholePrefixes
  whole_prefixes given form r s c d e t u v = prefixes (whole_work form) (sure_whole given form) r s c d e t u v
