-- The tables that a command is given.
use Rattle.std.specs.Prelude.{ℕ, List, [], ◌∷◌, ◌++◌, codes, Option, None, Some}
use Rattle.nwq_outside.specs.Outside.{Contents}
use Rattle.table_2da.specs.declared.fault.TableFault.TheVariants as fault
use Rattle.table_2da.specs.declared.tables.Named.{Named}
use Rattle.table_2da.specs.Grammar.{HasTable, IsFaulty}
use Rattle.table_2da.specs.Table.{PlainTable}
use Rattle.command_work.specs.declared.flaw.AreaFlaw.TheVariants as flaw
use Rattle.command_work.specs.Refusal.{BadArea}
use Rattle.command_work.specs.Work.{Work, Gives, Refused, Finds, then, makes, file_named}
use Rattle.command_tables.specs.Lists.{names_listed}

-- ---- one table

-- the file of the table of this name
abbrev pub table_file : List ℕ → List ℕ
table_file name = name ++ codes ".2da"

-- what comes of a file's bytes: the table that they have, or the first line that breaks a rule
pub data TableFate : Type 0 where
  Whole : (table : PlainTable) → TableFate
  Faulty : (line : ℕ) → TableFate

pub data IsTableFate (bytes : List ℕ) : TableFate → Type 0 where
  whole : (table : PlainTable) → HasTable bytes table → IsTableFate bytes (Whole table)
  faulty : (line : ℕ) → IsFaulty bytes (fault.Line line) → IsTableFate bytes (Faulty line)

abbrev pub table_by : List ℕ → TableFate → Work PlainTable
table_by file (Whole table) = Gives table
table_by file (Faulty line) = Refused (BadArea file (flaw.Line line))

-- the table in these bytes, which are those of the file of this name
unfoldable pub table_in : List ℕ → List ℕ → Work PlainTable
table_in file bytes = Finds (λ (c : Contents) fate. IsTableFate bytes fate) (table_by file)

-- the table in the file of this name
unfoldable pub table_in_file : List ℕ → Work PlainTable
table_in_file file = then (file_named file) (table_in file)

-- ---- tables in order

abbrev pub with_table : List Named → List ℕ → PlainTable → List Named
with_table tables name table = tables ++ record { name = name; table = table } ∷ []

-- the table of this name is read and put behind these
unfoldable pub one_more : List Named → List ℕ → Work (List Named)
one_more tables name = then (table_in_file (table_file name))
    (λ table. makes (with_table tables name table))

-- the tables of these names are read in order and put behind these
unfoldable pub all_behind : List Named → List (List ℕ) → Work (List Named)
all_behind tables [] = Gives tables
all_behind tables (name ∷ names) = then (one_more tables name) (λ more. all_behind more names)

-- the tables that the file of this name lists
unfoldable pub tables_listed : List ℕ → Work (List Named)
tables_listed list = then (names_listed list) (all_behind [])

-- the tables that a command is given: those of its list, and none where it has no list
abbrev pub tables_given : Option (List ℕ) → Work (List Named)
tables_given None = Gives []
tables_given (Some list) = tables_listed list
