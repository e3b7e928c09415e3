-- The tables that the words of a command give, by what the files hold, and why they are refused.
use Rattle.std.specs.Prelude.{ℕ, List, [], ◌∷◌, Option, Some, None}
use Rattle.nwq_outside.specs.Outside.{Contents}
use Rattle.table_2da.specs.declared.fault.TableFault.TheVariants as fault
use Rattle.table_2da.specs.declared.tables.Named.{Named}
use Rattle.table_2da.specs.Grammar.{HasTable, IsFaulty}
use Rattle.table_2da.specs.Table.{PlainTable}
use Rattle.command_work.specs.declared.flaw.AreaFlaw.TheVariants as flaw
use Rattle.command_work.specs.Refusal.{Refusal, BadArea}
use Rattle.command_work.specs.Reading.{IsRead, IsUnread}
use Rattle.command_tables.specs.Lists.{HasNames, HasBadLine}
use Rattle.command_tables.specs.Tables.{table_file}

-- ---- the list

-- the file of this name lists these names
pub record ReadsList (c : Contents) (list : List ℕ) (names : List (List ℕ)) : Type 0 where
  pub bytes : List ℕ
  pub read : IsRead c list bytes
  pub has : HasNames bytes names

-- it isn't there or is too long, or has a first line that is no further name
pub data RefusesList (c : Contents) (list : List ℕ) : Refusal → Type 0 where
  unread : (why : Refusal) → IsUnread c list why → RefusesList c list why
  faulty : (bytes : List ℕ) → IsRead c list bytes → (number : ℕ) → HasBadLine bytes number
      → RefusesList c list (BadArea list (flaw.Line number))

-- ---- one table

-- the file of the table of this name has this table
pub record ReadsTable (c : Contents) (name : List ℕ) (table : PlainTable) : Type 0 where
  pub bytes : List ℕ
  pub read : IsRead c (table_file name) bytes
  pub has : HasTable bytes table

-- it isn't there or is too long, or has a first line that breaks a rule
pub data RefusesTable (c : Contents) (name : List ℕ) : Refusal → Type 0 where
  unread : (why : Refusal) → IsUnread c (table_file name) why → RefusesTable c name why
  faulty : (bytes : List ℕ) → IsRead c (table_file name) bytes → (number : ℕ)
      → IsFaulty bytes (fault.Line number)
      → RefusesTable c name (BadArea (table_file name) (flaw.Line number))

-- ---- tables in order

-- the tables of these names
pub data HasTables (c : Contents) : List (List ℕ) → List Named → Type 0 where
  none : HasTables c [] []
  more : (name : List ℕ) (names : List (List ℕ)) (table : PlainTable) (tables : List Named)
      → ReadsTable c name table → HasTables c names tables
      → HasTables c (name ∷ names) (record { name = name; table = table } ∷ tables)

-- the first of them that is refused
pub data RefusesTables (c : Contents) : List (List ℕ) → Refusal → Type 0 where
  here : (name : List ℕ) (names : List (List ℕ)) (why : Refusal) → RefusesTable c name why
      → RefusesTables c (name ∷ names) why
  later : (name : List ℕ) (names : List (List ℕ)) (table : PlainTable) (why : Refusal)
      → ReadsTable c name table → RefusesTables c names why
      → RefusesTables c (name ∷ names) why

-- ---- the tables that words give

-- those that their list names, and none where they have no list
pub data GivesTables (c : Contents) : Option (List ℕ) → List Named → Type 0 where
  none : GivesTables c None []
  listed : (list : List ℕ) (names : List (List ℕ)) (tables : List Named) → ReadsList c list names
      → HasTables c names tables
      → GivesTables c (Some list) tables

-- the list is refused, or else the first table that is
pub data RefusesGiven (c : Contents) : Option (List ℕ) → Refusal → Type 0 where
  of_list : (list : List ℕ) (why : Refusal) → RefusesList c list why
      → RefusesGiven c (Some list) why
  of_table : (list : List ℕ) (names : List (List ℕ)) (why : Refusal) → ReadsList c list names
      → RefusesTables c names why
      → RefusesGiven c (Some list) why

-- one or the other
pub data TablesCome (c : Contents) (list : Option (List ℕ)) : Type 0 where
  refused : (why : Refusal) → RefusesGiven c list why → TablesCome c list
  accepted : (tables : List Named) → GivesTables c list tables → TablesCome c list
