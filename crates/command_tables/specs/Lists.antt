-- The names of tables that a file lists, one a line.
use Rattle.std.specs.Prelude.{◌≡◌, ℕ, ◌+◌, nat_lt, Bool, false, ◌&&◌, not, IsTrue, List, ◌∷◌, ◌++◌, length}
use Rattle.std.specs.List.{list_any}
use Rattle.nwq_outside.specs.Outside.{Contents}
use Rattle.nwq_text.specs.Lines.{lines_of}
use Rattle.nwq_text.specs.Names.{is_script_name}
use Rattle.table_2da.specs.Look.{same_name}
use Rattle.command_work.specs.declared.flaw.AreaFlaw.TheVariants as flaw
use Rattle.command_work.specs.Refusal.{BadArea}
use Rattle.command_work.specs.Work.{Work, Gives, Refused, Finds, then, file_named}
use Rattle.command_tables.specs.declared.list.ListFault.{ListFault}
use Rattle.command_tables.specs.declared.list.ListFault.TheVariants as fault

-- how many tables a list names at most
abbrev pub table_limit : ℕ
table_limit = 64

-- whether a line may be the next name behind these: it is 1 to 16 of the characters a to z, 0 to 9
-- and `_`, is none of them, and is not one too many
unfoldable pub may_follow : List (List ℕ) → List ℕ → Bool
may_follow names line = is_script_name line && not (list_any (λ other. same_name other line) names)
    && nat_lt (length names) table_limit

-- lines each of which may follow those before it
abbrev pub AreNames : List (List ℕ) → Type 0
AreNames names = (before after : List (List ℕ)) (name : List ℕ) → names ≡ before ++ name ∷ after
    → IsTrue (may_follow before name)

-- the lines of a text are these names
pub record HasNames (bytes : List ℕ) (names : List (List ℕ)) : Type 0 where
  pub lines : lines_of bytes ≡ names
  pub are : AreNames names

-- the lines of a text begin with names, and the next one, of this number, may not follow them
pub record HasBadLine (bytes : List ℕ) (number : ℕ) : Type 0 where
  pub before : List (List ℕ)
  pub line : List ℕ
  pub after : List (List ℕ)
  pub lines : lines_of bytes ≡ before ++ line ∷ after
  pub are : AreNames before
  pub bad : may_follow before line ≡ false
  pub is : number ≡ length before + 1

abbrev pub IsFaulty : List ℕ → ListFault → Type 0
IsFaulty bytes (fault.Line number) = HasBadLine bytes number
IsFaulty bytes fault.NoMemory = Unit {0}

-- what comes of a text: the names that it lists, or its first line that is no further name
pub data ListFate : Type 0 where
  Whole : (names : List (List ℕ)) → ListFate
  Faulty : (number : ℕ) → ListFate

pub data IsListFate (bytes : List ℕ) : ListFate → Type 0 where
  whole : (names : List (List ℕ)) → HasNames bytes names → IsListFate bytes (Whole names)
  faulty : (number : ℕ) → HasBadLine bytes number → IsListFate bytes (Faulty number)

abbrev pub names_by : List ℕ → ListFate → Work (List (List ℕ))
names_by list (Whole names) = Gives names
names_by list (Faulty number) = Refused (BadArea list (flaw.Line number))

-- the names in a text, which is that of the file of this name
unfoldable pub names_in : List ℕ → List ℕ → Work (List (List ℕ))
names_in list bytes = Finds (λ (c : Contents) fate. IsListFate bytes fate) (names_by list)

-- the names that the file of this name lists
unfoldable pub names_listed : List ℕ → Work (List (List ℕ))
names_listed list = then (file_named list) (names_in list)
