-- The table of a 2DA file, or the first of its lines that breaks a rule.
use Rattle.std.specs.Prelude.{◌≡◌, ℕ, ◌+◌, ◌<◌, ◌≤◌, ◌⊎◌, Bool, true, ◌&&◌, not, nat_lt, nat_le, List, [], ◌∷◌, ◌++◌, length, codes, Result, Ok, Err}
use Rattle.std.specs.List.{list_any}
use Rattle.nwq_text.specs.Lines.{lines_of}
use Rattle.table_2da.specs.declared.fault.TableFault.{TableFault}
use Rattle.table_2da.specs.declared.fault.TableFault.TheVariants.{Line, NoMemory}
use Rattle.table_2da.specs.declared.words.Part.TheVariants.{Columns, Row}
use Rattle.table_2da.specs.Look.{same_name}
use Rattle.table_2da.specs.Table.{PlainTable}
use Rattle.table_2da.specs.Words.{AreBlanks, PlainWord, BeginsWith, Says}

-- the columns and the rows of a table, at most
abbrev pub column_limit : ℕ
column_limit = 1024

abbrev pub row_limit : ℕ
row_limit = 65536

-- ---- the first three lines

-- the format and its version, behind which blanks may stand
pub record IsHeading (line : List ℕ) : Type 0 where
  pub blanks : List ℕ
  pub blank : AreBlanks blanks
  pub is : line ≡ codes "2DA V2.0" ++ blanks

-- the second line, which isn't used
abbrev pub IsSecond : List ℕ → Type 0
IsSecond line = AreBlanks line ⊎ ((rest : List ℕ) × (line ≡ codes "DEFAULT:" ++ rest))

-- no two names are the same
unfoldable pub are_distinct : List (List ℕ) → Bool
are_distinct [] = true
are_distinct (name ∷ names) = not (list_any (λ other. same_name other name) names)
    && are_distinct names

-- 1 to 1,024 distinct names
unfoldable pub are_columns : List (List ℕ) → Bool
are_columns names = nat_lt 0 (length names) && nat_le (length names) column_limit
    && are_distinct names

pub record IsColumns (line : List ℕ) (columns : List (List ℕ)) : Type 0 where
  pub says : Says Columns line columns
  pub are : are_columns columns ≡ true

abbrev pub HasColumns : List ℕ → Type 0
HasColumns line = (columns : List (List ℕ)) × IsColumns line columns

-- ---- rows

-- these cells, no more than there are columns, are one more row
pub record AddsCells (width : ℕ) (rows : List (List (List ℕ))) (line : List ℕ)
    (after : List (List (List ℕ))) : Type 0 where
  pub cells : List (List ℕ)
  pub says : Says Row line cells
  pub few : length cells ≤ width
  pub room : length rows < row_limit
  pub is : after ≡ rows ++ cells ∷ []

-- What a line adds to the rows. One without words adds nothing. A row's first word isn't used; the
-- others are its cells.
pub data Adds (width : ℕ) (rows : List (List (List ℕ))) : List ℕ → List (List (List ℕ))
    → Type 0 where
  nothing : (line : List ℕ) → AreBlanks line → Adds width rows line rows
  row : (line rest : List ℕ) (first : PlainWord) (after : List (List (List ℕ)))
      → BeginsWith line first rest → AddsCells width rows rest after
      → Adds width rows line after

-- no row goes on from here by this line
abbrev pub Baffles : ℕ → List (List (List ℕ)) → List ℕ → Type 0
Baffles width rows line = (after : List (List (List ℕ))) → Adds width rows line after → ⊥

-- the lines from the n-th give these rows, or one of this number is the first that breaks a rule
pub data Follow (width : ℕ) : ℕ → List (List (List ℕ)) → List (List ℕ)
    → Result (List (List (List ℕ))) ℕ → Type 0 where
  whole : (n : ℕ) (rows : List (List (List ℕ))) → Follow width n rows [] (Ok rows)
  goes : (n : ℕ) (rows next : List (List (List ℕ))) (line : List ℕ) (lines : List (List ℕ))
      (end : Result (List (List (List ℕ))) ℕ)
      → Adds width rows line next → Follow width (n + 1) next lines end
      → Follow width n rows (line ∷ lines) end
  stops : (n : ℕ) (rows : List (List (List ℕ))) (line : List ℕ) (lines : List (List ℕ))
      → Baffles width rows line
      → Follow width n rows (line ∷ lines) (Err n)

-- ---- the table

-- the first of these lines is there, and is such a one
abbrev pub FirstIs : (List ℕ → Type 0) → List (List ℕ) → Type 0
FirstIs IsSuch [] = ⊥
FirstIs IsSuch (line ∷ lines) = IsSuch line

abbrev pub with_columns : List (List ℕ) → Result (List (List (List ℕ))) ℕ → Result PlainTable ℕ
with_columns columns (Ok rows) = Ok (record { columns = columns; rows = rows })
with_columns columns (Err n) = Err n

-- the lines give this table, or the line of this number is the first that breaks a rule, or that is
-- missing
pub data Gives : List (List ℕ) → Result PlainTable ℕ → Type 0 where
  headless : (lines : List (List ℕ)) → (FirstIs IsHeading lines → ⊥) → Gives lines (Err 1)
  no_second : (heading : List ℕ) (lines : List (List ℕ)) → IsHeading heading
      → (FirstIs IsSecond lines → ⊥) → Gives (heading ∷ lines) (Err 2)
  no_columns : (heading second : List ℕ) (lines : List (List ℕ)) → IsHeading heading
      → IsSecond second → (FirstIs HasColumns lines → ⊥)
      → Gives (heading ∷ second ∷ lines) (Err 3)
  headed : (heading second line : List ℕ) (lines columns : List (List ℕ))
      (end : Result (List (List (List ℕ))) ℕ) → IsHeading heading
      → IsSecond second → IsColumns line columns → Follow (length columns) 4 [] lines end
      → Gives (heading ∷ second ∷ line ∷ lines) (with_columns columns end)

abbrev pub GivesOf : List ℕ → Result PlainTable ℕ → Type 0
GivesOf bytes end = Gives (lines_of bytes) end

-- a file has this table
abbrev pub HasTable : List ℕ → PlainTable → Type 0
HasTable bytes table = GivesOf bytes (Ok table)

-- a file has no table, and this is its fault
abbrev pub IsFaulty : List ℕ → TableFault → Type 0
IsFaulty bytes (Line n) = GivesOf bytes (Err n)
IsFaulty bytes NoMemory = Unit {0}

-- a file has one table or one first line that breaks a rule
pub record OneTable : Type 0 where
  pub one_table : (bytes : List ℕ) (a b : PlainTable) → HasTable bytes a → HasTable bytes b → a ≡ b
  pub one_fault : (bytes : List ℕ) (n m : ℕ) → IsFaulty bytes (Line n)
      → IsFaulty bytes (Line m) → n ≡ m
  pub not_both : (bytes : List ℕ) (a : PlainTable) (n : ℕ) → HasTable bytes a
      → IsFaulty bytes (Line n) → ⊥
