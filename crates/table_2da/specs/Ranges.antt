-- Cells as ranges of the bytes of their file. Private clauses and proofs alone need this.
use Rattle.std.specs.Prelude.{◌≡◌, ℕ, ◌≤◌, List, ◌++◌, length, map, take, drop}
use Rattle.table_2da.specs.declared.range.Range.{Range}
use Rattle.table_2da.specs.declared.words.Part.{Part}
use Rattle.table_2da.specs.Words.{Says}

-- what stands there in a file
abbrev pub bytes_at : List ℕ → Range → List ℕ
bytes_at file range = take range.len (drop range.start file)

abbrev pub cells_at : List ℕ → List Range → List (List ℕ)
cells_at file ranges = map (bytes_at file) ranges

abbrev pub rows_at : List ℕ → List (List Range) → List (List (List ℕ))
rows_at file rows = map (cells_at file) rows

-- these bytes stand there in a file
pub record StandsAt (file : List ℕ) (place : ℕ) (bytes : List ℕ) : Type 0 where
  pub before : List ℕ
  pub behind : List ℕ
  pub is : file ≡ before ++ (bytes ++ behind)
  pub there : length before ≡ place

-- the words of a line, which are at most so many, say this in that part of a file
pub record SaysFew (part : Part) (most : ℕ) (line : List ℕ) (texts : List (List ℕ)) : Type 0 where
  pub says : Says part line texts
  pub few : length texts ≤ most
