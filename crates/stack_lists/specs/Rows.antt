-- The shapes that were found: by trial and place.
use Rattle.std.specs.Prelude.{◌≡◌, ◌≢◌, ◌≤◌, ◌<◌, ◌+◌, ◌*◌, ◌/◌, ◌^◌, ℕ, suc, List, [], ◌∷◌, ◌++◌, length, Option, None, Some, ◌==◌, ◌&&◌, if◌then◌else◌, get_or, slice_get, ◌⊎◌}
use Rattle.std.specs.Ordering.{nat_cmp}
use Rattle.std.specs.BTreeMap.{BTreeMap, get}
use Rattle.stack_lists.specs.declared.held.Held.{Held}
use Rattle.stack_lists.specs.declared.rows.ShapeRow.{ShapeRow}

unfoldable pub row_in : List ShapeRow → ℕ → ℕ → Option Held
row_in [] trial place = None
row_in (row ∷ rows) trial place = if (row.trial == trial)
    && (row.place == place) then Some row.held else row_in rows trial place

-- another number for each trial and place, the rows of one trial side by side
abbrev pub row_key : ℕ → ℕ → ℕ
row_key trial place = trial * 4294967296 + place

-- what a row holds, if it is there and of this trial and place
abbrev pub held_in : Option ShapeRow → ℕ → ℕ → Option Held
held_in None trial place = None
held_in (Some row) trial place = if (row.trial == trial)
    && (row.place == place) then Some row.held else None

-- the row of a trial at a place has this number, if it has one there
abbrev pub IsNumberOf : List ShapeRow → ℕ → ℕ → ℕ → Type 0
IsNumberOf rows trial place number = (held : Held) → row_in rows trial place ≡ Some held
    → slice_get rows number ≡ Some (record { trial = trial; place = place; held = held })

-- ---- where rows are found

-- The row with this number, of this trial and place, is found: it is the first of its place, or the
-- index has it.
abbrev pub IsKept : List ℕ → BTreeMap ℕ ℕ → ℕ → ℕ → ℕ → Type 0
IsKept firsts index number trial place = (get_or firsts (place / 2) 0 ≡ suc number)
    ⊎ ((get_or firsts (place / 2) 0 ≢ 0) × (get nat_cmp index (row_key trial place) ≡ Some number))

-- What was found of other trials and places is found still.
pub record StillKept (firsts : List ℕ) (index : BTreeMap ℕ ℕ) (firsts' : List ℕ)
    (index' : BTreeMap ℕ ℕ) (trial place : ℕ) : Type 0 where
  pub by : (number t p : ℕ) → p < 2 ^ 32 → ((t ≡ trial) × (p ≡ place) → ⊥)
      → IsKept firsts index number t p → IsKept firsts' index' number t p

pub record IsIndexed (firsts : List ℕ) (index : BTreeMap ℕ ℕ) (number : ℕ)
    (row : ShapeRow) : Type 0 where
  pub kept : IsKept firsts index number row.trial row.place
  pub trial : row.trial < 2 ^ 32
  pub place : row.place < 2 ^ 32

pub record AreIndexed (rows : List ShapeRow) (firsts : List ℕ) (index : BTreeMap ℕ ℕ) : Type 0 where
  pub by : (number : ℕ) (row : ShapeRow) → slice_get rows number ≡ Some row
      → IsIndexed firsts index number row
  -- each is of a trial and a place of its own
  pub one : (m n : ℕ) (a b : ShapeRow) → slice_get rows m ≡ Some a → slice_get rows n ≡ Some b
      → a.trial ≡ b.trial → a.place ≡ b.place → m ≡ n
  pub few : length rows ≤ 2 ^ 25

-- One row is added, where there was none, and there was room for it.
pub record RowAdded (before after : List ShapeRow) (trial place : ℕ) (held : Held) : Type 0 where
  pub here : row_in after trial place ≡ Some held
  pub kept : (t p : ℕ) (h : Held) → row_in before t p ≡ Some h → row_in after t p ≡ Some h
  pub only : (t p : ℕ) (h : Held) → row_in after t p ≡ Some h
      → (row_in before t p ≡ Some h) ⊎ ((t ≡ trial) × (p ≡ place) × (h ≡ held))
  pub more : length after ≡ length before + 1
  pub end : after ≡ before ++ record { trial = trial; place = place; held = held } ∷ []
  pub room : length before < 2 ^ 25

-- ---- numbers by place

-- One number is put at a place.
pub record PutAt (before after : List ℕ) (place number : ℕ) : Type 0 where
  pub here : get_or after place 0 ≡ number
  pub others : (k : ℕ) → k ≢ place → get_or after k 0 ≡ get_or before k 0

-- the same numbers, where 0 is none
pub record SameNumbers (before after : List ℕ) : Type 0 where
  pub by : (k : ℕ) → get_or after k 0 ≡ get_or before k 0
