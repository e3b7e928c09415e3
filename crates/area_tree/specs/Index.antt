-- The index from tags to objects.
use Rattle.std.specs.Prelude.{◌≡◌, ◌<◌, ℕ, List, [], ◌∷◌, ◌++◌, if◌then◌else◌, Option, None, Some, slice_index_or}
use Rattle.std.specs.Str.{bytes_eq}
use Rattle.nwq_value.specs.Index.{number_under}
use Rattle.area_rules.specs.Objects.{AreaObject}
use Rattle.area_rules.specs.Area.{tagged}

-- the places of the tags' lists, and the lists of the numbers of the objects
abbrev pub Places : Type 0
Places = List (List ℕ × ℕ)

abbrev pub Lists : Type 0
Lists = List (List ℕ)

-- the list at a place, if there is one
abbrev pub list_at : Option ℕ → Lists → List ℕ
list_at None lists = []
list_at (Some i) lists = slice_index_or lists i []

-- the numbers under a tag
abbrev pub numbers_under : List ℕ → Places → Lists → List ℕ
numbers_under tag places lists = list_at (number_under tag places) lists

-- the index has each object under its tag
abbrev pub Indexes : Places → Lists → List AreaObject → Type 0
Indexes places lists objects = (tag : List ℕ)
    → numbers_under tag places lists ≡ tagged tag 1 objects

-- the index with one number more
abbrev pub AddsNumber : List ℕ → ℕ → Places → Lists → Places → Lists → Type 0
AddsNumber tag number places lists places' lists' =
    (t : List ℕ) → numbers_under t places' lists'
    ≡ (if bytes_eq t tag then numbers_under t places lists
    ++ number ∷ [] else numbers_under t places lists)

-- each place is below the number of the lists, and no two tags share one
pub record ArePlaces (places : Places) (count : ℕ) : Type 0 where
  pub within : (tag : List ℕ) (i : ℕ) → number_under tag places ≡ Some i → i < count
  pub apart : (s t : List ℕ) (i : ℕ) → number_under s places ≡ Some i
      → number_under t places ≡ Some i → s ≡ t
