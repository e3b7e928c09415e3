-- An index of the first places of names.
use Rattle.std.specs.Prelude.{◌≡◌, ℕ, List}
use Rattle.nwq_value.specs.Index.{number_under, first_place}

-- the index has the place of the first of each name
abbrev pub HasFirst : List (List ℕ) → List (List ℕ × ℕ) → Type 0
HasFirst names index = (x : List ℕ) → number_under x index ≡ first_place x names
