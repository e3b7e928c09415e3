-- The table of labels as code keeps it: the labels under their numbers, and the numbers by label.
use Rattle.std.specs.Prelude.{◌≡◌, ℕ, ◌<◌, List, length}
use Rattle.std.specs.List.{AllByRecursion}
use Rattle.std.specs.Map.{keys_of, values_of}
use Rattle.nwq_value.specs.Index.{number_under, first_place}

-- each number is below the count of the labels, and each label's is its place
pub record IsTable (rows : List (ℕ × List ℕ)) (numbers : List (List ℕ × ℕ)) : Type 0 where
  pub below : AllByRecursion (λ (number : ℕ). number < length rows) (keys_of rows)
  pub places : (label : List ℕ) → number_under label numbers ≡ first_place label (values_of rows)
