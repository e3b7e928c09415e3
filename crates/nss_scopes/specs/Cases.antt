-- The labels of a switch as code keeps them.
use Rattle.std.specs.Prelude.{◌≡◌, ℤ, Bool, List}
use Rattle.std.specs.List.{list_any}
use Rattle.std.specs.Ordering.{int_eq}
use Rattle.typing_rules.specs.Sight.{Labels}
use Rattle.typing_rules.specs.Rules.{is_among_ints}

abbrev pub labels_of : List ℤ → Bool → Bool → Labels
labels_of cases has_default is_late = record {
  cases = cases;
  has_default = has_default;
  is_late = is_late;
}

-- the set has the values of the cases
abbrev pub HasCases : List ℤ → List ℤ → Type 0
HasCases cases seen = (v : ℤ) → list_any (int_eq v) seen ≡ is_among_ints v cases
