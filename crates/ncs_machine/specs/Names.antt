-- The arguments of ExecuteScript.
use Rattle.std.specs.Prelude.{◌≡◌, ℕ, List, [], ◌∷◌}
use Rattle.nwq_value.specs.declared.value.Value.{Value}
use Rattle.nwq_value.specs.declared.value.Value.TheVariants.{Text, Object}

-- a name and a target
pub record AreNameAndTarget (values : List Value) : Type 0 where
  pub name : List ℕ
  pub target : ℕ
  pub are : values ≡ Text name ∷ Object target ∷ []
