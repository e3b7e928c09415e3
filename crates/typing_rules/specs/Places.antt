-- What can be written.
use Rattle.std.specs.Prelude.{Bool, true, false}
use Rattle.typing_rules.specs.declared.places.Place.{Place}
use Rattle.typing_rules.specs.declared.places.Place.TheVariants.{Local, Global, Const as IsConst}

abbrev pub is_variable : Place → Bool
is_variable (Local n) = true
is_variable (Global n) = true
is_variable (IsConst k) = false
