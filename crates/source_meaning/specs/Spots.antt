-- What is read and written: a variable, or parts of one.
use Rattle.std.specs.Prelude.{ℕ, ◌+◌, List, Option, None, Some}
use Rattle.std.specs.Option.{option_map}
use Rattle.nwq_value.specs.declared.value.Value.{Value}
use Rattle.typing_rules.specs.declared.places.Place.{Place}
use Rattle.typing_rules.specs.declared.places.Place.TheVariants.{Local, Global, Const as IsConst}
use Rattle.typing_rules.specs.Typed.{TypedExpr, name, member}
use Rattle.source_meaning.specs.Values.{parts_of, with_parts}
use Rattle.source_meaning.specs.Evaluation.{Progress, with_variable}

-- a variable's number, and how many of its parts stand before
pub data Spot : Type 0 where
  OfLocal : ℕ → ℕ → Spot
  OfGlobal : ℕ → ℕ → Spot

abbrev pub further : ℕ → Spot → Spot
further more (OfLocal n before) = OfLocal n (before + more)
further more (OfGlobal n before) = OfGlobal n (before + more)

abbrev pub spot_of_name : Place → Option Spot
spot_of_name (Local n) = Some (OfLocal n 0)
spot_of_name (Global n) = Some (OfGlobal n 0)
spot_of_name (IsConst k) = None

-- none where it can't be written
abbrev pub spot : TypedExpr → Option Spot
spot (name t p) = spot_of_name p
spot (member t x before) = option_map (further before) (spot x)
spot _ = None

-- so many parts
abbrev pub read_at : Spot → ℕ → Progress → List Value
read_at (OfLocal n before) count p = parts_of before count (p.locals n)
read_at (OfGlobal n before) count p = parts_of before count (p.globals n)

abbrev pub written_at : Spot → List Value → Progress → Progress
written_at (OfLocal n before) parts p = record p {
  locals = with_variable p.locals n
      (with_parts before parts (p.locals n));
}
written_at (OfGlobal n before) parts p = record p {
  globals = with_variable p.globals n
      (with_parts before parts (p.globals n));
}
