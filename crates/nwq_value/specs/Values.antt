-- The types of values, and the value that a variable begins with.
use Rattle.std.specs.Prelude.{ℕ, Option, None, Some, [], pos}
use Rattle.nwq_value.specs.declared.value.Ty.{Ty}
use Rattle.nwq_value.specs.declared.value.Ty.TheVariants.{Int as IntTy, Text as TextTy, Object as ObjectTy, Effect as EffectTy, Event as EventTy}
use Rattle.nwq_value.specs.declared.value.Value.{Value}
use Rattle.nwq_value.specs.declared.value.Value.TheVariants.{Int, Text, Object, Effect, Event}

-- the type of a value
abbrev pub type_of : Value → Ty
type_of (Int n) = IntTy
type_of (Text bytes) = TextTy
type_of (Object o) = ObjectTy
type_of (Effect e) = EffectTy
type_of (Event n) = EventTy

-- the routine number of the empty effect: no table has so many routines
abbrev pub no_routine : ℕ
no_routine = 65535

-- the value that a variable of this type has before its first write, where the type has values of
-- one cell
abbrev pub start_value : Ty → Option Value
start_value IntTy = Some (Int (pos 0))
start_value TextTy = Some (Text [])
start_value ObjectTy = Some (Object 0)
start_value EffectTy = Some (Effect (record { routine = no_routine; ints = [] }))
start_value EventTy = Some (Event (pos 0))
start_value _ = None
