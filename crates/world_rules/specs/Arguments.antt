-- What a routine finds at a place of its arguments, counted from 0. A call has the arguments of its
-- parameters' types; for one that hadn't, the type's starting value stands in.
use Rattle.std.specs.Prelude.{ℕ, ℤ, pos, negsuc, List, [], ◌∷◌, Option, Some, slice_get, take}
use Rattle.nwq_value.specs.Limits.{text_limit}
use Rattle.nwq_value.specs.Values.{no_routine}
use Rattle.nwq_value.specs.Effect.{Effect as EffectRecord}
use Rattle.nwq_value.specs.declared.value.Value.{Value}
use Rattle.nwq_value.specs.declared.value.Value.TheVariants.{Int, Text, Object, Effect, Event}

abbrev pub int_in : Option Value → ℤ
int_in (Some (Int n)) = n
int_in _ = pos 0

abbrev pub text_in : Option Value → List ℕ
text_in (Some (Text bytes)) = bytes
text_in _ = []

abbrev pub object_in : Option Value → ℕ
object_in (Some (Object o)) = o
object_in _ = 0

abbrev pub effect_in : Option Value → EffectRecord
effect_in (Some (Effect e)) = e
effect_in _ = record { routine = no_routine; ints = [] }

abbrev pub event_in : Option Value → ℤ
event_in (Some (Event n)) = n
event_in _ = pos 0

abbrev pub int_at : ℕ → List Value → ℤ
int_at i values = int_in (slice_get values i)

abbrev pub text_at : ℕ → List Value → List ℕ
text_at i values = text_in (slice_get values i)

abbrev pub object_at : ℕ → List Value → ℕ
object_at i values = object_in (slice_get values i)

abbrev pub effect_at : ℕ → List Value → EffectRecord
effect_at i values = effect_in (slice_get values i)

abbrev pub event_at : ℕ → List Value → ℤ
event_at i values = event_in (slice_get values i)

-- the ints among values, in order
abbrev pub ints_of : List Value → List ℤ
ints_of [] = []
ints_of (Int n ∷ values) = n ∷ ints_of values
ints_of (_ ∷ values) = ints_of values

-- a count or a time in milliseconds: a negative int counts as 0
abbrev pub at_least_zero : ℤ → ℕ
at_least_zero (pos n) = n
at_least_zero (negsuc n) = 0

-- the string of these bytes: it keeps its first ones up to the limit
abbrev pub string_value : List ℕ → Value
string_value bytes = Text (take text_limit bytes)
