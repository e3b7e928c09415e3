-- The texts of values, as trace and end text print them.
use Rattle.std.specs.Prelude.{ℕ, ℤ, List, [], ◌∷◌, ◌++◌, codes}
use Rattle.std.specs.List.{flat_map}
use Rattle.std.specs.Fmt.{decimal, signed_decimal}
use Rattle.nwq_value.specs.Effect.{Effect as EffectRecord}
use Rattle.nwq_value.specs.declared.value.Value.{Value}
use Rattle.nwq_value.specs.declared.value.Value.TheVariants.{Int, Text, Object, Effect, Event}
use Rattle.nwq_text.specs.Escape.{quoted}

-- texts in a row, parted by commas
abbrev pub comma_parted : {A : Type 0} → (A → List ℕ) → List A → List ℕ
comma_parted text [] = []
comma_parted text (x ∷ xs) = text x ++ flat_map (λ y. 44 ∷ text y) xs

-- an object: `#` and its number
abbrev pub object_text : ℕ → List ℕ
object_text o = 35 ∷ decimal o

-- an effect: its routine, and its ints in parentheses
unfoldable pub effect_text : EffectRecord → List ℕ
effect_text e = decimal e.routine ++ 40 ∷ comma_parted signed_decimal e.ints ++ 41 ∷ []

-- an event: the word, and its number in parentheses
abbrev pub event_text : ℤ → List ℕ
event_text n = codes "event(" ++ signed_decimal n ++ 41 ∷ []

-- a value; a string is quoted
unfoldable pub value_text : Value → List ℕ
value_text (Int n) = signed_decimal n
value_text (Text bytes) = quoted bytes
value_text (Object o) = object_text o
value_text (Effect e) = effect_text e
value_text (Event n) = event_text n

-- the arguments of a call, first to last
unfoldable pub arguments_text : List Value → List ℕ
arguments_text values = comma_parted value_text values
