-- The trace's lines as text.
use Rattle.std.specs.Prelude.{ℕ, List, [], ◌∷◌, ◌++◌, codes}
use Rattle.std.specs.List.{flat_map}
use Rattle.std.specs.Fmt.{decimal, signed_decimal}
use Rattle.nwq_value.specs.declared.value.Value.{Value}
use Rattle.nwq_value.specs.declared.value.Value.TheVariants.{Int, Text, Object, Effect, Event}
use Rattle.nwq_text.specs.Escape.{escaped}
use Rattle.nwq_text.specs.Values.{arguments_text, effect_text, object_text, value_text}
use Rattle.world_rules.specs.declared.data.Line.{Line}
use Rattle.world_rules.specs.declared.data.Told.{Told}
use Rattle.world_rules.specs.declared.data.Told.TheVariants.{Print, Speak, Call, NoScript, Deep, Divide, Apply, Remove, Expire}

-- a printed value; a string stands without quotes
abbrev pub print_text : Value → List ℕ
print_text (Text bytes) = escaped bytes
print_text (Int n) = value_text (Int n)
print_text (Object o) = value_text (Object o)
print_text (Effect e) = value_text (Effect e)
print_text (Event n) = value_text (Event n)

-- what a line tells
abbrev pub told_text : Told → List ℕ
told_text (Print v) = codes "print " ++ print_text v
told_text (Speak bytes) = codes "speak " ++ escaped bytes
told_text (Call name values) = codes "call " ++ name ++ 40 ∷ arguments_text values ++ 41 ∷ []
told_text (NoScript name) = codes "noscript " ++ escaped name
told_text (Deep name) = codes "deep " ++ escaped name
told_text Divide = codes "fault divide"
told_text (Apply duration e) = codes "apply " ++ signed_decimal duration ++ 32 ∷ effect_text e
told_text (Remove e) = codes "remove " ++ effect_text e
told_text (Expire e) = codes "expire " ++ effect_text e

-- a line: the clock, the object, what is told, and a newline
unfoldable pub line_text : Line → List ℕ
line_text l = decimal l.clock ++ 32 ∷ object_text l.object ++ 32 ∷ told_text l.told ++ 10 ∷ []

unfoldable pub trace_text : List Line → List ℕ
trace_text lines = flat_map line_text lines
