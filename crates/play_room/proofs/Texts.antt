-- Numbers, bytes and texts that have room, and what routines find among their arguments.
use Rattle.std.proofs.Common.{◌≡◌, ◌<◌, ◌≤◌, ◌+◌, ◌/◌, ◌%◌, ℕ, ℤ, pos, negsuc, zero, suc, Bool, true, false, List, [], ◌∷◌, ◌++◌, length, take, drop, Option, None, Some, refl, arith, rules, mod-lt}
use Rattle.std.specs.Prelude.{◌&&◌, if◌then◌else◌, nat_lt, nat_le, slice_get, IsTrue}
use Rattle.std.specs.List.{AllByRecursion, list_all}
use Rattle.std.specs.Fmt.{decimal, signed_decimal}
use Rattle.std.specs.Int.{w32, cast_signed, cast_unsigned}
use Rattle.std.specs.Str.Parse.{AllDigits}
use Rattle.std.proofs.lemmas.Bool.Decides.{nat_tests}
use Rattle.std.proofs.lemmas.Fmt.{decimal_is_IsNumeral}
use Rattle.std.proofs.lemmas.Int.{ints}
use Rattle.std.proofs.lemmas.List.{length-take}
use Rattle.std.proofs.lemmas.Str.Parse.{digit_from_value}
use Rattle.nwq_text.specs.Escape.{hex_digit}
use Rattle.nwq_text.specs.Names.{is_script_byte, is_script_name}
use Rattle.nwq_value.specs.Limits.{text_limit}
use Rattle.nwq_value.specs.Operators.{as_int}
use Rattle.nwq_value.specs.declared.value.Value.{Value}
use Rattle.nwq_value.specs.declared.value.Value.TheVariants.{Int, Text, Object, Effect, Event}
use Rattle.world_rules.specs.Arguments.{int_in, text_in, object_in, effect_in, event_in, int_at, text_at, object_at, effect_at, event_at, ints_of}
use Rattle.world_rules.specs.Pure.{hex_digits, hex_string}
use Rattle.state_format.specs.Parts.{AreStateBytes, IsNumber, IsSigned}
use Rattle.play_room.specs.Room.{IsText, EffectHasRoom, ValueHasRoom}
use Rattle.play_room.specs.Kept.{MaybeValueHasRoom}
use Rattle.play_room.proofs.Lists.{all_append, all_take, all_drop}

-- ---- bytes

pub first_bytes : (n : ℕ) (bytes : List ℕ) → AreStateBytes bytes → AreStateBytes (take n bytes)
first_bytes n bytes are = all_take (λ (b : ℕ). b < 256) n bytes are

pub last_bytes : (n : ℕ) (bytes : List ℕ) → AreStateBytes bytes → AreStateBytes (drop n bytes)
last_bytes n bytes are = all_drop (λ (b : ℕ). b < 256) n bytes are

pub joined_bytes : (xs ys : List ℕ) → AreStateBytes xs → AreStateBytes ys → AreStateBytes (xs ++ ys)
joined_bytes xs ys ps qs = all_append (λ (b : ℕ). b < 256) xs ys ps qs

-- bytes that are cut to a string
pub cut_text : (bytes : List ℕ) → AreStateBytes bytes → IsText (take text_limit bytes)
cut_text bytes are = (omega (arith, length-take text_limit bytes), first_bytes text_limit bytes are)

pub no_text : IsText []
no_text = (omega arith, tt)

-- ---- digits

digit_bytes : (digits : List ℕ) → AllDigits 10 digits → AreStateBytes digits
digit_bytes [] are = tt
digit_bytes (d ∷ digits) are = let range = digit_from_value d are.0 in (omega (arith, range.1), digit_bytes digits are.1)

decimal_bytes : (n : ℕ) → n ≤ 4294967296 → AreStateBytes (decimal n)
decimal_bytes n small = digit_bytes (decimal n) (decimal_is_IsNumeral n (omega (arith, small))).0.1

pub signed_bytes : (n : ℤ) → IsSigned n → AreStateBytes (signed_decimal n)
signed_bytes (pos n) fits = let small : n < 2147483648 = omega (arith, fits) in decimal_bytes n (omega (arith, small))
signed_bytes (negsuc n) fits = let small : suc n ≤ 4294967296 = omega (arith, fits) in (omega arith, decimal_bytes (suc n) small)

hex_byte : (d : ℕ) → d < 16 → hex_digit d < 256
hex_byte d small = by_test (nat_lt d 10)
  where
    by_test : (b : Bool) → (if b then 48 + d else 87 + d) < 256
    by_test true = omega (arith, small)
    by_test false = omega (arith, small)

hex_bytes : (count n : ℕ) → AreStateBytes (hex_digits count n)
hex_bytes zero n = tt
hex_bytes (suc count) n = joined_bytes (hex_digits count (n / 16)) (hex_digit (n % 16) ∷ []) (hex_bytes count (n / 16)) (hex_byte (n % 16) (mod-lt n (omega arith)), tt)

pub hex_string_bytes : (n : ℤ) → AreStateBytes (hex_string n)
hex_string_bytes n = (omega arith, (omega arith, hex_bytes 8 (cast_unsigned w32 n)))

-- ---- ints

pub small_fits : (n : ℕ) → n < 2147483648 → IsSigned (pos n)
small_fits n small = search (rules, arith)

pub zero_fits : IsSigned (pos 0)
zero_fits = small_fits 0 (omega arith)

-- however many bits are read as a signed number, it fits
pub bits_fit : (n : ℕ) → IsSigned (cast_signed w32 n)
bits_fit n = omega (arith, ints)

pub test_fits : (b : Bool) → IsSigned (as_int b)
test_fits true = small_fits 1 (omega arith)
test_fits false = zero_fits

-- ---- names of scripts

both_true : (a b : Bool) → IsTrue (a && b) → IsTrue a × IsTrue b
both_true true b h = (refl, h)
both_true false b h = absurd cc

script_bytes : (name : List ℕ) → IsTrue (list_all is_script_byte name) → AreStateBytes name
script_bytes [] are = tt
script_bytes (b ∷ name) are =
    let both = both_true (is_script_byte b) (list_all is_script_byte name) are in
    let byte : is_script_byte b ≡ true = both.0 in
    (grind (arith, nat_tests, byte), script_bytes name both.1)

pub script_name_text : (name : List ℕ) → IsTrue (is_script_name name) → IsText name
unfolding is_script_name
script_name_text name is =
    let whole = both_true (nat_lt 0 (length name) && nat_le (length name) 16) (list_all is_script_byte name) is in
    let short : nat_le (length name) 16 ≡ true = (both_true (nat_lt 0 (length name)) (nat_le (length name) 16) whole.0).1 in
    let few : length name ≤ 16 = grind (arith, nat_tests, short) in
    (omega (arith, few), script_bytes name whole.1)

-- ---- arguments

argument : (values : List Value) (i : ℕ) → AllByRecursion ValueHasRoom values → MaybeValueHasRoom (slice_get values i)
argument [] i all = tt
argument (v ∷ values) zero all = all.0
argument (v ∷ values) (suc i) all = argument values i all.1

int_in_fits : (v : Option Value) → MaybeValueHasRoom v → IsSigned (int_in v)
int_in_fits None h = zero_fits
int_in_fits (Some (Int n)) h = h
int_in_fits (Some (Text bytes)) h = zero_fits
int_in_fits (Some (Object o)) h = zero_fits
int_in_fits (Some (Effect e)) h = zero_fits
int_in_fits (Some (Event n)) h = zero_fits

text_in_fits : (v : Option Value) → MaybeValueHasRoom v → IsText (text_in v)
text_in_fits None h = no_text
text_in_fits (Some (Int n)) h = no_text
text_in_fits (Some (Text bytes)) h = h
text_in_fits (Some (Object o)) h = no_text
text_in_fits (Some (Effect e)) h = no_text
text_in_fits (Some (Event n)) h = no_text

no_object : IsNumber 4 0
no_object = omega arith

object_in_fits : (v : Option Value) → MaybeValueHasRoom v → IsNumber 4 (object_in v)
object_in_fits None h = no_object
object_in_fits (Some (Int n)) h = no_object
object_in_fits (Some (Text bytes)) h = no_object
object_in_fits (Some (Object o)) h = h
object_in_fits (Some (Effect e)) h = no_object
object_in_fits (Some (Event n)) h = no_object

no_effect : EffectHasRoom (record { routine = 65535; ints = [] })
no_effect = (omega arith, tt)

effect_in_fits : (v : Option Value) → MaybeValueHasRoom v → EffectHasRoom (effect_in v)
effect_in_fits None h = no_effect
effect_in_fits (Some (Int n)) h = no_effect
effect_in_fits (Some (Text bytes)) h = no_effect
effect_in_fits (Some (Object o)) h = no_effect
effect_in_fits (Some (Effect e)) h = h
effect_in_fits (Some (Event n)) h = no_effect

event_in_fits : (v : Option Value) → MaybeValueHasRoom v → IsSigned (event_in v)
event_in_fits None h = zero_fits
event_in_fits (Some (Int n)) h = zero_fits
event_in_fits (Some (Text bytes)) h = zero_fits
event_in_fits (Some (Object o)) h = zero_fits
event_in_fits (Some (Effect e)) h = zero_fits
event_in_fits (Some (Event n)) h = h

module _ (values : List Value) (all : AllByRecursion ValueHasRoom values) (i : ℕ) where
  pub int_fits : IsSigned (int_at i values)
  int_fits = int_in_fits (slice_get values i) (argument values i all)

  pub text_fits : IsText (text_at i values)
  text_fits = text_in_fits (slice_get values i) (argument values i all)

  pub object_fits : IsNumber 4 (object_at i values)
  object_fits = object_in_fits (slice_get values i) (argument values i all)

  pub effect_fits : EffectHasRoom (effect_at i values)
  effect_fits = effect_in_fits (slice_get values i) (argument values i all)

  pub event_fits : IsSigned (event_at i values)
  event_fits = event_in_fits (slice_get values i) (argument values i all)

pub ints_fit : (values : List Value) → AllByRecursion ValueHasRoom values → AllByRecursion IsSigned (ints_of values)
ints_fit [] all = tt
ints_fit (Int n ∷ values) all = (all.0, ints_fit values all.1)
ints_fit (Text bytes ∷ values) all = ints_fit values all.1
ints_fit (Object o ∷ values) all = ints_fit values all.1
ints_fit (Effect e ∷ values) all = ints_fit values all.1
ints_fit (Event n ∷ values) all = ints_fit values all.1
