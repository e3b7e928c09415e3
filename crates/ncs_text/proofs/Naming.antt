-- Names and type bytes as a line begins with them.
use Rattle.std.proofs.Common.{◌≡◌, ◌≢◌, ℕ, zero, suc, ◌+◌, ◌*◌, ◌/◌, ◌%◌, ◌<◌, ◌≤◌, ◌==◌, Bool, true, false, ◌&&◌, ◌||◌, not, cond, List, [], ◌∷◌, Option, Some, None, refl, sym, ap, ◌∙◌, arith}
use Rattle.std.proofs.Common.{get_or}
use Rattle.std.specs.Prelude.{bytes_eq, nat_lt}
use Rattle.std.specs.List.{AllByRecursion}
use Rattle.std.proofs.lemmas.Bool.Decides.{nat_tests}
use Rattle.std.proofs.lemmas.Option.{none-some}
use Rattle.nwq_text.specs.Escape.{hex_digit}
use Rattle.nwq_text.specs.Unescape.{hex_value}
use Rattle.ncs_code.specs.Plain.{Const, PlainLit, Int, Float, Text, Object}
use Rattle.ncs_code.specs.Spelling.{is_opcode, type_byte}
use Rattle.ncs_code.specs.Names.{names, name_at}
use Rattle.nwq_text.specs.Cuts.{IsFree}
use Rattle.ncs_text.specs.Arguments.{hex_byte, byte_of}

-- ---- names

-- where a name stands first
pub position : ℕ → List (List ℕ) → List ℕ → ℕ
position i [] name = i
position i (other ∷ others) name = cond (bytes_eq other name) i (position (i + 1) others name)

-- no byte below the space
abbrev pub IsPrinted : List ℕ → Type 0
IsPrinted bytes = AllByRecursion (λ b. 32 ≤ b) bytes

is_free : List ℕ → Bool
is_free [] = true
is_free (b ∷ bs) = nat_lt 32 b && is_free bs

-- The name tells its opcode, has no space and begins with no semicolon.
is_good : ℕ → Bool
unfolding position is_free
is_good code = not (is_opcode code) || ((position 0 names (name_at code) == code) && (is_free (name_at code) && not (get_or (name_at code) 0 0 == 59)))

are_good : ℕ → Bool
are_good zero = true
are_good (suc n) = is_good n && are_good n

all_good : are_good 46 ≡ true
unfolding are_good is_good position is_free
all_good = refl

both : (a b : Bool) → (a && b) ≡ true → (a ≡ true) × (b ≡ true)
both true b h = (refl, h)
both false b h = absurd cc

good_or : (t : Bool) (n code : ℕ) → (code == n) ≡ t → code < suc n → is_good n ≡ true → (code < n → is_good code ≡ true) → is_good code ≡ true
good_or true n code is lt here more = let same : code ≡ n = grind (arith, nat_tests) in ap is_good same ∙ here
good_or false n code is lt here more = more (grind (arith, nat_tests))

good_below : (n code : ℕ) → are_good n ≡ true → code < n → is_good code ≡ true
unfolding are_good
good_below zero code h lt = absurd (omega arith)
good_below (suc n) code h lt = good_or (code == n) n code refl lt (both (is_good n) (are_good n) h).0 (good_below n code (both (is_good n) (are_good n) h).1)

opcode_small : (code : ℕ) → is_opcode code ≡ true → code < 46
opcode_small code h = grind (arith, nat_tests)

pub record IsGood (code : ℕ) : Type 0 where
  pub found : position 0 names (name_at code) ≡ code
  pub free : IsFree 32 (name_at code)
  pub printed : IsPrinted (name_at code)
  pub speaks : get_or (name_at code) 0 0 ≢ 59

freed : (bs : List ℕ) → is_free bs ≡ true → IsFree 32 bs
unfolding is_free
freed [] h = tt
freed (b ∷ bs) h =
    let parts = both (nat_lt 32 b) (is_free bs) h in let other : b ≢ 32 = grind (arith, nat_tests, parts.0) in (other, freed bs parts.1)

printed : (bs : List ℕ) → is_free bs ≡ true → IsPrinted bs
unfolding is_free
printed [] h = tt
printed (b ∷ bs) h =
    let parts = both (nat_lt 32 b) (is_free bs) h in let above : 32 ≤ b = grind (arith, nat_tests, parts.0) in (above, printed bs parts.1)

good_parts : (code : ℕ) (t a b c : Bool) → (not t || (a && (b && c))) ≡ true → t ≡ true → (a ≡ true) × (b ≡ true) × (c ≡ true)
good_parts code true true true true h e = (refl, refl, refl)
good_parts code true true true false h e = absurd cc
good_parts code true true false c h e = absurd cc
good_parts code true false b c h e = absurd cc
good_parts code false a b c h e = absurd cc

pub good : (code : ℕ) → is_opcode code ≡ true → IsGood code
unfolding is_good
good code h =
    let parts = good_parts code (is_opcode code) (position 0 names (name_at code) == code) (is_free (name_at code)) (not (get_or (name_at code) 0 0 == 59))
    (good_below 46 code all_good (opcode_small code h)) h
    in record { found = grind (arith, nat_tests, parts.0); free = freed (name_at code) parts.1; printed = printed (name_at code) parts.1; speaks = grind (arith, nat_tests, parts.2) }

-- different opcodes have different names
pub one_code : (a b : ℕ) → is_opcode a ≡ true → is_opcode b ≡ true → name_at a ≡ name_at b → a ≡ b
one_code a b ha hb same = sym (good a ha).found ∙ ap (position 0 names) same ∙ (good b hb).found

-- ---- type bytes

pub literal_small : (lit : PlainLit) → type_byte (Const lit) < 256
literal_small (Int n) = omega arith
literal_small (Float bytes) = omega arith
literal_small (Text bytes) = omega arith
literal_small (Object n) = omega arith

digit_read : (d : ℕ) → d < 16 → hex_value (hex_digit d) ≡ Some d
digit_read d h = grind (arith, nat_tests)

digit_written : (c d : ℕ) → hex_value c ≡ Some d → (c ≡ hex_digit d) × (d < 16)
digit_written c d h = grind (arith, nat_tests)

high_small : (b : ℕ) → b < 256 → b / 16 < 16
high_small b h = omega arith

low_small : (b : ℕ) → b % 16 < 16
low_small b = omega arith

pub hex_read : (b : ℕ) → b < 256 → hex_byte (hex_digit (b / 16)) (hex_digit (b % 16)) ≡ Some b
unfolding hex_byte
hex_read b h =
    let whole : 16 * (b / 16) + b % 16 ≡ b = omega arith
    in rw (digit_read (b / 16) (high_small b h), digit_read (b % 16) (low_small b)) (ap Some whole)

by_digits : (x y : Option ℕ) (high low b : ℕ) → hex_value high ≡ x → hex_value low ≡ y → byte_of x y ≡ Some b → (high ≡ hex_digit (b / 16)) × (low ≡ hex_digit (b % 16))
by_digits (Some h) (Some l) high low b hx hy e =
    let first = digit_written high h hx
    in let second = digit_written low l hy
    in let whole : 16 * h + l ≡ b = cc
    in let upper : h ≡ b / 16 = omega (arith, second.1)
    in let lower : l ≡ b % 16 = omega (arith, second.1)
    in (first.0 ∙ ap hex_digit upper, second.0 ∙ ap hex_digit lower)
by_digits (Some h) None high low b hx hy e = absurd (none-some b e)
by_digits None y high low b hx hy e = absurd (none-some b e)

pub hex_written : (high low b : ℕ) → hex_byte high low ≡ Some b → (high ≡ hex_digit (b / 16)) × (low ≡ hex_digit (b % 16))
unfolding hex_byte
hex_written high low b e = by_digits (hex_value high) (hex_value low) high low b refl refl e
