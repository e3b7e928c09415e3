-- Decimal numbers and printable lines, as plans are read.
use Rattle.std.proofs.Common.{◌≡◌, ◌≢◌, ℕ, ◌^◌, ◌<◌, ◌≤◌, Bool, true, false, ◌&&◌, not, ◌==◌, nat_lt, nat_le, cond, List, [], ◌∷◌, ◌++◌, length, Some, None, refl, sym, ap, ◌∙◌, arith}
use Rattle.std.specs.List.{list_all}
use Rattle.std.specs.Str.{all_ascii_digits}
use Rattle.std.specs.Char.{is_ascii_digit}
use Rattle.std.specs.Str.Parse.{digits_value}
use Rattle.std.specs.Fmt.{decimal}
use Rattle.std.proofs.lemmas.Bool.Decides.{nat_tests}
use Rattle.std.proofs.lemmas.Fmt.{decimal_is_IsNumeral, decimal_nonempty, length-decimal-le}
use Rattle.std.proofs.lemmas.Str.Parse.{numerals_by_value, tells_all_ascii_digits}
use Rattle.nwq_text.specs.Escape.{AreBytes, escaped, spelling}
use Rattle.nwq_text.specs.Cuts.{IsFree}
use Rattle.nwq_text.specs.Lines.{without_return}
use Rattle.nwq_text.specs.Number.{number_of}
use Rattle.nwq_value.specs.Limits.{time_limit}
use Rattle.plan_text.specs.Fields.{number_between, within}
use Rattle.plan_text.specs.Plans.{Spells}
use Rattle.play_generator.specs.Made.{tag_of}

both : (a b : Bool) → (a && b) ≡ true → (a ≡ true) × (b ≡ true)
both true b h = (refl, h)
both false b h = absurd cc

and_true : (a b : Bool) → a ≡ true → b ≡ true → (a && b) ≡ true
and_true a b p q = rw (p, q) refl

-- a byte that prints, but no backslash
abbrev pub prints : ℕ → Bool
prints b = nat_le 32 b && nat_le b 126 && not (b == 92)

pub prints_joined : (xs ys : List ℕ) → list_all prints xs ≡ true → list_all prints ys ≡ true → list_all prints (xs ++ ys) ≡ true
prints_joined [] ys p q = q
prints_joined (x ∷ xs) ys p q = let parts = both (prints x) (list_all prints xs) p in and_true _ _ parts.0 (prints_joined xs ys parts.1 q)

digit_prints : (b : ℕ) → is_ascii_digit b ≡ true → prints b ≡ true
digit_prints b h = grind (arith, nat_tests)

digits_print : (ds : List ℕ) → all_ascii_digits ds ≡ true → list_all prints ds ≡ true
digits_print [] h = refl
digits_print (d ∷ ds) h = let parts = both (is_ascii_digit d) (all_ascii_digits ds) h in and_true _ _ (digit_prints d parts.0) (digits_print ds parts.1)

decimal_digits : (n : ℕ) → n < 2 ^ 64 → all_ascii_digits (decimal n) ≡ true
decimal_digits n h = (numerals_by_value (λ ds. all_ascii_digits ds ≡ true) tells_all_ascii_digits).from (decimal n) (decimal_is_IsNumeral n h).0.1

pub decimal_prints : (n : ℕ) → n < 2 ^ 64 → list_all prints (decimal n) ≡ true
decimal_prints n h = digits_print (decimal n) (decimal_digits n h)

-- ---- what prints

not_newline : (b : ℕ) → prints b ≡ true → b ≢ 10
not_newline b h = grind (arith, nat_tests)

not_return : (b : ℕ) → prints b ≡ true → (b == 13) ≡ false
not_return b h = grind (arith, nat_tests)

byte : (b : ℕ) → prints b ≡ true → b < 256
byte b h = grind (arith, nat_tests)

spelled_plain : (b : ℕ) → prints b ≡ true → spelling false b ≡ b ∷ []
unfolding spelling
spelled_plain b h = grind (arith, nat_tests)

pub no_newline : (line : List ℕ) → list_all prints line ≡ true → IsFree 10 line
no_newline [] h = tt
no_newline (b ∷ bs) h = let parts = both (prints b) (list_all prints bs) h in (not_newline b parts.0, no_newline bs parts.1)

pub no_return : (line : List ℕ) → list_all prints line ≡ true → without_return line ≡ line
no_return [] h = refl
no_return (b ∷ []) h = ap (λ t. cond t [] (b ∷ [])) (not_return b (both (prints b) true h).0)
no_return (b ∷ c ∷ bs) h = ap (λ l. b ∷ l) (no_return (c ∷ bs) (both (prints b) (list_all prints (c ∷ bs)) h).1)

are_bytes : (text : List ℕ) → list_all prints text ≡ true → AreBytes text
are_bytes [] h = tt
are_bytes (b ∷ bs) h = let parts = both (prints b) (list_all prints bs) h in (byte b parts.0, are_bytes bs parts.1)

escapes_itself : (text : List ℕ) → list_all prints text ≡ true → text ≡ escaped text
unfolding escaped
escapes_itself [] h = refl
escapes_itself (b ∷ bs) h =
    let parts = both (prints b) (list_all prints bs) h in
    ap (λ l. b ∷ l) (escapes_itself bs parts.1) ∙ ap (λ (s : List ℕ). s ++ escaped bs) (sym (spelled_plain b parts.0))

-- ---- what an event's line says

pub tag_prints : (creature : ℕ) → creature < 2 ^ 64 → list_all prints (tag_of creature) ≡ true
tag_prints creature h = decimal_prints creature h

pub tag_spells : (creature : ℕ) → creature < 1000 → Spells (tag_of creature) (tag_of creature)
tag_spells creature h =
    let small : creature < 2 ^ 64 = omega arith in
    record {
      textual = record { fits = omega (arith, length-decimal-le 10 creature (omega arith) (omega arith) small); each = are_bytes (tag_of creature) (tag_prints creature small) };
      is = escapes_itself (tag_of creature) (tag_prints creature small);
    }

chosen : (a b c : Bool) (n : ℕ) → a ≡ true → b ≡ true → c ≡ true → cond (a && b && c) (Some n) None ≡ Some n
chosen a b c n p q r = rw (p, q, r) refl

at_least : (k n : ℕ) → k ≤ n → nat_le k n ≡ true
at_least k n h = grind (arith, nat_tests)

above : (k n : ℕ) → k < n → nat_lt k n ≡ true
above k n h = grind (arith, nat_tests)

decimal_number : (n : ℕ) → n < 10 ^ 9 → number_of (decimal n) ≡ Some n
unfolding number_of
decimal_number n h =
    let small : n < 2 ^ 64 = omega arith in
    chosen (nat_lt 0 (length (decimal n))) (nat_le (length (decimal n)) 10) (all_ascii_digits (decimal n)) (digits_value 10 (decimal n))
    (above 0 (length (decimal n)) (decimal_nonempty n small)) (at_least (length (decimal n)) 10 (length-decimal-le 10 n (omega arith) (omega arith) small)) (decimal_digits n small)
    ∙ ap Some (decimal_is_IsNumeral n small).1

pub due_is_read : (n : ℕ) → n < 10 ^ 9 → number_between 0 time_limit (decimal n) ≡ Some n
due_is_read n h =
    ap (within 0 time_limit) (decimal_number n h) ∙ ap (λ t. cond t (Some n) None) (and_true _ _ (at_least 0 n (omega arith)) (at_least n time_limit (omega arith)))
