use Rattle.std.proofs.Common.{◌≡◌, ℕ, ◌+◌, ◌-◌, ◌*◌, ◌^◌, ◌<◌, ◌≤◌, Bool, true, false, ◌&&◌, List, [], ◌∷◌, length, get_or, drop, Option, Some, None, refl, sym, ap, ◌∙◌, arith}
use Rattle.std.proofs.lemmas.List.{drop_more, drop_all}
use Rattle.std.proofs.lemmas.Bool.Decides.{nat_tests}
use Rattle.std.proofs.Math.Nat.{pow-le-pow_right, pow-suc}
use Rattle.std.specs.Char.{digit_value, is_ascii_digit}
use Rattle.std.specs.Str.{all_ascii_digits}
use Rattle.std.specs.Str.Parse.{digits_value_after, digits_value}
use Rattle.nwq_text.specs.Number.{number_of}
use Rattle.std.proofs.Common.{◌⊎◌, cond, nat_lt, nat_le, add-one, lit<}

-- after i digits, which write n, the digits that are left decide whether all are digits, and give
-- the value
pub record ReadSoFar (digits : List ℕ) (i n : ℕ) : Type 0 where
  pub value : digits_value_after 10 n (drop i digits) ≡ digits_value 10 digits
  pub digital : all_ascii_digits (drop i digits) ≡ all_ascii_digits digits
  pub small : n < 10 ^ i

digit : (c : ℕ) → is_ascii_digit c ≡ true → (digit_value c ≡ c - 48) × (c ≤ 57)
digit c h = grind (arith, nat_tests)

next_value : (n c : ℕ) (cs : List ℕ) → is_ascii_digit c ≡ true → digits_value_after 10 (n * 10 + (c - 48)) cs ≡ digits_value_after 10 n (c ∷ cs)
next_value n c cs h = ap (λ d. digits_value_after 10 (n * 10 + d) cs) (sym (digit c h).0)

next_digital : (c : ℕ) (cs : List ℕ) → is_ascii_digit c ≡ true → all_ascii_digits cs ≡ all_ascii_digits (c ∷ cs)
next_digital c cs h = ap (λ t. t && all_ascii_digits cs) (sym h)

next_small : (i n c : ℕ) → is_ascii_digit c ≡ true → n < 10 ^ i → n * 10 + (c - 48) < 10 ^ (i + 1)
next_small i n c h small =
    let low = (digit c h).1 in rw (add-one, pow-suc) (omega arith)

pub one_more_digit : (digits : List ℕ) (i n c : ℕ) → ReadSoFar digits i n → i < length digits → c ≡ get_or digits i 0 → is_ascii_digit c ≡ true
    → ReadSoFar digits (i + 1) (n * 10 + (c - 48))
one_more_digit digits i n c so inside is h =
    let rest : drop i digits ≡ c ∷ drop (i + 1) digits = drop_more digits i 0 inside ∙ ap (λ d. d ∷ drop (i + 1) digits) (sym is)
    in record {
      value = next_value n c (drop (i + 1) digits) h ∙ ap (digits_value_after 10 n) (sym rest) ∙ so.value;
      digital = next_digital c (drop (i + 1) digits) h ∙ ap all_ascii_digits (sym rest) ∙ so.digital;
      small = next_small i n c h so.small;
    }

-- ten digits at most write a number that fits
pub number_fits : (digits : List ℕ) (i n : ℕ) → ReadSoFar digits i n → i < 10 → n < 10 ^ 9
number_fits digits i n so h =
    let below : i ≤ 9 = omega arith
    in let bound : 10 ^ i ≤ 10 ^ 9 = pow-le-pow_right (lit< tt) below
    in omega (arith, so.small)

refused_if : (a b : Bool) (o : Option ℕ) → b ≡ false → None ≡ cond (a && b) o None
refused_if true b o h = sym (ap (λ t. cond t o None) h)
refused_if false b o h = refl

accepted_if : (a b c : Bool) (n m : ℕ) → a ≡ true → b ≡ true → c ≡ true → n ≡ m → Some n ≡ cond (a && b && c) (Some m) None
accepted_if a b c n m ha hb hc h = rw (ha, hb, hc, h) refl

pub no_digit : (digits : List ℕ) (i n c : ℕ) → ReadSoFar digits i n → i < length digits → c ≡ get_or digits i 0 → is_ascii_digit c ≡ false
    → None ≡ number_of digits
unfolding number_of
no_digit digits i n c so inside is h =
    let rest : drop i digits ≡ c ∷ drop (i + 1) digits = drop_more digits i 0 inside ∙ ap (λ d. d ∷ drop (i + 1) digits) (sym is)
    in refused_if (nat_lt 0 (length digits) && nat_le (length digits) 10) (all_ascii_digits digits) (Some (digits_value 10 digits))
    (sym so.digital ∙ ap all_ascii_digits rest ∙ ap (λ t. t && all_ascii_digits (drop (i + 1) digits)) h)

pub all_digits : (digits : List ℕ) (i n : ℕ) → ReadSoFar digits i n → i ≡ length digits → 0 < length digits → length digits ≤ 10
    → Some n ≡ number_of digits
unfolding number_of
all_digits digits i n so end some few =
    let rest : drop i digits ≡ [] = drop_all i digits (omega arith)
    in accepted_if (nat_lt 0 (length digits)) (nat_le (length digits) 10) (all_ascii_digits digits) n (digits_value 10 digits)
    (grind (arith, nat_tests)) (grind (arith, nat_tests)) (sym so.digital ∙ ap all_ascii_digits rest)
    (ap (digits_value_after 10 n) (sym rest) ∙ so.value)

pub no_number : (digits : List ℕ) → (length digits ≡ 0) ⊎ (10 < length digits) → None ≡ number_of digits
unfolding number_of
no_number digits h = grind (arith, nat_tests)
