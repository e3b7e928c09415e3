-- A decimal number in a source is one token.
use Rattle.std.proofs.Common.{◌≡◌, ℕ, suc, ◌+◌, ◌^◌, ◌<◌, Bool, true, false, ◌&&◌, ◌||◌, ◌==◌, nat_lt, cond, List, [], ◌∷◌, ◌++◌, length, take, Some, None, refl, ap, ◌∙◌, arith, codes}
use Rattle.std.specs.Prelude.{option_map, slice_index, bytes_eq}
use Rattle.std.specs.List.{list_all, prefix_len}
use Rattle.std.specs.Str.{all_ascii_digits}
use Rattle.std.specs.Char.{is_ascii_digit}
use Rattle.std.specs.Str.Parse.{digits_value}
use Rattle.std.specs.Fmt.{decimal}
use Rattle.std.proofs.Math.Seq.{take-append_seam, drop-append_seam, get_or-append_seam}
use Rattle.std.proofs.lemmas.Bool.Decides.{nat_tests}
use Rattle.std.proofs.lemmas.Fmt.{decimal_is_IsNumeral, decimal_nonempty}
use Rattle.std.proofs.lemmas.Str.Parse.{numerals_by_value, tells_all_ascii_digits}
use Rattle.nss_lexer.specs.declared.token.TokenKind.TheVariants.{Int}
use Rattle.nss_lexer.specs.declared.bytes.Class.TheVariants.{Decimal}
use Rattle.nss_lexer.specs.Bytes.{is_blank, is_letter, is_decimal}
use Rattle.nss_lexer.specs.Splitting.{Lexeme, begins_comment}
use Rattle.nss_lexer.specs.Reading.{class_run, scanned, form, lexeme, pass, number_form, decimal_form, hexadecimal_form, begins_hexadecimal}
use Rattle.nss_lexer.specs.Computed.{tokens_in}
use Rattle.nss_include.specs.Pieces.{is_hash}

both : (a b : Bool) → (a && b) ≡ true → (a ≡ true) × (b ≡ true)
both true b h = (refl, h)
both false b h = absurd cc

abbrev AreDigits : List ℕ → Type 0
AreDigits ds = list_all is_ascii_digit ds ≡ true

decimal_digits : (n : ℕ) → n < 2 ^ 64 → AreDigits (decimal n)
decimal_digits n h = (numerals_by_value (λ ds. all_ascii_digits ds ≡ true) tells_all_ascii_digits).from (decimal n) (decimal_is_IsNumeral n h).0.1

-- ---- a digit

is_decimal_digit : (b : ℕ) → is_ascii_digit b ≡ true → is_decimal b ≡ true
is_decimal_digit b h = grind (arith, nat_tests)

no_letter : (b : ℕ) → is_ascii_digit b ≡ true → is_letter b ≡ false
no_letter b h = grind (arith, nat_tests)

no_blank : (b : ℕ) → is_ascii_digit b ≡ true → is_blank b ≡ false
no_blank b h = grind (arith, nat_tests)

no_slash : (b : ℕ) → is_ascii_digit b ≡ true → (b == 47) ≡ false
no_slash b h = grind (arith, nat_tests)

no_x : (b : ℕ) → is_ascii_digit b ≡ true → (b == 120 || b == 88) ≡ false
no_x b h = grind (arith, nat_tests)

-- ---- digits before a byte that ends them

-- a byte that goes on with no number
pub record EndsNumber (b : ℕ) : Type 0 where
  pub digit : is_decimal b ≡ false
  pub point : (b == 46) ≡ false
  pub mark : (b == 102) ≡ false
  pub x : (b == 120 || b == 88) ≡ false

one_more : (p : Bool) (n m : ℕ) → p ≡ true → n ≡ m → cond p (1 + n) 0 ≡ suc m
one_more p n m h same = ap (λ t. cond t (1 + n) 0) h ∙ (let e : 1 + n ≡ suc m = omega (arith, same) in e)

run_digits : (ds : List ℕ) (b : ℕ) (rest : List ℕ) → AreDigits ds → is_decimal b ≡ false → prefix_len is_decimal (ds ++ b ∷ rest) ≡ length ds
run_digits [] b rest h ends = ap (λ t. cond t (1 + prefix_len is_decimal rest) 0) ends
run_digits (d ∷ ds) b rest h ends =
    let parts = both (is_ascii_digit d) (list_all is_ascii_digit ds) h in
    one_more (is_decimal d) (prefix_len is_decimal (ds ++ b ∷ rest)) (length ds) (is_decimal_digit d parts.0) (run_digits ds b rest parts.1 ends)

none_of : (a b c : Bool) → b ≡ false → (a && b && c) ≡ false
none_of true true c h = absurd cc
none_of true false c h = refl
none_of false b c h = refl

second : {A : Type 0} (p q : Bool) (x y z : A) → p ≡ false → q ≡ true → cond p x (cond q y z) ≡ y
second true q x y z h k = absurd cc
second false true x y z h k = refl
second false false x y z h k = absurd cc

no_hexadecimal : (d : ℕ) (ds : List ℕ) (b : ℕ) (rest : List ℕ) → AreDigits ds → EndsNumber b → begins_hexadecimal (d ∷ (ds ++ b ∷ rest)) ≡ false
no_hexadecimal d [] b rest h ends = none_of (d == 48) (b == 120 || b == 88) _ ends.x
no_hexadecimal d (e ∷ es) b rest h ends =
    none_of (d == 48) (e == 120 || e == 88) _ (no_x e (both (is_ascii_digit e) (list_all is_ascii_digit es) h).0)

module _ (d : ℕ) (ds : List ℕ) (b : ℕ) (rest : List ℕ) (digits : AreDigits (d ∷ ds)) (ends : EndsNumber b) where
  first_digit : is_ascii_digit d ≡ true
  first_digit = (both (is_ascii_digit d) (list_all is_ascii_digit ds) digits).0

  abbrev all : List ℕ
  all = d ∷ (ds ++ b ∷ rest)

  length_run : class_run Decimal all ≡ suc (length ds)
  length_run = run_digits (d ∷ ds) b rest digits ends.digit

  end_byte : slice_index all (suc (length ds)) ≡ b
  end_byte = get_or-append_seam (d ∷ ds) b rest 0

  taken : take (suc (length ds)) all ≡ d ∷ ds
  taken = take-append_seam (d ∷ ds) (b ∷ rest)

  an_int : (v : ℕ) → digits_value 10 (d ∷ ds) ≡ v → decimal_form all ≡ scanned (Int v) (suc (length ds))
  an_int v value = rw (length_run, end_byte, ends.point, ends.mark, taken, value) refl

  number_is : number_form all ≡ decimal_form all
  number_is =
      ap (λ t. cond t (hexadecimal_form all) (decimal_form all)) (no_hexadecimal d ds b rest (both (is_ascii_digit d) (list_all is_ascii_digit ds) digits).1 ends)

  a_number : (v : ℕ) → digits_value 10 (d ∷ ds) ≡ v → form all ≡ Some (scanned (Int v) (suc (length ds)))
  unfolding form
  a_number v value =
      second (is_letter d) (is_decimal d) _ _ _ (no_letter d first_digit) (is_decimal_digit d first_digit) ∙ ap Some (number_is ∙ an_int v value)

  a_lexeme : (v : ℕ) → digits_value 10 (d ∷ ds) ≡ v → v < 2 ^ 32 → lexeme all ≡ Some (scanned (Int v) (suc (length ds)))
  a_lexeme v value few = rw (a_number v value, let t : nat_lt v (2 ^ 32) ≡ true = grind (arith, nat_tests) in t) refl

no_comment_begins : (d : ℕ) (bytes : List ℕ) → (d == 47) ≡ false → begins_comment (d ∷ bytes) ≡ false
no_comment_begins d [] h = refl
no_comment_begins d (c ∷ bytes) h = rw h refl

nothing_passed : (d : ℕ) (bytes : List ℕ) → is_blank d ≡ false → (d == 47) ≡ false → pass (d ∷ bytes) ≡ None
unfolding pass
nothing_passed d [] h k = rw h refl
nothing_passed d (c ∷ bytes) h k = rw (h, k) refl

-- ---- a number in the tokens of a file

-- the token of a number that stands at a place
abbrev pub number_token : ℕ → ℕ → Lexeme
number_token n at = record { kind = Int n; text = decimal n; file = 0; start = at; end = at + length (decimal n) }

module _ (n k at b : ℕ) (rest : List ℕ) (ends : EndsNumber b) (few : n < 2 ^ 32) where
  digits_first : (ds : List ℕ) → AreDigits ds → 0 < length ds → digits_value 10 ds ≡ n
      → tokens_in (suc k) at (ds ++ b ∷ rest)
      ≡ option_map (λ ts. record { kind = Int n; text = ds; file = 0; start = at; end = at + length ds } ∷ ts) (tokens_in k (at + length ds) (b ∷ rest))
  unfolding tokens_in
  digits_first [] digits some value = absurd (omega (arith, some))
  digits_first (d ∷ ds) digits some value =
      let first = first_digit d ds b rest digits ends in
      rw (
        nothing_passed d (ds ++ b ∷ rest) (no_blank d first) (no_slash d first),
        no_comment_begins d (ds ++ b ∷ rest) (no_slash d first),
        a_lexeme d ds b rest digits ends n value few,
        take-append_seam (d ∷ ds) (b ∷ rest),
        drop-append_seam (d ∷ ds) (b ∷ rest),
      ) refl

  pub number_first : tokens_in (suc k) at (decimal n ++ b ∷ rest) ≡ option_map (λ ts. number_token n at ∷ ts) (tokens_in k (at + length (decimal n)) (b ∷ rest))
  number_first =
      let small : n < 2 ^ 64 = omega (arith, few) in
      digits_first (decimal n) (decimal_digits n small) (decimal_nonempty n small) (decimal_is_IsNumeral n small).1

-- it begins no directive
pub number_plain : (n at : ℕ) → n < 2 ^ 32 → is_hash (number_token n at) ≡ false
number_plain n at few =
    let small : n < 2 ^ 64 = omega (arith, few) in plain_digits (decimal n) (decimal_digits n small)
  where
    plain_digits : (ds : List ℕ) → AreDigits ds → bytes_eq ds (codes "#") ≡ false
    plain_digits [] h = refl
    plain_digits (d ∷ ds) h = other d ds (both (is_ascii_digit d) (list_all is_ascii_digit ds) h).0
      where
        other : (d : ℕ) (ds : List ℕ) → is_ascii_digit d ≡ true → bytes_eq (d ∷ ds) (codes "#") ≡ false
        other d ds h = rw (let t : (d == 35) ≡ false = grind (arith, nat_tests) in t) refl
