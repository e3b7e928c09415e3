-- What the scanners' proofs need of lists and numbers.
use Rattle.std.proofs.Common.{◌≡◌, ℕ, suc, ◌+◌, ◌*◌, ◌^◌, ◌<◌, ◌≤◌, false, List, [], ◌∷◌, refl, ap, ◌∙◌, sym, arith, length, drop, get_or}
use Rattle.std.proofs.Math.Seq.{drop-cons}
use Rattle.std.proofs.Math.Nat.{mul-le-mul_left}
use Rattle.std.proofs.lemmas.Bool.{le-ltb}
use Rattle.std.specs.Prelude.{None}
use Rattle.std.specs.Str.Parse.{digits_value_after, digits_value}
use Rattle.nss_lexer.specs.Reading.{small, is_prefix}
use Rattle.std.proofs.lemmas.List.{drop_all}
use Rattle.std.specs.Char.{digit_value}

-- more digits make no smaller number
pub digits_grow : (radix : ℕ) (n : ℕ) (ds : List ℕ) → 1 ≤ radix → n ≤ digits_value_after radix n ds
digits_grow radix n [] h = omega arith
digits_grow radix n (d ∷ ds) h =
    let more : n * radix + digit_value d ≤ digits_value_after radix (n * radix + digit_value d) ds = digits_grow radix (n * radix + digit_value d) ds h in
    let kept : n ≤ n * radix = omega (arith, mul-le-mul_left n h) in
    omega arith

-- where one more digit makes the number too great, all of them do
pub too_great : (radix n i : ℕ) (ds : List ℕ) → 2 ≤ radix → i < length ds → 4294967295 < n * radix + digit_value (get_or ds i 0)
    → digits_value_after radix n (drop i ds) ≡ digits_value radix ds → None ≡ small (digits_value radix ds)
too_great radix n i ds two inside more is =
    let rest : digits_value_after radix (n * radix + digit_value (get_or ds i 0)) (drop (suc i) ds) ≡ digits_value radix ds =
    ap (digits_value_after radix n) (sym (drop-cons ds i 0 inside)) ∙ is in
    let grown : n * radix + digit_value (get_or ds i 0) ≤ digits_value_after radix (n * radix + digit_value (get_or ds i 0)) (drop (suc i) ds) =
    digits_grow radix (n * radix + digit_value (get_or ds i 0)) (drop (suc i) ds) (omega arith) in
    let great : 2 ^ 32 ≤ digits_value radix ds = omega (arith, rest, grown) in
    rw (le-ltb (digits_value radix ds) (2 ^ 32) great) refl

-- bytes that end before a sign does do not begin with it
ends_before : (i : ℕ) (sign bytes : List ℕ) → i < length sign → length bytes ≤ i → is_prefix (drop i sign) (drop i bytes) ≡ false
ends_before i sign bytes more short = rw (drop-cons sign i 0 more, drop_all i bytes short) refl

pub too_short : (i : ℕ) (sign bytes : List ℕ) → i < length sign → length bytes ≤ i
    → is_prefix (drop i sign) (drop i bytes) ≡ is_prefix sign bytes → false ≡ is_prefix sign bytes
too_short i sign bytes more short is = sym (ends_before i sign bytes more short) ∙ is
