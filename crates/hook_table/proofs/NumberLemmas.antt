-- The number that digits write, in 32 bits.
use Rattle.std.proofs.Common.{◌≡◌, ℕ, ◌+◌, ◌-◌, ◌*◌, ◌/◌, ◌%◌, ◌^◌, ◌<◌, ◌≢◌, zero, suc, true, false, cond, List, [], ◌∷◌, ◌++◌, refl, sym, ap, ◌∙◌, arith, append_assoc}
use Rattle.std.proofs.Math.Nat.{mod-add-mod, mod-eq_of_lt}
use Rattle.std.proofs.lemmas.Bool.Decides.{nat_tests}
use Rattle.std.proofs.lemmas.List.Sums.{take_while-cons}
use Rattle.std.proofs.lemmas.Nat.{mul-mod_first}
use Rattle.std.specs.Char.{digit_value, is_ascii_digit}
use Rattle.std.specs.List.{take_while}
use Rattle.std.specs.Str.Parse.{digits_value_after}
use Rattle.nwq_text.specs.Escape.{hex_digit}
use Rattle.world_rules.specs.Pure.{hex_digits}

-- the number of the digits in front, behind those that were read, in 32 bits
abbrev pub read_on : ℕ → List ℕ → ℕ
read_on number rest = digits_value_after 10 number (take_while is_ascii_digit rest) % 2 ^ 32

next_same : (a b d : ℕ) → a % 2 ^ 32 ≡ b % 2 ^ 32 → (a * 10 + d) % 2 ^ 32 ≡ (b * 10 + d) % 2 ^ 32
next_same a b d h =
    sym (mod-add-mod (a * 10) (2 ^ 32) d)
    ∙ ap (λ x. (x + d) % 2 ^ 32) (sym (mul-mod_first a 10 (2 ^ 32)) ∙ ap (λ x. (x * 10) % 2 ^ 32) h ∙ mul-mod_first b 10 (2 ^ 32))
    ∙ mod-add-mod (b * 10) (2 ^ 32) d

-- what is read behind numbers that are the same in 32 bits is the same there
after_same : (ds : List ℕ) (a b : ℕ) → a % 2 ^ 32 ≡ b % 2 ^ 32 → digits_value_after 10 a ds % 2 ^ 32 ≡ digits_value_after 10 b ds % 2 ^ 32
after_same [] a b h = h
after_same (d ∷ ds) a b h = after_same ds (a * 10 + digit_value d) (b * 10 + digit_value d) (next_same a b (digit_value d) h)

digit_is : (c : ℕ) → is_ascii_digit c ≡ true → digit_value c ≡ c - 48
digit_is c h = grind (arith, nat_tests)

wrapped_twice : (n d : ℕ) → (((n * 10) % 2 ^ 32 + d) % 2 ^ 32) % 2 ^ 32 ≡ (n * 10 + d) % 2 ^ 32
wrapped_twice n d = mod_mod ((n * 10) % 2 ^ 32 + d) ∙ mod-add-mod (n * 10) (2 ^ 32) d
  where
    mod_mod : (a : ℕ) → (a % 2 ^ 32) % 2 ^ 32 ≡ a % 2 ^ 32
    mod_mod a = omega arith

-- one digit more was read
pub digit_read : (number byte : ℕ) (after rest : List ℕ) → rest ≡ byte ∷ after → is_ascii_digit byte ≡ true
    → read_on (((number * 10) % 2 ^ 32 + (byte - 48)) % 2 ^ 32) after ≡ read_on number rest
digit_read number byte after rest is digit =
    after_same (take_while is_ascii_digit after) (((number * 10) % 2 ^ 32 + (byte - 48)) % 2 ^ 32) (number * 10 + digit_value byte)
    (wrapped_twice number (byte - 48) ∙ ap (λ d. (number * 10 + d) % 2 ^ 32) (sym (digit_is byte digit)))
    ∙ ap (λ ds. digits_value_after 10 number ds % 2 ^ 32)
    (sym (ap (take_while is_ascii_digit) is ∙ take_while-cons is_ascii_digit byte after ∙ ap (λ t. cond t (byte ∷ take_while is_ascii_digit after) []) digit))

-- no digit follows
pub digits_end : (number : ℕ) (rest : List ℕ) → number < 2 ^ 32 → take_while is_ascii_digit rest ≡ [] → read_on number rest ≡ number
digits_end number rest small end = ap (λ ds. digits_value_after 10 number ds % 2 ^ 32) end ∙ mod-eq_of_lt small

pub no_digit : (byte : ℕ) (after rest : List ℕ) → rest ≡ byte ∷ after → is_ascii_digit byte ≡ false → take_while is_ascii_digit rest ≡ []
no_digit byte after rest is other =
    ap (take_while is_ascii_digit) is ∙ take_while-cons is_ascii_digit byte after ∙ ap (λ t. cond t (byte ∷ take_while is_ascii_digit after) []) other

-- ---- hexadecimal digits

-- the lowest digit stands behind the others
pub digits_put : (old mid new : List ℕ) (count n d : ℕ) → mid ≡ old ++ hex_digits (count - 1) (n / 16) → d ≡ hex_digit (n % 16) → new ≡ mid ++ d ∷ []
    → count ≢ 0 → new ≡ old ++ hex_digits count n
digits_put old mid new zero n d is digit last some = absurd (some refl)
digits_put old mid new (suc count) n d is digit last some =
    let before : suc count - 1 ≡ count = omega arith
    in last ∙ ap (λ x. mid ++ x ∷ []) digit ∙ ap (λ m. m ++ hex_digit (n % 16) ∷ []) (is ∙ ap (λ k. old ++ hex_digits k (n / 16)) before)
    ∙ append_assoc old (hex_digits count (n / 16)) (hex_digit (n % 16) ∷ [])
