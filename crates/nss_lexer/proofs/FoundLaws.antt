-- What is read as a token has the form of that token.
use Rattle.std.specs.Prelude.{Option, Some, None, option_map, ◌==◌, if◌then◌else◌, ◌||◌, ◌&&◌, nat_lt, slice_index, bytes_eq}
use Rattle.std.specs.List.{prefix_len, AllByRecursion, list_any, list_all}
use Rattle.std.specs.Char.{digit_value, is_digit}
use Rattle.std.specs.Str.Parse.{IsNumeral, AllDigits, digits_value}
use Rattle.std.proofs.Common.{◌≡◌, ℕ, suc, ◌+◌, ◌<◌, ◌≤◌, Bool, true, false, List, [], ◌∷◌, ◌++◌, length, take, drop, refl, ap, sym, ◌∙◌, subst, arith, ⊎_elim}
use Rattle.std.proofs.lemmas.List.{append-nil, get_or_past, length-take, length-drop, take_more}
use Rattle.std.proofs.lemmas.List.Sums.{prefix_len-le-length}
use Rattle.std.proofs.Math.Seq.{take-add, drop-cons}
use Rattle.std.proofs.Math.Numerals.{one-add}
use Rattle.std.proofs.lemmas.Slice.Eq.{bytes_eq-Decides}
use Rattle.std.proofs.lemmas.Bool.{cases_Bool, cases_lt, and_parts, or_left, or_right, false≢true, cond_both, eqb-true, cond-true, cond-false, ltb-true}
use Rattle.nss_lexer.specs.declared.bytes.Class.{Class}
use Rattle.nss_lexer.specs.declared.bytes.Class.TheVariants.{Name as InName, Decimal, Hexadecimal}
use Rattle.nss_lexer.specs.declared.token.TokenKind.{TokenKind}
use Rattle.nss_lexer.specs.declared.token.TokenKind.TheVariants.{Name, Word, Int, Float, Text, Sign}
use Rattle.nss_lexer.specs.declared.scan.Scanned.{Scanned}
use Rattle.nss_lexer.specs.declared.string.Escape.TheVariants.{Outside}
use Rattle.nss_lexer.specs.Bytes.{is_letter, is_decimal, is_hexadecimal, is_name_byte}
use Rattle.nss_lexer.specs.Lexemes.{IsIdentifier, decimal, hexadecimal, IsSuffix, none, suffix, IsFloat, pointed, fraction, marked, HasForm, is_word, is_sign, signs}
use Rattle.nss_lexer.specs.Strings.{quoted}
use Rattle.nss_lexer.specs.Reading.{is_in, class_run, scanned, name_form, fraction_length, float_form, decimal_form, begins_hexadecimal, hexadecimal_form, number_form, string_form, is_prefix}
use Rattle.nss_lexer.specs.Reading.{first_prefix, sign_form, form, closing}
use Rattle.nss_lexer.proofs.StringLaws.{closing_finishes}

-- the bytes have the form that was read, with one byte at least
pub record IsFound (bytes : List ℕ) (f : Scanned) : Type 0 where
  pub has : HasForm f.kind (take f.length bytes)
  pub some : 0 < f.length
  pub within : f.length ≤ length bytes

abbrev pub IsFoundIf : List ℕ → Option Scanned → Type 0
IsFoundIf bytes None = Unit {0}
IsFoundIf bytes (Some f) = IsFound bytes f

run_passes : (p : ℕ → Bool) (xs : List ℕ) → AllByRecursion (λ c. p c ≡ true) (take (prefix_len p xs) xs)
run_passes p [] = tt
run_passes p (x ∷ xs) =
    ⊎_elim
    (λ h. let one : prefix_len p (x ∷ xs) ≡ suc (prefix_len p xs) = cond-true (p x) (1 + prefix_len p xs) 0 h ∙ one-add (prefix_len p xs) in
    subst (λ n. AllByRecursion (λ c. p c ≡ true) (take n (x ∷ xs))) (sym one) (h, run_passes p xs))
    (λ h. let none : prefix_len p (x ∷ xs) ≡ 0 = cond-false (p x) (1 + prefix_len p xs) 0 h in
    subst (λ n. AllByRecursion (λ c. p c ≡ true) (take n (x ∷ xs))) (sym none) tt)
    (cases_Bool (p x))

run_some : (p : ℕ → Bool) (x : ℕ) (xs : List ℕ) → p x ≡ true → prefix_len p (x ∷ xs) ≡ suc (prefix_len p xs)
run_some p x xs h = cond-true (p x) (1 + prefix_len p xs) 0 h ∙ one-add (prefix_len p xs)

pass_digits : (radix : ℕ) (xs : List ℕ) → AllByRecursion (λ c. is_digit c radix ≡ true) xs → AllDigits radix xs
pass_digits radix [] all = tt
pass_digits radix (x ∷ xs) all = (ltb-true (digit_value x) radix all.0, pass_digits radix xs all.1)

run_decimals : (bytes : List ℕ) → AllDigits 10 (take (class_run Decimal bytes) bytes)
run_decimals bytes = pass_digits 10 (take (class_run Decimal bytes) bytes) (run_passes (is_in Decimal) bytes)

run_hexadecimals : (bytes : List ℕ) → AllDigits 16 (take (class_run Hexadecimal bytes) bytes)
run_hexadecimals bytes = pass_digits 16 (take (class_run Hexadecimal bytes) bytes) (run_passes (is_in Hexadecimal) bytes)

pub length_taken : (n : ℕ) (xs : List ℕ) → n ≤ length xs → length (take n xs) ≡ n
length_taken n xs h = simp length-take (omega arith)

run_within : (class : Class) (bytes : List ℕ) → class_run class bytes ≤ length bytes
run_within class bytes = prefix_len-le-length (is_in class) bytes

-- ---- names and words

abbrev kind_of_name : List ℕ → TokenKind
kind_of_name text = if is_word text then Word else Name

name_has : (text : List ℕ) → IsIdentifier text → HasForm (kind_of_name text) text
name_has text h =
    ⊎_elim
    (λ is. subst (λ k. HasForm k text) (sym (cond-true (is_word text) Word Name is)) is)
    (λ is. subst (λ k. HasForm k text) (sym (cond-false (is_word text) Word Name is)) (h, is))
    (cases_Bool (is_word text))

name_found : (bytes : List ℕ) → is_letter (slice_index bytes 0) ≡ true → IsFound bytes (name_form bytes)
name_found [] h = absurd (false≢true h)
name_found (b ∷ bytes) h =
    let w : List ℕ = b ∷ bytes in
    let one : class_run InName w ≡ suc (class_run InName bytes) = run_some (is_in InName) b bytes (or_left (is_letter b) (is_decimal b) h) in
    let all : AllByRecursion (λ c. is_name_byte c ≡ true) (take (class_run InName bytes) bytes) = run_passes (is_in InName) bytes in
    let fits : class_run InName bytes ≤ length bytes = run_within InName bytes in
    subst (λ n. IsFound w (scanned (kind_of_name (take n w)) n)) (sym one) (record {
      has = name_has (b ∷ take (class_run InName bytes) bytes) (h, all);
      some = omega arith;
      within = omega (arith, fits);
    })

-- ---- numbers

inside_from : (bytes : List ℕ) (n c : ℕ) → slice_index bytes n ≡ c → 0 < c → n < length bytes
inside_from bytes n c is some =
    ⊎_elim (λ h. h) (λ past. absurd (omega (arith, get_or_past bytes n 0 past, is))) (cases_lt n (length bytes))

-- the bytes through one at a place and some after it
taken_through : (bytes : List ℕ) (n c more : ℕ) → slice_index bytes n ≡ c → 0 < c
    → take (n + 1 + more) bytes ≡ take n bytes ++ c ∷ take more (drop (n + 1) bytes)
taken_through bytes n c more is some =
    let inside : n < length bytes = inside_from bytes n c is some in
    let count : n + 1 + more ≡ n + suc more = omega arith in
    let one : n + 1 ≡ suc n = omega arith in
    ap (λ k. take k bytes) count ∙ take-add n (suc more) bytes
    ∙ ap (λ t. take n bytes ++ take (suc more) t) (drop-cons bytes n 0 inside)
    ∙ ap (λ x. take n bytes ++ x ∷ take more (drop (suc n) bytes)) is
    ∙ ap (λ k. take n bytes ++ c ∷ take more (drop k bytes)) (sym one)

record FractionSplit (tail : List ℕ) (n : ℕ) : Type 0 where
  pub end : List ℕ
  pub ends : IsSuffix end
  pub is : take n tail ≡ take (class_run Decimal tail) tail ++ end
  pub within : n ≤ length tail
  pub least : class_run Decimal tail ≤ n

fraction_split : (tail : List ℕ) → FractionSplit tail (fraction_length tail)
fraction_split tail =
    let r : ℕ = class_run Decimal tail in
    cond_both (slice_index tail r == 102) (r + 1) r (FractionSplit tail)
    (λ mark.
    let is : slice_index tail r ≡ 102 = eqb-true (slice_index tail r) 102 mark in
    let inside : r < length tail = inside_from tail r 102 is (omega arith) in
    record {
      end = 102 ∷ [];
      ends = suffix;
      is = take_more tail r 0 inside ∙ ap (λ c. take r tail ++ c ∷ []) is;
      within = omega (arith, inside);
      least = omega arith;
    })
    (λ _. record { end = []; ends = none; is = sym (append-nil (take r tail)); within = run_within Decimal tail; least = omega arith })

numeral_found : (d : ℕ) (bytes : List ℕ) → is_decimal d ≡ true → IsNumeral 10 (take (class_run Decimal (d ∷ bytes)) (d ∷ bytes))
numeral_found d bytes h =
    let w : List ℕ = d ∷ bytes in
    let one : class_run Decimal w ≡ suc (class_run Decimal bytes) = run_some (is_in Decimal) d bytes h in
    let size : length (take (class_run Decimal w) w) ≡ class_run Decimal w = length_taken (class_run Decimal w) w (run_within Decimal w) in
    (omega (arith, one, size), run_decimals w)

decimal_found : (d : ℕ) (bytes : List ℕ) → is_decimal d ≡ true → IsFound (d ∷ bytes) (decimal_form (d ∷ bytes))
decimal_found d bytes h =
    let w : List ℕ = d ∷ bytes in
    let n : ℕ = class_run Decimal w in
    let one : n ≡ suc (class_run Decimal bytes) = run_some (is_in Decimal) d bytes h in
    let numeral : IsNumeral 10 (take n w) = numeral_found d bytes h in
    let fits : n ≤ length w = run_within Decimal w in
    let tail : List ℕ = drop (n + 1) w in
    cond_both (slice_index w n == 46) (float_form w n) _ (IsFound w)
    (λ point.
    let is : slice_index w n ≡ 46 = eqb-true (slice_index w n) 46 point in
    let inside : n < length w = inside_from w n 46 is (omega arith) in
    let split = fraction_split tail in
    let text : take (n + 1 + fraction_length tail) w ≡ take n w ++ 46 ∷ (take (class_run Decimal tail) tail ++ split.end) =
    taken_through w n 46 (fraction_length tail) is (omega arith) ∙ ap (λ t. take n w ++ 46 ∷ t) split.is in
    record {
      has = subst IsFloat (sym text) (pointed (take n w) (take (class_run Decimal tail) tail) split.end numeral (run_decimals tail) split.ends);
      some = omega arith;
      within = omega (arith, split.within, length-drop (n + 1) w, inside);
    })
    (λ _. cond_both (slice_index w n == 102) (scanned Float (n + 1)) (scanned (Int (digits_value 10 (take n w))) n) (IsFound w)
    (λ mark.
    let is : slice_index w n ≡ 102 = eqb-true (slice_index w n) 102 mark in
    let inside : n < length w = inside_from w n 102 is (omega arith) in
    record {
      has = subst IsFloat (sym (take_more w n 0 inside ∙ ap (λ c. take n w ++ c ∷ []) is)) (marked (take n w) numeral);
      some = omega arith;
      within = omega (arith, inside);
    })
    (λ _. record { has = decimal (take n w) numeral; some = omega (arith, one); within = fits }))

hexadecimal_at : (x d : ℕ) (bytes : List ℕ) → (x == 120 || x == 88) ≡ true → is_hexadecimal d ≡ true
    → IsFound (48 ∷ x ∷ d ∷ bytes) (hexadecimal_form (48 ∷ x ∷ d ∷ bytes))
hexadecimal_at x d bytes is h =
    let w : List ℕ = 48 ∷ x ∷ d ∷ bytes in
    let rest : List ℕ = d ∷ bytes in
    let n : ℕ = class_run Hexadecimal rest in
    let one : n ≡ suc (class_run Hexadecimal bytes) = run_some (is_in Hexadecimal) d bytes h in
    let fits : n ≤ length rest = run_within Hexadecimal rest in
    let size : length (take n rest) ≡ n = length_taken n rest fits in
    let numeral : IsNumeral 16 (take n rest) = (omega (arith, one, size), run_hexadecimals rest) in
    let two : n + 2 ≡ suc (suc n) = omega arith in
    subst (λ k. IsFound w (scanned (Int (digits_value 16 (take n rest))) k)) (sym two) (record {
      has = hexadecimal x (take n rest) is numeral;
      some = omega arith;
      within = omega (arith, fits);
    })

no_x : (b : Bool) → (b && false) ≡ false
no_x true = refl
no_x false = refl

some_same : (m n : ℕ) → Some m ≡ Some n → m ≡ n
some_same m n e = cc

hexadecimal_found : (bytes : List ℕ) → begins_hexadecimal bytes ≡ true → IsFound bytes (hexadecimal_form bytes)
hexadecimal_found [] h = absurd (false≢true h)
hexadecimal_found (z ∷ []) h = absurd (false≢true (sym (no_x (z == 48)) ∙ (and_parts ((z == 48) && false) false h).0))
hexadecimal_found (z ∷ x ∷ []) h = absurd (false≢true (and_parts ((z == 48) && (x == 120 || x == 88)) false h).1)
hexadecimal_found (z ∷ x ∷ d ∷ bytes) h =
    let both = and_parts ((z == 48) && (x == 120 || x == 88)) (is_hexadecimal d) h in
    let parts = and_parts (z == 48) (x == 120 || x == 88) both.0 in
    let zero_is : z ≡ 48 = eqb-true z 48 parts.0 in
    subst (λ z. IsFound (z ∷ x ∷ d ∷ bytes) (hexadecimal_form (z ∷ x ∷ d ∷ bytes))) (sym zero_is) (hexadecimal_at x d bytes parts.1 both.1)

number_found : (bytes : List ℕ) → is_decimal (slice_index bytes 0) ≡ true → IsFound bytes (number_form bytes)
number_found [] h = absurd (false≢true h)
number_found (d ∷ bytes) h =
    cond_both (begins_hexadecimal (d ∷ bytes)) (hexadecimal_form (d ∷ bytes)) (decimal_form (d ∷ bytes)) (IsFound (d ∷ bytes))
    (λ hex. hexadecimal_found (d ∷ bytes) hex) (λ _. decimal_found d bytes h)

fraction_at : (d : ℕ) (bytes : List ℕ) → is_decimal d ≡ true → IsFound (46 ∷ d ∷ bytes) (float_form (46 ∷ d ∷ bytes) 0)
fraction_at d bytes h =
    let tail : List ℕ = d ∷ bytes in
    let split = fraction_split tail in
    let count : 0 + 1 + fraction_length tail ≡ suc (fraction_length tail) = omega arith in
    subst (λ k. IsFound (46 ∷ tail) (scanned Float k)) (sym count) (record {
      has = subst (λ t. IsFloat (46 ∷ t)) (sym split.is) (fraction (take (class_run Decimal tail) tail) split.end (numeral_found d bytes h) split.ends);
      some = omega arith;
      within = omega (arith, split.within);
    })

fraction_found : (bytes : List ℕ) → ((slice_index bytes 0 == 46) && is_decimal (slice_index bytes 1)) ≡ true → IsFound bytes (float_form bytes 0)
fraction_found [] h = absurd (false≢true h)
fraction_found (b ∷ []) h = absurd (false≢true (and_parts (b == 46) false h).1)
fraction_found (b ∷ d ∷ bytes) h =
    let both = and_parts (b == 46) (is_decimal d) h in
    let is : b ≡ 46 = eqb-true b 46 both.0 in
    subst (λ b. IsFound (b ∷ d ∷ bytes) (float_form (b ∷ d ∷ bytes) 0)) (sym is) (fraction_at d bytes both.1)

-- ---- strings and signs

string_at : (text : List ℕ) (found : Option ℕ) → closing Outside text ≡ found
    → IsFoundIf (34 ∷ text) (option_map (λ n. scanned Text (n + 1)) found)
string_at text None is = tt
string_at text (Some n) is =
    let f = closing_finishes Outside text n is in
    let inside = f.finishes in
    let one : n + 1 ≡ suc n = omega arith in
    subst (λ k. IsFound (34 ∷ text) (scanned Text k)) (sym one) (record {
      has = (inside.0, quoted (take n text) inside.0 inside.1);
      some = omega arith;
      within = omega (arith, f.within);
    })

string_found : (bytes : List ℕ) → (slice_index bytes 0 == 34) ≡ true → IsFoundIf bytes (string_form bytes)
string_found [] h = absurd (false≢true h)
string_found (q ∷ text) h =
    let is : q ≡ 34 = eqb-true q 34 h in
    subst (λ q. IsFoundIf (q ∷ text) (string_form (q ∷ text))) (sym is) (string_at text (closing Outside text) refl)

prefix_taken : (sign bytes : List ℕ) → is_prefix sign bytes ≡ true → (take (length sign) bytes ≡ sign) × (length sign ≤ length bytes)
prefix_taken [] bytes h = (refl, omega arith)
prefix_taken (b ∷ sign) [] h = absurd (false≢true h)
prefix_taken (b ∷ sign) (c ∷ bytes) h =
    let both = and_parts (b == c) (is_prefix sign bytes) h in
    let is : b ≡ c = eqb-true b c both.0 in
    let rest = prefix_taken sign bytes both.1 in
    (ap (λ x. x ∷ take (length sign) bytes) (sym is) ∙ ap (λ t. b ∷ t) rest.0, omega (arith, rest.1))

pub record FirstFound (table : List (List ℕ)) (bytes : List ℕ) (n : ℕ) : Type 0 where
  pub among : list_any (λ entry. bytes_eq entry (take n bytes)) table ≡ true
  pub within : n ≤ length bytes
  pub some : 0 < n

pub first_found : (table : List (List ℕ)) (bytes : List ℕ) (n : ℕ) → list_all (λ t. nat_lt 0 (length t)) table ≡ true
    → first_prefix table bytes ≡ Some n → FirstFound table bytes n
first_found [] bytes n all is = absurd (cc)
first_found (sign ∷ table) bytes n all is =
    let both = and_parts (nat_lt 0 (length sign)) (list_all (λ t. nat_lt 0 (length t)) table) all in
    ⊎_elim
    (λ here.
    let here_is = prefix_taken sign bytes here in
    let count : length sign ≡ n = some_same (length sign) n (sym (cond-true (is_prefix sign bytes) (Some (length sign)) (first_prefix table bytes) here) ∙ is) in
    let text : sign ≡ take n bytes = sym here_is.0 ∙ ap (λ k. take k bytes) count in
    record {
      among = or_left (bytes_eq sign (take n bytes)) (list_any (λ e. bytes_eq e (take n bytes)) table) ((bytes_eq-Decides sign (take n bytes)).1 text);
      within = omega (arith, here_is.1, count);
      some = omega (arith, ltb-true 0 (length sign) both.0, count);
    })
    (λ here.
    let rest = first_found table bytes n both.1 (sym (cond-false (is_prefix sign bytes) (Some (length sign)) (first_prefix table bytes) here) ∙ is) in
    record {
      among = or_right (bytes_eq sign (take n bytes)) (list_any (λ e. bytes_eq e (take n bytes)) table) rest.among;
      within = rest.within;
      some = rest.some;
    })
    (cases_Bool (is_prefix sign bytes))

pub signs_some : list_all (λ t. nat_lt 0 (length t)) signs ≡ true
signs_some = refl

sign_at : (bytes : List ℕ) (found : Option ℕ) → first_prefix signs bytes ≡ found → IsFoundIf bytes (option_map (scanned Sign) found)
unfolding is_sign
sign_at bytes None is = tt
sign_at bytes (Some n) is =
    let f = first_found signs bytes n signs_some is in
    record { has = f.among; some = f.some; within = f.within }

-- ---- all cases

pub form_found : (bytes : List ℕ) → IsFoundIf bytes (form bytes)
unfolding form
form_found bytes =
    let P : Option Scanned → Type 0 = IsFoundIf bytes in
    cond_both (is_letter (slice_index bytes 0)) (Some (name_form bytes)) _ P (λ h. name_found bytes h)
    (λ _. cond_both (is_decimal (slice_index bytes 0)) (Some (number_form bytes)) _ P (λ h. number_found bytes h)
    (λ _. cond_both ((slice_index bytes 0 == 46) && is_decimal (slice_index bytes 1)) (Some (float_form bytes 0)) _ P (λ h. fraction_found bytes h)
    (λ _. cond_both (slice_index bytes 0 == 34) (string_form bytes) (sign_form bytes) P (λ h. string_found bytes h)
    (λ _. sign_at bytes (first_prefix signs bytes) refl))))
