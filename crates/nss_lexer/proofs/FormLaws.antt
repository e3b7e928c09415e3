-- What has the form of a token is read as that token, or as a longer one.
use Rattle.std.specs.Prelude.{Option, Some, None, ◌==◌, if◌then◌else◌, ◌||◌, ◌&&◌, not, nat_le, slice_index, bytes_eq}
use Rattle.std.specs.List.{prefix_len, AllByRecursion, list_any, list_all}
use Rattle.std.specs.Char.{digit_value, is_digit}
use Rattle.std.specs.Str.Parse.{IsNumeral, AllDigits, digits_value}
use Rattle.std.proofs.Common.{◌≡◌, ℕ, suc, ◌+◌, ◌<◌, ◌≤◌, Bool, true, false, List, [], ◌∷◌, ◌++◌, length, take, drop, refl, ap, sym, ◌∙◌, subst, arith, ⊎_elim, length-append}
use Rattle.std.proofs.lemmas.List.{take_at, append_assoc, append-nil, get_or_at}
use Rattle.std.proofs.Math.Seq.{drop-append-add}
use Rattle.std.proofs.lemmas.Slice.Eq.{bytes_eq-Decides}
use Rattle.std.proofs.Math.Numerals.{one-add}
use Rattle.std.proofs.lemmas.Bool.{cases_Bool, and_parts, and_from, and_left, and_right, or_cases, or_left, false≢true, cond_both, eqb-true, eq-eqb, leb-true, not-true, not_from_true, cond-true}
use Rattle.std.proofs.lemmas.Bool.{cond-false, lt-ltb}
use Rattle.nss_lexer.specs.declared.bytes.Class.TheVariants.{Name as InName, Decimal, Hexadecimal}
use Rattle.nss_lexer.specs.declared.token.TokenKind.{TokenKind}
use Rattle.nss_lexer.specs.declared.token.TokenKind.TheVariants.{Name, Word, Int, Float, Text, Sign}
use Rattle.nss_lexer.specs.declared.scan.Scanned.{Scanned}
use Rattle.nss_lexer.specs.Bytes.{is_letter, is_decimal, is_hexadecimal, is_name_byte}
use Rattle.nss_lexer.specs.Lexemes.{IsIdentifier, IsInt, decimal, hexadecimal, IsSuffix, none, suffix, IsFloat, pointed, fraction, marked, HasForm, is_word, is_sign, words, signs}
use Rattle.nss_lexer.specs.Strings.{StandsFor, quoted}
use Rattle.nss_lexer.specs.Reading.{is_in, class_run, scanned, name_form, fraction_length, float_form, decimal_form, begins_hexadecimal, hexadecimal_form, number_form, string_form, is_prefix}
use Rattle.nss_lexer.specs.Reading.{first_prefix, sign_form, form}
use Rattle.nss_lexer.proofs.StringLaws.{inside_read}

-- ---- the cases of reading

pub form_letter : (bytes : List ℕ) → is_letter (slice_index bytes 0) ≡ true → form bytes ≡ Some (name_form bytes)
unfolding form
form_letter bytes h = cond-true _ _ _ h

pub form_digit : (bytes : List ℕ) → is_letter (slice_index bytes 0) ≡ false → is_decimal (slice_index bytes 0) ≡ true
    → form bytes ≡ Some (number_form bytes)
unfolding form
form_digit bytes h d = cond-false _ _ _ h ∙ cond-true _ _ _ d

pub form_point : (bytes : List ℕ) → is_letter (slice_index bytes 0) ≡ false → is_decimal (slice_index bytes 0) ≡ false
    → ((slice_index bytes 0 == 46) && is_decimal (slice_index bytes 1)) ≡ true → form bytes ≡ Some (float_form bytes 0)
unfolding form
form_point bytes h d p = cond-false _ _ _ h ∙ cond-false _ _ _ d ∙ cond-true _ _ _ p

pub form_quote : (bytes : List ℕ) → is_letter (slice_index bytes 0) ≡ false → is_decimal (slice_index bytes 0) ≡ false
    → ((slice_index bytes 0 == 46) && is_decimal (slice_index bytes 1)) ≡ false → (slice_index bytes 0 == 34) ≡ true
    → form bytes ≡ string_form bytes
unfolding form
form_quote bytes h d p q = cond-false _ _ _ h ∙ cond-false _ _ _ d ∙ cond-false _ _ _ p ∙ cond-true _ _ _ q

pub form_sign : (bytes : List ℕ) → is_letter (slice_index bytes 0) ≡ false → is_decimal (slice_index bytes 0) ≡ false
    → ((slice_index bytes 0 == 46) && is_decimal (slice_index bytes 1)) ≡ false → (slice_index bytes 0 == 34) ≡ false
    → form bytes ≡ sign_form bytes
unfolding form
form_sign bytes h d p q = cond-false _ _ _ h ∙ cond-false _ _ _ d ∙ cond-false _ _ _ p ∙ cond-false _ _ _ q

-- ---- bytes in a row

run_least : (p : ℕ → Bool) (xs ys : List ℕ) → AllByRecursion (λ c. p c ≡ true) xs → length xs ≤ prefix_len p (xs ++ ys)
run_least p [] ys all = omega arith
run_least p (x ∷ xs) ys all = let rest = run_least p xs ys all.1 in rw all.0 (omega (arith, rest))

run_exact : (p : ℕ → Bool) (xs : List ℕ) (c : ℕ) (ys : List ℕ) → AllByRecursion (λ c. p c ≡ true) xs → p c ≡ false
    → prefix_len p (xs ++ c ∷ ys) ≡ length xs
run_exact p [] c ys all stops = rw stops refl
run_exact p (x ∷ xs) c ys all stops = rw (all.0, run_exact p xs c ys all.1 stops) (one-add (length xs))

take_run : (xs ys : List ℕ) (n : ℕ) → length xs ≡ n → take n (xs ++ ys) ≡ xs
take_run xs ys n e = take_at xs ys n e

digits_pass : (radix : ℕ) (xs : List ℕ) → AllDigits radix xs → AllByRecursion (λ c. is_digit c radix ≡ true) xs
digits_pass radix [] all = tt
digits_pass radix (x ∷ xs) all = (lt-ltb (digit_value x) radix all.0, digits_pass radix xs all.1)

decimals_pass : (xs : List ℕ) → AllDigits 10 xs → AllByRecursion (λ c. is_in Decimal c ≡ true) xs
decimals_pass xs all = digits_pass 10 xs all

hexadecimals_pass : (xs : List ℕ) → AllDigits 16 xs → AllByRecursion (λ c. is_in Hexadecimal c ≡ true) xs
hexadecimals_pass xs all = digits_pass 16 xs all

pub digit_is_no_letter : (b : ℕ) → digit_value b < 10 → is_letter b ≡ false
digit_is_no_letter b h = grind arith

-- ---- names and words

-- The bytes are read as at least so many, and where these are all, as of this kind.
abbrev pub AtLeast : TokenKind → ℕ → Option Scanned → Type 0
AtLeast kind m None = ⊥
AtLeast kind m (Some f) = (m ≤ f.length) × (m ≡ f.length → kind ≡ f.kind)

abbrev kind_of_name : List ℕ → TokenKind
kind_of_name text = if is_word text then Word else Name

name_reads : (kind : TokenKind) (text more : List ℕ) → IsIdentifier text → kind ≡ kind_of_name text → AtLeast kind (length text) (form (text ++ more))
name_reads kind [] more h is = absurd h
name_reads kind (b ∷ bytes) more h is =
    let all : AllByRecursion (λ c. is_in InName c ≡ true) (b ∷ bytes) = (or_left (is_letter b) (is_decimal b) h.0, h.1) in
    subst (AtLeast kind (length (b ∷ bytes))) (sym (form_letter (b ∷ (bytes ++ more)) h.0)) (
      run_least (is_in InName) (b ∷ bytes) more all,
      λ same. is ∙ ap kind_of_name (sym (take_run (b ∷ bytes) more (class_run InName (b ∷ (bytes ++ more))) same)),
    )

-- ---- numbers

digit_is_no_x : (b : ℕ) → digit_value b < 10 → (b == 120 || b == 88) ≡ false
digit_is_no_x b h = grind arith

decimal_at : (bytes : List ℕ) (n : ℕ) → class_run Decimal bytes ≡ n → slice_index bytes n ≡ 46 → decimal_form bytes ≡ float_form bytes n
decimal_at bytes n count is_point = rw count (rw is_point refl)

marked_at : (bytes : List ℕ) (n : ℕ) → class_run Decimal bytes ≡ n → slice_index bytes n ≡ 102 → decimal_form bytes ≡ scanned Float (n + 1)
marked_at bytes n count is_mark = rw count (rw is_mark refl)

marked_fraction : (bytes : List ℕ) (n : ℕ) → class_run Decimal bytes ≡ n → slice_index bytes n ≡ 102 → fraction_length bytes ≡ n + 1
marked_fraction bytes n count is_mark = rw count (rw is_mark refl)

digit_second : (digits end more : List ℕ) → IsNumeral 10 digits → is_decimal (slice_index ((digits ++ end) ++ more) 0) ≡ true
digit_second [] end more h = absurd (omega (arith, h.0))
digit_second (d ∷ ds) end more h = lt-ltb (digit_value d) 10 h.1.0

-- no hexadecimal number begins with a decimal digit and then a digit, or this byte
no_hexadecimal : (d : ℕ) (ds : List ℕ) (c : ℕ) (tail : List ℕ) → AllDigits 10 ds → (c == 120 || c == 88) ≡ false
    → begins_hexadecimal (d ∷ (ds ++ c ∷ tail)) ≡ false
no_hexadecimal d [] c tail all stops =
    and_left ((d == 48) && (c == 120 || c == 88)) (is_hexadecimal (slice_index tail 0)) (and_right (d == 48) (c == 120 || c == 88) stops)
no_hexadecimal d (e ∷ ds) c tail all stops =
    and_left ((d == 48) && (e == 120 || e == 88)) (is_hexadecimal (slice_index (ds ++ c ∷ tail) 0))
    (and_right (d == 48) (e == 120 || e == 88) (digit_is_no_x e all.0))

-- digits and then a byte that is no digit, which a point or an `f` is
number_front : (d : ℕ) (ds : List ℕ) (c : ℕ) (tail : List ℕ) → digit_value d < 10 → AllDigits 10 ds → (c == 120 || c == 88) ≡ false
    → form (d ∷ (ds ++ c ∷ tail)) ≡ Some (decimal_form (d ∷ (ds ++ c ∷ tail)))
number_front d ds c tail h all stops =
    form_digit (d ∷ (ds ++ c ∷ tail)) (digit_is_no_letter d h) (lt-ltb (digit_value d) 10 h)
    ∙ ap Some (cond-false (begins_hexadecimal (d ∷ (ds ++ c ∷ tail))) _ _ (no_hexadecimal d ds c tail all stops))

-- a float with a point behind digits
point_form : (digits tail : List ℕ) → IsNumeral 10 digits → form (digits ++ 46 ∷ tail) ≡ Some (scanned Float (length digits + 1 + fraction_length tail))
point_form [] tail h = absurd (omega (arith, h.0))
point_form (d ∷ ds) tail h =
    let w : List ℕ = d ∷ (ds ++ 46 ∷ tail) in
    let count : class_run Decimal w ≡ length (d ∷ ds) = run_exact (is_in Decimal) (d ∷ ds) 46 tail (decimals_pass (d ∷ ds) h.1) refl in
    let is_point : slice_index w (length (d ∷ ds)) ≡ 46 = get_or_at (d ∷ ds) 46 tail 0 (length (d ∷ ds)) refl in
    let left : drop (length (d ∷ ds) + 1) w ≡ tail = drop-append-add (d ∷ ds) (46 ∷ tail) 1 in
    number_front d ds 46 tail h.1.0 h.1.1 refl
    ∙ ap Some (decimal_at w (length (d ∷ ds)) count is_point ∙ ap (λ t. scanned Float (length (d ∷ ds) + 1 + fraction_length t)) left)

-- and one without a point
marked_form : (digits tail : List ℕ) → IsNumeral 10 digits → form (digits ++ 102 ∷ tail) ≡ Some (scanned Float (length digits + 1))
marked_form [] tail h = absurd (omega (arith, h.0))
marked_form (d ∷ ds) tail h =
    let w : List ℕ = d ∷ (ds ++ 102 ∷ tail) in
    let count : class_run Decimal w ≡ length (d ∷ ds) = run_exact (is_in Decimal) (d ∷ ds) 102 tail (decimals_pass (d ∷ ds) h.1) refl in
    let is_mark : slice_index w (length (d ∷ ds)) ≡ 102 = get_or_at (d ∷ ds) 102 tail 0 (length (d ∷ ds)) refl in
    number_front d ds 102 tail h.1.0 h.1.1 refl ∙ ap Some (marked_at w (length (d ∷ ds)) count is_mark)

fraction_more : (bytes : List ℕ) → class_run Decimal bytes ≤ fraction_length bytes
fraction_more bytes =
    cond_both (slice_index bytes (class_run Decimal bytes) == 102) (class_run Decimal bytes + 1) (class_run Decimal bytes) (λ n. class_run Decimal bytes ≤ n)
    (λ _. omega arith) (λ _. omega arith)

fraction_least : (digits end more : List ℕ) → AllDigits 10 digits → IsSuffix end → length (digits ++ end) ≤ fraction_length ((digits ++ end) ++ more)
fraction_least digits end more all none =
    rw (append-nil digits) (omega (arith, run_least (is_in Decimal) digits more (decimals_pass digits all), fraction_more (digits ++ more)))
fraction_least digits end more all suffix =
    let count : class_run Decimal (digits ++ 102 ∷ more) ≡ length digits = run_exact (is_in Decimal) digits 102 more (decimals_pass digits all) refl in
    let is_mark : slice_index (digits ++ 102 ∷ more) (length digits) ≡ 102 = get_or_at digits 102 more 0 (length digits) refl in
    let whole : fraction_length (digits ++ 102 ∷ more) ≡ length digits + 1 = marked_fraction (digits ++ 102 ∷ more) (length digits) count is_mark in
    rw (append_assoc digits (102 ∷ []) more, whole, length-append digits (102 ∷ [])) (omega arith)

float_reads : (text more : List ℕ) → IsFloat text → AtLeast Float (length text) (form (text ++ more))
float_reads text more (pointed digits tail end h all ends) =
    rw (append_assoc digits (46 ∷ (tail ++ end)) more, point_form digits ((tail ++ end) ++ more) h)
    (simp length-append (omega (arith, fraction_least tail end more all ends, length-append tail end)), λ _. refl)
float_reads text more (fraction digits end h ends) =
    rw (form_point (46 ∷ ((digits ++ end) ++ more)) refl refl (digit_second digits end more h))
    (omega (arith, fraction_least digits end more h.1 ends), λ _. refl)
float_reads text more (marked digits h) =
    rw (append_assoc digits (102 ∷ []) more, marked_form digits more h)
    (simp length-append (omega arith), λ _. refl)

hexadecimal_no_decimal : (d : ℕ) (ds more : List ℕ) → AllDigits 10 ds → begins_hexadecimal (d ∷ (ds ++ more)) ≡ true → length ds ≡ 0
hexadecimal_no_decimal d [] more all is = refl
hexadecimal_no_decimal d (e ∷ ds) more all is =
    absurd (false≢true (sym (and_left ((d == 48) && (e == 120 || e == 88)) (is_hexadecimal (slice_index (ds ++ more) 0))
    (and_right (d == 48) (e == 120 || e == 88) (digit_is_no_x e all.0))) ∙ is))

decimal_reads : (digits more : List ℕ) → IsNumeral 10 digits → AtLeast (Int (digits_value 10 digits)) (length digits) (form (digits ++ more))
decimal_reads [] more h = absurd (omega (arith, h.0))
decimal_reads (d ∷ ds) more h =
    let w : List ℕ = d ∷ (ds ++ more) in
    let kind : TokenKind = Int (digits_value 10 (d ∷ ds)) in
    let m : ℕ = length (d ∷ ds) in
    let least : m ≤ class_run Decimal w = run_least (is_in Decimal) (d ∷ ds) more (decimals_pass (d ∷ ds) h.1) in
    let P : Scanned → Type 0 = λ f. AtLeast kind m (Some f) in
    subst (AtLeast kind m) (sym (form_digit w (digit_is_no_letter d h.1.0) (lt-ltb (digit_value d) 10 h.1.0)))
    (cond_both (begins_hexadecimal w) (hexadecimal_form w) (decimal_form w) P
    (λ hex. let one : length ds ≡ 0 = hexadecimal_no_decimal d ds more h.1.1 hex in
    (omega (arith, one), λ same. absurd (omega (arith, one, same))))
    (λ _. cond_both (slice_index w (class_run Decimal w) == 46) (float_form w (class_run Decimal w)) _ P
    (λ _. (omega (arith, least), λ same. absurd (omega (arith, least, same))))
    (λ _. cond_both (slice_index w (class_run Decimal w) == 102) (scanned Float (class_run Decimal w + 1)) (scanned (Int (digits_value 10 (take (class_run Decimal w) w))) (class_run Decimal w)) P
    (λ _. (omega (arith, least), λ same. absurd (omega (arith, least, same))))
    (λ _. (least, λ same. ap (λ t. Int (digits_value 10 t)) (sym (take_run (d ∷ ds) more (class_run Decimal w) same)))))))

hexadecimal_reads : (x : ℕ) (digits more : List ℕ) → (x == 120 || x == 88) ≡ true → IsNumeral 16 digits
    → AtLeast (Int (digits_value 16 digits)) (length (48 ∷ x ∷ digits)) (form (48 ∷ x ∷ (digits ++ more)))
hexadecimal_reads x [] more is h = absurd (omega (arith, h.0))
hexadecimal_reads x (d ∷ ds) more is h =
    let w : List ℕ = 48 ∷ x ∷ d ∷ (ds ++ more) in
    let kind : TokenKind = Int (digits_value 16 (d ∷ ds)) in
    let n : ℕ = class_run Hexadecimal (d ∷ (ds ++ more)) in
    let least : length (d ∷ ds) ≤ n = run_least (is_in Hexadecimal) (d ∷ ds) more (hexadecimals_pass (d ∷ ds) h.1) in
    let begins : begins_hexadecimal w ≡ true = and_from (x == 120 || x == 88) (is_hexadecimal d) is (lt-ltb (digit_value d) 16 h.1.0) in
    subst (AtLeast kind (length (48 ∷ x ∷ d ∷ ds))) (sym (form_digit w refl refl ∙ ap Some (cond-true (begins_hexadecimal w) _ _ begins))) (
      omega (arith, least),
      λ same. let e : length (d ∷ ds) ≡ n = omega (arith, same) in ap (λ t. Int (digits_value 16 t)) (sym (take_run (d ∷ ds) more n e)),
    )

-- ---- strings

string_reads : (text more : List ℕ) → ((bytes : List ℕ) × StandsFor text bytes) → AtLeast Text (length text) (form (text ++ more))
string_reads text more (bytes, quoted rest ones i) =
    rw (form_quote (34 ∷ (rest ++ more)) refl refl refl refl, (inside_read rest more bytes i).ends) (omega arith, λ _. refl)

-- ---- signs

-- how a sign begins, and that one with a point is no longer than it
sign_head : List ℕ → Bool
sign_head [] = false
sign_head (b ∷ text) =
    not (is_letter b) && (not (is_decimal b) && (not (b == 34) && (not (b == 46) || length text == 0)))

heads_pass : list_all sign_head signs ≡ true
unfolding sign_head
heads_pass = refl

no_head : sign_head [] ≡ true → ⊥
unfolding sign_head
no_head h = false≢true h

-- a fraction with a digit has a byte at least
digit_fraction : (bytes : List ℕ) → is_decimal (slice_index bytes 0) ≡ true → 0 < fraction_length bytes
digit_fraction [] h = absurd (false≢true h)
digit_fraction (b ∷ bytes) h =
    let one : class_run Decimal (b ∷ bytes) ≡ suc (class_run Decimal bytes) = cond-true (is_decimal b) (1 + class_run Decimal bytes) 0 h ∙ one-add (class_run Decimal bytes) in
    omega (arith, one, fraction_more (b ∷ bytes))

falling : List (List ℕ) → Bool
falling [] = true
falling (s ∷ ss) = list_all (λ t. nat_le (length t) (length s)) ss && falling ss

signs_fall : falling signs ≡ true
unfolding falling
signs_fall = refl

-- what one text of a table has, each has
pub any_passes : (test : List ℕ → Bool) (text : List ℕ) (table : List (List ℕ)) → list_any (λ entry. bytes_eq entry text) table ≡ true
    → list_all test table ≡ true → test text ≡ true
any_passes test text [] found all = absurd (false≢true found)
any_passes test text (entry ∷ table) found all =
    let both = and_parts (test entry) (list_all test table) all in
    ⊎_elim
    (λ here. subst (λ t. test t ≡ true) ((bytes_eq-Decides entry text).0 here) both.0)
    (λ later. any_passes test text table later both.1)
    (or_cases (bytes_eq entry text) (list_any (λ e. bytes_eq e text) table) found)

lexeme_found : (text more : List ℕ) → is_prefix text (text ++ more) ≡ true
lexeme_found [] more = refl
lexeme_found (b ∷ text) more = and_from (b == b) (is_prefix text (text ++ more)) (eq-eqb b b refl) (lexeme_found text more)

record FoundLeast (m : ℕ) (found : Option ℕ) : Type 0 where
  pub count : ℕ
  pub is : found ≡ Some count
  pub least : m ≤ count

first_least : (text more : List ℕ) (table : List (List ℕ)) → falling table ≡ true → list_any (λ entry. bytes_eq entry text) table ≡ true
    → FoundLeast (length text) (first_prefix table (text ++ more))
unfolding falling
first_least text more [] fall found = absurd (false≢true found)
first_least text more (sign ∷ table) fall found =
    let both = and_parts (list_all (λ t. nat_le (length t) (length sign)) table) (falling table) fall in
    let among = or_cases (bytes_eq sign text) (list_any (λ e. bytes_eq e text) table) found in
    ⊎_elim
    (λ here. record {
      count = length sign;
      is = cond-true (is_prefix sign (text ++ more)) (Some (length sign)) (first_prefix table (text ++ more)) here;
      least = ⊎_elim
          (λ same. let e : length sign ≡ length text = ap length ((bytes_eq-Decides sign text).0 same) in omega (arith, e))
          (λ later. leb-true (length text) (length sign) (any_passes (λ t. nat_le (length t) (length sign)) text table later both.0))
          among;
    })
    (λ here. ⊎_elim
    (λ same. absurd (false≢true (sym here ∙ ap (λ t. is_prefix t (text ++ more)) ((bytes_eq-Decides sign text).0 same) ∙ lexeme_found text more)))
    (λ later.
    let rest = first_least text more table both.1 later in
    record {
      count = rest.count;
      is = cond-false (is_prefix sign (text ++ more)) (Some (length sign)) (first_prefix table (text ++ more)) here ∙ rest.is;
      least = rest.least;
    })
    among)
    (cases_Bool (is_prefix sign (text ++ more)))

-- a sign's first byte, as tests
record Head (b : ℕ) (text : List ℕ) : Type 0 where
  pub no_letter : is_letter b ≡ false
  pub no_decimal : is_decimal b ≡ false
  pub no_quote : (b == 34) ≡ false
  pub alone : (b == 46) ≡ true → length text ≡ 0

head_of : (b : ℕ) (text : List ℕ) → sign_head (b ∷ text) ≡ true → Head b text
unfolding sign_head
head_of b text h =
    let one = and_parts (not (is_letter b)) _ h in
    let two = and_parts (not (is_decimal b)) _ one.1 in
    let three = and_parts (not (b == 34)) _ two.1 in
    record {
      no_letter = not-true (is_letter b) one.0;
      no_decimal = not-true (is_decimal b) two.0;
      no_quote = not-true (b == 34) three.0;
      alone = λ point. ⊎_elim
          (λ other. absurd (false≢true (sym (not_from_true (b == 46) point) ∙ other)))
          (λ none. eqb-true (length text) 0 none)
          (or_cases (not (b == 46)) (length text == 0) three.1);
    }

sign_reads_at : (text more : List ℕ) → list_any (λ entry. bytes_eq entry text) signs ≡ true → sign_head text ≡ true
    → AtLeast Sign (length text) (form (text ++ more))
sign_reads_at [] more is head = absurd (no_head head)
sign_reads_at (b ∷ text) more is head =
    let h = head_of b text head in
    let w : List ℕ = b ∷ (text ++ more) in
    let found = first_least (b ∷ text) more signs signs_fall is in
    ⊎_elim
    (λ point.
    let both = and_parts (b == 46) (is_decimal (slice_index w 1)) point in
    let short = h.alone both.0 in
    rw (form_point w h.no_letter h.no_decimal point) (omega (arith, short), λ same. absurd (omega (arith, same, short, digit_fraction (drop 1 w) both.1))))
    (λ other.
    rw (form_sign w h.no_letter h.no_decimal other h.no_quote, found.is) (found.least, λ _. refl))
    (cases_Bool ((b == 46) && is_decimal (slice_index w 1)))

sign_reads : (text more : List ℕ) → is_sign text ≡ true → AtLeast Sign (length text) (form (text ++ more))
unfolding is_sign
sign_reads text more is = sign_reads_at text more is (any_passes sign_head text signs is heads_pass)

-- ---- all kinds

word_head : List ℕ → Bool
word_head [] = false
word_head (b ∷ text) = is_letter b && list_all is_name_byte text

all_pass : (test : ℕ → Bool) (xs : List ℕ) → list_all test xs ≡ true → AllByRecursion (λ c. test c ≡ true) xs
all_pass test [] h = tt
all_pass test (x ∷ xs) h = let both = and_parts (test x) (list_all test xs) h in (both.0, all_pass test xs both.1)

identifier_of : (text : List ℕ) → word_head text ≡ true → IsIdentifier text
unfolding word_head
identifier_of [] h = absurd (false≢true h)
identifier_of (b ∷ text) h = let both = and_parts (is_letter b) (list_all is_name_byte text) h in (both.0, all_pass is_name_byte text both.1)

int_reads : (n : ℕ) (text more : List ℕ) → IsInt n text → AtLeast (Int n) (length text) (form (text ++ more))
int_reads n text more (decimal digits h) = decimal_reads digits more h
int_reads n text more (hexadecimal x digits is h) = hexadecimal_reads x digits more is h

words_are_names : list_all word_head words ≡ true
unfolding word_head
words_are_names = refl

word_is_identifier : (text : List ℕ) → is_word text ≡ true → IsIdentifier text
unfolding is_word
word_is_identifier text is = identifier_of text (any_passes word_head text words is words_are_names)

pub reads : (kind : TokenKind) (text more : List ℕ) → HasForm kind text → AtLeast kind (length text) (form (text ++ more))
reads Name text more h = name_reads Name text more h.0 (sym (cond-false (is_word text) Word Name h.1))
reads Word text more h = name_reads Word text more (word_is_identifier text h) (sym (cond-true (is_word text) Word Name h))
reads (Int n) text more h = int_reads n text more h
reads Float text more h = float_reads text more h
reads Text text more h = string_reads text more h
reads Sign text more h = sign_reads text more h
