-- Reading from the left, as the code does it. Only the law computed_tokens names this: reading is
-- proved to find exactly what the grammar has.
use Rattle.std.specs.Prelude.{ℕ, ◌+◌, ◌*◌, ◌^◌, ◌<◌, Bool, true, false, ◌&&◌, ◌||◌, ◌==◌, nat_lt, nat_le, List, [], ◌∷◌, length, take, drop, slice_index, Option, Some, None, option_map, option_and_then, if◌then◌else◌, not}
use Rattle.std.specs.List.{prefix_len}
use Rattle.std.specs.Char.{digit_value}
use Rattle.std.specs.Str.Parse.{digits_value}
use Rattle.nwq_value.specs.Limits.{name_limit}
use Rattle.nss_lexer.specs.declared.bytes.Class.{Class}
use Rattle.nss_lexer.specs.declared.bytes.Class.TheVariants.{Name as InName, Decimal, Hexadecimal, Line}
use Rattle.nss_lexer.specs.declared.token.TokenKind.{TokenKind}
use Rattle.nss_lexer.specs.declared.token.TokenKind.TheVariants.{Name, Word, Int, Float, Text, Sign}
use Rattle.nss_lexer.specs.declared.scan.Scanned.{Scanned}
use Rattle.nss_lexer.specs.declared.string.Escape.{Escape}
use Rattle.nss_lexer.specs.declared.string.Escape.TheVariants.{Outside, AfterBackslash, AfterX, AfterDigit}
use Rattle.nss_lexer.specs.declared.string.Step.{Step}
use Rattle.nss_lexer.specs.declared.string.Step.TheVariants.{Gives, Leads, Closes, Fails}
use Rattle.nss_lexer.specs.Bytes.{newline, is_blank, is_letter, is_decimal, is_hexadecimal, is_name_byte}
use Rattle.nss_lexer.specs.Lexemes.{is_word, signs}
use Rattle.nss_lexer.specs.Strings.{quote, backslash, small_n, small_x}

abbrev pub is_in : Class → ℕ → Bool
is_in InName b = is_name_byte b
is_in Decimal b = is_decimal b
is_in Hexadecimal b = is_hexadecimal b
is_in Line b = not (b == newline)

-- how many bytes of the class begin the bytes
abbrev pub class_run : Class → List ℕ → ℕ
class_run class bytes = prefix_len (is_in class) bytes

abbrev pub scanned : TokenKind → ℕ → Scanned
scanned kind n = record { kind = kind; length = n }

-- a number that fits 32 bits
abbrev pub small : ℕ → Option ℕ
small n = if nat_lt n (2 ^ 32) then Some n else None

-- within the limits, or nothing
abbrev pub limited : TokenKind → ℕ → Option Scanned
limited Name n = if nat_le n name_limit then Some (scanned Name n) else None
limited (Int v) n = option_map (λ w. scanned (Int w) n) (small v)
limited Word n = Some (scanned Word n)
limited Float n = Some (scanned Float n)
limited Text n = Some (scanned Text n)
limited Sign n = Some (scanned Sign n)

abbrev pub within : Scanned → Option Scanned
within f = limited f.kind f.length

-- the longest form that begins the bytes

abbrev pub name_form : List ℕ → Scanned
name_form bytes = let n = class_run InName bytes in scanned
    (if is_word (take n bytes) then Word else Name) n

-- how many bytes of a float follow its point: digits, and maybe an `f`
abbrev pub fraction_length : List ℕ → ℕ
fraction_length tail = let n = class_run Decimal tail in if slice_index tail n == 102 then n + 1 else n

-- a float whose point stands at this place
abbrev pub float_form : List ℕ → ℕ → Scanned
float_form bytes point = scanned Float (point + 1 + fraction_length (drop (point + 1) bytes))

abbrev pub decimal_form : List ℕ → Scanned
decimal_form bytes =
    let n = class_run Decimal bytes in
    if slice_index bytes n == 46 then float_form bytes n
    else (if slice_index bytes n == 102 then scanned Float (n + 1) else scanned
    (Int (digits_value 10 (take n bytes))) n)

abbrev pub begins_hexadecimal : List ℕ → Bool
begins_hexadecimal bytes =
    slice_index bytes 0 == 48 && (slice_index bytes 1 == 120 || slice_index bytes 1 == 88)
    && is_hexadecimal (slice_index bytes 2)

abbrev pub hexadecimal_form : List ℕ → Scanned
hexadecimal_form bytes =
    let n = class_run Hexadecimal (drop 2 bytes) in scanned
    (Int (digits_value 16 (take n (drop 2 bytes)))) (n + 2)

abbrev pub number_form : List ℕ → Scanned
number_form bytes = if begins_hexadecimal bytes then hexadecimal_form bytes else decimal_form bytes

-- what one more byte of a string does, after bytes that have led so far into an escape
abbrev pub step : Escape → ℕ → Step
step Outside b =
    if b == newline then Fails else
    (if b == quote then Closes else (if b == backslash then Leads AfterBackslash else Gives b))
step AfterBackslash b =
    if b == newline then Fails else
    (if b == small_x then Leads AfterX else Gives (if b == small_n then newline else b))
step AfterX b = if is_hexadecimal b then Leads (AfterDigit (digit_value b)) else Fails
step (AfterDigit high) b = if is_hexadecimal b then Gives (16 * high + digit_value b) else Fails

-- a first digit's value is below 16
abbrev pub FitsByte : Escape → Type 0
FitsByte (AfterDigit high) = high < 16
FitsByte _ = Unit {0}

abbrev pub Keeps : Step → Type 0
Keeps (Leads state) = FitsByte state
Keeps _ = Unit {0}

abbrev pub value_after : Step → (Escape → List ℕ) → List ℕ
value_after (Gives b) rest = b ∷ rest Outside
value_after (Leads state) rest = rest state
value_after Closes rest = []
value_after Fails rest = []

-- the bytes that the rest of a string stands for
abbrev pub value_from : Escape → List ℕ → List ℕ
value_from state [] = []
value_from state (b ∷ text) = value_after (step state b) (λ next. value_from next text)

-- how many bytes come up to and with the closing quote
abbrev pub length_after : Step → (Escape → Option ℕ) → Option ℕ
length_after (Gives b) rest = option_map (λ n. n + 1) (rest Outside)
length_after (Leads state) rest = option_map (λ n. n + 1) (rest state)
length_after Closes rest = Some 1
length_after Fails rest = None

abbrev pub closing : Escape → List ℕ → Option ℕ
closing state [] = None
closing state (b ∷ text) = length_after (step state b) (λ next. closing next text)

abbrev pub string_form : List ℕ → Option Scanned
string_form bytes = option_map (λ n. scanned Text (n + 1)) (closing Outside (drop 1 bytes))

abbrev pub is_prefix : List ℕ → List ℕ → Bool
is_prefix [] bytes = true
is_prefix (b ∷ sign) [] = false
is_prefix (b ∷ sign) (c ∷ bytes) = b == c && is_prefix sign bytes

-- the length of the first entry that begins the bytes
abbrev pub first_prefix : List (List ℕ) → List ℕ → Option ℕ
first_prefix [] bytes = None
first_prefix (sign ∷ table) bytes = if is_prefix sign bytes then Some
    (length sign) else first_prefix table bytes

abbrev pub sign_form : List ℕ → Option Scanned
sign_form bytes = option_map (scanned Sign) (first_prefix signs bytes)

unfoldable pub form : List ℕ → Option Scanned
form bytes =
    let b = slice_index bytes 0 in
    if is_letter b then Some (name_form bytes)
    else (if is_decimal b then Some (number_form bytes)
    else (if b == 46 && is_decimal (slice_index bytes 1) then Some (float_form bytes 0)
    else (if b == quote then string_form bytes
    else sign_form bytes)))

-- the token that begins the bytes, if no comment does
abbrev pub lexeme : List ℕ → Option Scanned
lexeme bytes = option_and_then within (form bytes)

-- what may be passed over

-- how many bytes come up to and with the next `*/`
abbrev pub closing_comment : List ℕ → Option ℕ
closing_comment [] = None
closing_comment (b ∷ text) = if b == 42
    && slice_index text 0 == 47 then Some 2 else option_map (λ n. n + 1) (closing_comment text)

-- the length of the closed comment that begins the bytes
abbrev pub comment : List ℕ → Option ℕ
comment [] = None
comment (b ∷ []) = None
comment (b ∷ c ∷ text) =
    if b == 47 && c == 47 then Some (class_run Line text + 2)
    else (if b == 47 && c == 42 then option_map (λ n. n + 2) (closing_comment text) else None)

-- the length of the blank or the closed comment that begins the bytes
unfoldable pub pass : List ℕ → Option ℕ
pass [] = None
pass (b ∷ bytes) = if is_blank b then Some 1 else comment (b ∷ bytes)
