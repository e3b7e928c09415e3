-- A string of bytes stands for bytes.
use Rattle.std.proofs.Common.{◌≡◌, ℕ, ◌<◌, true, nat_lt, List, [], ◌∷◌, ◌++◌, subst, arith}
use Rattle.std.proofs.lemmas.Bool.Decides.{nat_tests}
use Rattle.std.proofs.lemmas.List.Elements.{All-nil, All-cons, All-head, All-tail}
use Rattle.std.specs.Prelude.{All, IsTrue}
use Rattle.std.specs.Char.{digit_value}
use Rattle.nss_lexer.specs.Bytes.{is_hexadecimal}
use Rattle.nss_lexer.specs.Strings.{Spelling, plain, escaped, line_end, hexadecimal, Inside, closed, more, quoted, quote, backslash, ValuesAreBytes}
use Rattle.nss_lexer.proofs.StringLaws.{one_value}

abbrev IsByte : ℕ → Type 0
IsByte b = b < 256

sooner : (xs ys : List ℕ) → All IsByte (xs ++ ys) → All IsByte xs
sooner [] ys h = All-nil IsByte
sooner (x ∷ xs) ys h = All-cons IsByte x xs (All-head IsByte x (xs ++ ys) h) (sooner xs ys (All-tail IsByte x (xs ++ ys) h))

later : (xs ys : List ℕ) → All IsByte (xs ++ ys) → All IsByte ys
later [] ys h = h
later (x ∷ xs) ys h = later xs ys (All-tail IsByte x (xs ++ ys) h)

below : (a b : ℕ) → nat_lt a b ≡ true → a < b
below a b h = grind (arith, nat_tests)

half_byte : (c : ℕ) → IsTrue (is_hexadecimal c) → digit_value c < 16
half_byte c h = below (digit_value c) 16 h

spelled_byte : (one : List ℕ) (b : ℕ) → All IsByte one → Spelling one b → b < 256
spelled_byte one b h (plain c is) = All-head IsByte c [] h
spelled_byte one b h (escaped c is) = All-head IsByte c [] (All-tail IsByte backslash (c ∷ []) h)
spelled_byte one b h line_end = omega arith
spelled_byte one b h (hexadecimal high low i j) = let x = half_byte high i in let y = half_byte low j in omega (arith, x, y)

inside_bytes : (text bytes : List ℕ) → All IsByte text → Inside text bytes → All IsByte bytes
inside_bytes text bytes h closed = All-nil IsByte
inside_bytes text bytes h (more b one rest ones s i) =
    All-cons IsByte b ones (spelled_byte one b (sooner one rest h) s) (inside_bytes rest ones (later one rest h) i)

pub values_are_bytes : ValuesAreBytes
values_are_bytes text (bytes, quoted rest ones i) h =
    subst (All IsByte) (one_value (quote ∷ rest) ones (quoted rest ones i)) (inside_bytes rest ones (All-tail IsByte quote rest h) i)
