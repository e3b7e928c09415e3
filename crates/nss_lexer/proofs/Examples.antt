-- What reading gives at single texts, by computing. With the laws that reading finds what the
-- grammar has, these are examples of the grammar.
use Rattle.std.specs.Prelude.{Some, None, codes}
use Rattle.std.proofs.Common.{◌≡◌, [], ◌∷◌, refl}
use Rattle.nss_lexer.specs.declared.token.TokenKind.TheVariants.{Name, Word, Int, Float, Sign}
use Rattle.nss_lexer.specs.Reading.{scanned, form, lexeme, pass}
use Rattle.nss_lexer.specs.Lexemes.{is_word}
use Rattle.nss_lexer.specs.Strings.{string_value}

prefix_without_digits : lexeme (codes "0x") ≡ Some (scanned (Int 0) 1)
unfolding form
prefix_without_digits = refl

hexadecimal : lexeme (codes "0xFFg") ≡ Some (scanned (Int 255) 4)
unfolding form
hexadecimal = refl

greatest_int : lexeme (codes "4294967295") ≡ Some (scanned (Int 4294967295) 10)
unfolding form
greatest_int = refl

too_great : lexeme (codes "4294967296") ≡ None
unfolding form
too_great = refl

floats : (lexeme (codes "5f") ≡ Some (scanned Float 2)) × (lexeme (codes "1.f") ≡ Some (scanned Float 3))
    × (lexeme (codes ".5") ≡ Some (scanned Float 2)) × (lexeme (codes "4294967296.") ≡ Some (scanned Float 11))
unfolding form
floats = (refl, refl, refl, refl)

longest_sign : (lexeme (codes ">>>=") ≡ Some (scanned Sign 4)) × (lexeme (codes "..") ≡ Some (scanned Sign 1))
unfolding form
longest_sign = (refl, refl)

word_or_name : (lexeme (codes "while") ≡ Some (scanned Word 5)) × (lexeme (codes "while1") ≡ Some (scanned Name 6))
unfolding form is_word
word_or_name = (refl, refl)

unclosed : (lexeme (34 ∷ 97 ∷ []) ≡ None) × (lexeme (34 ∷ 97 ∷ 10 ∷ 34 ∷ []) ≡ None) × (pass (codes "/*/") ≡ None) × (pass (codes "//") ≡ Some 2)
unfolding form pass
unclosed = (refl, refl, refl, refl)

escapes : string_value (34 ∷ 92 ∷ 113 ∷ 92 ∷ 110 ∷ 92 ∷ 120 ∷ 52 ∷ 49 ∷ 92 ∷ 34 ∷ 34 ∷ []) ≡ 113 ∷ 10 ∷ 65 ∷ 34 ∷ []
unfolding string_value
escapes = refl
