-- Where a token of a unit stands.
use Rattle.std.proofs.Common.{◌≡◌, ◌∙◌, refl, sym, ap, ap₂, subst, ℕ, zero, suc, List, [], ◌∷◌, map, Option, Some, None}
use Rattle.std.specs.List.{AllByRecursion, slice_get}
use Rattle.std.specs.Option.{option_map}
use Rattle.nss_lexer.specs.declared.token.Token.{Token}
use Rattle.nss_lexer.specs.Splitting.{Lexeme, plain}
use Rattle.nss_include.specs.declared.file.Source.{Source}
use Rattle.nss_include.specs.View.{StandsIn, bytes_of}
use Rattle.run_places.specs.Spots.{Place, place_of, spot_of}

map_get : {A B : Type 0} (f : A → B) (xs : List A) (i : ℕ) → slice_get (map f xs) i ≡ option_map f (slice_get xs i)
map_get f [] i = refl
map_get f (x ∷ xs) zero = refl
map_get f (x ∷ xs) (suc i) = map_get f xs i

all_get : {A : Type 0} (P : A → Type 0) (xs : List A) (i : ℕ) (x : A) → AllByRecursion P xs → slice_get xs i ≡ Some x → P x
all_get P [] i x h e = absurd (let no : ⊥ = cc in no)
all_get P (y ∷ xs) zero x h e = let same : y ≡ x = cc in subst P same h.0
all_get P (y ∷ xs) (suc i) x h e = all_get P xs i x h.1 e

-- what the lexer's token of this number is among the unit's
token_get : (tokens : List Token) (lexemes : List Lexeme) (i : ℕ) (found : Option Token) → map plain tokens ≡ lexemes → found ≡ slice_get tokens i
    → slice_get lexemes i ≡ option_map plain found
token_get tokens lexemes i found same e = ap (λ ts. slice_get ts i) (sym same) ∙ map_get plain tokens i ∙ ap (option_map plain) (sym e)

pub token_stands : (files : List Source) (tokens : List Token) (lexemes : List Lexeme) (i : ℕ) (t : Token) → AllByRecursion (StandsIn files) lexemes
    → map plain tokens ≡ lexemes → Some t ≡ slice_get tokens i → StandsIn files (plain t)
token_stands files tokens lexemes i t placed same e = all_get (StandsIn files) lexemes i (plain t) placed (token_get tokens lexemes i (Some t) same e)

abbrev there : List ℕ → List ℕ → ℕ → Place
there name bytes at = record { name = name; bytes = bytes; at = at }

-- the file of this number, by its name and its bytes
file_is : (file : Option Source) (name bytes : List ℕ) (at : ℕ) → option_map (λ (f : Source). f.name) file ≡ Some name
    → option_map (λ (f : Source). f.bytes) file ≡ Some bytes
    → Some (there name bytes at) ≡ option_map (λ (f : Source). there f.name f.bytes at) file
file_is None name bytes at named held = absurd (let no : ⊥ = cc in no)
file_is (Some f) name bytes at named held =
    let one : f.name ≡ name = cc in
    let two : f.bytes ≡ bytes = cc in
    ap₂ (λ n b. Some (there n b at)) (sym one) (sym two)

pub spot_found : (files : List Source) (tokens : List Token) (lexemes : List Lexeme) (i : ℕ) (t : Token) (name bytes : List ℕ) → map plain tokens ≡ lexemes
    → Some t ≡ slice_get tokens i → option_map (λ (f : Source). f.name) (slice_get files t.file) ≡ Some name
    → option_map (λ (f : Source). f.bytes) (slice_get files t.file) ≡ Some bytes
    → Some (there name bytes t.start) ≡ spot_of files lexemes i
spot_found files tokens lexemes i t name bytes same found named held =
    file_is (slice_get files t.file) name bytes t.start named held ∙ ap (place_of files) (sym (token_get tokens lexemes i (Some t) same found))

pub bytes_are : (file : Option Source) (bytes : List ℕ) → option_map (λ (f : Source). f.bytes) file ≡ Some bytes → bytes ≡ bytes_of file
bytes_are None bytes held = absurd (let no : ⊥ = cc in no)
bytes_are (Some f) bytes held = let same : f.bytes ≡ bytes = cc in sym same

pub none_found : (files : List Source) (tokens : List Token) (lexemes : List Lexeme) (i : ℕ) → map plain tokens ≡ lexemes → None ≡ slice_get tokens i
    → None ≡ spot_of files lexemes i
none_found files tokens lexemes i same none = ap (place_of files) (sym (token_get tokens lexemes i None same none))
