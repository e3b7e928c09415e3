-- Where the tokens of a unit stand.
use Rattle.std.proofs.Common.{◌≡◌, ℕ, zero, suc, List, [], ◌∷◌, length, map, Option, Some, None, Result, Ok, Err, IfOk, refl, sym, ap, ◌∙◌, subst}
use Rattle.std.specs.List.{AllByRecursion, slice_get}
use Rattle.std.specs.Option.{option_map}
use Rattle.std.proofs.lemmas.List.Elements.{All-from_recursion}
use Rattle.std.proofs.lemmas.Option.{get_or_from_slice_get, slice_get-map, slice_get_within}
use Rattle.nwq_value.specs.declared.memory.NoMemory.{NoMemory}
use Rattle.nss_lexer.specs.declared.token.Token.{Token}
use Rattle.nss_lexer.specs.Splitting.{Lexeme, plain}
use Rattle.nss_include.specs.declared.fault.Spot.{Spot}
use Rattle.nss_include.specs.declared.file.Source.{Source}
use Rattle.nss_include.specs.Names.{spot_in}
use Rattle.nss_include.specs.View.{StandsIn}
use Rattle.nss_symbols.specs.Tokens.{symbol_of, symbols_of}
use Rattle.command_sources.specs.Units.{grammar_symbols, file_at, spot_of, spot_at}

-- what the lexer's token of this number is among the unit's
token_get : (tokens : List Token) (lexemes : List Lexeme) (i : ℕ) (found : Option Token) → map plain tokens ≡ lexemes → found ≡ slice_get tokens i
    → slice_get lexemes i ≡ option_map plain found
token_get tokens lexemes i found same e = ap (λ ts. slice_get ts i) (sym same) ∙ slice_get-map plain tokens i ∙ ap (option_map plain) (sym e)

pub token_stands : (files : List Source) (tokens : List Token) (lexemes : List Lexeme) (i : ℕ) (t : Token) → AllByRecursion (StandsIn files) lexemes
    → map plain tokens ≡ lexemes → Some t ≡ slice_get tokens i → StandsIn files (plain t)
token_stands files tokens lexemes i t placed same e =
    let found : slice_get lexemes i ≡ Some (plain t) = token_get tokens lexemes i (Some t) same e in
    subst (StandsIn files) (get_or_from_slice_get lexemes i (plain t) (plain t) found)
    (All-from_recursion (StandsIn files) lexemes placed i (plain t) (slice_get_within lexemes i (plain t) found))

-- a place in a file of this number
spot_there : (files : List Source) (n : ℕ) (at : Source → ℕ) (spot : Spot) → option_map (λ (f : Source). spot_in f (at f)) (slice_get files n) ≡ Some spot
    → spot ≡ spot_in (file_at files n) (at (file_at files n))
spot_there [] n at spot e = absurd (let no : ⊥ = cc in no)
spot_there (f ∷ files) zero at spot e = let same : spot_in f (at f) ≡ spot = cc in sym same
spot_there (f ∷ files) (suc n) at spot e = spot_there files n at spot e

pub token_spot : (files : List Source) (tokens : List Token) (lexemes : List Lexeme) (i : ℕ) (t : Token) (spot : Spot) → map plain tokens ≡ lexemes
    → Some t ≡ slice_get tokens i → option_map (λ (f : Source). spot_in f t.start) (slice_get files t.file) ≡ Some spot → spot ≡ spot_at files lexemes i
token_spot files tokens lexemes i t spot same found e =
    spot_there files t.file (λ (f : Source). t.start) spot e ∙ ap (spot_of files) (sym (token_get tokens lexemes i (Some t) same found))

-- the end of the script's file
bytes_there : (files : List Source) (bytes : List ℕ) → option_map (λ (f : Source). f.bytes) (slice_get files 0) ≡ Some bytes → (file_at files 0).bytes ≡ bytes
bytes_there [] bytes e = absurd (let no : ⊥ = cc in no)
bytes_there (f ∷ files) bytes e = let same : f.bytes ≡ bytes = cc in same

pub end_spot : (files : List Source) (tokens : List Token) (lexemes : List Lexeme) (i : ℕ) (bytes : List ℕ) (end : ℕ) (spot : Spot) → map plain tokens ≡ lexemes
    → None ≡ slice_get tokens i → option_map (λ (f : Source). f.bytes) (slice_get files 0) ≡ Some bytes → end ≡ length bytes
    → option_map (λ (f : Source). spot_in f end) (slice_get files 0) ≡ Some spot → spot ≡ spot_at files lexemes i
end_spot files tokens lexemes i bytes end spot same none held ends e =
    spot_there files 0 (λ (f : Source). end) spot e
    ∙ (ap (spot_in (file_at files 0)) (ends ∙ ap length (sym (bytes_there files bytes held)))
    ∙ ap (spot_of files) (sym (token_get tokens lexemes i None same none)))

-- the same of what is answered
module _ (files : List Source) (tokens : List Token) (lexemes : List Lexeme) (i : ℕ) (same : map plain tokens ≡ lexemes) where
  pub token_spots : (r : Result Spot NoMemory) (t : Token) → Some t ≡ slice_get tokens i
      → IfOk r (λ spot. option_map (λ (f : Source). spot_in f t.start) (slice_get files t.file) ≡ Some spot) → IfOk r (λ spot. spot ≡ spot_at files lexemes i)
  token_spots (Ok spot) t found e = token_spot files tokens lexemes i t spot same found e
  token_spots (Err error) t found e = tt

  pub end_spots : (r : Result Spot NoMemory) (bytes : List ℕ) (end : ℕ) → None ≡ slice_get tokens i
      → option_map (λ (f : Source). f.bytes) (slice_get files 0) ≡ Some bytes → end ≡ length bytes
      → IfOk r (λ spot. option_map (λ (f : Source). spot_in f end) (slice_get files 0) ≡ Some spot) → IfOk r (λ spot. spot ≡ spot_at files lexemes i)
  end_spots (Ok spot) bytes end none held ends e = end_spot files tokens lexemes i bytes end spot same none held ends e
  end_spots (Err error) bytes end none held ends e = tt

-- the parser sees the same of the lexer's tokens and of the unit's
seen : (tokens : List Token) → grammar_symbols (map plain tokens) ≡ symbols_of tokens
seen [] = refl
seen (t ∷ tokens) = ap (λ ss. symbol_of t ∷ ss) (seen tokens)

pub seen_same : (tokens : List Token) (lexemes : List Lexeme) → map plain tokens ≡ lexemes → symbols_of tokens ≡ grammar_symbols lexemes
seen_same tokens lexemes same = sym (seen tokens) ∙ ap grammar_symbols same
