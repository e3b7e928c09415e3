-- One token more of those that the grammar sees.
use Rattle.std.proofs.Common.{◌≡◌, ◌∙◌, ℕ, ◌+◌, ◌<◌, ◌≤◌, List, [], ◌∷◌, ◌++◌, length, map, drop, get_or, refl, sym, ap, subst, add-one, drop-cons, drop_of_length-le}
use Rattle.std.proofs.lemmas.List as lists
use Rattle.std.specs.List.{AllByRecursion}
use Rattle.nss_lexer.specs.declared.token.Token.{Token}
use Rattle.nss_lexer.specs.Lexemes.{IsToken}
use Rattle.nss_symbols.specs.declared.symbol.Seen.{Seen}
use Rattle.nss_symbols.specs.Symbols.{Symbol, IsLiteral}
use Rattle.nss_symbols.specs.Tokens.{symbol_of, symbols_of}
use Rattle.nss_symbols.specs.Cursor.{plain_symbol, IsSound, AreSound}

-- those that were seen, and those that are left
pub record SeenSoFar (all : List Seen) (tokens : List Token) (i : ℕ) : Type 0 where
  pub same : map plain_symbol all ++ symbols_of (drop i tokens) ≡ symbols_of tokens
  pub sound : AreSound all
  pub literals : AllByRecursion IsLiteral (map plain_symbol all)
  pub left : AllByRecursion IsToken (drop i tokens)

pub sound_push : (xs : List Seen) (s : Seen) → AreSound xs → IsSound s → AreSound (xs ++ s ∷ [])
sound_push [] s h k = (k, tt)
sound_push (x ∷ xs) s h k = (h.0, sound_push xs s h.1 k)

pub literal_push : (xs : List Seen) (s : Seen) → AllByRecursion IsLiteral (map plain_symbol xs) → IsLiteral (plain_symbol s)
    → AllByRecursion IsLiteral (map plain_symbol (xs ++ s ∷ []))
literal_push [] s h k = (k, tt)
literal_push (x ∷ xs) s h k = (h.0, literal_push xs s h.1 k)

pub map_push : (xs : List Seen) (s : Seen) (rest : List Symbol) → map plain_symbol (xs ++ s ∷ []) ++ rest ≡ map plain_symbol xs ++ plain_symbol s ∷ rest
map_push [] s rest = refl
map_push (x ∷ xs) s rest = ap (λ (l : List Symbol). plain_symbol x ∷ l) (map_push xs s rest)

pub seen_more : (all : List Seen) (tokens : List Token) (i : ℕ) (d : Token) (s : Seen) → i < length tokens → plain_symbol s ≡ symbol_of (get_or tokens i d) → IsSound s → IsLiteral (plain_symbol s)
    → SeenSoFar all tokens i → SeenSoFar (all ++ s ∷ []) tokens (i + 1)
seen_more all tokens i d s h e k l so =
    let split : drop i tokens ≡ get_or tokens i d ∷ drop (i + 1) tokens = drop-cons tokens i d h ∙ ap (λ (n : ℕ). get_or tokens i d ∷ drop n tokens) (sym (add-one i)) in
    record {
      same = map_push all s (symbols_of (drop (i + 1) tokens)) ∙ ap (λ (z : Symbol). map plain_symbol all ++ z ∷ symbols_of (drop (i + 1) tokens)) e
          ∙ ap (λ (ts : List Token). map plain_symbol all ++ symbols_of ts) (sym split) ∙ so.same;
      sound = sound_push all s so.sound k;
      literals = literal_push all s so.literals l;
      left = (subst (λ (ts : List Token). AllByRecursion IsToken ts) split so.left).1;
    }
