-- Tokens that end in the body of a function are gone on with as `void a() {` behind any items.
use Rattle.std.proofs.Common.{◌≡◌, ◌≢◌, ℕ, zero, suc, ◌+◌, ◌-◌, ◌<◌, ◌≤◌, true, false, ◌↔◌, List, [], ◌∷◌, ◌++◌, Some, length, map, take, drop, codes, sym, ap, subst, refl, ◌∙◌, arith}
use Rattle.std.proofs.Common.{append_assoc, append-nil, length-append}
use Rattle.std.proofs.lemmas.List.{take_all, take-append-drop, length-drop, length-take-le}
use Rattle.nss_lexer.specs.declared.token.Token.{Token}
use Rattle.nss_tree.specs.Source.{SourceItems}
use Rattle.nss_tree.specs.declared.constants.TypeName.TheVariants as type
use Rattle.nss_symbols.specs.declared.symbol.Seen.{Seen}
use Rattle.nss_symbols.specs.declared.terminal.Terminal.TheVariants as terminal
use Rattle.nss_symbols.specs.Cursor.{plain_symbol}
use Rattle.nss_symbols.specs.Outcome.{first, same_terminal, sees}
use Rattle.nss_symbols.specs.Symbols as symbol
use Rattle.nss_symbols.specs.Symbols.{Symbol, numbered_from}
use Rattle.nss_symbols.specs.Nest.{IsWalkOver, Walk}
use Rattle.nss_symbols.specs.Tokens.{symbols_of}
use Rattle.nss_parser.specs.Grammar as grammar
use Rattle.nss_parser.specs.Unit.{Items}
use Rattle.nss_parser.specs.Unit as spelled
use Rattle.nss_parser.specs.Front.{AreItems, IsOpenBody, OpenBodiesAlike}
use Rattle.nss_parser.specs.Sentence.{IsPrefix}
use Rattle.message_tokens.specs.Behind.{opening, IsBehind, IsCut}
use Rattle.message_tokens.proofs.GoingOn.{as_many, map_drop}

-- items of so many tokens and three
abbrev filler : ℕ → List Symbol
filler zero = symbol.Fixed terminal.Int ∷ symbol.Name (codes "a") ∷ symbol.Fixed terminal.Semicolon ∷ []
filler (suc zero) = symbol.Fixed terminal.Struct ∷ symbol.Name (codes "a") ∷ symbol.Name (codes "a") ∷ symbol.Fixed terminal.Semicolon ∷ []
filler (suc (suc zero)) =
    symbol.Fixed terminal.Int ∷ symbol.Name (codes "a") ∷ symbol.Fixed terminal.Comma ∷ symbol.Name (codes "a") ∷ symbol.Fixed terminal.Semicolon ∷ []
filler (suc (suc (suc n))) = symbol.Fixed terminal.Int ∷ symbol.Name (codes "a") ∷ symbol.Fixed terminal.Semicolon ∷ filler n

filler_length : (n : ℕ) → length (filler n) ≡ n + 3
filler_length zero = refl
filler_length (suc zero) = refl
filler_length (suc (suc zero)) = refl
filler_length (suc (suc (suc n))) = let more = filler_length n in omega (arith, more)

-- before tokens that are items, there are items with these tokens
filler_items : (n k : ℕ) (rest : List Symbol) → ((k : ℕ) → (all : SourceItems) × Items all (numbered_from k rest)) → (all : SourceItems) × Items all (numbered_from k (filler n ++ rest))
filler_items zero k rest h =
    let (all, hs) = h (k + 1 + 1 + 1) in
    (_, spelled.more (spelled.global k (k + 1 + 1) (grammar.word k terminal.Int type.Int refl) (grammar.one (grammar.bare (k + 1) (codes "a")))) hs)
filler_items (suc zero) k rest h =
    let (all, hs) = h (k + 1 + 1 + 1 + 1) in
    (_, spelled.more (spelled.global k (k + 1 + 1 + 1) (grammar.structure k (k + 1) (codes "a")) (grammar.one (grammar.bare (k + 1 + 1) (codes "a")))) hs)
filler_items (suc (suc zero)) k rest h =
    let (all, hs) = h (k + 1 + 1 + 1 + 1 + 1) in (
      _,
      spelled.more (spelled.global k (k + 1 + 1 + 1 + 1) (grammar.word k terminal.Int type.Int refl)
          (grammar.more (k + 1 + 1) (grammar.bare (k + 1) (codes "a")) (grammar.one (grammar.bare (k + 1 + 1 + 1) (codes "a"))))) hs,
    )
filler_items (suc (suc (suc n))) k rest h =
    let (all, hs) = filler_items n (k + 1 + 1 + 1) rest h in
    (_, spelled.more (spelled.global k (k + 1 + 1) (grammar.word k terminal.Int type.Int refl) (grammar.one (grammar.bare (k + 1) (codes "a")))) hs)

no_items : (k : ℕ) → (all : SourceItems) × Items all (numbered_from k [])
no_items k = ([], spelled.none)

-- `void a() {}`
empty_function : (k : ℕ) → (all : SourceItems) × Items all (numbered_from k (opening ++ symbol.Fixed terminal.CloseBrace ∷ []))
empty_function k = (
  _,
  spelled.more (spelled.function k (k + 1) (k + 1 + 1) (k + 1 + 1 + 1) (codes "a") (grammar.word k terminal.Void type.Void refl) spelled.absent
      (spelled.block (k + 1 + 1 + 1 + 1) (k + 1 + 1 + 1 + 1 + 1) grammar.none)) spelled.none,
)

are_items : (n : ℕ) → AreItems (filler n)
are_items n =
    let (all, h) = filler_items n 0 [] no_items in
    (all, subst (λ (l : List Symbol). Items all (numbered_from 0 l)) (append-nil (filler n)) h)

open_filler : (n : ℕ) → IsOpenBody (filler n ++ opening)
open_filler n =
    let (all, h) = filler_items n 0 (opening ++ symbol.Fixed terminal.CloseBrace ∷ []) empty_function in
    (all, subst (λ (l : List Symbol). Items all (numbered_from 0 l)) (sym (append_assoc (filler n) opening (symbol.Fixed terminal.CloseBrace ∷ []))) h)

cut_alike : OpenBodiesAlike → (cut n : ℕ) (tokens : List Symbol) → IsCut cut tokens → n + 8 ≡ cut → (more : List Symbol)
    → IsPrefix (tokens ++ more) ↔ IsPrefix (filler n ++ ((opening ++ drop cut tokens) ++ more))
cut_alike law cut n tokens known e more =
    let first = length-take-le cut tokens known.within in
    let many : length (take cut tokens) ≡ length (filler n ++ opening) =
    let lengths = length-append (filler n) opening in let fills = filler_length n in omega (arith, first, lengths, fills, e) in
    let both = law (take cut tokens) (filler n ++ opening) known.body (open_filler n) many known.next known.other (known.more ++ more) in
    let one : tokens ++ more ≡ take cut tokens ++ known.next ∷ (known.more ++ more) =
    ap (λ (l : List Symbol). l ++ more) (sym (take-append-drop cut tokens) ∙ ap (λ (l : List Symbol). take cut tokens ++ l) known.is)
    ∙ append_assoc (take cut tokens) (known.next ∷ known.more) more in
    let two : (filler n ++ opening) ++ known.next ∷ (known.more ++ more) ≡ filler n ++ ((opening ++ drop cut tokens) ++ more) =
    append_assoc (filler n) opening (known.next ∷ (known.more ++ more))
    ∙ ap (λ (l : List Symbol). filler n ++ l) (sym (append_assoc opening (known.next ∷ known.more) more) ∙ ap (λ (l : List Symbol). (opening ++ l) ++ more) (sym known.is)) in
    ((λ h. subst IsPrefix two (both.0 (subst IsPrefix one h))), (λ h. subst IsPrefix (sym one) (both.1 (subst IsPrefix (sym two) h))))

known_in_body : OpenBodiesAlike → (walk : Walk) (cut : ℕ) (tokens : List Symbol) → IsWalkOver tokens (Some walk) → IsCut cut tokens
    → IsBehind walk (cut - 5) (opening ++ drop cut tokens) tokens
known_in_body law walk cut tokens walked known =
    let least = known.many in
    record {
      walked = walked;
      front = filler (cut - 8);
      items = are_items (cut - 8);
      many = let fills = filler_length (cut - 8) in omega (arith, fills, least);
      alike = cut_alike law cut (cut - 8) tokens known (omega (arith, least));
    }

-- ---- the same of what code holds

shown : (cut : ℕ) (seen : List Seen) → map plain_symbol (take (length seen - cut) (drop cut seen)) ≡ drop cut (map plain_symbol seen)
shown cut seen =
    let left = length-drop cut seen in
    ap (map plain_symbol) (take_all (length seen - cut) (drop cut seen) (omega (arith, left))) ∙ map_drop plain_symbol cut seen

pub behind_body : OpenBodiesAlike → (walk : Walk) (cut : ℕ) (seen all rest : List Seen) (tokens : List Token) → rest ≡ all
    → map plain_symbol all ≡ opening ++ map plain_symbol (take (length seen - cut) (drop cut seen)) → symbols_of tokens ≡ map plain_symbol seen
    → IsWalkOver (map plain_symbol seen) (Some walk) → IsCut cut (map plain_symbol seen) → IsBehind walk (cut - 5) (map plain_symbol rest) (symbols_of tokens)
behind_body law walk cut seen all rest tokens e is same walked known =
    let whole : map plain_symbol rest ≡ opening ++ drop cut (map plain_symbol seen) = ap (map plain_symbol) e ∙ is ∙ ap (λ (l : List Symbol). opening ++ l) (shown cut seen) in
    subst (λ (l : List Symbol). IsBehind walk (cut - 5) l (symbols_of tokens)) (sym whole)
    (subst (λ (l : List Symbol). IsBehind walk (cut - 5) (opening ++ drop cut (map plain_symbol seen)) l) (sym same)
    (known_in_body law walk cut (map plain_symbol seen) walked known))

no_else : (s : Symbol) (r : List Symbol) → sees terminal.Else (numbered_from 0 (s ∷ r)) ≡ false → s ≢ symbol.Fixed terminal.Else
unfolding first same_terminal
no_else s r e is = let bad : true ≡ false = subst (λ (z : Symbol). sees terminal.Else (numbered_from 0 (z ∷ r)) ≡ false) is e in cc

map_take : (n : ℕ) (seen : List Seen) → map plain_symbol (take n seen) ≡ take n (map plain_symbol seen)
map_take zero seen = refl
map_take (suc n) [] = refl
map_take (suc n) (s ∷ ss) = ap (λ (l : List Symbol). plain_symbol s ∷ l) (map_take n ss)

pub cut_is : (cut : ℕ) (seen : List Seen) → 8 ≤ cut → cut < length seen
    → sees terminal.Else (numbered_from 0 (map plain_symbol (take (length seen - cut) (drop cut seen)))) ≡ false
    → IsOpenBody (map plain_symbol (take cut seen)) → IsCut cut (map plain_symbol seen)
cut_is cut seen least lt shut body =
    by_rest (drop cut (map plain_symbol seen)) refl (subst (λ (l : List Symbol). sees terminal.Else (numbered_from 0 l) ≡ false) (shown cut seen) shut)
  where
    by_rest : (rest : List Symbol) → drop cut (map plain_symbol seen) ≡ rest → sees terminal.Else (numbered_from 0 rest) ≡ false → IsCut cut (map plain_symbol seen)
    by_rest [] is stop =
        absurd (let many = as_many plain_symbol seen in let left = length-drop cut (map plain_symbol seen) in let none = ap length is in omega (arith, many, left, none, lt))
    by_rest (s ∷ r) is stop = record {
      many = least;
      within = let many = as_many plain_symbol seen in omega (arith, many, lt);
      body = subst IsOpenBody (map_take cut seen) body;
      next = s;
      more = r;
      is = is;
      other = no_else s r stop;
    }
