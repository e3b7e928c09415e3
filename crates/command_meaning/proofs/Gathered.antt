-- The tokens of a unit are at most 100,000, and their literals have values.
use Rattle.std.proofs.Common.{arith, ◌≡◌, ◌≤◌, ◌+◌, ◌&&◌, cond, true, false, Bool, ℕ, nat_lt, suc, List, [], ◌∷◌, ◌++◌, length, Option, Some, None, sym, subst, ap, refl}
use Rattle.std.proofs.lemmas.Bool.Decides.{nat_tests}
use Rattle.std.proofs.lemmas.List.{length-append}
use Rattle.std.specs.Prelude.{All}
use Rattle.std.specs.List.{AllByRecursion}
use Rattle.nwq_value.specs.Limits.{token_limit}
use Rattle.nss_lexer.specs.Splitting.{Lexeme}
use Rattle.nss_lexer.specs.Strings.{string_value, ValuesAreBytes}
use Rattle.nss_symbols.specs.Symbols.{IsLiteral}
use Rattle.nss_include.specs.declared.fault.GatherFault.{GatherFault}
use Rattle.nss_include.specs.declared.fault.GatherFault.TheVariants.{Tokens}
use Rattle.nss_include.specs.declared.file.Source.{Source}
use Rattle.nss_include.specs.Names.{file_name, spot_in, is_include_name}
use Rattle.nss_include.specs.Pieces.{Piece, Token, Directive, BadDirective, BadByte, HasPieces, is_hash, is_include, is_string, directive, last_pieces, cut_directive, pieces}
use Rattle.nss_include.specs.Units.{Lookup, Held, with_token, with_directive, with_file, reading_fault, is_among, Unfolds, ends, fails, gives, again, breaks_off, includes, IsUnit, unread, is_read}
use Rattle.command_sources.specs.Units.{grammar_symbols}
use Rattle.command_meaning.proofs.Literals.{IsByte, HasLiteral, split_literals}

-- ---- pieces

abbrev HasPieceLiteral : Piece → Type 0
HasPieceLiteral (Token t) = HasLiteral t
HasPieceLiteral (Directive hash name) = Unit {0}
HasPieceLiteral (BadDirective hash) = Unit {0}
HasPieceLiteral (BadByte place) = Unit {0}

abbrev AreLiteral : List Piece → Type 0
AreLiteral ps = AllByRecursion HasPieceLiteral ps

either : {A : Type 0} (P : A → Type 0) (b : Bool) (x y : A) → P x → P y → P (cond b x y)
either P true x y h k = h
either P false x y h k = k

last_literal : (ending : Option ℕ) → AreLiteral (last_pieces ending)
last_literal None = tt
last_literal (Some place) = (tt, tt)

cut_literal : (hash : ℕ) (ending : Option ℕ) → HasPieceLiteral (cut_directive hash ending)
cut_literal hash None = tt
cut_literal hash (Some place) = tt

pieces_literal : (ts : List Lexeme) (ending : Option ℕ) → AllByRecursion HasLiteral ts → AreLiteral (pieces ts ending)
pieces_literal [] ending h = last_literal ending
pieces_literal (t ∷ []) ending h = (h.0, last_literal ending)
pieces_literal (t ∷ u ∷ []) ending h =
    either AreLiteral (is_hash t && is_include u) (cut_directive t.start ending ∷ []) (Token t ∷ pieces (u ∷ []) ending)
    (cut_literal t.start ending, tt) (h.0, pieces_literal (u ∷ []) ending h.1)
pieces_literal (t ∷ u ∷ v ∷ ts) ending h =
    either AreLiteral (is_hash t && is_include u) (directive t.start v ∷ pieces ts ending) (Token t ∷ pieces (u ∷ v ∷ ts) ending) (
      either HasPieceLiteral (is_string v.kind && is_include_name (string_value v.text)) (Directive t.start (string_value v.text)) (BadDirective t.start) tt tt,
      pieces_literal ts ending h.1.1.1,
    )
    (h.0, pieces_literal (u ∷ v ∷ ts) ending h.1)

file_literal : ValuesAreBytes → (bytes : List ℕ) (file at : ℕ) (ps : List Piece) → All IsByte bytes → HasPieces bytes file at ps → AreLiteral ps
file_literal values bytes file at ps all h =
    subst AreLiteral (sym h.is) (pieces_literal h.tokens h.ending (split_literals values bytes file at h.tokens h.ending all h.splits))

-- ---- the unit

both_literal : (xs ys : List Lexeme) → AllByRecursion HasLiteral xs → AllByRecursion HasLiteral ys → AllByRecursion HasLiteral (xs ++ ys)
both_literal [] ys h k = k
both_literal (x ∷ xs) ys h k = (h.0, both_literal xs ys h.1 k)

-- of a list of tokens: their literals, and their count by what is held before and after
record AreCounted (ts : List Lexeme) (before after : ℕ) : Type 0 where
  literals : AllByRecursion HasLiteral ts
  all : before + length ts ≤ after
  few : after ≤ token_limit

has_room : (count : ℕ) (f : GatherFault) → cond (nat_lt count token_limit) None (Some f) ≡ None → count + 1 ≤ token_limit
has_room count f h = room (nat_lt count token_limit) refl h
  where
    room : (b : Bool) → nat_lt count token_limit ≡ b → cond b None (Some f) ≡ None → count + 1 ≤ token_limit
    room true is k = grind (arith, nat_tests)
    room false is k = absurd cc

has_rooms : (count : ℕ) (f : GatherFault) (o : Option GatherFault) → cond (nat_lt token_limit (count + 3)) (Some f) o ≡ None → count + 3 ≤ token_limit
has_rooms count f o h = room (nat_lt token_limit (count + 3)) refl h
  where
    room : (b : Bool) → nat_lt token_limit (count + 3) ≡ b → cond b (Some f) o ≡ None → count + 3 ≤ token_limit
    room true is k = absurd cc
    room false is k = grind (arith, nat_tests)

module _ (values : ValuesAreBytes) (lookup : Lookup) (held_bytes : (name bytes : List ℕ) → lookup (file_name name) ≡ Some bytes → All IsByte bytes) where
  counted : (file : Source) (ps : List Piece) (held : Held) (ts : List Lexeme) (after : Held) (ending : Option GatherFault) → AreLiteral ps → held.count ≤ token_limit
      → Unfolds lookup file ps held ts after ending → AreCounted ts held.count after.count
  counted file ps held ts after ending lit few (ends _ _) = record { literals = tt; all = omega arith; few = few }
  counted file ps held ts after ending lit few (fails _ piece more _ first is) = record { literals = tt; all = omega arith; few = few }
  counted file ps held ts after ending lit few (gives _ t more _ tokens _ _ is rest) =
      let room = has_room held.count (Tokens (spot_in file t.start)) is in
      let k = counted file more (with_token held) tokens after ending lit.1 room rest in
      record { literals = (lit.0, k.literals); all = let all = k.all in omega (arith, all); few = k.few }
  counted file ps held ts after ending lit few (again _ hash name more _ tokens _ _ is known rest) =
      let room = has_rooms held.count (Tokens (spot_in file hash)) (cond (is_among held.files (file_name name)) None (reading_fault (file_name name) (lookup (file_name name)))) is in
      let k = counted file more (with_directive held) tokens after ending lit.1 room rest in
      record { literals = k.literals; all = let all = k.all in omega (arith, all); few = k.few }
  counted file ps held ts after ending lit few (breaks_off _ hash name more _ bytes inner tokens _ broken is new found has rest) =
      let room = has_rooms held.count (Tokens (spot_in file hash)) (cond (is_among held.files (file_name name)) None (reading_fault (file_name name) (lookup (file_name name)))) is in
      let k = counted _ inner (with_file held (file_name name) bytes) tokens after (Some broken) (file_literal values bytes (length held.files) 0 inner (held_bytes name bytes found) has) room rest in
      record { literals = k.literals; all = let all = k.all in omega (arith, all); few = k.few }
  counted file ps held ts after ending lit few (includes _ hash name more _ bytes inner first between tokens _ _ is new found has deeper rest) =
      let room = has_rooms held.count (Tokens (spot_in file hash)) (cond (is_among held.files (file_name name)) None (reading_fault (file_name name) (lookup (file_name name)))) is in
      let k = counted _ inner (with_file held (file_name name) bytes) first between None (file_literal values bytes (length held.files) 0 inner (held_bytes name bytes found) has) room deeper in
      let j = counted file more between tokens after ending lit.1 k.few rest in
      record {
        literals = both_literal first tokens k.literals j.literals;
        all = let one = k.all in let two = j.all in let both = length-append first tokens in omega (arith, one, two, both);
        few = j.few;
      }

  -- ---- what the grammar sees

  seen_literals : (ts : List Lexeme) → AllByRecursion HasLiteral ts → AllByRecursion IsLiteral (grammar_symbols ts)
  seen_literals [] h = tt
  seen_literals (t ∷ ts) h = (h.0, seen_literals ts h.1)

  seen_count : (ts : List Lexeme) → length (grammar_symbols ts) ≡ length ts
  seen_count [] = refl
  seen_count (t ∷ ts) = ap suc (seen_count ts)

  pub unit_known : (name : List ℕ) (ts : List Lexeme) (files : List Source) (ending : Option GatherFault) → IsUnit lookup name ts files ending
      → (length (grammar_symbols ts) ≤ token_limit) × AllByRecursion IsLiteral (grammar_symbols ts)
  unit_known name ts files ending (unread missing is) = (omega arith, tt)
  unit_known name ts files ending (is_read bytes all _ after _ found small has rest) =
      let k = counted _ all _ ts after ending (file_literal values bytes 0 0 all (held_bytes name bytes found) has) (omega arith) rest in
      let n = seen_count ts in
      let a = k.all in
      let b = k.few in
      (omega (arith, n, a, b), seen_literals ts k.literals)
