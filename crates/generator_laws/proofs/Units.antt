-- The unit of a script whose tokens begin no directive.
use Rattle.std.proofs.Common.{◌≡◌, ℕ, ◌+◌, ◌≤◌, Bool, true, false, ◌&&◌, cond, nat_lt, List, [], ◌∷◌, map, length, Some, None, refl, ap, ◌∙◌, sym, subst, arith}
use Rattle.std.proofs.lemmas.Bool.Decides.{nat_tests}
use Rattle.std.specs.List.{AllByRecursion}
use Rattle.nwq_value.specs.Limits.{token_limit, file_limit}
use Rattle.nss_lexer.specs.Splitting.{Lexeme, AreTokens}
use Rattle.nss_include.specs.declared.fault.GatherFault.{GatherFault}
use Rattle.nss_include.specs.declared.fault.GatherFault.TheVariants.{Tokens}
use Rattle.nss_include.specs.declared.file.Source.{Source}
use Rattle.nss_include.specs.Names.{file_name, spot_in}
use Rattle.nss_include.specs.Pieces.{Piece, Token, is_hash, is_include, cut_directive, directive, pieces}
use Rattle.nss_include.specs.Units.{Lookup, Held, with_token, Unfolds, ends, gives, IsUnit, is_read, source, script_alone}
use Rattle.generator_laws.proofs.Pieces.{IsPlain}

-- ---- each token is a piece

not_both : {A : Type 0} (p q : Bool) (x y : A) → p ≡ false → cond (p && q) x y ≡ y
not_both true q x y h = absurd cc
not_both false q x y h = refl

plain_pieces : (ts : List Lexeme) → AllByRecursion IsPlain ts → pieces ts None ≡ map Token ts
plain_pieces [] h = refl
plain_pieces (t ∷ []) h = refl
plain_pieces (t ∷ u ∷ []) h =
    not_both (is_hash t) (is_include u) (cut_directive t.start None ∷ []) (Token t ∷ pieces (u ∷ []) None) h.0
plain_pieces (t ∷ u ∷ v ∷ ts) h =
    not_both (is_hash t) (is_include u) (directive t.start v ∷ pieces ts None) (Token t ∷ pieces (u ∷ v ∷ ts) None) h.0
    ∙ ap (λ (ps : List Piece). Token t ∷ ps) (plain_pieces (u ∷ v ∷ ts) h.1)

-- ---- all of them are tokens of the unit

record Unfolded (lookup : Lookup) (file : Source) (ts : List Lexeme) (held : Held) : Type 0 where
  after : Held
  files : after.files ≡ held.files
  unfolds : Unfolds lookup file (map Token ts) held ts after None

has_room : (count : ℕ) (f : GatherFault) → count + 1 ≤ token_limit → cond (nat_lt count token_limit) None (Some f) ≡ None
has_room count f h = ap (λ b. cond b None (Some f)) (let less : nat_lt count token_limit ≡ true = grind (arith, nat_tests) in less)

unfolded : (lookup : Lookup) (file : Source) (ts : List Lexeme) (held : Held) → held.count + length ts ≤ token_limit → Unfolded lookup file ts held
unfolded lookup file [] held few = record { after = held; files = refl; unfolds = ends file held }
unfolded lookup file (t ∷ ts) held few =
    let rest = unfolded lookup file ts (with_token held) (omega (arith, few)) in
    record {
      after = rest.after;
      files = rest.files;
      unfolds = gives file t (map Token ts) held ts rest.after None (has_room held.count (Tokens (spot_in file t.start)) (omega (arith, few))) rest.unfolds;
    }

-- ---- the unit

pub one_file : (lookup : Lookup) (script bytes : List ℕ) (ts : List Lexeme) → lookup (file_name script) ≡ Some bytes → length bytes ≤ file_limit
    → AreTokens bytes 0 ts → AllByRecursion IsPlain ts → length ts ≤ token_limit → IsUnit lookup script ts (source (file_name script) bytes ∷ []) None
one_file lookup script bytes ts found small tokens plain few =
    let h = unfolded lookup (source (file_name script) bytes) ts (script_alone (file_name script) bytes) (omega (arith, few)) in
    subst (λ (files : List Source). IsUnit lookup script ts files None) h.files
    (is_read bytes (map Token ts) ts h.after None found small (record { tokens = ts; ending = None; splits = tokens; is = sym (plain_pieces ts plain) }) h.unfolds)
