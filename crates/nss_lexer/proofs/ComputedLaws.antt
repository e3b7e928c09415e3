-- Tokens that were computed are the tokens of the file.
use Rattle.std.proofs.Common.{◌≡◌, ℕ, zero, suc, ◌+◌, ◌≤◌, Bool, true, false, List, [], ◌∷◌, length, take, drop, Option, Some, None, refl, sym, ap, subst, ◌∙◌, arith, drop-drop}
use Rattle.std.specs.Option.{option_map}
use Rattle.std.proofs.lemmas.Option.{same_Some, none-some}
use Rattle.std.proofs.lemmas.Grind.{common_steps}
use Rattle.nss_lexer.specs.declared.scan.Scanned.{Scanned}
use Rattle.nss_lexer.specs.Computed.{lexeme_of, tokens_by, tokens_after, tokens_in, ComputedAreTokens}
use Rattle.nss_lexer.specs.Reading.{pass, lexeme}
use Rattle.nss_lexer.specs.Splitting.{Lexeme, BeginsWithToken, IsFirstToken, Skips, Gap, Splits, begins_comment, nothing, more as more_gap, whole, broken, token}
use Rattle.nss_lexer.proofs.FirstLaws.{lexeme_begins}
use Rattle.nss_lexer.proofs.FoundLaws.{length_taken}
use Rattle.nss_lexer.proofs.GapLaws.{pass_skips}

gap_before : (all : List ℕ) (at from : ℕ) (ts : List Lexeme) (ending : Option ℕ) → ending ≡ None → at ≤ from → Skips (drop at all) (drop from all)
    → Splits all 0 from ts ending → Splits all 0 at ts ending
gap_before all at from ts ending none before skips (whole q h) = whole at (more_gap (drop at all) (drop from all) [] skips h)
gap_before all at from ts ending none before skips (broken q p h) = absurd (none-some p (sym none))
gap_before all at from ts ending none before skips (token q t us e h rest) =
    token at t us e (record {
      from = omega (arith, before, h.from);
      gap = more_gap (drop at all) (drop from all) (drop t.start all) skips h.gap;
      begins = h.begins;
      last = h.last;
      some = h.some;
      within = h.within;
      file = h.file;
    }) rest

first_token : (all : List ℕ) (at : ℕ) (bytes : List ℕ) (f : Scanned) → bytes ≡ drop at all → begins_comment bytes ≡ false → lexeme bytes ≡ Some f
    → IsFirstToken all 0 at (lexeme_of bytes at f)
first_token all at bytes f is plain found =
    let begins = lexeme_begins bytes f plain found in
    let size : length (take f.length bytes) ≡ f.length = length_taken f.length bytes begins.1 in
    let inside : f.length ≤ length (drop at all) = subst (λ (z : List ℕ). f.length ≤ length z) is begins.1 in
    record {
      from = omega arith;
      gap = nothing (drop at all);
      begins = subst (λ (z : List ℕ). BeginsWithToken z f.kind (take f.length bytes)) is begins.2;
      last = omega (arith, size);
      some = omega (arith, begins.0);
      within = grind (arith, common_steps, inside, begins.0);
      file = refl;
    }

mapped : (x : Lexeme) (o : Option (List Lexeme)) (ts : List Lexeme) (P : List Lexeme → Type 0) → option_map (λ us. x ∷ us) o ≡ Some ts
    → ((us : List Lexeme) → o ≡ Some us → P (x ∷ us)) → P ts
mapped x None ts P e h = absurd (none-some ts e)
mapped x (Some us) ts P e h = subst P (same_Some (x ∷ us) ts e) (h us refl)

token_right : (all : List ℕ) (at : ℕ) (bytes : List ℕ) (ts : List Lexeme) (plain : Bool) (o : Option Scanned) (on : ℕ → Option (List Lexeme)) → bytes ≡ drop at all
    → begins_comment bytes ≡ plain → lexeme bytes ≡ o
    → ((m : ℕ) (us : List Lexeme) → on m ≡ Some us → Splits all 0 (at + m) us None) → tokens_by plain bytes at o on ≡ Some ts → Splits all 0 at ts None
token_right all at bytes ts true o on is c l more e = absurd (none-some ts e)
token_right all at bytes ts false None on is c l more e = absurd (none-some ts e)
token_right all at bytes ts false (Some f) on is c l more e =
    mapped (lexeme_of bytes at f) (on f.length) ts (λ us. Splits all 0 at us None) e
    (λ us found. token at (lexeme_of bytes at f) us None (first_token all at bytes f is c l) (more f.length us found))

after_right : (all : List ℕ) (at : ℕ) (bytes : List ℕ) (ts : List Lexeme) (o : Option ℕ) (on : ℕ → Option (List Lexeme)) → bytes ≡ drop at all → pass bytes ≡ o
    → ((m : ℕ) (us : List Lexeme) → on m ≡ Some us → Splits all 0 (at + m) us None) → tokens_after bytes at o on ≡ Some ts → Splits all 0 at ts None
after_right all at [] ts o on is p more e =
    subst (λ (z : List Lexeme). Splits all 0 at z None) (same_Some [] ts e) (whole at (subst (λ (z : List ℕ). Gap z []) is (nothing [])))
after_right all at (b ∷ bs) ts (Some m) on is p more e =
    let skips : Skips (drop at all) (drop (at + m) all) =
    subst (λ (z : List ℕ). Skips (drop at all) z) (ap (drop m) is ∙ drop-drop m at all) (subst (λ (z : List ℕ). Skips z (drop m (b ∷ bs))) is (pass_skips (b ∷ bs) m p)) in
    gap_before all at (at + m) ts None refl (omega arith) skips (more m ts e)
after_right all at (b ∷ bs) ts None on is p more e = token_right all at (b ∷ bs) ts (begins_comment (b ∷ bs)) (lexeme (b ∷ bs)) on is refl refl more e

tokens_right : (n : ℕ) (all : List ℕ) (at : ℕ) (bytes : List ℕ) (ts : List Lexeme) → bytes ≡ drop at all → tokens_in n at bytes ≡ Some ts → Splits all 0 at ts None
unfolding tokens_in
tokens_right zero all at bytes ts is e = absurd (none-some ts e)
tokens_right (suc n) all at bytes ts is e =
    after_right all at bytes ts (pass bytes) (λ m. tokens_in n (at + m) (drop m bytes)) is refl
    (λ m us found. tokens_right n all (at + m) (drop m bytes) us (ap (drop m) is ∙ drop-drop m at all) found) e

pub computed_are_tokens : ComputedAreTokens
computed_are_tokens bytes steps tokens e = tokens_right steps bytes 0 bytes tokens refl e
