-- Each file is split from each place on.
use Rattle.std.specs.Prelude.{Option, Some, None}
use Rattle.std.proofs.Common.{◌≡◌, ℕ, zero, suc, ◌+◌, ◌<◌, ◌≤◌, Bool, true, false, List, [], ◌∷◌, length, take, drop, refl, ap, sym, subst, arith, inr, length-append}
use Rattle.std.proofs.lemmas.List.{length-drop}
use Rattle.nss_lexer.specs.declared.scan.Scanned.{Scanned}
use Rattle.nss_lexer.specs.Splitting.{Skips, blank, line, block, Gap, nothing, begins_comment, Lexeme, First, Found, AtEnd, BadAt, IsFirst, Splits, whole, broken, token, SomeSplit}
use Rattle.nss_lexer.specs.Reading.{lexeme, pass}
use Rattle.nss_lexer.proofs.FoundLaws.{length_taken}
use Rattle.nss_lexer.proofs.GapLaws.{pass_skips}
use Rattle.nss_lexer.proofs.FirstLaws.{lexeme_begins, stuck_from, comment_stuck, gap_further}

skips_shorter : (bytes after : List ℕ) → Skips bytes after → length after < length bytes
skips_shorter bytes after (blank b rest is) = omega arith
skips_shorter bytes after (line text rest all ends) = omega (arith, length-append text after)
skips_shorter bytes after (block text rest never) = omega (arith, length-append text (42 ∷ 47 ∷ after))

-- what is passed over has one byte at least, and lies in the file
pass_some : (bytes : List ℕ) (place n : ℕ) → pass (drop place bytes) ≡ Some n → (0 < n) × (place < length bytes)
pass_some bytes place n is =
    let shorter = skips_shorter (drop place bytes) (drop n (drop place bytes)) (pass_skips (drop place bytes) n is) in
    (omega (arith, shorter, length-drop n (drop place bytes)), omega (arith, shorter, length-drop place bytes))

-- the place behind all blanks and closed comments
record Landing (bytes : List ℕ) (at : ℕ) : Type 0 where
  place : ℕ
  from : at ≤ place
  gap : Gap (drop at bytes) (drop place bytes)
  stops : pass (drop place bytes) ≡ None

landing : (n : ℕ) (bytes : List ℕ) (at place : ℕ) (o : Option ℕ) → pass (drop place bytes) ≡ o → length bytes ≤ place + n → at ≤ place
    → Gap (drop at bytes) (drop place bytes) → Landing bytes at
landing n bytes at place None is near from gap = record { place = place; from = from; gap = gap; stops = is }
landing zero bytes at place (Some k) is near from gap = absurd (let some = pass_some bytes place k is in omega (arith, some.1))
landing (suc n) bytes at place (Some k) is near from gap =
    let some = pass_some bytes place k is in
    landing n bytes at (place + k) (pass (drop (place + k) bytes)) refl (omega (arith, some.0)) (omega arith) (gap_further bytes at place k gap is)

abbrev SomeFirst : List ℕ → ℕ → ℕ → Type 0
SomeFirst bytes file at = (x : First) × IsFirst bytes file at x

stuck_first : (bytes : List ℕ) (file at : ℕ) (l : Landing bytes at) → 0 < length (drop l.place bytes) → lexeme (drop l.place bytes) ≡ None → SomeFirst bytes file at
stuck_first bytes file at l some none = (
  BadAt l.place,
  record {
    from = l.from;
    gap = l.gap;
    stuck = stuck_from (drop l.place bytes) some l.stops (inr none);
    within = omega (arith, some, length-drop l.place bytes);
  },
)

comment_first : (bytes : List ℕ) (file at : ℕ) (l : Landing bytes at) → 0 < length (drop l.place bytes) → begins_comment (drop l.place bytes) ≡ true
    → SomeFirst bytes file at
comment_first bytes file at l some is = (
  BadAt l.place,
  record {
    from = l.from;
    gap = l.gap;
    stuck = comment_stuck (drop l.place bytes) some l.stops is;
    within = omega (arith, some, length-drop l.place bytes);
  },
)

token_first : (bytes : List ℕ) (file at : ℕ) (l : Landing bytes at) (f : Scanned) → begins_comment (drop l.place bytes) ≡ false
    → lexeme (drop l.place bytes) ≡ Some f → SomeFirst bytes file at
token_first bytes file at l f plain is =
    let begins = lexeme_begins (drop l.place bytes) f plain is in
    let size : length (take f.length (drop l.place bytes)) ≡ f.length = length_taken f.length (drop l.place bytes) begins.1 in (
      Found (record { kind = f.kind; text = take f.length (drop l.place bytes); file = file; start = l.place; end = l.place + f.length }),
      record {
        from = l.from;
        gap = l.gap;
        begins = begins.2;
        last = ap (λ n. l.place + n) (sym size);
        some = omega (arith, begins.0);
        within = omega (arith, begins.0, begins.1, length-drop l.place bytes);
        file = refl;
      },
    )

first_by : (bytes : List ℕ) (file at : ℕ) (l : Landing bytes at) (comment : Bool) (o : Option Scanned) → 0 < length (drop l.place bytes)
    → begins_comment (drop l.place bytes) ≡ comment → lexeme (drop l.place bytes) ≡ o → SomeFirst bytes file at
first_by bytes file at l true o some c is = comment_first bytes file at l some c
first_by bytes file at l false None some c is = stuck_first bytes file at l some is
first_by bytes file at l false (Some f) some c is = token_first bytes file at l f c is

first_from : (bytes : List ℕ) (file at : ℕ) (l : Landing bytes at) (rest : List ℕ) → drop l.place bytes ≡ rest → SomeFirst bytes file at
first_from bytes file at l [] is = (AtEnd, subst (Gap (drop at bytes)) is l.gap)
first_from bytes file at l (b ∷ rest) is =
    let some : 0 < length (drop l.place bytes) = omega (arith, ap length is) in
    first_by bytes file at l (begins_comment (drop l.place bytes)) (lexeme (drop l.place bytes)) some refl refl

some_first : (bytes : List ℕ) (file at : ℕ) → SomeFirst bytes file at
some_first bytes file at =
    let l = landing (length bytes) bytes at at (pass (drop at bytes)) refl (omega arith) (omega arith) (nothing (drop at bytes)) in
    first_from bytes file at l (drop l.place bytes) refl

abbrev IsSplit : List ℕ → ℕ → ℕ → Type 0
IsSplit bytes file at = (tokens : List Lexeme) × (ending : Option ℕ) × Splits bytes file at tokens ending

split_by : (n : ℕ) (bytes : List ℕ) (file at : ℕ) (x : First) → length bytes ≤ at + n → IsFirst bytes file at x → IsSplit bytes file at
split_by n bytes file at AtEnd near is = ([], None, whole at is)
split_by n bytes file at (BadAt place) near is = ([], Some place, broken at place is)
split_by zero bytes file at (Found t) near is = absurd (omega (arith, is.from, is.some, is.within))
split_by (suc n) bytes file at (Found t) near is =
    let next = some_first bytes file t.end in
    let rest = split_by n bytes file t.end next.0 (omega (arith, is.from, is.some)) next.1 in
    (t ∷ rest.0, rest.1, token at t rest.0 rest.1 is rest.2)

pub some_split : SomeSplit
some_split bytes file at =
    let first = some_first bytes file at in split_by (length bytes) bytes file at first.0 (omega arith) first.1
