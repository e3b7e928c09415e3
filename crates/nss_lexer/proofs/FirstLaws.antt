-- From reading to the definitions: which token begins a list of bytes, where nothing begins, and
-- that what stands first from a place on is one thing.
use Rattle.std.specs.Prelude.{Option, Some, None, MatchOption, option_map, option_and_then, ◌==◌, ◌||◌, ◌&&◌, not, nat_lt, nat_le, slice_index}
use Rattle.std.specs.List.{list_all}
use Rattle.std.proofs.Common.{◌≡◌, ℕ, zero, suc, ◌+◌, ◌^◌, ◌<◌, ◌≤◌, Bool, true, false, List, [], ◌∷◌, ◌++◌, length, take, drop, refl, ap, sym, ◌∙◌, subst, arith, inl, inr, ◌⊎◌, ⊎_elim}
use Rattle.std.proofs.lemmas.List.{take-append-drop, length-drop, drop-drop}
use Rattle.std.proofs.lemmas.Bool.{cases_Bool, and_cases, or_parts, false≢true, cond-true, cond-false, leb-true, le-leb, ltb-true, lt-ltb, not-true}
use Rattle.nss_lexer.specs.declared.token.TokenKind.{TokenKind}
use Rattle.nss_lexer.specs.declared.token.TokenKind.TheVariants.{Name, Word, Int, Float, Text, Sign}
use Rattle.nss_lexer.specs.declared.scan.Scanned.{Scanned}
use Rattle.nss_lexer.specs.Bytes.{is_blank, is_letter, is_decimal}
use Rattle.nss_lexer.specs.Lexemes.{HasForm, IsWithin, signs}
use Rattle.nss_lexer.specs.Splitting.{Skips, Gap, nothing, more, begins_comment, BeginsWithToken, IsStuck, Lexeme, Found, AtEnd, BadAt, IsFirstToken, IsFirstBad, Splits, whole, broken, token}
use Rattle.nss_lexer.specs.Splitting.{OneFirst, OneSplit}
use Rattle.nss_lexer.specs.Reading.{scanned, limited, within, form, lexeme, comment, pass, first_prefix}
use Rattle.nss_lexer.proofs.FormLaws.{AtLeast, reads, any_passes, form_sign}
use Rattle.nss_lexer.proofs.FoundLaws.{IsFound, IsFoundIf, form_found, length_taken, first_found, signs_some}
use Rattle.nss_lexer.proofs.GapLaws.{skips_passed, pass_skips}

none_some : {A : Type 0} (x : A) → None ≡ Some x → ⊥
none_some x e = cc

some_same : {A : Type 0} (x y : A) → Some x ≡ Some y → y ≡ x
some_same x y e = cc

same_scanned : (kind other : TokenKind) (m n : ℕ) → Some (scanned kind m) ≡ Some (scanned other n) → (kind ≡ other) × (m ≡ n)
same_scanned kind other m n e =
    let scans : scanned other n ≡ scanned kind m = some_same (scanned kind m) (scanned other n) e in
    (sym (ap (λ (f : Scanned). f.kind) scans), sym (ap (λ (f : Scanned). f.length) scans))

-- ---- the limits

limited_within : (kind : TokenKind) (text : List ℕ) (n : ℕ) → length text ≡ n → IsWithin kind text → limited kind n ≡ Some (scanned kind n)
limited_within Name text n size h = cond-true (nat_le n 255) _ _ (le-leb n 255 (omega (arith, size, h)))
limited_within (Int v) text n size h = ap (option_map (λ w. scanned (Int w) n)) (cond-true (nat_lt v (2 ^ 32)) (Some v) None (lt-ltb v (2 ^ 32) h))
limited_within Word text n size h = refl
limited_within Float text n size h = refl
limited_within Text text n size h = refl
limited_within Sign text n size h = refl

record Limits (kind : TokenKind) (text : List ℕ) (n : ℕ) (f : Scanned) : Type 0 where
  pub is : f ≡ scanned kind n
  pub fits : IsWithin kind text

within_limited : (kind : TokenKind) (text : List ℕ) (n : ℕ) (f : Scanned) → length text ≡ n → limited kind n ≡ Some f → Limits kind text n f
within_limited Name text n f size h =
    ⊎_elim
    (λ fits. record {
      is = some_same (scanned Name n) f (sym (cond-true (nat_le n 255) (Some (scanned Name n)) None fits) ∙ h);
      fits = omega (arith, size, leb-true n 255 fits);
    })
    (λ over. absurd (none_some f (sym (cond-false (nat_le n 255) (Some (scanned Name n)) None over) ∙ h)))
    (cases_Bool (nat_le n 255))
within_limited (Int v) text n f size h =
    ⊎_elim
    (λ fits. record {
      is = some_same (scanned (Int v) n) f (sym (ap (option_map (λ w. scanned (Int w) n)) (cond-true (nat_lt v (2 ^ 32)) (Some v) None fits)) ∙ h);
      fits = ltb-true v (2 ^ 32) fits;
    })
    (λ over. absurd (none_some f (sym (ap (option_map (λ w. scanned (Int w) n)) (cond-false (nat_lt v (2 ^ 32)) (Some v) None over)) ∙ h)))
    (cases_Bool (nat_lt v (2 ^ 32)))
within_limited Word text n f size h = record { is = some_same (scanned Word n) f h; fits = tt }
within_limited Float text n f size h = record { is = some_same (scanned Float n) f h; fits = tt }
within_limited Text text n f size h = record { is = some_same (scanned Text n) f h; fits = tt }
within_limited Sign text n f size h = record { is = some_same (scanned Sign n) f h; fits = tt }

-- ---- the token that begins the bytes

reads_prefix : (bytes : List ℕ) (kind : TokenKind) (k : ℕ) → k ≤ length bytes → HasForm kind (take k bytes) → AtLeast kind k (form bytes)
reads_prefix bytes kind k fits h =
    subst (λ m. AtLeast kind m (form bytes)) (length_taken k bytes fits)
    (subst (λ t. AtLeast kind (length (take k bytes)) (form t)) (take-append-drop k bytes) (reads kind (take k bytes) (drop k bytes) h))

abbrev pub BeginsAs : List ℕ → Scanned → Type 0
BeginsAs bytes f = (0 < f.length) × (f.length ≤ length bytes) × BeginsWithToken bytes f.kind (take f.length bytes)

begins_at : (bytes : List ℕ) (g f : Scanned) → begins_comment bytes ≡ false → form bytes ≡ Some g → limited g.kind g.length ≡ Some f
    → BeginsAs bytes f
begins_at bytes g f plain is fits =
    let found : IsFound bytes g = subst (IsFoundIf bytes) is (form_found bytes) in
    let size : length (take g.length bytes) ≡ g.length = length_taken g.length bytes found.within in
    let limits = within_limited g.kind (take g.length bytes) g.length f size fits in
    subst (BeginsAs bytes) (sym limits.is) (
      found.some,
      found.within,
      record {
        prefix = ap (λ n. take n bytes) (sym size);
        lexeme = (found.has, limits.fits);
        longest = λ other k inside h.
            let least = (subst (AtLeast other k) is (reads_prefix bytes other k inside h)).0 in omega (arith, least, size);
        no_comment = plain;
      },
    )

begins_from : (bytes : List ℕ) (f : Scanned) (o : Option Scanned) → begins_comment bytes ≡ false → form bytes ≡ o → option_and_then within o ≡ Some f
    → BeginsAs bytes f
begins_from bytes f None plain is h = absurd (none_some f h)
begins_from bytes f (Some g) plain is h = begins_at bytes g f plain is h

pub lexeme_begins : (bytes : List ℕ) (f : Scanned) → begins_comment bytes ≡ false → lexeme bytes ≡ Some f → BeginsAs bytes f
lexeme_begins bytes f plain h = begins_from bytes f (form bytes) plain refl h

lexeme_at : (bytes : List ℕ) (kind : TokenKind) (text : List ℕ) (o : Option Scanned) → BeginsWithToken bytes kind text → form bytes ≡ o → AtLeast kind (length text) o
    → option_and_then within o ≡ Some (scanned kind (length text))
lexeme_at bytes kind text None b is least = absurd least
lexeme_at bytes kind text (Some g) b is least =
    let found : IsFound bytes g = subst (IsFoundIf bytes) is (form_found bytes) in
    let most : g.length ≤ length text = b.longest g.kind g.length found.within found.has in
    let same : length text ≡ g.length = omega (arith, least.0, most) in
    let kinds : kind ≡ g.kind = least.1 same in
    let at : limited kind (length text) ≡ Some (scanned kind (length text)) = limited_within kind text (length text) refl b.lexeme.1 in
    ap (λ k. limited k g.length) (sym kinds) ∙ ap (limited kind) (sym same) ∙ at

pub begins_lexeme : (bytes : List ℕ) (kind : TokenKind) (text : List ℕ) → BeginsWithToken bytes kind text → lexeme bytes ≡ Some (scanned kind (length text))
begins_lexeme bytes kind text b =
    let whole : text ++ drop (length text) bytes ≡ bytes =
    ap (λ t. t ++ drop (length text) bytes) b.prefix ∙ take-append-drop (length text) bytes in
    lexeme_at bytes kind text (form bytes) b refl
    (subst (λ t. AtLeast kind (length text) (form t)) whole (reads kind text (drop (length text) bytes) b.lexeme.0))

-- ---- where nothing begins

pub stuck_from : (bytes : List ℕ) → 0 < length bytes → pass bytes ≡ None → (begins_comment bytes ≡ true) ⊎ (lexeme bytes ≡ None) → IsStuck bytes
stuck_from bytes some no_pass why = record {
  some = λ is. let e : length bytes ≡ 0 = ap length is in omega (arith, e);
  no_gap = λ after skips. let p = skips_passed bytes after skips in none_some p.count (sym no_pass ∙ p.found);
  no_token = λ kind text b. ⊎_elim
      (λ comment. false≢true (sym b.no_comment ∙ comment))
      (λ none. none_some (scanned kind (length text)) (sym none ∙ begins_lexeme bytes kind text b))
      why;
}

stuck_option : (bytes : List ℕ) (o : Option ℕ) → IsStuck bytes → pass bytes ≡ o → o ≡ None
stuck_option bytes None stuck is = refl
stuck_option bytes (Some n) stuck is = absurd (stuck.no_gap (drop n bytes) (pass_skips bytes n is))

stuck_pass : (bytes : List ℕ) → IsStuck bytes → pass bytes ≡ None
stuck_pass bytes stuck = stuck_option bytes (pass bytes) stuck refl

and_no : (x y : Bool) → y ≡ false → (x && y) ≡ false
and_no true y h = h
and_no false y h = refl

no_comment_at : (b c : ℕ) (text : List ℕ) → ((b == 47) && (c == 47 || c == 42)) ≡ false → comment (b ∷ c ∷ text) ≡ None
no_comment_at b c text h =
    let each : (((b == 47) && (c == 47)) ≡ false) × (((b == 47) && (c == 42)) ≡ false) =
    ⊎_elim
    (λ first. (ap (λ x. x && (c == 47)) first, ap (λ x. x && (c == 42)) first))
    (λ second. let both = or_parts (c == 47) (c == 42) second in (and_no (b == 47) (c == 47) both.0, and_no (b == 47) (c == 42) both.1))
    (and_cases (b == 47) (c == 47 || c == 42) h) in
    cond-false ((b == 47) && (c == 47)) _ _ each.0 ∙ cond-false ((b == 47) && (c == 42)) _ _ each.1

no_comment : (bytes : List ℕ) → begins_comment bytes ≡ false → comment bytes ≡ None
no_comment [] h = refl
no_comment (b ∷ []) h = refl
no_comment (b ∷ c ∷ text) h = no_comment_at b c text h

sign_begins_black : list_all (λ s. not (is_blank (slice_index s 0))) signs ≡ true
sign_begins_black = refl

blank_no_letter : (b : ℕ) → is_blank b ≡ true → is_letter b ≡ false
blank_no_letter b h = grind arith

blank_no_decimal : (b : ℕ) → is_blank b ≡ true → is_decimal b ≡ false
blank_no_decimal b h = grind arith

blank_no_quote : (b : ℕ) → is_blank b ≡ true → (b == 34) ≡ false
blank_no_quote b h = grind arith

blank_no_point : (b : ℕ) → is_blank b ≡ true → (b == 46) ≡ false
blank_no_point b h = grind arith

no_sign_blank : (b : ℕ) (bytes : List ℕ) (n : ℕ) → is_blank b ≡ true → first_prefix signs (b ∷ bytes) ≡ Some n → ⊥
no_sign_blank b bytes zero h is = let f = first_found signs (b ∷ bytes) 0 signs_some is in omega (arith, f.some)
no_sign_blank b bytes (suc n) h is =
    let f = first_found signs (b ∷ bytes) (suc n) signs_some is in
    let black = not-true (is_blank b) (any_passes (λ s. not (is_blank (slice_index s 0))) (b ∷ take n bytes) signs f.among sign_begins_black) in
    false≢true (sym black ∙ h)

blank_sign : (b : ℕ) (bytes : List ℕ) (o : Option ℕ) → is_blank b ≡ true → first_prefix signs (b ∷ bytes) ≡ o → o ≡ None
blank_sign b bytes None h is = refl
blank_sign b bytes (Some n) h is = absurd (no_sign_blank b bytes n h is)

blank_form : (b : ℕ) (bytes : List ℕ) → is_blank b ≡ true → form (b ∷ bytes) ≡ None
blank_form b bytes h =
    form_sign (b ∷ bytes) (blank_no_letter b h) (blank_no_decimal b h) (ap (λ x. x && is_decimal (slice_index bytes 0)) (blank_no_point b h)) (blank_no_quote b h)
    ∙ ap (option_map (scanned Sign)) (blank_sign b bytes (first_prefix signs (b ∷ bytes)) h refl)

pub begins_pass : (bytes : List ℕ) (kind : TokenKind) (text : List ℕ) → BeginsWithToken bytes kind text → pass bytes ≡ None
unfolding pass
begins_pass [] kind text b = refl
begins_pass (c ∷ bytes) kind text b =
    ⊎_elim
    (λ blank. absurd (none_some (scanned kind (length text)) (sym (ap (option_and_then within) (blank_form c bytes blank)) ∙ begins_lexeme (c ∷ bytes) kind text b)))
    (λ black. cond-false (is_blank c) (Some 1) (comment (c ∷ bytes)) black ∙ no_comment (c ∷ bytes) b.no_comment)
    (cases_Bool (is_blank c))

-- ---- gaps

pub gap_snoc : (a b c : List ℕ) → Gap a b → Skips b c → Gap a c
gap_snoc a b c (nothing d) s = more a c c s (nothing c)
gap_snoc a b c (more d next e t g) s = more a next c t (gap_snoc next b c g s)

gap_one : (a r s : List ℕ) → Gap a r → pass r ≡ None → Gap a s → pass s ≡ None → r ≡ s
gap_one a r s (nothing b) hr (nothing c) hs = refl
gap_one a r s (nothing b) hr (more c next d t g) hs = let p = skips_passed a next t in absurd (none_some p.count (sym hr ∙ p.found))
gap_one a r s (more c next d t g) hr (nothing b) hs = let p = skips_passed a next t in absurd (none_some p.count (sym hs ∙ p.found))
gap_one a r s (more c next d t g) hr (more e other f u k) hs =
    let p = skips_passed a next t in
    let q = skips_passed a other u in
    let count : p.count ≡ q.count = some_same q.count p.count (sym q.found ∙ p.found) in
    let same : other ≡ next = q.left ∙ ap (λ n. drop n a) (sym count) ∙ sym p.left in
    gap_one next r s g hr (subst (λ x. Gap x s) same k) hs

-- ---- what stands first from a place on

-- the bytes where it stands, and how many come before
record Stop (bytes : List ℕ) (at : ℕ) (rest : List ℕ) : Type 0 where
  pub gap : Gap (drop at bytes) rest
  pub stops : pass rest ≡ None

pass_nil : pass [] ≡ None
unfolding pass
pass_nil = refl

token_stop : (bytes : List ℕ) (file at : ℕ) (t : Lexeme) → IsFirstToken bytes file at t → Stop bytes at (drop t.start bytes)
token_stop bytes file at t h = record { gap = h.gap; stops = begins_pass (drop t.start bytes) t.kind t.text h.begins }

bad_stop : (bytes : List ℕ) (at place : ℕ) → IsFirstBad bytes at place → Stop bytes at (drop place bytes)
bad_stop bytes at place h = record { gap = h.gap; stops = stuck_pass (drop place bytes) h.stuck }

end_stop : (bytes : List ℕ) (at : ℕ) → Gap (drop at bytes) [] → Stop bytes at []
end_stop bytes at h = record { gap = h; stops = pass_nil }

one_stop : (bytes : List ℕ) (at : ℕ) (r s : List ℕ) → Stop bytes at r → Stop bytes at s → r ≡ s
one_stop bytes at r s h k = gap_one (drop at bytes) r s h.gap h.stops k.gap k.stops

same_place : (bytes : List ℕ) (p q : ℕ) → p ≤ length bytes → q ≤ length bytes → drop p bytes ≡ drop q bytes → p ≡ q
same_place bytes p q hp hq e =
    let lengths : length (drop p bytes) ≡ length (drop q bytes) = ap length e in
    omega (arith, lengths, length-drop p bytes, length-drop q bytes)

abbrev made : TokenKind → List ℕ → ℕ → ℕ → ℕ → Lexeme
made kind text file start end = record { kind = kind; text = text; file = file; start = start; end = end }

same_lexeme : (k l : TokenKind) (x y : List ℕ) (f g s t d e : ℕ) → k ≡ l → x ≡ y → f ≡ g → s ≡ t → d ≡ e → made k x f s d ≡ made l y g t e
same_lexeme k l x y f g s t d e kinds texts files starts ends =
    ap (λ a. made a x f s d) kinds ∙ ap (λ a. made l a f s d) texts ∙ ap (λ a. made l y a s d) files
    ∙ ap (λ a. made l y g a d) starts ∙ ap (λ a. made l y g t a) ends

one_token : (bytes : List ℕ) (file at : ℕ) (t u : Lexeme) → IsFirstToken bytes file at t → IsFirstToken bytes file at u → t ≡ u
one_token bytes file at t u h k =
    let rests : drop t.start bytes ≡ drop u.start bytes = one_stop bytes at _ _ (token_stop bytes file at t h) (token_stop bytes file at u k) in
    let starts : t.start ≡ u.start = same_place bytes t.start u.start (omega (arith, h.last, h.within)) (omega (arith, k.last, k.within)) rests in
    let scans = same_scanned t.kind u.kind (length t.text) (length u.text)
    (sym (begins_lexeme (drop t.start bytes) t.kind t.text h.begins) ∙ ap lexeme rests
    ∙ begins_lexeme (drop u.start bytes) u.kind u.text k.begins) in
    let texts : t.text ≡ u.text =
    h.begins.prefix ∙ ap (λ n. take n (drop t.start bytes)) scans.1 ∙ ap (λ r. take (length u.text) r) rests ∙ sym k.begins.prefix in
    same_lexeme t.kind u.kind t.text u.text t.file u.file t.start u.start t.end u.end
    scans.0 texts (h.file ∙ sym k.file) starts (h.last ∙ ap (λ n. n + length t.text) starts ∙ ap (λ n. u.start + n) scans.1 ∙ sym k.last)

lexeme_nil : lexeme [] ≡ None
unfolding form
lexeme_nil = refl

nothing_begins : (kind : TokenKind) (text : List ℕ) → BeginsWithToken [] kind text → ⊥
nothing_begins kind text b = none_some (scanned kind (length text)) (sym lexeme_nil ∙ begins_lexeme [] kind text b)

no_end : (bytes : List ℕ) (file at : ℕ) (t : Lexeme) → IsFirstToken bytes file at t → Gap (drop at bytes) [] → ⊥
no_end bytes file at t h k =
    let rests : drop t.start bytes ≡ [] = one_stop bytes at _ [] (token_stop bytes file at t h) (end_stop bytes at k) in
    nothing_begins t.kind t.text (subst (λ r. BeginsWithToken r t.kind t.text) rests h.begins)

no_bad : (bytes : List ℕ) (file at place : ℕ) (t : Lexeme) → IsFirstToken bytes file at t → IsFirstBad bytes at place → ⊥
no_bad bytes file at place t h k =
    let rests : drop t.start bytes ≡ drop place bytes = one_stop bytes at _ _ (token_stop bytes file at t h) (bad_stop bytes at place k) in
    k.stuck.no_token t.kind t.text (subst (λ r. BeginsWithToken r t.kind t.text) rests h.begins)

no_bad_end : (bytes : List ℕ) (at place : ℕ) → IsFirstBad bytes at place → Gap (drop at bytes) [] → ⊥
no_bad_end bytes at place h k = h.stuck.some (one_stop bytes at _ [] (bad_stop bytes at place h) (end_stop bytes at k))

one_bad : (bytes : List ℕ) (at p q : ℕ) → IsFirstBad bytes at p → IsFirstBad bytes at q → p ≡ q
one_bad bytes at p q h k =
    same_place bytes p q (omega (arith, h.within)) (omega (arith, k.within)) (one_stop bytes at _ _ (bad_stop bytes at p h) (bad_stop bytes at q k))

pub one_first : OneFirst
one_first bytes file at (Found t) (Found u) h k = ap Found (one_token bytes file at t u h k)
one_first bytes file at (Found t) AtEnd h k = absurd (no_end bytes file at t h k)
one_first bytes file at (Found t) (BadAt q) h k = absurd (no_bad bytes file at q t h k)
one_first bytes file at AtEnd (Found u) h k = absurd (no_end bytes file at u k h)
one_first bytes file at AtEnd AtEnd h k = refl
one_first bytes file at AtEnd (BadAt q) h k = absurd (no_bad_end bytes at q k h)
one_first bytes file at (BadAt p) (Found u) h k = absurd (no_bad bytes file at p u k h)
one_first bytes file at (BadAt p) AtEnd h k = absurd (no_bad_end bytes at p h k)
one_first bytes file at (BadAt p) (BadAt q) h k = ap BadAt (one_bad bytes at p q h k)

-- ---- the whole file

found_same : (t u : Lexeme) → Found t ≡ Found u → t ≡ u
found_same t u e = cc

bad_same : (p q : ℕ) → BadAt p ≡ BadAt q → p ≡ q
bad_same p q e = cc

end_bad : (p : ℕ) → AtEnd ≡ BadAt p → ⊥
end_bad p e = cc

end_found : (t : Lexeme) → AtEnd ≡ Found t → ⊥
end_found t e = cc

bad_found : (p : ℕ) (t : Lexeme) → BadAt p ≡ Found t → ⊥
bad_found p t e = cc

pub one_split : OneSplit
one_split bytes file at ts us e f (whole a h) (whole b k) = (refl, refl)
one_split bytes file at ts us e f (whole a h) (broken b q k) = absurd (end_bad q (one_first bytes file at AtEnd (BadAt q) h k))
one_split bytes file at ts us e f (whole a h) (token b u vs d k s) = absurd (end_found u (one_first bytes file at AtEnd (Found u) h k))
one_split bytes file at ts us e f (broken a p h) (whole b k) = absurd (end_bad p (one_first bytes file at AtEnd (BadAt p) k h))
one_split bytes file at ts us e f (broken a p h) (broken b q k) = (refl, ap Some (bad_same p q (one_first bytes file at (BadAt p) (BadAt q) h k)))
one_split bytes file at ts us e f (broken a p h) (token b u vs d k s) = absurd (bad_found p u (one_first bytes file at (BadAt p) (Found u) h k))
one_split bytes file at ts us e f (token a t ws c h r) (whole b k) = absurd (end_found t (one_first bytes file at AtEnd (Found t) k h))
one_split bytes file at ts us e f (token a t ws c h r) (broken b q k) = absurd (bad_found q t (one_first bytes file at (BadAt q) (Found t) k h))
one_split bytes file at ts us e f (token a t ws c h r) (token b u vs d k s) =
    let same : t ≡ u = found_same t u (one_first bytes file at (Found t) (Found u) h k) in
    let rest = one_split bytes file t.end ws vs c d r (subst (λ (v : Lexeme). Splits bytes file v.end vs d) (sym same) s) in
    (ap (λ v. v ∷ ws) same ∙ ap (λ vs. u ∷ vs) rest.0, rest.1)

-- a gap goes on by what is passed over after it
pub gap_further : (bytes : List ℕ) (at place n : ℕ) → Gap (drop at bytes) (drop place bytes) → pass (drop place bytes) ≡ Some n
    → Gap (drop at bytes) (drop (place + n) bytes)
gap_further bytes at place n gap is =
    subst (Gap (drop at bytes)) (drop-drop n place bytes)
    (gap_snoc (drop at bytes) (drop place bytes) (drop n (drop place bytes)) gap (pass_skips (drop place bytes) n is))

pub comment_stuck : (bytes : List ℕ) → 0 < length bytes → pass bytes ≡ None → begins_comment bytes ≡ true → IsStuck bytes
comment_stuck bytes some stops is = stuck_from bytes some stops (inl is)

pub lexeme_found : (bytes : List ℕ) (o : Option Scanned) → 0 < length bytes → pass bytes ≡ None → begins_comment bytes ≡ false → o ≡ lexeme bytes
    → MatchOption o (IsStuck bytes) (λ f. (0 < f.length) × (f.length ≤ length bytes) × BeginsWithToken bytes f.kind (take f.length bytes))
lexeme_found bytes None some stops plain is = stuck_from bytes some stops (inr (sym is))
lexeme_found bytes (Some f) some stops plain is = lexeme_begins bytes f plain (sym is)
