-- What a line begins with, and that it begins with one thing alone.
use Rattle.std.proofs.Common.{◌≡◌, ◌≢◌, ℕ, ◌+◌, ◌<◌, ◌==◌, length, Bool, true, false, cond, List, [], ◌∷◌, ◌++◌, take, drop, get_or, Option, Some, None, IsTrue, ◌↔◌, refl, sym, ap, ◌∙◌, subst}
use Rattle.std.proofs.Common.{arith, length-append, append-nil, true≢false}
use Rattle.std.proofs.lemmas.Bool.Decides.{nat_tests}
use Rattle.std.proofs.lemmas.List.{take_more, drop_more}
use Rattle.std.proofs.lemmas.Option.{none-some}
use Rattle.nwq_text.specs.Cuts.{IsFree, cut_at, CutParts}
use Rattle.nwq_text.specs.Laws.{cut_parts, cut_free, cut_none}
use Rattle.table_2da.specs.Words.{is_blank, AreBlanks, AreUnblank, PlainWord, Bare, Quoted, IsBare, EndsWord, IsBareBefore, IsQuotedBefore, BeginsWith}
use Rattle.table_2da.specs.Fronts.{IsOpen}
use Rattle.table_2da.specs.Steps.{behind_blanks}

-- ---- blanks

-- blanks and what follows them
record Parted (line rest : List ℕ) : Type 0 where
  blanks : List ℕ
  blank : AreBlanks blanks
  is : line ≡ blanks ++ rest

by_blank : (b : ℕ) (bs : List ℕ) (t : Bool) → is_blank b ≡ t → Parted bs (behind_blanks bs) → Parted (b ∷ bs) (cond t (behind_blanks bs) (b ∷ bs))
by_blank b bs true is p = record { blanks = b ∷ p.blanks; blank = (is, p.blank); is = ap (λ xs. b ∷ xs) p.is }
by_blank b bs false is p = record { blanks = []; blank = tt; is = refl }

parted : (line : List ℕ) → Parted line (behind_blanks line)
unfolding behind_blanks
parted [] = record { blanks = []; blank = tt; is = refl }
parted (b ∷ bs) = by_blank b bs (is_blank b) refl (parted bs)

-- blanks in front are passed over
behind : (blanks rest : List ℕ) → AreBlanks blanks → behind_blanks (blanks ++ rest) ≡ behind_blanks rest
unfolding behind_blanks
behind [] rest blank = refl
behind (b ∷ blanks) rest blank =
    ap (λ t. cond t (behind_blanks (blanks ++ rest)) (b ∷ (blanks ++ rest))) blank.0 ∙ behind blanks rest blank.1

-- what isn't blank stays
behind_stays : (b : ℕ) (bs : List ℕ) → is_blank b ≡ false → behind_blanks (b ∷ bs) ≡ b ∷ bs
unfolding behind_blanks
behind_stays b bs h = ap (λ t. cond t (behind_blanks bs) (b ∷ bs)) h

behind_nothing : behind_blanks [] ≡ []
unfolding behind_blanks
behind_nothing = refl

behind_all : (line : List ℕ) → AreBlanks line → behind_blanks line ≡ []
behind_all line blank = ap behind_blanks (sym (append-nil line)) ∙ behind line [] blank ∙ behind_nothing

-- no blank follows the blanks
unblank_by : (b c : ℕ) (bs cs : List ℕ) (t : Bool) → is_blank b ≡ t → cond t (behind_blanks bs) (b ∷ bs) ≡ c ∷ cs
    → (behind_blanks bs ≡ c ∷ cs → is_blank c ≡ false) → is_blank c ≡ false
unblank_by b c bs cs true is e more = more e
unblank_by b c bs cs false is e more = let same : b ≡ c = cc in subst (λ x. is_blank x ≡ false) same is

unblank : (line : List ℕ) (c : ℕ) (cs : List ℕ) → behind_blanks line ≡ c ∷ cs → is_blank c ≡ false
unfolding behind_blanks
unblank [] c cs e = cc
unblank (b ∷ bs) c cs e = unblank_by b c bs cs (is_blank b) refl e (unblank bs c cs)

-- one step of passing over
pub blank_passed : (rest after line : List ℕ) (b : ℕ) → rest ≡ b ∷ after → is_blank b ≡ true → behind_blanks rest ≡ behind_blanks line
    → behind_blanks after ≡ behind_blanks line
unfolding behind_blanks
blank_passed rest after line b is blank so =
    sym (ap behind_blanks is ∙ ap (λ t. cond t (behind_blanks after) (b ∷ after)) blank) ∙ so

pub blank_stops : (rest after line : List ℕ) (b : ℕ) → rest ≡ b ∷ after → is_blank b ≡ false → behind_blanks rest ≡ behind_blanks line
    → rest ≡ behind_blanks line
blank_stops rest after line b is other so =
    is ∙ sym (behind_stays b after other) ∙ sym (ap behind_blanks is) ∙ so

nil_of : (xs : List ℕ) → length xs ≡ 0 → xs ≡ []
nil_of [] e = refl
nil_of (x ∷ xs) e = absurd (omega arith)

pub blank_end : (rest line : List ℕ) → length rest ≡ 0 → behind_blanks rest ≡ behind_blanks line → rest ≡ behind_blanks line
blank_end rest line e so = let is = nil_of rest e in is ∙ sym behind_nothing ∙ sym (ap behind_blanks is) ∙ so

nothing_behind : (line : List ℕ) → behind_blanks line ≡ [] → AreBlanks line
nothing_behind line e =
    let p = parted line in subst AreBlanks (sym (p.is ∙ ap (λ r. p.blanks ++ r) e ∙ append-nil p.blanks)) p.blank

pub nothing_there : (line rest : List ℕ) → rest ≡ behind_blanks line → length rest ≡ 0 → AreBlanks line
nothing_there line rest is e = nothing_behind line (sym is ∙ nil_of rest e)

zero_test : (n : ℕ) → n ≢ 0 → (n == 0) ≡ false
zero_test n h = grind (arith, nat_tests)

nil_test : (xs : List ℕ) (t : Bool) → t ≡ (length xs == 0) → IsTrue t ↔ (xs ≡ [])
nil_test [] t is = (λ h. refl, λ e. is)
nil_test (x ∷ xs) t is =
    let some : length (x ∷ xs) ≢ 0 = λ e. absurd (omega arith)
    in (λ h. absurd (true≢false (sym h ∙ is ∙ zero_test (length (x ∷ xs)) some)), λ e. absurd (nil-cons e))
  where
    nil-cons : x ∷ xs ≡ [] → ⊥
    nil-cons e = cc

pub blanks_test : (line : List ℕ) (t : Bool) → t ≡ (length (behind_blanks line) == 0) → IsTrue t ↔ AreBlanks line
blanks_test line t is =
    let test = nil_test (behind_blanks line) t is
    in (λ h. nothing_behind line (test.0 h), λ blank. test.1 (behind_all line blank))

-- ---- the front of a line

quote_unblank : is_blank 34 ≡ false
quote_unblank = refl

pub opens : (line after : List ℕ) → behind_blanks line ≡ 34 ∷ after → cut_at 34 after ≡ None → IsOpen line
opens line after e cut =
    let p = parted line in record {
      blanks = p.blanks;
      rest = after;
      blank = p.blank;
      free = subst (CutParts 34 after) cut (cut_parts 34 after);
      is = p.is ∙ ap (λ r. p.blanks ++ r) e;
    }

pub quoted_before : (line after word rest : List ℕ) → behind_blanks line ≡ 34 ∷ after → cut_at 34 after ≡ Some (word, rest)
    → IsQuotedBefore line word rest
quoted_before line after word rest e cut =
    let p = parted line in
    let parts : CutParts 34 after (Some (word, rest)) = subst (CutParts 34 after) cut (cut_parts 34 after) in
    record {
      blanks = p.blanks;
      blank = p.blank;
      free = parts.1;
      is = p.is ∙ ap (λ r. p.blanks ++ r) (e ∙ ap (λ xs. 34 ∷ xs) parts.0);
    }

is_bare : (b : ℕ) (bs word rest : List ℕ) → b ∷ bs ≡ word ++ rest → is_blank b ≡ false → b ≢ 34 → AreUnblank word → EndsWord rest → IsBare word
is_bare b bs [] [] e other no_quote unblank ends = absurd cc
is_bare b bs [] (c ∷ rest) e other no_quote unblank ends =
    let same : b ≡ c = cc in absurd (let no : true ≡ false = sym ends ∙ sym (ap is_blank same) ∙ other in cc)
is_bare b bs (c ∷ word) rest e other no_quote unblank ends =
    let same : b ≡ c = cc in (subst (λ x. x ≢ 34) same no_quote, unblank)

pub bare_before : (line bs word rest : List ℕ) (b : ℕ) → behind_blanks line ≡ b ∷ bs → b ≢ 34 → b ∷ bs ≡ word ++ rest → AreUnblank word → EndsWord rest
    → IsBareBefore line word rest
bare_before line bs word rest b e no_quote whole unblank_word ends =
    let p = parted line in record {
      blanks = p.blanks;
      blank = p.blank;
      bare = is_bare b bs word rest whole (unblank line b bs e) no_quote unblank_word ends;
      ends = ends;
      is = p.is ∙ ap (λ r. p.blanks ++ r) (e ∙ whole);
    }

-- ---- bare words by index

push : (b : ℕ) (bytes : List ℕ) → AreUnblank bytes → is_blank b ≡ false → AreUnblank (bytes ++ b ∷ [])
push b [] unblank other = (other, tt)
push b (x ∷ bytes) unblank other = (unblank.0, push b bytes unblank.1 other)

pub unblank_more : (bytes : List ℕ) (i b : ℕ) → i < length bytes → b ≡ get_or bytes i 0 → is_blank b ≡ false → AreUnblank (take i bytes)
    → AreUnblank (take (i + 1) bytes)
unblank_more bytes i b inside is other unblank =
    subst AreUnblank (sym (take_more bytes i 0 inside ∙ ap (λ x. take i bytes ++ x ∷ []) (sym is))) (push b (take i bytes) unblank other)

pub ends_here : (bytes : List ℕ) (i b : ℕ) → i < length bytes → b ≡ get_or bytes i 0 → is_blank b ≡ true → EndsWord (drop i bytes)
ends_here bytes i b inside is blank =
    subst EndsWord (sym (drop_more bytes i 0 inside ∙ ap (λ x. x ∷ drop (i + 1) bytes) (sym is))) blank

-- ---- one front

-- the word before a blank or the end, and what follows it
cut_blank : List ℕ → List ℕ × List ℕ
cut_blank [] = ([], [])
cut_blank (b ∷ bs) = cond (is_blank b) ([], b ∷ bs) (b ∷ (cut_blank bs).0, (cut_blank bs).1)

cut_word : (word rest : List ℕ) → AreUnblank word → EndsWord rest → cut_blank (word ++ rest) ≡ (word, rest)
unfolding cut_blank
cut_word [] [] unblank ends = refl
cut_word [] (b ∷ rest) unblank ends = ap (λ t. cond t ([], b ∷ rest) (b ∷ (cut_blank rest).0, (cut_blank rest).1)) ends
cut_word (b ∷ word) rest unblank ends =
    ap (λ t. cond t ([], b ∷ (word ++ rest)) (b ∷ (cut_blank (word ++ rest)).0, (cut_blank (word ++ rest)).1)) unblank.0
    ∙ ap (λ p. (b ∷ p.0, p.1)) (cut_word word rest unblank.1 ends)

quoted_cut : Option (List ℕ × List ℕ) → Option (PlainWord × List ℕ)
quoted_cut None = None
quoted_cut (Some p) = Some (Quoted p.0, p.1)

-- what text without blanks in front begins with
word_in : List ℕ → Option (PlainWord × List ℕ)
word_in [] = None
word_in (b ∷ bs) = cond (b == 34) (quoted_cut (cut_at 34 bs)) (Some (Bare (cut_blank (b ∷ bs)).0, (cut_blank (b ∷ bs)).1))

word_bare : (word rest : List ℕ) → IsBare word → EndsWord rest → word_in (word ++ rest) ≡ Some (Bare word, rest)
unfolding word_in
word_bare [] rest bare ends = absurd bare
word_bare (b ∷ word) rest bare ends =
    let other : (b == 34) ≡ false = no_quote b bare.0
    in ap (λ t. cond t (quoted_cut (cut_at 34 (word ++ rest))) (Some (Bare (cut_blank (b ∷ (word ++ rest))).0, (cut_blank (b ∷ (word ++ rest))).1))) other
    ∙ ap (λ p. Some (Bare p.0, p.1)) (cut_word (b ∷ word) rest bare.1 ends)
  where
    no_quote : (b : ℕ) → b ≢ 34 → (b == 34) ≡ false
    no_quote b h = grind (arith, nat_tests)

word_quoted : (word rest : List ℕ) → IsFree 34 word → word_in (34 ∷ (word ++ 34 ∷ rest)) ≡ Some (Quoted word, rest)
unfolding word_in quoted_cut
word_quoted word rest free = ap quoted_cut (cut_free 34 word rest free)

word_open : (rest : List ℕ) → IsFree 34 rest → word_in (34 ∷ rest) ≡ None
unfolding word_in quoted_cut
word_open rest free = ap quoted_cut (cut_none 34 rest free)

unblank_front : (word rest : List ℕ) → IsBare word → behind_blanks (word ++ rest) ≡ word ++ rest
unblank_front [] rest bare = absurd bare
unblank_front (b ∷ word) rest bare = behind_stays b (word ++ rest) bare.1.0

begins_word : (line : List ℕ) (word : PlainWord) (rest : List ℕ) → BeginsWith line word rest → word_in (behind_blanks line) ≡ Some (word, rest)
begins_word line (Bare word) rest b =
    ap word_in (ap behind_blanks b.is ∙ behind b.blanks (word ++ rest) b.blank ∙ unblank_front word rest b.bare) ∙ word_bare word rest b.bare b.ends
begins_word line (Quoted word) rest b =
    ap word_in (ap behind_blanks b.is ∙ behind b.blanks (34 ∷ (word ++ 34 ∷ rest)) b.blank ∙ behind_stays 34 (word ++ 34 ∷ rest) quote_unblank)
    ∙ word_quoted word rest b.free

word_nothing : word_in [] ≡ None
unfolding word_in
word_nothing = refl

-- a blank line, and one with an open quote, begin with no word
pub blanks_begin : (line : List ℕ) (word : PlainWord) (rest : List ℕ) → AreBlanks line → BeginsWith line word rest → ⊥
blanks_begin line word rest blank b =
    none-some (word, rest) (sym word_nothing ∙ sym (ap word_in (behind_all line blank)) ∙ begins_word line word rest b)

behind_open : (line : List ℕ) (o : IsOpen line) → behind_blanks line ≡ 34 ∷ o.rest
behind_open line o = ap behind_blanks o.is ∙ behind o.blanks (34 ∷ o.rest) o.blank ∙ behind_stays 34 o.rest quote_unblank

pub open_begins : (line : List ℕ) (word : PlainWord) (rest : List ℕ) → IsOpen line → BeginsWith line word rest → ⊥
open_begins line word rest o b =
    none-some (word, rest) (sym (word_open o.rest o.free) ∙ sym (ap word_in (behind_open line o)) ∙ begins_word line word rest b)

pub open_blanks : (line : List ℕ) → IsOpen line → AreBlanks line → ⊥
open_blanks line o blank = let no : 34 ∷ o.rest ≡ [] = sym (behind_open line o) ∙ behind_all line blank in cc

-- a line begins with one word
pub record SameFront (v w : PlainWord) (r s : List ℕ) : Type 0 where
  pub words : v ≡ w
  pub rests : r ≡ s

front_in : Option (PlainWord × List ℕ) → PlainWord × List ℕ
front_in None = (Bare [], [])
front_in (Some p) = p

pub one_front : (line : List ℕ) (v w : PlainWord) (r s : List ℕ) → BeginsWith line v r → BeginsWith line w s → SameFront v w r s
unfolding front_in
one_front line v w r s a b =
    let same : ◌≡◌ {A = Option (PlainWord × List ℕ)} (Some (v, r)) (Some (w, s)) = sym (begins_word line v r a) ∙ begins_word line w s b
    in record { words = ap (λ o. (front_in o).0) same; rests = ap (λ o. (front_in o).1) same }

-- what follows a word is shorter than the line
pub shorter : (line : List ℕ) (word : PlainWord) (rest : List ℕ) → BeginsWith line word rest → length rest < length line
shorter line (Bare []) rest b = absurd b.bare
shorter line (Bare (c ∷ word)) rest b =
    let whole = ap length b.is ∙ length-append b.blanks ((c ∷ word) ++ rest) in
    let inner = length-append (c ∷ word) rest in omega (arith, whole, inner)
shorter line (Quoted word) rest b =
    let whole = ap length b.is ∙ length-append b.blanks (34 ∷ (word ++ 34 ∷ rest)) in
    let inner = length-append word (34 ∷ rest) in omega (arith, whole, inner)
