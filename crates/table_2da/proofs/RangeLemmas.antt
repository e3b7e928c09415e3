-- Where bytes stand in their file.
use Rattle.std.proofs.Common.{◌≡◌, ℕ, ◌+◌, ◌-◌, ◌<◌, ◌≤◌, ◌⊎◌, inl, inr, Bool, true, false, cond, List, [], ◌∷◌, ◌++◌, length, take, drop, refl, sym, ap, ◌∙◌, subst, arith, append_assoc}
use Rattle.std.proofs.Common.{append-nil, length-append}
use Rattle.std.proofs.Math.Seq.{take-append_seam, drop-append_seam}
use Rattle.std.proofs.lemmas.List.{take-append-drop, length-take-le}
use Rattle.table_2da.specs.declared.range.Range.{Range}
use Rattle.table_2da.specs.declared.words.Part.{Part}
use Rattle.table_2da.specs.declared.words.Part.TheVariants.{Columns, Row}
use Rattle.table_2da.specs.Ranges.{bytes_at, cells_at, StandsAt, SaysFew}
use Rattle.table_2da.specs.Fronts.{IsOpen}
use Rattle.table_2da.specs.Words.{AreBlanks, PlainWord, Bare, Quoted, BeginsWith, name_of, text_in}
use Rattle.table_2da.proofs.RowLemmas.{SaysSoFar, says_nothing_yet, says_on, says_all, says_many, says_none, cells_count}

-- ---- places

-- what stands at a place is found there
pub found_there : (file bytes : List ℕ) (place : ℕ) → StandsAt file place bytes → take (length bytes) (drop place file) ≡ bytes
found_there file bytes place s =
    ap (take (length bytes)) (ap (λ n. drop n file) (sym s.there) ∙ ap (drop (length s.before)) s.is ∙ drop-append_seam s.before (bytes ++ s.behind))
    ∙ take-append_seam bytes s.behind

-- what stands in a part of a file stands in the file
pub stands_within : (file part bytes : List ℕ) (place start : ℕ) → StandsAt file place part → StandsAt part start bytes → StandsAt file (place + start) bytes
stands_within file part bytes place start outer inner = record {
  before = outer.before ++ inner.before;
  behind = inner.behind ++ outer.behind;
  is = outer.is ∙ ap (λ p. outer.before ++ (p ++ outer.behind)) inner.is
      ∙ ap (λ p. outer.before ++ p) (append_assoc inner.before (bytes ++ inner.behind) outer.behind ∙ ap (λ p. inner.before ++ p) (append_assoc bytes inner.behind outer.behind))
      ∙ sym (append_assoc outer.before inner.before (bytes ++ (inner.behind ++ outer.behind)));
  there = let both = length-append outer.before inner.before in omega (arith, both, outer.there, inner.there);
}

-- a line that was read stands where it begins
pub line_there : (text line : List ℕ) (place : ℕ) → place + length line ≤ length text → take (length line) (drop place text) ≡ line → StandsAt text place line
line_there text line place inside is = record {
  before = take place text;
  behind = drop (length line) (drop place text);
  is = sym (take-append-drop place text) ∙ ap (λ r. take place text ++ r) (sym (take-append-drop (length line) (drop place text)) ∙ ap (λ l. l ++ drop (length line) (drop place text)) is);
  there = length-take-le place text (omega arith);
}

-- ---- words

quoted_line : (blanks word rest : List ℕ) → blanks ++ 34 ∷ (word ++ 34 ∷ rest) ≡ (blanks ++ 34 ∷ []) ++ (word ++ 34 ∷ rest)
quoted_line blanks word rest = sym (append_assoc blanks (34 ∷ []) (word ++ 34 ∷ rest))

-- how many bytes a word takes beside its own behind it
abbrev pub closing : PlainWord → ℕ
closing (Bare bytes) = 0
closing (Quoted bytes) = 1

-- a word stands before what follows it
pub word_there : (line rest : List ℕ) (word : PlainWord) (start : ℕ) → BeginsWith line word rest
    → start ≡ length line - length rest - closing word - length (name_of word) → StandsAt line start (name_of word)
word_there line rest (Bare word) start begins is =
    let whole = ap length begins.is ∙ length-append begins.blanks (word ++ rest) in
    let inner = length-append word rest in
    record { before = begins.blanks; behind = rest; is = begins.is; there = omega (arith, whole, inner, is) }
word_there line rest (Quoted word) start begins is =
    let whole = ap length begins.is ∙ length-append begins.blanks (34 ∷ (word ++ 34 ∷ rest)) in
    let inner = length-append word (34 ∷ rest) in
    let front = length-append begins.blanks (34 ∷ []) in
    record {
      before = begins.blanks ++ 34 ∷ [];
      behind = 34 ∷ rest;
      is = begins.is ∙ quoted_line begins.blanks word rest;
      there = omega (arith, whole, inner, front, is);
    }

-- how long a line is that begins with a word
pub word_fits : (line rest : List ℕ) (word : PlainWord) → BeginsWith line word rest → length rest + closing word + length (name_of word) ≤ length line
word_fits line rest (Bare word) begins =
    let whole = ap length begins.is ∙ length-append begins.blanks (word ++ rest) in
    let inner = length-append word rest in omega (arith, whole, inner)
word_fits line rest (Quoted word) begins =
    let whole = ap length begins.is ∙ length-append begins.blanks (34 ∷ (word ++ 34 ∷ rest)) in
    let inner = length-append word (34 ∷ rest) in omega (arith, whole, inner)

end_of : (line before rest : List ℕ) → line ≡ before ++ rest → StandsAt line (length line - length rest) rest
end_of line before rest is =
    let whole = ap length is ∙ length-append before rest in
    record { before = before; behind = []; is = is ∙ ap (λ r. before ++ r) (sym (append-nil rest)); there = omega (arith, whole) }

-- what follows a word stands at the end of its line
pub rest_there : (line rest : List ℕ) (word : PlainWord) → BeginsWith line word rest → StandsAt line (length line - length rest) rest
rest_there line rest (Bare word) begins = end_of line (begins.blanks ++ word) rest (begins.is ∙ sym (append_assoc begins.blanks word rest))
rest_there line rest (Quoted word) begins =
    end_of line (begins.blanks ++ 34 ∷ (word ++ 34 ∷ [])) rest
    (begins.is ∙ ap (λ r. begins.blanks ++ 34 ∷ r) (sym (append_assoc word (34 ∷ []) rest)) ∙ sym (append_assoc begins.blanks (34 ∷ (word ++ 34 ∷ [])) rest))

-- what a word says is all of its bytes, or nothing
said_by : (t : Bool) (bytes : List ℕ) → (cond t [] bytes ≡ bytes) ⊎ (cond t [] bytes ≡ [])
said_by true bytes = inr refl
said_by false bytes = inl refl

said : (part : Part) (word : PlainWord) → (text_in part word ≡ name_of word) ⊎ (text_in part word ≡ [])
said Columns word = inl refl
said Row (Quoted bytes) = inl refl
said Row (Bare bytes) = said_by _ bytes

at_said : (file line bytes text : List ℕ) (place start : ℕ) → StandsAt file place line → StandsAt line start bytes → (text ≡ bytes) ⊎ (text ≡ [])
    → take (length text) (drop (place + start) file) ≡ text
at_said file line bytes text place start outer inner (inl all) =
    ap (λ n. take n (drop (place + start) file)) (ap length all) ∙ found_there file bytes (place + start) (stands_within file line bytes place start outer inner) ∙ sym all
at_said file line bytes text place start outer inner (inr nothing) = ap (λ n. take n (drop (place + start) file)) (ap length nothing) ∙ sym nothing

pub text_there : (file line : List ℕ) (part : Part) (word : PlainWord) (place start : ℕ) → StandsAt file place line → StandsAt line start (name_of word)
    → take (length (text_in part word)) (drop (place + start) file) ≡ text_in part word
text_there file line part word place start outer inner =
    at_said file line (name_of word) (text_in part word) place start outer inner (said part word)

-- ---- ranges so far

pub record RangesSoFar (part : Part) (most place : ℕ) (line : List ℕ) (at : ℕ) (rest : List ℕ) (ranges : List Range) : Type 0 where
  pub says : (file : List ℕ) → StandsAt file place line → SaysSoFar part line rest (cells_at file ranges)
  pub stands : (file : List ℕ) → StandsAt file place line → StandsAt file at rest
  pub fits : at + length rest ≡ place + length line
  pub few : length ranges ≤ most

pub no_ranges_yet : (part : Part) (most place : ℕ) (line : List ℕ) (ranges : List Range) → ranges ≡ [] → RangesSoFar part most place line place line ranges
no_ranges_yet part most place line ranges e =
    subst (RangesSoFar part most place line place line) (sym e) (record {
      says = λ file s. says_nothing_yet part line;
      stands = λ file s. s;
      fits = refl;
      few = omega arith;
    })

map_last : (file : List ℕ) (ranges : List Range) (range : Range) → cells_at file (ranges ++ range ∷ []) ≡ cells_at file ranges ++ bytes_at file range ∷ []
map_last file [] range = refl
map_last file (r ∷ ranges) range = ap (λ cells. bytes_at file r ∷ cells) (map_last file ranges range)

module _ (part : Part) (most place : ℕ) (line : List ℕ) (at : ℕ) (rest : List ℕ) (ranges : List Range) (so : RangesSoFar part most place line at rest ranges) where
  module _ (word : PlainWord) (after : List ℕ) (begins : BeginsWith rest word after) where
    pub one_range_more : (range : Range) (now : List Range) (further : ℕ) → ((file : List ℕ) → StandsAt file at rest → bytes_at file range ≡ text_in part word)
        → length ranges < most → now ≡ ranges ++ range ∷ [] → further ≡ at + (length rest - length after) → RangesSoFar part most place line further after now
    one_range_more range now further text room e is =
        subst (RangesSoFar part most place line further after) (sym e) (record {
          says = λ file s.
              subst (SaysSoFar part line after) (sym (map_last file ranges range))
              (says_on part line rest after word (cells_at file ranges) (bytes_at file range) begins (text file (so.stands file s)) (so.says file s));
          stands = λ file s.
              subst (λ n. StandsAt file n after) (sym is)
              (stands_within file rest after at (length rest - length after) (so.stands file s) (rest_there rest after word begins));
          fits = omega (arith, is, so.fits, word_fits rest after word begins);
          few = omega (arith, room, length-append ranges (range ∷ []));
        })

    pub too_many_ranges : most ≤ length ranges → (file : List ℕ) → StandsAt file place line → (texts : List (List ℕ)) → SaysFew part most line texts → ⊥
    too_many_ranges many file s texts few =
        says_many part most line rest after word (cells_at file ranges) texts begins (omega (arith, many, cells_count file ranges)) (so.says file s) few

  pub all_ranges : AreBlanks rest → (now : List Range) → now ≡ ranges → (file : List ℕ) → StandsAt file place line → SaysFew part most line (cells_at file now)
  all_ranges blank now e file s =
      subst (λ rs. SaysFew part most line (cells_at file rs)) (sym e) (record {
        says = says_all part line rest (cells_at file ranges) blank (so.says file s);
        few = omega (arith, so.few, cells_count file ranges);
      })

  pub open_ranges : IsOpen rest → (file : List ℕ) → StandsAt file place line → (texts : List (List ℕ)) → SaysFew part most line texts → ⊥
  open_ranges open_quote file s texts few = says_none part line rest (cells_at file ranges) texts open_quote (so.says file s) few.says
