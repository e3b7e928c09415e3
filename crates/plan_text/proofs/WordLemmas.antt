use Rattle.std.proofs.Common.{◌≡◌, ◌≢◌, ℕ, ◌==◌, Bool, true, false, MatchBool, cond, List, [], ◌∷◌, ◌++◌, Option, Some, None, refl, sym, ap, ◌∙◌, subst, arith}
use Rattle.std.proofs.lemmas.Bool.Decides.{nat_tests}
use Rattle.std.proofs.lemmas.Slice.Eq.{bytes_eq-Decides}
use Rattle.std.proofs.lemmas.Option.{none-some, some_pair_parts}
use Rattle.std.specs.Option.{option_map}
use Rattle.std.specs.Str.{bytes_eq}
use Rattle.plan_text.specs.Fields.{parted}
use Rattle.plan_text.specs.Words.{Word, Limit, Entries, Until, Random, Script, Binary, Event, Start, spelled, word_named, named_in, head_of}
use Rattle.plan_text.specs.Plans.{Draft, Reads, Baffles, ReadsBehind, empty, remark, says}
use Rattle.plan_text.specs.Steps.{Took, IsWorded}
use Rattle.nwq_text.specs.Cuts.{cut_at, CutParts}
use Rattle.nwq_text.specs.Laws.{cut_parts}

-- ---- words

same_word : (v w : Word) → Some v ≡ Some w → v ≡ w
same_word v w e = cc

choose : (word : List ℕ) (v : Word) (t : Bool) → bytes_eq word (spelled v) ≡ t → (more : Option Word)
    → ((w : Word) → more ≡ Some w → word ≡ spelled w) → (w : Word) → cond t (Some v) more ≡ Some w → word ≡ spelled w
choose word v true is more rest w e = (bytes_eq-Decides word (spelled v)).0 is ∙ ap spelled (same_word v w e)
choose word v false is more rest w e = rest w e

no_word : (word : List ℕ) (w : Word) → None ≡ Some w → word ≡ spelled w
no_word word w e = absurd (none-some w e)

word_is : (word : List ℕ) (w : Word) → word_named word ≡ Some w → word ≡ spelled w
unfolding word_named
word_is word =
    choose word Limit _ refl _ (choose word Entries _ refl _ (choose word Until _ refl _ (choose word Random _ refl _
    (choose word Script _ refl _ (choose word Binary _ refl _ (choose word Event _ refl _ (choose word Start _ refl _ (no_word word))))))))

-- a word and what follows it are read from the line that they make
pub head_spelled : (w : Word) (rest : List ℕ) → head_of (parted (spelled w) rest) ≡ Some (w, rest)
unfolding cut_at word_named
head_spelled Limit rest = refl
head_spelled Entries rest = refl
head_spelled Until rest = refl
head_spelled Random rest = refl
head_spelled Script rest = refl
head_spelled Binary rest = refl
head_spelled Event rest = refl
head_spelled Start rest = refl

parts : (v w : Word) (x y : List ℕ) → ◌≡◌ {A = Option (Word × List ℕ)} (Some (v, x)) (Some (w, y)) → (v ≡ w) × (x ≡ y)
parts v w x y e = some_pair_parts v w x y e

named_is : (p : List ℕ × List ℕ) (o : Option Word) → word_named p.0 ≡ o → (w : Word) (rest : List ℕ)
    → option_map {U = Word × List ℕ} (λ v. (v, p.1)) o ≡ Some (w, rest) → p.0 ++ 32 ∷ p.1 ≡ parted (spelled w) rest
named_is p None is w rest e = absurd (none-some (w, rest) e)
named_is p (Some v) is w rest e =
    let same = parts v w p.1 rest e
    in ap (λ xs. xs ++ 32 ∷ p.1) (word_is p.0 v is ∙ ap spelled same.0) ∙ ap (λ xs. spelled w ++ 32 ∷ xs) same.1

cut_is : (line : List ℕ) (cut : Option (List ℕ × List ℕ)) → CutParts 32 line cut → (w : Word) (rest : List ℕ) → named_in cut ≡ Some (w, rest)
    → line ≡ parted (spelled w) rest
cut_is line None cuts w rest e = absurd (none-some (w, rest) e)
cut_is line (Some p) cuts w rest e = cuts.0 ∙ named_is p (word_named p.0) refl w rest e

-- a line is made of the word and the rest that are read from it
pub head_is : (line : List ℕ) (w : Word) (rest : List ℕ) → head_of line ≡ Some (w, rest) → line ≡ parted (spelled w) rest
head_is line w rest e = cut_is line (cut_at 32 line) (cut_parts 32 line) w rest e

-- ---- whole lines

-- what a line with a word reads is read behind that
pub record Said (d : Draft) (line : List ℕ) (after : Draft) : Type 0 where
  pub w : Word
  pub rest : List ℕ
  pub head : head_of line ≡ Some (w, rest)
  pub behind : ReadsBehind w d rest after

pub said : (d : Draft) (line : List ℕ) (after : Draft) → IsWorded line → Reads d line after → Said d line after
said d line after worded empty = absurd (worded.some refl)
said d line after worded (remark text) = absurd (worded.plain text refl)
said d line after worded (says w rest a behind) = record { w = w; rest = rest; head = head_spelled w rest; behind = behind }

pub baffled : (d : Draft) (line : List ℕ) → IsWorded line → head_of line ≡ None → Baffles d line
baffled d line worded none after r = let s = said d line after worded r in none-some (s.w, s.rest) (sym none ∙ s.head)

-- what is taken behind a line's word is taken of the line
pub taken : (d new : Draft) (line : List ℕ) (w : Word) (rest : List ℕ) (took : Bool) → IsWorded line → head_of line ≡ Some (w, rest)
    → Took (ReadsBehind w d rest) took new → Took (Reads d line) took new
taken d new line w rest true worded head behind = subst (λ l. Reads d l new) (sym (head_is line w rest head)) (says w rest new behind)
taken d new line w rest false worded head behind = λ after r.
    let s = said d line after worded r
    in let same = parts s.w w s.rest rest (sym s.head ∙ head)
    in behind after (subst (λ v. ReadsBehind v d rest after) same.0 (subst (λ xs. ReadsBehind s.w d xs after) same.1 s.behind))

pub reads_empty : (d : Draft) (line : List ℕ) → line ≡ [] → Reads d line d
reads_empty d line is = subst (λ l. Reads d l d) (sym is) empty

pub reads_remark : (d : Draft) (line text : List ℕ) (b : ℕ) → line ≡ b ∷ text → b ≡ 59 → Reads d line d
reads_remark d line text b is semicolon = subst (λ l. Reads d l d) (sym (is ∙ ap (λ c. c ∷ text) semicolon)) (remark text)

pub worded : (line rest : List ℕ) (b : ℕ) → line ≡ b ∷ rest → b ≢ 59 → IsWorded line
worded line rest b is other = record {
  some = λ e. let empty_is : b ∷ rest ≡ [] = sym is ∙ e in cc;
  plain = λ text e. let same : b ∷ rest ≡ 59 ∷ text = sym is ∙ e in let semicolon : b ≡ 59 = cc in other semicolon;
}

pub passed_by : (line rest : List ℕ) (b : ℕ) (t : Bool) → (b == 59) ≡ t → line ≡ b ∷ rest
    → MatchBool t ((d : Draft) → Reads d line d) (IsWorded line)
passed_by line rest b true test is = λ d. let same : b ≡ 59 = grind (arith, nat_tests) in reads_remark d line rest b is same
passed_by line rest b false test is = let other : b ≢ 59 = grind (arith, nat_tests) in worded line rest b is other
