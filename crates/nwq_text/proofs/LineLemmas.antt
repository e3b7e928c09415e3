-- The first line of a text, and what is left of a text.
use Rattle.std.proofs.Common.{◌≡◌, ◌≢◌, ℕ, ◌-◌, ◌<◌, ◌==◌, Bool, true, false, cond, List, [], ◌∷◌, ◌++◌, length, take, drop, Some, None, refl, sym, ap, ◌∙◌, subst, arith, append_assoc}
use Rattle.std.proofs.Common.{append-nil, length-append}
use Rattle.std.proofs.Math.Seq.{take-append_seam, drop-append_seam, drop-length}
use Rattle.std.proofs.lemmas.List.{take_all}
use Rattle.std.proofs.lemmas.Bool.Decides.{nat_tests}
use Rattle.nwq_text.specs.Cuts.{IsFree, cut_at, CutParts}
use Rattle.nwq_text.specs.Lines.{without_return, lines_of, IsFirstLine}
use Rattle.nwq_text.specs.Laws.{cut_parts, lines_none, lines_ended, lines_last}

-- ---- carriage returns

ended_by : (b : ℕ) (t : Bool) → (b == 13) ≡ t → (front : List ℕ) → without_return (front ++ b ∷ []) ≡ front ++ cond t [] (b ∷ [])
ended_by b t is [] = ap (λ s. cond s [] (b ∷ [])) is
ended_by b t is (x ∷ []) = ap (λ s. x ∷ cond s [] (b ∷ [])) is
ended_by b t is (x ∷ y ∷ ys) = ap (λ s. x ∷ s) (ended_by b t is (y ∷ ys))

pub returned : (line front : List ℕ) (b : ℕ) → line ≡ front ++ b ∷ [] → (b == 13) ≡ true → front ≡ without_return line
returned line front b is test = sym (ap without_return is ∙ ended_by b true test front ∙ append-nil front)

pub unreturned : (line front : List ℕ) (b : ℕ) → line ≡ front ++ b ∷ [] → (b == 13) ≡ false → line ≡ without_return line
unreturned line front b is test = is ∙ sym (ap without_return is ∙ ended_by b false test front)

pub empty_line : (line : List ℕ) → length line ≡ 0 → line ≡ without_return line
empty_line [] h = refl
empty_line (b ∷ bs) h = absurd (omega arith)

-- a line begins as it does without its carriage return
record Begins (line front : List ℕ) : Type 0 where
  behind : List ℕ
  is : line ≡ front ++ behind

begins_by : (b : ℕ) (t : Bool) → Begins (b ∷ []) (cond t [] (b ∷ []))
begins_by b true = record { behind = b ∷ []; is = refl }
begins_by b false = record { behind = []; is = refl }

begins : (line : List ℕ) → Begins line (without_return line)
begins [] = record { behind = []; is = refl }
begins (b ∷ []) = begins_by b (b == 13)
begins (b ∷ c ∷ bs) = let more = begins (c ∷ bs) in record { behind = more.behind; is = ap (λ xs. b ∷ xs) more.is }

-- ---- the first line

sub-zero : (n : ℕ) → n - 0 ≡ n
sub-zero n = omega arith

-- nothing follows the last byte
pub behind_all : (text : List ℕ) (n : ℕ) → n ≡ length text → take (length text - n) (drop n text) ≡ []
behind_all text n end = take_nothing (length text - n) (drop n text) (omega arith)
  where
    take_nothing : (k : ℕ) (xs : List ℕ) → k ≡ 0 → take k xs ≡ []
    take_nothing k xs h = ap (λ n. take n xs) h

pub first_last : (text rest : List ℕ) → (length text == 0) ≡ false → cut_at 10 text ≡ None → rest ≡ [] → IsFirstLine text text rest
first_last text rest test e nothing =
    let some : 0 < length text = grind (arith, nat_tests) in
    let free : IsFree 10 text = subst (CutParts 10 text) e (cut_parts 10 text) in
    let filled : text ≢ [] = λ h. let none : length text ≡ 0 = ap length h in absurd (omega (arith, none, some)) in
    subst (IsFirstLine text text) (sym nothing) (record {
      lines = lines_last text filled free ∙ ap (λ ls. text ∷ ls) (sym lines_none);
      front = take_all (length text) text (omega arith);
      back = ap (λ n. drop n text) (sub-zero (length text)) ∙ drop-length text;
      shorter = some;
    })

pub first_ended : (text line rest front : List ℕ) → cut_at 10 text ≡ Some (line, rest) → front ≡ without_return line → IsFirstLine text front rest
first_ended text line rest front e trimmed =
    let parts : CutParts 10 text (Some (line, rest)) = subst (CutParts 10 text) e (cut_parts 10 text) in
    let start = begins line in
    let ahead : text ≡ without_return line ++ (start.behind ++ 10 ∷ rest) =
    parts.0 ∙ ap (λ l. l ++ 10 ∷ rest) start.is ∙ append_assoc (without_return line) start.behind (10 ∷ rest) in
    let whole : text ≡ (line ++ 10 ∷ []) ++ rest = parts.0 ∙ sym (append_assoc line (10 ∷ []) rest) in
    let long = ap length whole ∙ length-append (line ++ 10 ∷ []) rest in
    let one = length-append line (10 ∷ []) in
    let before : length text - length rest ≡ length (line ++ 10 ∷ []) = omega (arith, long) in
    subst (λ l. IsFirstLine text l rest) (sym trimmed) (record {
      lines = ap lines_of parts.0 ∙ lines_ended line rest parts.1;
      front = ap (take (length (without_return line))) ahead ∙ take-append_seam (without_return line) (start.behind ++ 10 ∷ rest);
      back = ap (λ n. drop n text) before ∙ ap (drop (length (line ++ 10 ∷ []))) whole ∙ drop-append_seam (line ++ 10 ∷ []) rest;
      shorter = omega (arith, long, one);
    })
