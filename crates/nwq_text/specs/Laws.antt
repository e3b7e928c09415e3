-- What holds of cuts and lines by themselves. Proofs of the crates above cite it.
use Rattle.std.proofs.Common.{◌≡◌, ◌≢◌, ℕ, ◌+◌, ◌≤◌, ◌==◌, Bool, true, false, cond, List, [], ◌∷◌, ◌++◌, length, Option, Some, None, refl, sym, ap, ◌∙◌, arith}
use Rattle.std.specs.List.{slice_split, onto_first}
use Rattle.std.proofs.lemmas.Bool.Decides.{nat_tests}
use Rattle.nwq_text.specs.Cuts.{IsFree, in_front, cut_at, CutParts}
use Rattle.nwq_text.specs.Lines.{without_return, lines_in, lines_of}

other_byte : (at b : ℕ) → b ≢ at → (b == at) ≡ false
other_byte at b h = grind (arith, nat_tests)

same_byte : (at : ℕ) → (at == at) ≡ true
same_byte at = grind (arith, nat_tests)

-- ---- cuts

cut_step : (at b : ℕ) (bs : List ℕ) (t : Bool) → (b == at) ≡ t → (cut : Option (List ℕ × List ℕ))
    → CutParts at bs cut
    → CutParts at (b ∷ bs) (cond t (Some ([], bs)) (in_front b cut))
cut_step at b bs true is cut parts =
    (let same : b ≡ at = grind (arith, nat_tests) in ap (λ x. x ∷ bs) same, tt)
cut_step at b bs false is None parts =
    (let other : b ≢ at = grind (arith, nat_tests) in other, parts)
cut_step at b bs false is (Some p) parts =
    (ap (λ xs. b ∷ xs) parts.0, (let other : b ≢ at = grind (arith, nat_tests) in other, parts.1))

-- bytes are cut at the first such byte
pub cut_parts : (at : ℕ) (bytes : List ℕ) → CutParts at bytes (cut_at at bytes)
unfolding cut_at
cut_parts at [] = tt
cut_parts at (b ∷ bs) = cut_step at b bs (b == at) refl (cut_at at bs) (cut_parts at bs)

-- bytes that begin with a free field are cut behind it
pub cut_free : (at : ℕ) (field rest : List ℕ) → IsFree at field
    → cut_at at (field ++ at ∷ rest) ≡ Some (field, rest)
unfolding cut_at
cut_free at [] rest free = ap (λ t. cond t (Some ([], rest)) (in_front at (cut_at at rest)))
    (same_byte at)
cut_free at (b ∷ bs) rest free =
    ap (λ t. cond t (Some ([], bs ++ at ∷ rest)) (in_front b (cut_at at (bs ++ at ∷ rest))))
    (other_byte at b free.0)
    ∙ ap (in_front b) (cut_free at bs rest free.1)

-- free bytes aren't cut
pub cut_none : (at : ℕ) (bytes : List ℕ) → IsFree at bytes → cut_at at bytes ≡ None
unfolding cut_at
cut_none at [] free = refl
cut_none at (b ∷ bs) free =
    ap (λ t. cond t (Some ([], bs)) (in_front b (cut_at at bs))) (other_byte at b free.0)
    ∙ ap (in_front b) (cut_none at bs free.1)

-- ---- lines

abbrev parts_of : List ℕ → List (List ℕ)
parts_of text = slice_split (λ b. b == 10) text

-- each text has a first part
record HasPart (parts : List (List ℕ)) : Type 0 where
  first : List ℕ
  others : List (List ℕ)
  are : parts ≡ first ∷ others

has_onto : (b : ℕ) (parts : List (List ℕ)) → HasPart (onto_first b parts)
has_onto b [] = record { first = b ∷ []; others = []; are = refl }
has_onto b (part ∷ parts) = record { first = b ∷ part; others = parts; are = refl }

has_by : (b : ℕ) (t : Bool) (parts : List (List ℕ))
    → HasPart (cond t ([] ∷ parts) (onto_first b parts))
has_by b true parts = record { first = []; others = parts; are = refl }
has_by b false parts = has_onto b parts

has_part : (text : List ℕ) → HasPart (parts_of text)
has_part [] = record { first = []; others = []; are = refl }
has_part (b ∷ bs) = has_by b (b == 10) (parts_of bs)

part_last : (line : List ℕ) → IsFree 10 line → parts_of line ≡ line ∷ []
part_last [] free = refl
part_last (b ∷ bs) free =
    ap (λ t. cond t ([] ∷ parts_of bs) (onto_first b (parts_of bs))) (other_byte 10 b free.0)
    ∙ ap (onto_first b) (part_last bs free.1)

part_ended : (line rest : List ℕ) → IsFree 10 line
    → parts_of (line ++ 10 ∷ rest) ≡ line ∷ parts_of rest
part_ended [] rest free = refl
part_ended (b ∷ bs) rest free =
    ap (λ t. cond t ([] ∷ parts_of (bs ++ 10 ∷ rest)) (onto_first b (parts_of (bs ++ 10 ∷ rest))))
    (other_byte 10 b free.0)
    ∙ ap (onto_first b) (part_ended bs rest free.1)

lines_before : (line : List ℕ) (parts : List (List ℕ)) → HasPart parts
    → lines_in (line ∷ parts) ≡ without_return line ∷ lines_in parts
lines_before line parts has =
    ap (λ ps. lines_in (line ∷ ps)) has.are
    ∙ ap (λ ps. without_return line ∷ lines_in ps) (sym has.are)

-- an empty text has no line
pub lines_none : lines_of [] ≡ []
unfolding lines_of
lines_none = refl

-- a line that ends with a newline is the first, without the carriage return before that
pub lines_ended : (line rest : List ℕ) → IsFree 10 line
    → lines_of (line ++ 10 ∷ rest) ≡ without_return line ∷ lines_of rest
unfolding lines_of
lines_ended line rest free = ap lines_in (part_ended line rest free)
    ∙ lines_before line (parts_of rest) (has_part rest)

-- what no newline follows is a line as it is
pub lines_last : (line : List ℕ) → line ≢ [] → IsFree 10 line → lines_of line ≡ line ∷ []
unfolding lines_of
lines_last [] some free = absurd (some refl)
lines_last (b ∷ bs) some free = ap lines_in (part_last (b ∷ bs) free)

few_by : (b : ℕ) (t : Bool) (parts : List (List ℕ)) (n : ℕ) → HasPart parts
    → length (lines_in parts) ≤ n
    → length (lines_in (cond t ([] ∷ parts) (onto_first b parts))) ≤ n + 1
few_by b true parts n has few = let one = ap length (lines_before [] parts has) in omega
    (arith, one)
few_by b false [] n has few = omega arith
few_by b false (part ∷ []) n has few = omega arith
few_by b false (part ∷ next ∷ parts) n has few = omega arith

-- a text has no more lines than bytes
pub lines_few : (text : List ℕ) → length (lines_of text) ≤ length text
unfolding lines_of
lines_few [] = omega arith
lines_few (b ∷ bs) = let few = few_by b (b == 10) (parts_of bs) (length bs) (has_part bs)
    (lines_few bs) in omega (arith, few)
