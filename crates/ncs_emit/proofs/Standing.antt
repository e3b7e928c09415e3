-- Each line of a program stands at its place, and parts of lines put together.
use Rattle.std.proofs.Common.{◌≡◌, ◌+◌, ◌++◌, ◌∷◌, [], ℕ, List, sym, ◌∙◌, ap, arith, refl, subst, true, false, Bool, eqb, cond, Some, append_assoc}
use Rattle.std.specs.Prelude.{map}
use Rattle.ncs_code.specs.Plain.{PlainOp}
use Rattle.ncs_code.specs.Spelling.{op_size}
use Rattle.ncs_code.specs.File.{header_size, ops_size, op_at, file_length, distance}
use Rattle.ncs_code.specs.Laws.{StoodBegins, SizesAdd, DistanceLeads}
use Rattle.ncs_emit.specs.declared.jump.Jump.{Jump}
use Rattle.ncs_emit.specs.Labelled.{Line, Instruction, JumpTo, Label, placements, jump_over, line_size, lines_size, ops_from, place_from, place_of_label, program}
use Rattle.ncs_emit.specs.Leading.{IsPlacedOnce}
use Rattle.ncs_emit.specs.Standing.{LinesStand}
use Rattle.ncs_emit.specs.Telling.{line_of}
use Rattle.ncs_emit.specs.declared.told.Note.{Note}
use Rattle.ncs_emit.proofs.Lines.{placements_add}
use Rattle.ncs_emit.proofs.Putting.{size_jump}

-- ---- sizes

pub lines_size_adds : (before behind : List Line) → lines_size (before ++ behind) ≡ lines_size before + lines_size behind
lines_size_adds [] behind = omega arith
lines_size_adds (line ∷ before) behind = omega (arith, lines_size_adds before behind)

-- a note more adds its line
pub told_size_adds : (told : List Note) (note : Note) → lines_size (map line_of (told ++ note ∷ [])) ≡ lines_size (map line_of told) + line_size (line_of note)
told_size_adds [] note = omega arith
told_size_adds (one ∷ told) note = omega (arith, told_size_adds told note)

pub ops_as_lines : (places : ℕ → ℕ) (at : ℕ) (lines : List Line) → ops_size (ops_from places at lines) ≡ lines_size lines
ops_as_lines places at [] = refl
ops_as_lines places at (Instruction op ∷ lines) = omega (arith, ops_as_lines places (at + op_size op) lines)
ops_as_lines places at (JumpTo kind label ∷ lines) = omega (arith, size_jump kind (distance at (places label)), ops_as_lines places (at + 6) lines)
ops_as_lines places at (Label label ∷ lines) = omega (arith, ops_as_lines places at lines)

pub program_size : (lines : List Line) → ops_size (program lines) ≡ lines_size lines
unfolding program
program_size lines = ops_as_lines (place_of_label lines) 13 lines

pub file_size : (lines : List Line) → header_size + lines_size lines ≡ file_length (program lines)
file_size lines = ap (λ n. header_size + n) (sym (program_size lines))

-- ---- standing in two parts

pub both_stand : (ops : List PlainOp) (places : ℕ → ℕ) (at : ℕ) (before behind : List Line) → LinesStand ops places at (before ++ behind)
    → LinesStand ops places at before × LinesStand ops places (at + lines_size before) behind
both_stand ops places at [] behind stand = (tt, subst (λ n. LinesStand ops places n behind) (omega arith) stand)
both_stand ops places at (line ∷ before) behind stand =
    let rest = both_stand ops places (at + line_size line) before behind stand.1 in
    ((stand.0, rest.0), subst (λ n. LinesStand ops places n behind) (omega arith) rest.1)

-- ---- the places of labels

skip_label : (test : Bool) (count at place other : ℕ) → cond test 1 0 + count ≡ 0 → (count ≡ 0 → place ≡ other) → cond test at place ≡ other
skip_label true count at place other none rest = absurd (omega (arith, none))
skip_label false count at place other none rest = rest (omega (arith, none))

-- what is not placed before stands where it stands behind
place_behind : (at label : ℕ) (before behind : List Line) → placements before label ≡ 0 → place_from at (before ++ behind) label ≡ place_from (at + lines_size before) behind label
place_behind at label [] behind none = ap (λ n. place_from n behind label) (omega arith)
place_behind at label (Instruction op ∷ before) behind none =
    place_behind (at + op_size op) label before behind none ∙ ap (λ n. place_from n behind label) (omega arith)
place_behind at label (JumpTo kind other ∷ before) behind none =
    place_behind (at + 6) label before behind none ∙ ap (λ n. place_from n behind label) (omega arith)
place_behind at label (Label other ∷ before) behind none =
    skip_label (eqb other label) (placements before label) at (place_from at (before ++ behind) label) _ none (λ rest. place_behind at label before behind rest)
    ∙ ap (λ n. place_from n behind label) (omega arith)

test_same : (n : ℕ) → eqb n n ≡ true
test_same n = grind arith

place_here : (at label : ℕ) (lines : List Line) → place_from at (Label label ∷ lines) label ≡ at
place_here at label lines = ap (λ b. cond b at (place_from at lines label)) (test_same label)

count_here : (label : ℕ) (lines : List Line) → placements (Label label ∷ lines) label ≡ 1 + placements lines label
count_here label lines = ap (λ b. cond b 1 0 + placements lines label) (test_same label)

label_stands : (all before lines : List Line) (label at : ℕ) → IsPlacedOnce all → all ≡ before ++ Label label ∷ lines → at ≡ 13 + lines_size before → place_of_label all label ≡ at
label_stands all before lines label at once is place =
    let count = placements_add before (Label label ∷ lines) label in
    let none : placements before label ≡ 0 = omega (arith, once label, ap (λ ls. placements ls label) is, count, count_here label lines) in
    ap (λ ls. place_from 13 ls label) is ∙ place_behind 13 label before (Label label ∷ lines) none ∙ place_here (13 + lines_size before) label lines ∙ sym place

-- ---- a whole program

one_more : {A : Type 0} (xs ys : List A) (x : A) → xs ++ x ∷ ys ≡ (xs ++ x ∷ []) ++ ys
one_more xs ys x = sym (append_assoc xs (x ∷ []) ys)

-- the program is the instructions that were met, and then those of the lines that are left
pub record IsLeft (ops : List PlainOp) (places : ℕ → ℕ) (met : List PlainOp) (at : ℕ) (lines : List Line) : Type 0 where
  pub same : ops ≡ met ++ ops_from places at lines
  pub place : at ≡ file_length met

pub left_op : SizesAdd → (ops : List PlainOp) (places : ℕ → ℕ) (met : List PlainOp) (at : ℕ) (op : PlainOp) (lines : List Line) → IsLeft ops places met at (Instruction op ∷ lines)
    → IsLeft ops places (met ++ op ∷ []) (at + op_size op) lines
left_op add ops places met at op lines left = record {
  same = left.same ∙ one_more met (ops_from places (at + op_size op) lines) op;
  place = omega (arith, left.place, add met (op ∷ []));
}

pub left_jump : SizesAdd → (ops : List PlainOp) (places : ℕ → ℕ) (met : List PlainOp) (at : ℕ) (kind : Jump) (label : ℕ) (lines : List Line) → IsLeft ops places met at (JumpTo kind label ∷ lines)
    → IsLeft ops places (met ++ jump_over kind (distance at (places label)) ∷ []) (at + 6) lines
left_jump add ops places met at kind label lines left = record {
  same = left.same ∙ one_more met (ops_from places (at + 6) lines) (jump_over kind (distance at (places label)));
  place = omega (arith, left.place, add met (jump_over kind (distance at (places label)) ∷ []), size_jump kind (distance at (places label)));
}

pub left_label : (ops : List PlainOp) (places : ℕ → ℕ) (met : List PlainOp) (at label : ℕ) (lines : List Line) → IsLeft ops places met at (Label label ∷ lines) → IsLeft ops places met at lines
left_label ops places met at label lines left = record { same = left.same; place = left.place }

pub op_here : StoodBegins
    → (ops : List PlainOp) (places : ℕ → ℕ) (met : List PlainOp) (at : ℕ) (op : PlainOp) (lines : List Line)
    → IsLeft ops places met at (Instruction op ∷ lines) → op_at ops at ≡ Some op
op_here begins ops places met at op lines left = ap (λ o. op_at o at) left.same ∙ ap (op_at (met ++ op ∷ ops_from places (at + op_size op) lines)) left.place ∙ begins met _ op

pub jump_here : StoodBegins → (ops : List PlainOp) (places : ℕ → ℕ) (met : List PlainOp) (at : ℕ) (kind : Jump) (label : ℕ) (lines : List Line) → IsLeft ops places met at (JumpTo kind label ∷ lines)
    → op_at ops at ≡ Some (jump_over kind (distance at (places label)))
jump_here begins ops places met at kind label lines left =
    let op : PlainOp = jump_over kind (distance at (places label)) in
    ap (λ o. op_at o at) left.same ∙ ap (op_at (met ++ op ∷ ops_from places (at + 6) lines)) left.place ∙ begins met _ op

module _ (begins : StoodBegins) (add : SizesAdd) (leads : DistanceLeads) (all : List Line) (once : IsPlacedOnce all) (ops : List PlainOp) where
  stand_on : (before lines : List Line) (met : List PlainOp) (at : ℕ) → all ≡ before ++ lines
      → at ≡ 13 + lines_size before → IsLeft ops (place_of_label all) met at lines
      → LinesStand ops (place_of_label all) at lines
  stand_on before [] met at is place left = tt
  stand_on before (Instruction op ∷ lines) met at is place left = (
    op_here begins ops (place_of_label all) met at op lines left,
    stand_on (before ++ Instruction op ∷ []) lines (met ++ op ∷ []) (at + op_size op) (is ∙ one_more before lines (Instruction op))
        (omega (arith, place, lines_size_adds before (Instruction op ∷ []))) (left_op add ops (place_of_label all) met at op lines left),
  )
  stand_on before (JumpTo kind label ∷ lines) met at is place left = (
    record { begins = jump_here begins ops (place_of_label all) met at kind label lines left; leads = leads at (place_of_label all label) },
    stand_on (before ++ JumpTo kind label ∷ []) lines (met ++ jump_over kind (distance at (place_of_label all label)) ∷ []) (at + 6) (is ∙ one_more before lines (JumpTo kind label))
        (omega (arith, place, lines_size_adds before (JumpTo kind label ∷ []))) (left_jump add ops (place_of_label all) met at kind label lines left),
  )
  stand_on before (Label label ∷ lines) met at is place left =
      let on = stand_on (before ++ Label label ∷ []) lines met at (is ∙ one_more before lines (Label label))
      (omega (arith, place, lines_size_adds before (Label label ∷ [])))
      (left_label ops (place_of_label all) met at label lines left) in
      (label_stands all before lines label at once is place, subst (λ n. LinesStand ops (place_of_label all) n lines) (omega arith) on)

pub all_left : (lines : List Line) → IsLeft (program lines) (place_of_label lines) [] 13 lines
unfolding program
all_left lines = record { same = refl; place = refl }

pub program_stands : StoodBegins → SizesAdd → DistanceLeads → (lines : List Line) → IsPlacedOnce lines → LinesStand (program lines) (place_of_label lines) 13 lines
program_stands begins add leads lines once = stand_on begins add leads lines once (program lines) [] lines [] 13 refl refl (all_left lines)
