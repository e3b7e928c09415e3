-- The file of code that leads on and closes is one that loads.
use Rattle.std.proofs.Common.{rules, ◌≡◌, ◌≤◌, ◌+◌, ◌++◌, ◌∷◌, [], ℕ, List, sym, ◌∙◌, ap, arith, refl, true, false, Bool, eqb, cond}
use Rattle.std.specs.Prelude.{is_some, FitsSigned, IsTrue}
use Rattle.std.specs.Int.{w32}
use Rattle.std.specs.List.{AllByRecursion}
use Rattle.nwq_value.specs.Limits.{file_limit}
use Rattle.ncs_code.specs.Plain.{PlainOp, Jmp, Jsr, Jz, Jnz, StoreState}
use Rattle.ncs_code.specs.Spelling.{op_size, IsOp}
use Rattle.ncs_code.specs.File.{ops_size, file_length, begins, jump_place, distance, leads_well, IsCode}
use Rattle.ncs_code.specs.Laws.{StoodBegins, BegunStands, SizesAdd, DistanceLeads}
use Rattle.ncs_emit.specs.declared.jump.Jump.{Jump}
use Rattle.ncs_emit.specs.declared.jump.Jump.TheVariants as jumps
use Rattle.ncs_emit.specs.Labelled.{Line, Instruction, JumpTo, Label, placements, jump_over, lines_size, ops_from, place_from, place_of_label, program}
use Rattle.ncs_emit.specs.Leading.{LineFits, IsLed, is_state, begins_with_jump, HasLedStates, LeadsOn, Closes}
use Rattle.ncs_emit.proofs.Placing.{cond_below, has_row_jump}
use Rattle.ncs_emit.proofs.Putting.{size_jump}
use Rattle.ncs_emit.proofs.Standing.{program_size, IsLeft, left_op, left_jump, left_label, op_here, jump_here, all_left}

-- ---- two parts

all_append : (P : Line → Type 0) (before behind : List Line) → AllByRecursion P before → AllByRecursion P behind → AllByRecursion P (before ++ behind)
all_append P [] behind f g = g
all_append P (line ∷ before) behind f g = (f.0, all_append P before behind f.1 g)

jump_first : (before behind : List Line) → begins_with_jump before ≡ true → begins_with_jump (before ++ behind) ≡ true
jump_first [] behind h = absurd cc
jump_first (Instruction op ∷ before) behind h = absurd cc
jump_first (JumpTo kind label ∷ before) behind h = refl
jump_first (Label label ∷ before) behind h = absurd cc

states_append : (before behind : List Line) → HasLedStates before → HasLedStates behind → HasLedStates (before ++ behind)
states_append [] behind f g = g
states_append (line ∷ before) behind f g = (λ state. jump_first before behind (f.0 state), states_append before behind f.1 g)

pub both_lead_on : (whole before behind : List Line) → LeadsOn whole before → LeadsOn whole behind → LeadsOn whole (before ++ behind)
both_lead_on whole before behind f g = record { jumps = all_append (IsLed whole) before behind f.jumps g.jumps; states = states_append before behind f.states g.states }

pub both_close : (before behind : List Line) → Closes before → Closes behind → Closes (before ++ behind)
both_close [] behind f g = g
both_close (line ∷ []) [] f g = f
both_close (line ∷ []) (next ∷ behind) f g = g
both_close (line ∷ next ∷ before) behind f g = both_close (next ∷ before) behind f g

pub instruction_closes : (lines : List Line) (op : PlainOp) → Closes (lines ++ Instruction op ∷ [])
instruction_closes [] op = refl
instruction_closes (line ∷ []) op = refl
instruction_closes (line ∷ next ∷ lines) op = instruction_closes (next ∷ lines) op

-- what closes ends closed
closed_end : (line : Line) (lines : List Line) → Closes (line ∷ lines) → Closes lines
closed_end line [] closes = tt
closed_end line (next ∷ lines) closes = closes

-- ---- distances

near : (p at : ℕ) → p ≤ file_limit → at ≤ file_limit → FitsSigned w32 (distance at p)
near p at f g = search (rules, arith)

jump_is_op : (kind : Jump) (p at : ℕ) → p ≤ file_limit → at ≤ file_limit → IsOp (jump_over kind (distance at p))
jump_is_op jumps.Jmp p at f g = record { row = has_row_jump jumps.Jmp _; fits = near p at f g }
jump_is_op jumps.Jsr p at f g = record { row = has_row_jump jumps.Jsr _; fits = near p at f g }
jump_is_op jumps.Jz p at f g = record { row = has_row_jump jumps.Jz _; fits = near p at f g }
jump_is_op jumps.Jnz p at f g = record { row = has_row_jump jumps.Jnz _; fits = near p at f g }

jump_leads : (kind : Jump) (ops : List PlainOp) (at : ℕ) (p : ℕ) → jump_place at (distance at p) ≡ p → begins ops p ≡ true → leads_well ops at (jump_over kind (distance at p)) ≡ true
jump_leads jumps.Jmp ops at p leads well = ap (begins ops) leads ∙ well
jump_leads jumps.Jsr ops at p leads well = ap (begins ops) leads ∙ well
jump_leads jumps.Jz ops at p leads well = ap (begins ops) leads ∙ well
jump_leads jumps.Jnz ops at p leads well = ap (begins ops) leads ∙ well

-- ---- each has a spelling

place_below : (at label : ℕ) (lines : List Line) → place_from at lines label ≤ at + lines_size lines
place_below at label [] = omega arith
place_below at label (Instruction op ∷ lines) = omega (arith, place_below (at + op_size op) label lines)
place_below at label (JumpTo kind other ∷ lines) = omega (arith, place_below (at + 6) label lines)
place_below at label (Label other ∷ lines) = cond_below (eqb other label) at (place_from at lines label) _ (omega arith) (omega (arith, place_below at label lines))

each_op : (labels : ℕ) (places : ℕ → ℕ) → ((label : ℕ) → places label ≤ file_limit) → (at : ℕ) (lines : List Line) → AllByRecursion (LineFits labels) lines
    → at + lines_size lines ≤ file_limit → AllByRecursion IsOp (ops_from places at lines)
each_op labels places small at [] fits near = tt
each_op labels places small at (Instruction op ∷ lines) fits near = (fits.0, each_op labels places small (at + op_size op) lines fits.1 (omega (arith, near)))
each_op labels places small at (JumpTo kind label ∷ lines) fits near =
    (jump_is_op kind (places label) at (small label) (omega (arith, near)), each_op labels places small (at + 6) lines fits.1 (omega (arith, near)))
each_op labels places small at (Label label ∷ lines) fits near = each_op labels places small at lines fits.1 (omega (arith, near))

each_program : (labels : ℕ) (lines : List Line) → ((label : ℕ) → place_of_label lines label ≤ file_limit)
    → AllByRecursion (LineFits labels) lines → 13 + lines_size lines ≤ file_limit → AllByRecursion IsOp (program lines)
unfolding program
each_program labels lines small fits near = each_op labels (place_of_label lines) small 13 lines fits near

as_ops : (lines : List Line) → ops_from (place_of_label lines) 13 lines ≡ program lines
unfolding program
as_ops lines = refl

-- ---- lists

heads : (x y : PlainOp) (xs ys : List PlainOp) → x ∷ xs ≡ y ∷ ys → (x ≡ y) × (xs ≡ ys)
heads x y xs ys same = (cc, cc)

not_empty : (before behind : List PlainOp) (o : PlainOp) → [] ≡ before ++ o ∷ behind → ⊥
not_empty [] behind o is = absurd cc
not_empty (x ∷ before) behind o is = absurd cc

-- ---- what begins where

module _ (stood : StoodBegins) (add : SizesAdd) (leads : DistanceLeads) (places : ℕ → ℕ) (ops : List PlainOp) where
  -- in code that closes some instruction begins at each line
  begins_here : (met : List PlainOp) (at : ℕ) (line : Line) (lines : List Line) → IsLeft ops places met at (line ∷ lines) → Closes (line ∷ lines) → begins ops at ≡ true
  begins_here met at (Instruction op) lines left closes = ap is_some (op_here stood ops places met at op lines left)
  begins_here met at (JumpTo kind label) lines left closes = ap is_some (jump_here stood ops places met at kind label lines left)
  begins_here met at (Label label) [] left closes = absurd cc
  begins_here met at (Label label) (next ∷ lines) left closes = begins_here met at next lines (left_label ops places met at label (next ∷ lines) left) closes

  -- so behind a jump
  behind_jump : (met : List PlainOp) (at : ℕ) (kind : Jump) (label : ℕ) (lines : List Line)
      → IsLeft ops places met at (JumpTo kind label ∷ lines) → Closes (JumpTo kind label ∷ lines)
      → begins ops (at + 6) ≡ true
  behind_jump met at kind label [] left closes = absurd cc
  behind_jump met at kind label (next ∷ lines) left closes =
      begins_here (met ++ jump_over kind (distance at (places label)) ∷ []) (at + 6) next lines (left_jump add ops places met at kind label (next ∷ lines) left) closes

  behind_state : (met : List PlainOp) (at : ℕ) (lines : List Line) → IsLeft ops places met at lines → Closes lines → begins_with_jump lines ≡ true → begins ops (at + 6) ≡ true
  behind_state met at [] left closes follows = absurd cc
  behind_state met at (Instruction op ∷ lines) left closes follows = absurd cc
  behind_state met at (JumpTo kind label ∷ lines) left closes follows = behind_jump met at kind label lines left closes
  behind_state met at (Label label ∷ lines) left closes follows = absurd cc

  state_leads : (met : List PlainOp) (at globals locals : ℕ) (lines : List Line) → IsLeft ops places met at (Instruction (StoreState globals locals) ∷ lines)
      → Closes (Instruction (StoreState globals locals) ∷ lines) → begins_with_jump lines ≡ true → begins ops (at + 16) ≡ true
  state_leads met at globals locals lines left closes follows =
      let place : at + 10 + 6 ≡ at + 16 = omega arith in
      ap (begins ops) (sym place)
      ∙ behind_state (met ++ StoreState globals locals ∷ []) (at + 10) lines
      (left_op add ops places met at (StoreState globals locals) lines left)
      (closed_end (Instruction (StoreState globals locals)) lines closes) follows

  op_leads : (whole : List Line) (met : List PlainOp) (at : ℕ) (op : PlainOp) (lines : List Line)
      → IsLeft ops places met at (Instruction op ∷ lines) → Closes (Instruction op ∷ lines)
      → IsLed whole (Instruction op)
      → (IsTrue (is_state (Instruction op)) → IsTrue (begins_with_jump lines)) → leads_well ops at op ≡ true
  op_leads whole met at (Jmp offset) lines left closes led state = absurd led
  op_leads whole met at (Jsr offset) lines left closes led state = absurd led
  op_leads whole met at (Jz offset) lines left closes led state = absurd led
  op_leads whole met at (Jnz offset) lines left closes led state = absurd led
  op_leads whole met at (StoreState globals locals) lines left closes led state = state_leads met at globals locals lines left closes (state refl)
  op_leads whole met at _ lines left closes led state = refl

  label_case : (at label : ℕ) (lines : List Line) (test : Bool) → (test ≡ true → begins ops at ≡ true) → (1 ≤ placements lines label → begins ops (place_from at lines label) ≡ true)
      → 1 ≤ cond test 1 0 + placements lines label → begins ops (cond test at (place_from at lines label)) ≡ true
  label_case at label lines true here rest some = here refl
  label_case at label lines false here rest some = rest (omega (arith, some))

  -- where a label is placed an instruction begins
  label_begins : (met : List PlainOp) (at label : ℕ) (lines : List Line) → IsLeft ops places met at lines → Closes lines → 1 ≤ placements lines label → begins ops (place_from at lines label) ≡ true
  label_begins met at label [] left closes some = absurd (omega (arith, some))
  label_begins met at label (Instruction op ∷ lines) left closes some =
      label_begins (met ++ op ∷ []) (at + op_size op) label lines (left_op add ops places met at op lines left) (closed_end (Instruction op) lines closes) some
  label_begins met at label (JumpTo kind other ∷ lines) left closes some =
      label_begins (met ++ jump_over kind (distance at (places other)) ∷ []) (at + 6) label lines
      (left_jump add ops places met at kind other lines left) (closed_end (JumpTo kind other) lines closes) some
  label_begins met at label (Label other ∷ lines) left closes some =
      label_case at label lines (eqb other label) (λ same. begins_here met at (Label other) lines left closes)
      (λ rest. label_begins met at label lines (left_label ops places met at other lines left) (closed_end (Label other) lines closes) rest) some

  -- ---- each instruction leads well

  -- the first of those that are left, or one behind it
  first_or : (at : ℕ) (x o : PlainOp) (rest before behind : List PlainOp) → x ∷ rest ≡ before ++ o ∷ behind → leads_well ops at x ≡ true
      → ((b : List PlainOp) → rest ≡ b ++ o ∷ behind → leads_well ops (at + op_size x + ops_size b) o ≡ true) → leads_well ops (at + ops_size before) o ≡ true
  first_or at x o rest [] behind is well others =
      let place : at ≡ at + 0 = omega arith in
      ap (λ n. leads_well ops n o) (sym place) ∙ ap (leads_well ops at) (sym (heads x o rest behind is).0) ∙ well
  first_or at x o rest (y ∷ before) behind is well others =
      let same = heads x y rest (before ++ o ∷ behind) is in
      let place : at + op_size x + ops_size before ≡ at + (op_size y + ops_size before) = omega (arith, ap op_size same.0) in
      ap (λ n. leads_well ops n o) (sym place) ∙ others before same.1

  all_lead : (whole : List Line) → ((label : ℕ) → 1 ≤ placements whole label → begins ops (places label) ≡ true) → (met : List PlainOp) (at : ℕ) (lines : List Line) → IsLeft ops places met at lines
      → Closes lines → AllByRecursion (IsLed whole) lines → HasLedStates lines → (before behind : List PlainOp) (o : PlainOp) → ops_from places at lines ≡ before ++ o ∷ behind
      → leads_well ops (at + ops_size before) o ≡ true
  all_lead whole placed met at [] left closes jumps states before behind o is = absurd (not_empty before behind o is)
  all_lead whole placed met at (Instruction op ∷ lines) left closes jumps states before behind o is =
      first_or at op o (ops_from places (at + op_size op) lines) before behind is
      (op_leads whole met at op lines left closes jumps.0 states.0)
      (λ b same. all_lead whole placed (met ++ op ∷ []) (at + op_size op) lines
      (left_op add ops places met at op lines left)
      (closed_end (Instruction op) lines closes) jumps.1 states.1 b behind o same)
  all_lead whole placed met at (JumpTo kind label ∷ lines) left closes jumps states before behind o is =
      let op : PlainOp = jump_over kind (distance at (places label)) in
      let six : op_size op ≡ 6 = size_jump kind (distance at (places label)) in
      first_or at op o (ops_from places (at + 6) lines) before behind is
      (jump_leads kind ops at (places label) (leads at (places label)) (placed label jumps.0))
      (λ b same. ap (λ n. leads_well ops (at + n + ops_size b) o) six
      ∙ all_lead whole placed (met ++ op ∷ []) (at + 6) lines (left_jump add ops places met at kind label lines left) (closed_end (JumpTo kind label) lines closes) jumps.1 states.1 b behind o same)
  all_lead whole placed met at (Label label ∷ lines) left closes jumps states before behind o is =
      all_lead whole placed met at lines (left_label ops places met at label lines left) (closed_end (Label label) lines closes) jumps.1 states.1 before behind o is

pub finished : StoodBegins → BegunStands → SizesAdd → DistanceLeads → (labels : ℕ) (lines : List Line) → AllByRecursion (LineFits labels) lines → LeadsOn lines lines → Closes lines
    → file_length (program lines) ≤ file_limit → IsCode (program lines)
finished stood begun add leads labels lines fits on closes small =
    let sized : 13 + lines_size lines ≤ file_limit = omega (arith, program_size lines, small) in
    let below : (label : ℕ) → place_of_label lines label ≤ file_limit = λ label. omega (arith, place_below 13 label lines, sized) in
    let placed : (label : ℕ) → 1 ≤ placements lines label → begins (program lines) (place_of_label lines label) ≡ true =
    λ label some. label_begins stood add leads (place_of_label lines) (program lines) [] 13 label lines (all_left lines) closes some in
    record {
      each = each_program labels lines below fits sized;
      leads = λ at op is.
          let stands = begun (program lines) at op is in
          ap (λ n. leads_well (program lines) n op) stands.place
          ∙ all_lead stood add leads (place_of_label lines) (program lines) lines placed [] 13 lines
          (all_left lines) closes on.jumps on.states stands.before stands.behind op (as_ops lines ∙ stands.both);
      bounded = small;
    }
