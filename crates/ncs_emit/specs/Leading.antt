-- Labelled code whose instructions all lead to instructions. Each condition holds of two parts
-- together where it holds of each.
use Rattle.std.specs.Prelude.{ℕ, ◌<◌, ◌≤◌, List, [], ◌∷◌, Bool, true, false, IsTrue}
use Rattle.std.specs.List.{AllByRecursion}
use Rattle.ncs_code.specs.Plain.{Jmp, Jsr, Jz, Jnz, StoreState}
use Rattle.ncs_code.specs.Spelling.{IsOp}
use Rattle.ncs_emit.specs.Labelled.{Line, Instruction, JumpTo, Label, placements}

-- An instruction has a spelling, and a label was made, where so many were.
abbrev pub LineFits : ℕ → Line → Type 0
LineFits labels (Instruction op) = IsOp op
LineFits labels (JumpTo kind label) = label < labels
LineFits labels (Label label) = label < labels

-- No label is placed twice.
abbrev pub IsPlacedOnce : List Line → Type 0
IsPlacedOnce lines = (label : ℕ) → placements lines label ≤ 1

-- Jumps go by labels, and those are placed somewhere in the whole code.
abbrev pub IsLed : List Line → Line → Type 0
IsLed whole (Instruction (Jmp offset)) = ⊥
IsLed whole (Instruction (Jsr offset)) = ⊥
IsLed whole (Instruction (Jz offset)) = ⊥
IsLed whole (Instruction (Jnz offset)) = ⊥
IsLed whole (Instruction _) = Unit {0}
IsLed whole (JumpTo kind label) = 1 ≤ placements whole label
IsLed whole (Label label) = Unit {0}

abbrev pub is_state : Line → Bool
is_state (Instruction (StoreState globals locals)) = true
is_state _ = false

abbrev pub begins_with_jump : List Line → Bool
begins_with_jump (JumpTo kind label ∷ lines) = true
begins_with_jump _ = false

-- Each STORE_STATE is directly followed by a jump.
abbrev pub HasLedStates : List Line → Type 0
HasLedStates [] = Unit {0}
HasLedStates (line ∷ lines) = (IsTrue (is_state line) → IsTrue (begins_with_jump lines))
    × HasLedStates lines

-- a part of the whole code
pub record LeadsOn (whole lines : List Line) : Type 0 where
  pub jumps : AllByRecursion (IsLed whole) lines
  pub states : HasLedStates lines

abbrev pub is_instruction : Line → Bool
is_instruction (Instruction op) = true
is_instruction _ = false

-- There is no line, or the last one is an instruction.
abbrev pub Closes : List Line → Type 0
Closes [] = Unit {0}
Closes (line ∷ []) = IsTrue (is_instruction line)
Closes (line ∷ next ∷ lines) = Closes (next ∷ lines)
