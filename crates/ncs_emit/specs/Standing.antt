-- Lines that stand in a file.
use Rattle.std.specs.Prelude.{◌≡◌, ℕ, ◌+◌, List, [], ◌∷◌, Some}
use Rattle.ncs_code.specs.Plain.{PlainOp}
use Rattle.ncs_code.specs.File.{op_at, jump_place, distance}
use Rattle.ncs_emit.specs.declared.jump.Jump.{Jump}
use Rattle.ncs_emit.specs.Labelled.{Line, Instruction, JumpTo, Label, jump_over, line_size}

-- A jump begins at this place of the file and leads to that one.
pub record JumpStands (ops : List PlainOp) (at : ℕ) (kind : Jump) (place : ℕ) : Type 0 where
  pub begins : op_at ops at ≡ Some (jump_over kind (distance at place))
  pub leads : jump_place at (distance at place) ≡ place

-- An instruction begins there, a jump to the place of its label does, or a label has that place.
abbrev pub LineStands : List PlainOp → (ℕ → ℕ) → ℕ → Line → Type 0
LineStands ops places at (Instruction op) = op_at ops at ≡ Some op
LineStands ops places at (JumpTo kind label) = JumpStands ops at kind (places label)
LineStands ops places at (Label label) = places label ≡ at

-- The lines stand in the file one after another, the first at this place.
abbrev pub LinesStand : List PlainOp → (ℕ → ℕ) → ℕ → List Line → Type 0
LinesStand ops places at [] = Unit {0}
LinesStand ops places at (line ∷ lines) = LineStands ops places at line
    × LinesStand ops places (at + line_size line) lines
