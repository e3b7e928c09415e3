-- Code with labels, and the instructions that it stands for.
use Rattle.std.specs.Prelude.{ℕ, ℤ, ◌+◌, List, [], ◌∷◌, ◌==◌, if◌then◌else◌}
use Rattle.ncs_code.specs.Plain.{PlainOp}
use Rattle.ncs_code.specs.Plain as ops
use Rattle.ncs_code.specs.Spelling.{op_size}
use Rattle.ncs_code.specs.File.{distance, header_size}
use Rattle.ncs_emit.specs.declared.jump.Jump.{Jump}
use Rattle.ncs_emit.specs.declared.jump.Jump.TheVariants.{Jmp, Jsr, Jz, Jnz}

-- a line of labelled code: an instruction, a jump to a label, or a label, which is placed there
pub data Line : Type 0 where
  Instruction : PlainOp → Line
  JumpTo : Jump → ℕ → Line
  Label : ℕ → Line

-- labelled code, and how many labels were made for it: they are the numbers below that
pub record LabelledCode : Type 0 where
  pub lines : List Line
  pub labels : ℕ

-- how many times a label is placed
abbrev pub placements : List Line → ℕ → ℕ
placements [] label = 0
placements (Instruction op ∷ lines) label = placements lines label
placements (JumpTo kind other ∷ lines) label = placements lines label
placements (Label other ∷ lines) label = (if other == label then 1 else 0) + placements lines label

-- the jump over a distance, from its own start
abbrev pub jump_over : Jump → ℤ → PlainOp
jump_over Jmp offset = ops.Jmp offset
jump_over Jsr offset = ops.Jsr offset
jump_over Jz offset = ops.Jz offset
jump_over Jnz offset = ops.Jnz offset

-- how many bytes a line takes: each jump takes six, wherever it leads
abbrev pub line_size : Line → ℕ
line_size (Instruction op) = op_size op
line_size (JumpTo kind label) = 6
line_size (Label label) = 0

abbrev pub lines_size : List Line → ℕ
lines_size [] = 0
lines_size (line ∷ lines) = line_size line + lines_size lines

-- where a label stands, if the first line stands at `at`: behind all lines, if it is not placed
abbrev pub place_from : ℕ → List Line → ℕ → ℕ
place_from at [] label = at
place_from at (Instruction op ∷ lines) label = place_from (at + op_size op) lines label
place_from at (JumpTo kind other ∷ lines) label = place_from (at + 6) lines label
place_from at (Label other ∷ lines) label = if other == label then at else place_from at lines label

-- the place of a label in the file
abbrev pub place_of_label : List Line → ℕ → ℕ
place_of_label lines label = place_from header_size lines label

-- the instructions of the lines, where the labels have these places and the first line stands at
-- `at`
abbrev pub ops_from : (ℕ → ℕ) → ℕ → List Line → List PlainOp
ops_from places at [] = []
ops_from places at (Instruction op ∷ lines) = op ∷ ops_from places (at + op_size op) lines
ops_from places at (JumpTo kind label ∷ lines) = jump_over kind
    (distance at (places label)) ∷ ops_from places (at + 6) lines
ops_from places at (Label label ∷ lines) = ops_from places at lines

-- the instructions of labelled code: each jump has the distance from its own start to its label's
-- place
unfoldable pub program : List Line → List PlainOp
program lines = ops_from (place_of_label lines) header_size lines
