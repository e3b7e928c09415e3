-- The file of an assembler text, or why it has none.
use Rattle.std.specs.Prelude.{◌≡◌, ℕ, ◌+◌, ◌/◌, ◌%◌, ◌<◌, ◌≤◌, List, [], ◌∷◌, ◌++◌, ◌⊎◌, length, true, false, Some, Result, Ok, Err}
use Rattle.nwq_value.specs.Limits.{file_limit}
use Rattle.nwq_text.specs.Escape.{hex_digit}
use Rattle.nwq_text.specs.Lines.{lines_of}
use Rattle.ncs_code.specs.Plain.{PlainOp}
use Rattle.ncs_code.specs.Spelling.{spelling, op_size, opcode, type_byte, IsOp}
use Rattle.ncs_code.specs.Names.{name_of}
use Rattle.ncs_code.specs.File.{IsCode, header_size, file_length, file_bytes, op_at, leads_well}
use Rattle.ncs_text.specs.declared.fault.AsmFault.{AsmFault}
use Rattle.ncs_text.specs.declared.fault.AsmFault.TheVariants.{Line, Large, Target, NoMemory}
use Rattle.ncs_text.specs.Arguments.{arguments, AreArguments}

-- a byte as two hexadecimal digits in lower case
abbrev pub hex_pair : ℕ → List ℕ
hex_pair b = hex_digit (b / 16) ∷ hex_digit (b % 16) ∷ []

-- what a line begins with: the name, a space and the type byte
abbrev pub heading : PlainOp → List ℕ
heading op = name_of op ++ 32 ∷ hex_pair (type_byte op)

-- The line stands for the instruction, where that stands at this place: the name, the type byte and
-- the arguments, whose bytes are those of the spelling.
pub record Writes (at : ℕ) (line : List ℕ) (op : PlainOp) : Type 0 where
  pub is_op : IsOp op
  pub text : List ℕ
  pub bytes : List ℕ
  pub written : line ≡ heading op ++ text
  pub spelled : spelling op ≡ opcode op ∷ type_byte op ∷ bytes
  pub fields : AreArguments at (arguments (opcode op) (type_byte op)) text bytes

-- a line that stands for nothing: it is empty, or begins with a semicolon
abbrev pub IsRemark : List ℕ → Type 0
IsRemark line = (line ≡ []) ⊎ ((text : List ℕ) × (line ≡ 59 ∷ text))

-- The lines stand for these instructions in a row, the first at this place.
pub data Assembles : ℕ → List (List ℕ) → List PlainOp → Type 0 where
  none : (at : ℕ) → Assembles at [] []
  remark : (at : ℕ) (line : List ℕ) (lines : List (List ℕ)) (ops : List PlainOp) → IsRemark line
      → Assembles at lines ops → Assembles at (line ∷ lines) ops
  instruction : (at : ℕ) (line : List ℕ) (op : PlainOp) (lines : List (List ℕ)) (ops : List PlainOp)
      → Writes at line op
      → Assembles (at + op_size op) lines ops → Assembles at (line ∷ lines) (op ∷ ops)

-- the file of the instructions that all lines stand for
pub record IsAssembled (text file : List ℕ) : Type 0 where
  pub ops : List PlainOp
  pub lines : Assembles header_size (lines_of text) ops
  pub code : IsCode ops
  pub is : file ≡ file_bytes ops

-- ---- why there is none

-- The n-th line is no line of an assembler text, and each before it is one: it is no remark, and
-- stands for no instruction at its place.
pub record AssemblyStopsAt (n : ℕ) (text : List ℕ) : Type 0 where
  pub before : List (List ℕ)
  pub line : List ℕ
  pub behind : List (List ℕ)
  pub ops : List PlainOp
  pub lines : lines_of text ≡ before ++ line ∷ behind
  pub number : n ≡ length before + 1
  pub first : Assembles header_size before ops
  pub speaks : IsRemark line → ⊥
  pub none : (op : PlainOp) → Writes (file_length ops) line op → ⊥

-- The file would have so many bytes, more than a file may have.
pub record IsLarge (size : ℕ) (text : List ℕ) : Type 0 where
  pub ops : List PlainOp
  pub lines : Assembles header_size (lines_of text) ops
  pub is : size ≡ file_length ops
  pub large : file_limit < size

-- An instruction leads to no beginning of one, and each that begins before it leads well.
pub record IsFirstAstray (ops : List PlainOp) (place : ℕ) (op : PlainOp) : Type 0 where
  pub bad : leads_well ops place op ≡ false
  pub before : (at : ℕ) (other : PlainOp) → at < place → op_at ops at ≡ Some other
      → leads_well ops at other ≡ true

-- The instruction of the n-th line is the first that leads to no beginning of one.
pub record LeadsAstray (n : ℕ) (text : List ℕ) : Type 0 where
  pub before : List (List ℕ)
  pub line : List ℕ
  pub behind : List (List ℕ)
  pub first : List PlainOp
  pub op : PlainOp
  pub others : List PlainOp
  pub lines : lines_of text ≡ before ++ line ∷ behind
  pub number : n ≡ length before + 1
  pub begins : Assembles header_size before first
  pub writes : Writes (file_length first) line op
  pub ends : Assembles (file_length first + op_size op) behind others
  pub bounded : file_length (first ++ op ∷ others) ≤ file_limit
  pub astray : IsFirstAstray (first ++ op ∷ others) (file_length first) op

-- No two of these hold of the same text, but for the want of memory, which may come at any time.
abbrev pub AssemblyFails : AsmFault → List ℕ → Type 0
AssemblyFails (Line n) text = AssemblyStopsAt n text
AssemblyFails (Large size) text = IsLarge size text
AssemblyFails (Target n) text = LeadsAstray n text
AssemblyFails NoMemory text = Unit {0}

-- the answer to a text
abbrev pub Answers : List ℕ → Result (List ℕ) AsmFault → Type 0
Answers text (Ok file) = IsAssembled text file
Answers text (Err fault) = AssemblyFails fault text
