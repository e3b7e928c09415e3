-- What single steps of the assembler answer.
use Rattle.std.specs.Prelude.{◌≡◌, ℕ, ◌+◌, ◌<◌, ◌≤◌, List, [], ◌∷◌, ◌++◌, length, Bool, true, false, Option, Some, None}
use Rattle.nwq_value.specs.Limits.{file_limit}
use Rattle.ncs_code.specs.Plain.{PlainOp}
use Rattle.ncs_code.specs.Spelling.{spelling, op_size, IsOp}
use Rattle.ncs_code.specs.File.{IsCode, header_size, spellings, ops_size, file_length}
use Rattle.nwq_text.specs.Lines.{lines_of}
use Rattle.ncs_text.specs.Arguments.{arguments, AreArguments}
use Rattle.ncs_text.specs.Assembly.{Writes, Assembles, IsRemark}

-- The bytes were appended, where there are some.
abbrev pub Puts : Option (List ℕ) → List ℕ → Bool → List ℕ → Type 0
Puts (Some bytes) before took now = (took ≡ true) × (now ≡ before ++ bytes)
Puts None before took now = took ≡ false

-- Bytes of which this holds were appended, or it holds of none.
abbrev pub Appends : (List ℕ → Type 0) → List ℕ → Bool → List ℕ → Type 0
Appends Holds before true now = (bytes : List ℕ) × (now ≡ before ++ bytes) × Holds bytes
Appends Holds before false now = (bytes : List ℕ) → Holds bytes → ⊥

-- The instruction of this size is all that the bytes spell, or they spell none.
pub record Spelled (bytes : List ℕ) (size : ℕ) : Type 0 where
  pub op : PlainOp
  pub is_op : IsOp op
  pub is : bytes ≡ spelling op
  pub size_is : size ≡ op_size op

abbrev pub SpelledWhole : List ℕ → Option ℕ → Type 0
SpelledWhole bytes (Some size) = Spelled bytes size
SpelledWhole bytes None = (op : PlainOp) → IsOp op → bytes ≡ spelling op → ⊥

-- an instruction of this row with these arguments
pub record IsRow (at code kind : ℕ) (text : List ℕ) (op : PlainOp) : Type 0 where
  pub is_op : IsOp op
  pub bytes : List ℕ
  pub spelled : spelling op ≡ code ∷ kind ∷ bytes
  pub fields : AreArguments at (arguments code kind) text bytes

-- The spelling of such an instruction was appended, or there is none.
pub record PutsOp (Holds : PlainOp → Type 0) (before now : List ℕ) (size : ℕ) : Type 0 where
  pub op : PlainOp
  pub holds : Holds op
  pub appended : now ≡ before ++ spelling op
  pub size_is : size ≡ op_size op

abbrev pub PutsSome : (PlainOp → Type 0) → List ℕ → List ℕ → Option ℕ → Type 0
PutsSome Holds before now (Some size) = PutsOp Holds before now size
PutsSome Holds before now None = (op : PlainOp) → Holds op → ⊥

-- The line stands for nothing, or for an instruction whose spelling was appended.
pub record PutsLine (at : ℕ) (line before now : List ℕ) (size : ℕ) : Type 0 where
  pub ops : List PlainOp
  pub more : (lines : List (List ℕ)) (others : List PlainOp) → Assembles (at + size) lines others
      → Assembles at (line ∷ lines) (ops ++ others)
  pub appended : now ≡ before ++ spellings ops
  pub size_is : size ≡ ops_size ops
  pub last : 0 < size → (op : PlainOp) × (ops ≡ op ∷ []) × Writes at line op

abbrev pub PutsOrStops : ℕ → List ℕ → List ℕ → List ℕ → Option ℕ → Type 0
PutsOrStops at line before now (Some size) = PutsLine at line before now size
PutsOrStops at line before now None = (IsRemark line → ⊥) × ((op : PlainOp) → Writes at line op → ⊥)

-- the instruction of the last line that was read passes this place, and those before it do not
pub record Passes (stop : ℕ) (lines : List (List ℕ)) (ops : List PlainOp) : Type 0 where
  pub before : List (List ℕ)
  pub line : List ℕ
  pub first : List PlainOp
  pub op : PlainOp
  pub lines_are : lines ≡ before ++ line ∷ []
  pub ops_are : ops ≡ first ++ op ∷ []
  pub begins : Assembles header_size before first
  pub writes : Writes (file_length first) line op
  pub within : file_length first ≤ stop

-- So many lines were read: all, or those up to the one that passes this place. The spellings are
-- kept where the file may be so large.
pub record IsPassed (text : List ℕ) (stop : ℕ) (body : List ℕ) (size number : ℕ) : Type 0 where
  pub met : List (List ℕ)
  pub left : List (List ℕ)
  pub ops : List PlainOp
  pub lines : lines_of text ≡ met ++ left
  pub reads : Assembles header_size met ops
  pub counted : number ≡ length met
  pub size_is : size ≡ file_length ops
  pub kept : size ≤ file_limit → body ≡ spellings ops
  pub all : size ≤ stop → left ≡ []
  pub passes : header_size ≤ stop → stop < size → Passes stop met ops

-- all lines were read, and the file is no larger than a file may be
pub record IsWhole (text body : List ℕ) (size : ℕ) : Type 0 where
  pub ops : List PlainOp
  pub lines : Assembles header_size (lines_of text) ops
  pub size_is : size ≡ file_length ops
  pub kept : body ≡ spellings ops
  pub bounded : size ≤ file_limit

-- the spellings of the text's instructions, which are a file of this size
pub record HasCode (text body : List ℕ) (size : ℕ) : Type 0 where
  pub ops : List PlainOp
  pub lines : Assembles header_size (lines_of text) ops
  pub code : IsCode ops
  pub kept : body ≡ spellings ops
  pub size_is : size ≡ file_length ops
