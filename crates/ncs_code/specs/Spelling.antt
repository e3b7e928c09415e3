-- The one spelling of each instruction: opcode, type byte, big-endian arguments.
use Rattle.std.specs.Prelude.{◌≡◌, ◌≢◌, ℕ, ℤ, ◌+◌, ◌<◌, ◌^◌, List, [], ◌∷◌, ◌++◌, length, Bool, false, not, ◌&&◌, ◌||◌, ◌==◌, nat_lt, nat_le, if◌then◌else◌, IsTrue, Option, Some, None, All, drop, FitsSigned, ◌*◌, slice_index, slice_index_or}
use Rattle.std.specs.Int.{w16, w32, to_be_bytes, cast_unsigned}
use Rattle.ncs_code.specs.declared.fault.CodeFault.{CodeFault}
use Rattle.ncs_code.specs.declared.fault.CodeFault.TheVariants.{Opcode, TypeByte, Short}
use Rattle.ncs_code.specs.Plain.{PlainLit, PlainOp, Int, Float, Text, Object, CpDownSp, RsAdd, CpTopSp, Const, Action, LogAnd, LogOr, IncOr, ExcOr, BoolAnd, Equal, Nequal, Geq, Gt, Lt, Leq, ShLeft, ShRight, UshRight, Add, Sub, Mul, Div, Mod, Neg, Comp, MovSp, Jmp, Jsr, Jz, Retn, Destruct, Not, DecISp, IncISp, Jnz, CpDownBp, CpTopBp, DecIBp, IncIBp, SaveBp, RestoreBp, StoreState, Nop}

-- a number as two and as four bytes, the highest first
unfoldable pub two : ℕ → List ℕ
two n = to_be_bytes w16 n

unfoldable pub four : ℕ → List ℕ
four n = to_be_bytes w32 n

-- a signed number as four bytes, in two's complement
unfoldable pub signed : ℤ → List ℕ
signed n = to_be_bytes w32 (cast_unsigned w32 n)

-- EQUAL and NEQUAL have a size only where they compare two runs of cells
abbrev pub run_size : ℕ → ℕ → List ℕ
run_size kind size = if kind == 0x24 then two size else []

abbrev pub lit_spelling : PlainLit → List ℕ
lit_spelling (Int n) = 0x03 ∷ signed n
lit_spelling (Float bytes) = 0x04 ∷ bytes
lit_spelling (Text bytes) = 0x05 ∷ (two (length bytes) ++ bytes)
lit_spelling (Object n) = 0x06 ∷ four n

abbrev pub spelling : PlainOp → List ℕ
spelling (CpDownSp offset size) = 0x01 ∷ 0x01 ∷ (signed offset ++ two size)
spelling (RsAdd kind) = 0x02 ∷ kind ∷ []
spelling (CpTopSp offset size) = 0x03 ∷ 0x01 ∷ (signed offset ++ two size)
spelling (Const lit) = 0x04 ∷ lit_spelling lit
spelling (Action routine count) = 0x05 ∷ 0x00 ∷ (two routine ++ count ∷ [])
spelling LogAnd = 0x06 ∷ 0x20 ∷ []
spelling LogOr = 0x07 ∷ 0x20 ∷ []
spelling IncOr = 0x08 ∷ 0x20 ∷ []
spelling ExcOr = 0x09 ∷ 0x20 ∷ []
spelling BoolAnd = 0x0A ∷ 0x20 ∷ []
spelling (Equal kind size) = 0x0B ∷ kind ∷ run_size kind size
spelling (Nequal kind size) = 0x0C ∷ kind ∷ run_size kind size
spelling (Geq kind) = 0x0D ∷ kind ∷ []
spelling (Gt kind) = 0x0E ∷ kind ∷ []
spelling (Lt kind) = 0x0F ∷ kind ∷ []
spelling (Leq kind) = 0x10 ∷ kind ∷ []
spelling ShLeft = 0x11 ∷ 0x20 ∷ []
spelling ShRight = 0x12 ∷ 0x20 ∷ []
spelling UshRight = 0x13 ∷ 0x20 ∷ []
spelling (Add kind) = 0x14 ∷ kind ∷ []
spelling (Sub kind) = 0x15 ∷ kind ∷ []
spelling (Mul kind) = 0x16 ∷ kind ∷ []
spelling (Div kind) = 0x17 ∷ kind ∷ []
spelling Mod = 0x18 ∷ 0x20 ∷ []
spelling (Neg kind) = 0x19 ∷ kind ∷ []
spelling Comp = 0x1A ∷ 0x03 ∷ []
spelling (MovSp offset) = 0x1B ∷ 0x00 ∷ signed offset
spelling (Jmp offset) = 0x1D ∷ 0x00 ∷ signed offset
spelling (Jsr offset) = 0x1E ∷ 0x00 ∷ signed offset
spelling (Jz offset) = 0x1F ∷ 0x00 ∷ signed offset
spelling Retn = 0x20 ∷ 0x00 ∷ []
spelling (Destruct total offset size) = 0x21 ∷ 0x01 ∷ (two total ++ two offset ++ two size)
spelling Not = 0x22 ∷ 0x03 ∷ []
spelling (DecISp offset) = 0x23 ∷ 0x03 ∷ signed offset
spelling (IncISp offset) = 0x24 ∷ 0x03 ∷ signed offset
spelling (Jnz offset) = 0x25 ∷ 0x00 ∷ signed offset
spelling (CpDownBp offset size) = 0x26 ∷ 0x01 ∷ (signed offset ++ two size)
spelling (CpTopBp offset size) = 0x27 ∷ 0x01 ∷ (signed offset ++ two size)
spelling (DecIBp offset) = 0x28 ∷ 0x03 ∷ signed offset
spelling (IncIBp offset) = 0x29 ∷ 0x03 ∷ signed offset
spelling SaveBp = 0x2A ∷ 0x00 ∷ []
spelling RestoreBp = 0x2B ∷ 0x00 ∷ []
spelling (StoreState globals locals) = 0x2C ∷ 0x10 ∷ (four globals ++ four locals)
spelling Nop = 0x2D ∷ 0x00 ∷ []

abbrev pub is_between : ℕ → ℕ → ℕ → Bool
is_between low high n = nat_le low n && nat_le n high

-- how many bytes stand for what CONST pushes, behind its type byte: four for a float that fits
abbrev pub literal_size : PlainLit → ℕ
literal_size (Int n) = 4
literal_size (Float bytes) = length bytes
literal_size (Text bytes) = 2 + length bytes
literal_size (Object n) = 4

-- How many bytes an instruction takes: the length of its spelling, by computing. Places in a file
-- are sums of these.
abbrev pub op_size : PlainOp → ℕ
op_size (CpDownSp offset size) = 8
op_size (CpTopSp offset size) = 8
op_size (Const lit) = 2 + literal_size lit
op_size (Action routine count) = 5
op_size (Equal kind size) = if kind == 0x24 then 4 else 2
op_size (Nequal kind size) = if kind == 0x24 then 4 else 2
op_size (MovSp offset) = 6
op_size (Jmp offset) = 6
op_size (Jsr offset) = 6
op_size (Jz offset) = 6
op_size (Destruct total offset size) = 8
op_size (DecISp offset) = 6
op_size (IncISp offset) = 6
op_size (Jnz offset) = 6
op_size (CpDownBp offset size) = 8
op_size (CpTopBp offset size) = 8
op_size (DecIBp offset) = 6
op_size (IncIBp offset) = 6
op_size (StoreState globals locals) = 10
op_size _ = 2

-- the first byte of the spelling, and the second
abbrev pub opcode : PlainOp → ℕ
opcode op = slice_index_or (spelling op) 0 0

abbrev pub type_byte : PlainOp → ℕ
type_byte op = slice_index_or (spelling op) 1 0

-- 0x1C is no opcode: an instruction that kept the whole stack had it, and no compiler writes it
abbrev pub is_opcode : ℕ → Bool
is_opcode code = is_between 0x01 0x2D code && not (code == 0x1C)

-- the four copies, between the top of the stack and an offset from its end or from the base
abbrev pub is_copy : ℕ → Bool
is_copy code = code == 0x01 || code == 0x03 || is_between 0x26 0x27 code

-- the four instructions that add or take one in place
abbrev pub is_step : ℕ → Bool
is_step code = is_between 0x23 0x24 code || is_between 0x28 0x29 code

-- MOVSP, the jumps and the steps: one signed number
abbrev pub is_offset : ℕ → Bool
is_offset code = code == 0x1B || is_between 0x1D 0x1F code || code == 0x25 || is_step code

-- Does the row of this opcode have this type byte?
unfoldable pub has_type : ℕ → ℕ → Bool
has_type code kind =
    if code == 0x02 then is_between 0x03 0x06 kind || is_between 0x10 0x19 kind
    else if code == 0x04 then is_between 0x03 0x06 kind
    else if is_between 0x0B 0x0C code then is_between 0x20 0x24 kind || is_between 0x30 0x39 kind
    else if is_between 0x0D 0x10 code then is_between 0x20 0x21 kind
    else if code == 0x14 then is_between 0x20 0x21 kind || kind == 0x23 || is_between 0x25 0x26 kind
    else if is_between 0x15 0x17 code then is_between 0x20 0x21 kind || is_between 0x25 0x26 kind
    else if code == 0x19 then is_between 0x03 0x04 kind
    else if is_copy code || code == 0x21 then kind == 0x01
    else if is_between 0x06 0x0A code || is_between 0x11 0x13 code || code == 0x18 then kind == 0x20
    else if code == 0x1A || code == 0x22 || is_step code then kind == 0x03
    else if code == 0x2C then kind == 0x10
    else kind == 0x00

-- the number that stands in the first two bytes
unfoldable pub first_two : List ℕ → ℕ
first_two bytes = 0x100 * slice_index bytes 0 + slice_index bytes 1

-- how many bytes the argument of CONST takes
abbrev pub lit_size : ℕ → List ℕ → ℕ
lit_size kind args = if kind == 0x05 then
    (if nat_lt (length args) 2 then 2 else 2 + first_two args) else 4

-- How many bytes the arguments take that begin here, after an opcode and a type byte of its row.
unfoldable pub args_size : ℕ → ℕ → List ℕ → ℕ
args_size code kind args =
    if is_copy code || code == 0x21 then 6
    else if code == 0x04 then lit_size kind args
    else if code == 0x05 then 3
    else if is_between 0x0B 0x0C code then (if kind == 0x24 then 2 else 0)
    else if is_offset code then 4
    else if code == 0x2C then 8
    else 0

-- Why these bytes begin with no instruction, by the first test that fails; None where they begin
-- with one.
unfoldable pub fault_of : List ℕ → Option CodeFault
fault_of [] = Some Short
fault_of (code ∷ []) = if is_opcode code then Some Short else Some Opcode
fault_of (code ∷ kind ∷ args) =
    if not (is_opcode code) then Some Opcode
    else if not (has_type code kind) then Some TypeByte
    else if nat_lt (length args) (args_size code kind args) then Some Short
    else None

-- The type byte stands in the row of the opcode.
abbrev pub has_its_type : List ℕ → Bool
has_its_type [] = false
has_its_type (code ∷ []) = false
has_its_type (code ∷ kind ∷ args) = has_type code kind

-- A string's length takes two bytes, and only the comparison of two runs of cells has a size.
abbrev pub HasTextSize : PlainLit → Type 0
HasTextSize (Text bytes) = length bytes < 2 ^ 16
HasTextSize _ = Unit {0}

abbrev pub HasSizes : PlainOp → Type 0
HasSizes (Const lit) = HasTextSize lit
HasSizes (Equal kind size) = kind ≢ 0x24 → size ≡ 0
HasSizes (Nequal kind size) = kind ≢ 0x24 → size ≡ 0
HasSizes _ = Unit {0}

-- What the fields of an instruction do not keep by their types: the condition of each call that
-- takes one.
pub record HasRow (op : PlainOp) : Type 0 where
  pub kind : IsTrue (has_its_type (spelling op))
  pub sizes : HasSizes op

abbrev pub IsByte : ℕ → Type 0
IsByte n = n < 2 ^ 8

abbrev pub IsCopy : ℤ → ℕ → Type 0
IsCopy offset size = FitsSigned w32 offset × (size < 2 ^ 16)

abbrev pub LitFits : PlainLit → Type 0
LitFits (Int n) = FitsSigned w32 n
LitFits (Float bytes) = (length bytes ≡ 4) × All IsByte bytes
LitFits (Text bytes) = All IsByte bytes
LitFits (Object n) = n < 2 ^ 32

-- Each field fits its bytes. The types of the fields of `Op` keep this.
abbrev pub Fits : PlainOp → Type 0
Fits (CpDownSp offset size) = IsCopy offset size
Fits (RsAdd kind) = IsByte kind
Fits (CpTopSp offset size) = IsCopy offset size
Fits (Const lit) = LitFits lit
Fits (Action routine count) = (routine < 2 ^ 16) × IsByte count
Fits (Equal kind size) = IsByte kind × (size < 2 ^ 16)
Fits (Nequal kind size) = IsByte kind × (size < 2 ^ 16)
Fits (Geq kind) = IsByte kind
Fits (Gt kind) = IsByte kind
Fits (Lt kind) = IsByte kind
Fits (Leq kind) = IsByte kind
Fits (Add kind) = IsByte kind
Fits (Sub kind) = IsByte kind
Fits (Mul kind) = IsByte kind
Fits (Div kind) = IsByte kind
Fits (Neg kind) = IsByte kind
Fits (MovSp offset) = FitsSigned w32 offset
Fits (Jmp offset) = FitsSigned w32 offset
Fits (Jsr offset) = FitsSigned w32 offset
Fits (Jz offset) = FitsSigned w32 offset
Fits (Destruct total offset size) = (total < 2 ^ 16) × (offset < 2 ^ 16) × (size < 2 ^ 16)
Fits (DecISp offset) = FitsSigned w32 offset
Fits (IncISp offset) = FitsSigned w32 offset
Fits (Jnz offset) = FitsSigned w32 offset
Fits (CpDownBp offset size) = IsCopy offset size
Fits (CpTopBp offset size) = IsCopy offset size
Fits (DecIBp offset) = FitsSigned w32 offset
Fits (IncIBp offset) = FitsSigned w32 offset
Fits (StoreState globals locals) = (globals < 2 ^ 32) × (locals < 2 ^ 32)
Fits _ = Unit {0}

-- what has a spelling
pub record IsOp (op : PlainOp) : Type 0 where
  pub row : HasRow op
  pub fits : Fits op

-- The bytes begin with the instruction's spelling, which takes so many of them.
pub record Spells (op : PlainOp) (count : ℕ) (bytes : List ℕ) : Type 0 where
  pub is_op : IsOp op
  pub prefix : bytes ≡ spelling op ++ drop count bytes
  pub size : count ≡ op_size op
