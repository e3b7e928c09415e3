-- The text of instructions that has no remarks, no leading zeros and no `-0`.
use Rattle.std.specs.Prelude.{ℕ, ℤ, ◌+◌, ◌==◌, if◌then◌else◌, List, [], ◌∷◌, ◌++◌}
use Rattle.std.specs.List.{flat_map}
use Rattle.std.specs.Fmt.{decimal, signed_decimal}
use Rattle.nwq_text.specs.Escape.{quoted}
use Rattle.ncs_code.specs.Plain.{PlainLit, PlainOp, Int, Float, Text, Object, CpDownSp, CpTopSp, Const, Action, Equal, Nequal, MovSp, Jmp, Jsr, Jz, Destruct, DecISp, IncISp, Jnz, CpDownBp, CpTopBp, DecIBp, IncIBp, StoreState}
use Rattle.ncs_code.specs.Spelling.{op_size}
use Rattle.ncs_code.specs.File.{header_size, jump_place}
use Rattle.ncs_text.specs.Assembly.{heading, hex_pair}

-- a space and a number
abbrev pub number : ℕ → List ℕ
number n = 32 ∷ decimal n

abbrev pub signed_text : ℤ → List ℕ
signed_text n = 32 ∷ signed_decimal n

-- a space, `@` and the place that a jump leads to
abbrev pub target : ℕ → ℤ → List ℕ
target at offset = 32 ∷ 64 ∷ decimal (jump_place at offset)

abbrev pub copied : ℤ → ℕ → List ℕ
copied offset size = signed_text offset ++ number size

abbrev pub run_size : ℕ → ℕ → List ℕ
run_size kind size = if kind == 0x24 then number size else []

abbrev pub literal_text : PlainLit → List ℕ
literal_text (Int n) = signed_text n
literal_text (Float bytes) = 32 ∷ flat_map hex_pair bytes
literal_text (Text bytes) = 32 ∷ quoted bytes
literal_text (Object n) = number n

-- the arguments of an instruction that stands at this place
abbrev pub arguments_text : ℕ → PlainOp → List ℕ
arguments_text at (CpDownSp offset size) = copied offset size
arguments_text at (CpTopSp offset size) = copied offset size
arguments_text at (Const lit) = literal_text lit
arguments_text at (Action routine count) = number routine ++ number count
arguments_text at (Equal kind size) = run_size kind size
arguments_text at (Nequal kind size) = run_size kind size
arguments_text at (MovSp offset) = signed_text offset
arguments_text at (Jmp offset) = target at offset
arguments_text at (Jsr offset) = target at offset
arguments_text at (Jz offset) = target at offset
arguments_text at (Destruct total offset size) = number total ++ (number offset ++ number size)
arguments_text at (DecISp offset) = signed_text offset
arguments_text at (IncISp offset) = signed_text offset
arguments_text at (Jnz offset) = target at offset
arguments_text at (CpDownBp offset size) = copied offset size
arguments_text at (CpTopBp offset size) = copied offset size
arguments_text at (DecIBp offset) = signed_text offset
arguments_text at (IncIBp offset) = signed_text offset
arguments_text at (StoreState globals locals) = number globals ++ number locals
arguments_text at _ = []

-- the line of an instruction, with the newline that ends it
unfoldable pub op_line : ℕ → PlainOp → List ℕ
op_line at op = heading op ++ (arguments_text at op ++ 10 ∷ [])

-- the lines of instructions in a row, the first of which stands at this place
abbrev pub listing_from : ℕ → List PlainOp → List ℕ
listing_from at [] = []
listing_from at (op ∷ ops) = op_line at op ++ listing_from (at + op_size op) ops

-- the text of a file
abbrev pub listing : List PlainOp → List ℕ
listing ops = listing_from header_size ops
