-- Decoded instructions, and what they stand for.
use Rattle.std.specs.Prelude.{◌≡◌, ℕ, ◌+◌, ◌-◌, ◌/◌, ◌<◌, ◌≤◌, List, ◌++◌, length, take, replicate, slice_get, Some, IsTrue, nat_lt, if◌then◌else◌}
use Rattle.std.specs.Option.{option_map}
use Rattle.nwq_value.specs.Limits.{text_limit}
use Rattle.ncs_code.specs.Plain.{PlainOp, Int, Float, Text, Object, CpDownSp, RsAdd, CpTopSp, Const, Action, LogAnd, LogOr, IncOr, ExcOr, BoolAnd, Equal, Nequal, Geq, Gt, Lt, Leq, ShLeft, ShRight, UshRight, Add, Sub, Mul, Div, Mod, Neg, Comp, MovSp, Jmp, Jsr, Jz, Retn, Destruct, Not, DecISp, IncISp, Jnz, CpDownBp, CpTopBp, DecIBp, IncIBp, SaveBp, RestoreBp, StoreState, Nop}
use Rattle.ncs_code.specs.File.{begins, file_length, op_at}
use Rattle.stack_shape.specs.Laws.{offset_to}
use Rattle.decoded_code.specs.declared.step.Step.{Step}
use Rattle.decoded_code.specs.declared.step.Step.TheVariants as steps

-- A text with zeros in place of so many bytes behind it, which no text has: only a full text leaves
-- any out.
abbrev pub whole : List ℕ → ℕ → List ℕ
whole text left_out = text ++ replicate (if nat_lt (length text) text_limit then 0 else left_out) 0

-- The instruction that a decoded one stands for. Cells are four bytes, and offsets count from the top
-- down.
abbrev pub op_of : Step → PlainOp
op_of (steps.DownCell above) = CpDownSp (offset_to (above + 1)) 4
op_of (steps.CpDownSp offset size) = CpDownSp offset size
op_of (steps.RsAdd kind) = RsAdd kind
op_of (steps.TopCell above) = CpTopSp (offset_to (above + 1)) 4
op_of (steps.CpTopSp offset size) = CpTopSp offset size
op_of (steps.ConstInt n) = Const (Int n)
op_of (steps.ConstFloat bytes) = Const (Float bytes)
op_of (steps.ConstText left_out text) = Const (Text (whole text left_out))
op_of (steps.ConstObject n) = Const (Object n)
op_of (steps.Action routine count) = Action routine count
op_of steps.LogAnd = LogAnd
op_of steps.LogOr = LogOr
op_of steps.IncOr = IncOr
op_of steps.ExcOr = ExcOr
op_of steps.BoolAnd = BoolAnd
op_of (steps.Equal kind size) = Equal kind size
op_of (steps.Nequal kind size) = Nequal kind size
op_of (steps.Geq kind) = Geq kind
op_of (steps.Gt kind) = Gt kind
op_of (steps.Lt kind) = Lt kind
op_of (steps.Leq kind) = Leq kind
op_of steps.ShLeft = ShLeft
op_of steps.ShRight = ShRight
op_of steps.UshRight = UshRight
op_of (steps.Add kind) = Add kind
op_of (steps.Sub kind) = Sub kind
op_of (steps.Mul kind) = Mul kind
op_of (steps.Div kind) = Div kind
op_of steps.Mod = Mod
op_of (steps.Neg kind) = Neg kind
op_of steps.Comp = Comp
op_of (steps.DropCells count) = MovSp (offset_to count)
op_of (steps.MovSp offset) = MovSp offset
op_of (steps.Jmp offset) = Jmp offset
op_of (steps.Jsr offset) = Jsr offset
op_of (steps.Jz offset) = Jz offset
op_of steps.Retn = Retn
op_of (steps.Destruct total offset size) = Destruct total offset size
op_of steps.Not = Not
op_of (steps.DecCell above) = DecISp (offset_to (above + 1))
op_of (steps.DecISp offset) = DecISp offset
op_of (steps.IncCell above) = IncISp (offset_to (above + 1))
op_of (steps.IncISp offset) = IncISp offset
op_of (steps.Jnz offset) = Jnz offset
op_of (steps.CpDownBp offset size) = CpDownBp offset size
op_of (steps.CpTopBp offset size) = CpTopBp offset size
op_of (steps.DecIBp offset) = DecIBp offset
op_of (steps.IncIBp offset) = IncIBp offset
op_of steps.SaveBp = SaveBp
op_of steps.RestoreBp = RestoreBp
op_of (steps.StoreState globals locals) = StoreState globals locals
op_of steps.Nop = Nop

-- An instruction, but for the bytes of its string that no text has: those are zeros. The machine
-- does the same in it.
abbrev pub kept : PlainOp → PlainOp
kept (Const (Text bytes)) = Const
    (Text (take text_limit bytes ++ replicate (length bytes - text_limit) 0))
kept op = op

-- Each instruction of a file is decoded at half its place: since none is shorter than two bytes, no
-- two meet there.
abbrev pub AreSteps : List PlainOp → List Step → Type 0
AreSteps ops all = (at : ℕ) (op : PlainOp) → op_at ops at ≡ Some op
    → option_map op_of (slice_get all (at / 2)) ≡ Some (kept op)

-- So many of a file's first bytes are decoded, which end with an instruction.
pub record AreDecoded (ops : List PlainOp) (at : ℕ) (all : List Step) : Type 0 where
  pub goes_on : at < file_length ops → IsTrue (begins ops at)
  pub inside : at ≤ file_length ops
  pub count : length all ≤ at / 2
  pub steps : (place : ℕ) (op : PlainOp) → op_at ops place ≡ Some op → place < at
      → option_map op_of (slice_get all (place / 2)) ≡ Some (kept op)
