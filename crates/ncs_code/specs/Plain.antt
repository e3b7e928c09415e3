-- Instructions without where their strings lie in memory: what contracts speak of.
use Rattle.std.specs.Prelude.{ℕ, ℤ, List}
use Rattle.ncs_code.specs.declared.instruction.Lit.{Lit}
use Rattle.ncs_code.specs.declared.instruction.Lit.TheVariants as lits
use Rattle.ncs_code.specs.declared.instruction.Op.{Op}
use Rattle.ncs_code.specs.declared.instruction.Op.TheVariants as ops

-- what CONST pushes: an int, the four bytes of a float, the bytes of a string, or an object's
-- number
pub data PlainLit : Type 0 where
  Int : ℤ → PlainLit
  Float : List ℕ → PlainLit
  Text : List ℕ → PlainLit
  Object : ℕ → PlainLit

-- Fields in the order of the spelling: a type byte where the instruction has several, then the
-- arguments.
pub data PlainOp : Type 0 where
  CpDownSp : ℤ → ℕ → PlainOp
  RsAdd : ℕ → PlainOp
  CpTopSp : ℤ → ℕ → PlainOp
  Const : PlainLit → PlainOp
  Action : ℕ → ℕ → PlainOp
  LogAnd : PlainOp
  LogOr : PlainOp
  IncOr : PlainOp
  ExcOr : PlainOp
  BoolAnd : PlainOp
  Equal : ℕ → ℕ → PlainOp
  Nequal : ℕ → ℕ → PlainOp
  Geq : ℕ → PlainOp
  Gt : ℕ → PlainOp
  Lt : ℕ → PlainOp
  Leq : ℕ → PlainOp
  ShLeft : PlainOp
  ShRight : PlainOp
  UshRight : PlainOp
  Add : ℕ → PlainOp
  Sub : ℕ → PlainOp
  Mul : ℕ → PlainOp
  Div : ℕ → PlainOp
  Mod : PlainOp
  Neg : ℕ → PlainOp
  Comp : PlainOp
  MovSp : ℤ → PlainOp
  Jmp : ℤ → PlainOp
  Jsr : ℤ → PlainOp
  Jz : ℤ → PlainOp
  Retn : PlainOp
  Destruct : ℕ → ℕ → ℕ → PlainOp
  Not : PlainOp
  DecISp : ℤ → PlainOp
  IncISp : ℤ → PlainOp
  Jnz : ℤ → PlainOp
  CpDownBp : ℤ → ℕ → PlainOp
  CpTopBp : ℤ → ℕ → PlainOp
  DecIBp : ℤ → PlainOp
  IncIBp : ℤ → PlainOp
  SaveBp : PlainOp
  RestoreBp : PlainOp
  StoreState : ℕ → ℕ → PlainOp
  Nop : PlainOp

abbrev pub plain_lit : Lit → PlainLit
plain_lit (lits.Int n) = Int n
plain_lit (lits.Float bytes) = Float bytes
plain_lit (lits.Text bytes) = Text bytes.now
plain_lit (lits.Object n) = Object n

-- the instruction without where its string lies in memory
abbrev pub plain : Op → PlainOp
plain (ops.CpDownSp offset size) = CpDownSp offset size
plain (ops.RsAdd kind) = RsAdd kind
plain (ops.CpTopSp offset size) = CpTopSp offset size
plain (ops.Const lit) = Const (plain_lit lit)
plain (ops.Action routine count) = Action routine count
plain ops.LogAnd = LogAnd
plain ops.LogOr = LogOr
plain ops.IncOr = IncOr
plain ops.ExcOr = ExcOr
plain ops.BoolAnd = BoolAnd
plain (ops.Equal kind size) = Equal kind size
plain (ops.Nequal kind size) = Nequal kind size
plain (ops.Geq kind) = Geq kind
plain (ops.Gt kind) = Gt kind
plain (ops.Lt kind) = Lt kind
plain (ops.Leq kind) = Leq kind
plain ops.ShLeft = ShLeft
plain ops.ShRight = ShRight
plain ops.UshRight = UshRight
plain (ops.Add kind) = Add kind
plain (ops.Sub kind) = Sub kind
plain (ops.Mul kind) = Mul kind
plain (ops.Div kind) = Div kind
plain ops.Mod = Mod
plain (ops.Neg kind) = Neg kind
plain ops.Comp = Comp
plain (ops.MovSp offset) = MovSp offset
plain (ops.Jmp offset) = Jmp offset
plain (ops.Jsr offset) = Jsr offset
plain (ops.Jz offset) = Jz offset
plain ops.Retn = Retn
plain (ops.Destruct total offset size) = Destruct total offset size
plain ops.Not = Not
plain (ops.DecISp offset) = DecISp offset
plain (ops.IncISp offset) = IncISp offset
plain (ops.Jnz offset) = Jnz offset
plain (ops.CpDownBp offset size) = CpDownBp offset size
plain (ops.CpTopBp offset size) = CpTopBp offset size
plain (ops.DecIBp offset) = DecIBp offset
plain (ops.IncIBp offset) = IncIBp offset
plain ops.SaveBp = SaveBp
plain ops.RestoreBp = RestoreBp
plain (ops.StoreState globals locals) = StoreState globals locals
plain ops.Nop = Nop
