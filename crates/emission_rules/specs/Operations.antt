-- The instruction of each operation.
use Rattle.std.specs.Prelude.{ℕ, ℤ, pos, ◌*◌, ◌-ℤ◌, zero, suc, List, [], ◌∷◌, map}
use Rattle.nss_tree.specs.declared.operators.BinaryOperator.{BinaryOperator}
use Rattle.nss_tree.specs.declared.operators.BinaryOperator.TheVariants as binary
use Rattle.nss_tree.specs.declared.operators.AssignOperator.{AssignOperator}
use Rattle.nss_tree.specs.declared.operators.AssignOperator.TheVariants as assign
use Rattle.nwq_value.specs.declared.value.Ty.{Ty}
use Rattle.nwq_value.specs.declared.value.Ty.TheVariants.{Void, Int, Text, Object, Effect, Event, Action, Struct, Refused}
use Rattle.nwq_value.specs.declared.engine.Const.{Const}
use Rattle.nwq_value.specs.declared.engine.Const.TheVariants as const
use Rattle.ncs_code.specs.Plain.{PlainOp, PlainLit}
use Rattle.ncs_code.specs.Plain as ops
use Rattle.ncs_emit.specs.Labelled.{Line, Instruction}

-- ---- cells in bytes

abbrev pub cell_size : ℕ
cell_size = 4

abbrev pub bytes_of : ℕ → ℕ
bytes_of cells = cell_size * cells

-- the offset of the place so many cells beneath the top, or beneath the base
abbrev pub beneath : ℕ → ℤ
beneath cells = pos 0 -ℤ pos (bytes_of cells)

-- takes so many cells off: nothing where there are none
abbrev pub dropped : ℕ → List Line
dropped zero = []
dropped (suc n) = Instruction (ops.MovSp (beneath (suc n))) ∷ []

-- a second copy of the top cell
abbrev pub top_again : Line
top_again = Instruction (ops.CpTopSp (beneath 1) (bytes_of 1))

-- ---- constants and starting values

-- object 0 stands for the one that runs the script, and 1 for none
abbrev pub literal_of : Const → PlainLit
literal_of (const.Int n) = ops.Int n
literal_of (const.Text bytes) = ops.Text bytes
literal_of const.SelfObject = ops.Object 0
literal_of const.InvalidObject = ops.Object 1

abbrev pub constant : Const → Line
constant k = Instruction (ops.Const (literal_of k))

abbrev pub int_constant : ℤ → Line
int_constant n = Instruction (ops.Const (ops.Int n))

-- the type byte of a cell's type; types that no cell has give 0
abbrev pub cell_kind : Ty → ℕ
cell_kind Int = 0x03
cell_kind Text = 0x05
cell_kind Object = 0x06
cell_kind Effect = 0x10
cell_kind Event = 0x11
cell_kind Void = 0
cell_kind Action = 0
cell_kind (Struct n) = 0
cell_kind Refused = 0

-- cells with the starting values of their types
abbrev pub started : List Ty → List Line
started ts = map (λ t. Instruction (ops.RsAdd (cell_kind t))) ts

-- ---- operators

abbrev pub two_ints : ℕ
two_ints = 0x20

-- the type byte of two values that are compared; types that are not compared give 0
abbrev pub comparison_kind : Ty → ℕ
comparison_kind Int = 0x20
comparison_kind Object = 0x22
comparison_kind Text = 0x23
comparison_kind (Struct n) = 0x24
comparison_kind Effect = 0x30
comparison_kind Event = 0x31
comparison_kind Void = 0
comparison_kind Action = 0
comparison_kind Refused = 0

-- only two structs are compared with their size, in bytes
abbrev pub comparison_size : Ty → ℕ → ℕ
comparison_size (Struct n) cells = bytes_of cells
comparison_size _ cells = 0

-- of two ints or two texts
abbrev pub sum_kind : Ty → ℕ
sum_kind Text = 0x23
sum_kind _ = 0x20

-- the operation on two values of a type that has so many cells
abbrev pub operation : BinaryOperator → Ty → ℕ → PlainOp
operation binary.Or t cells = ops.LogOr
operation binary.And t cells = ops.LogAnd
operation binary.BitOr t cells = ops.IncOr
operation binary.BitXor t cells = ops.ExcOr
operation binary.BitAnd t cells = ops.BoolAnd
operation binary.Equal t cells = ops.Equal (comparison_kind t) (comparison_size t cells)
operation binary.NotEqual t cells = ops.Nequal (comparison_kind t) (comparison_size t cells)
operation binary.GreaterOrEqual t cells = ops.Geq two_ints
operation binary.Greater t cells = ops.Gt two_ints
operation binary.Less t cells = ops.Lt two_ints
operation binary.LessOrEqual t cells = ops.Leq two_ints
operation binary.ShiftLeft t cells = ops.ShLeft
operation binary.ShiftRight t cells = ops.ShRight
operation binary.UnsignedShiftRight t cells = ops.UshRight
operation binary.Add t cells = ops.Add (sum_kind t)
operation binary.Subtract t cells = ops.Sub two_ints
operation binary.Multiply t cells = ops.Mul two_ints
operation binary.Divide t cells = ops.Div two_ints
operation binary.Remainder t cells = ops.Mod

-- what an assignment does to the value of its place and its own value before it writes: `=` nothing
abbrev pub combination : AssignOperator → Ty → List Line
combination assign.Set t = []
combination assign.Add t = Instruction (ops.Add (sum_kind t)) ∷ []
combination assign.Subtract t = Instruction (ops.Sub two_ints) ∷ []
combination assign.Multiply t = Instruction (ops.Mul two_ints) ∷ []
combination assign.Divide t = Instruction (ops.Div two_ints) ∷ []
combination assign.Remainder t = Instruction ops.Mod ∷ []
combination assign.BitAnd t = Instruction ops.BoolAnd ∷ []
combination assign.BitOr t = Instruction ops.IncOr ∷ []
combination assign.BitXor t = Instruction ops.ExcOr ∷ []
combination assign.ShiftLeft t = Instruction ops.ShLeft ∷ []
combination assign.ShiftRight t = Instruction ops.ShRight ∷ []
combination assign.UnsignedShiftRight t = Instruction ops.UshRight ∷ []
