-- Which instruction the bytes begin with, where they begin with one.
use Rattle.std.specs.Prelude.{ℕ, zero, suc, ℤ, List, [], ◌∷◌, ◌==◌, if◌then◌else◌, take, drop, slice_index_or}
use Rattle.std.specs.Int.{w16, w32, from_be_bytes, cast_signed}
use Rattle.ncs_code.specs.Plain.{PlainOp, Int, Float, Text, Object, CpDownSp, RsAdd, CpTopSp, Const, Action, LogAnd, LogOr, IncOr, ExcOr, BoolAnd, Equal, Nequal, Geq, Gt, Lt, Leq, ShLeft, ShRight, UshRight, Add, Sub, Mul, Div, Mod, Neg, Comp, MovSp, Jmp, Jsr, Jz, Retn, Destruct, Not, DecISp, IncISp, Jnz, CpDownBp, CpTopBp, DecIBp, IncIBp, SaveBp, RestoreBp, StoreState, Nop}
use Rattle.ncs_code.specs.Spelling.{op_size}

abbrev pub two_of : List ℕ → ℕ
two_of args = from_be_bytes w16 args

abbrev pub four_of : List ℕ → ℕ
four_of args = from_be_bytes w32 args

abbrev pub signed_of : List ℕ → ℤ
signed_of args = cast_signed w32 (from_be_bytes w32 args)

-- a row: the instruction with this type byte and arguments that begin here
abbrev pub SpellingRow : Type 0
SpellingRow = ℕ → List ℕ → PlainOp

abbrev pub bare : PlainOp → SpellingRow
bare op kind args = op

abbrev pub typed : (ℕ → PlainOp) → SpellingRow
typed make kind args = make kind

abbrev pub moved : (ℤ → PlainOp) → SpellingRow
moved make kind args = make (signed_of args)

abbrev pub copied : (ℤ → ℕ → PlainOp) → SpellingRow
copied make kind args = make (signed_of args) (two_of (drop 4 args))

abbrev pub compared : (ℕ → ℕ → PlainOp) → SpellingRow
compared make kind args = make kind (if kind == 0x24 then two_of args else 0)

abbrev pub literal : SpellingRow
literal kind args =
    if kind == 0x03 then Const (Int (signed_of args))
    else if kind == 0x04 then Const (Float (take 4 args))
    else if kind == 0x05 then Const (Text (take (two_of args) (drop 2 args)))
    else Const (Object (four_of args))

-- by opcode
abbrev pub rows : List SpellingRow
rows =
    bare Nop
    ∷ copied CpDownSp
    ∷ typed RsAdd
    ∷ copied CpTopSp
    ∷ literal
    ∷ (λ kind args. Action (two_of args) (slice_index_or args 2 0))
    ∷ bare LogAnd
    ∷ bare LogOr
    ∷ bare IncOr
    ∷ bare ExcOr
    ∷ bare BoolAnd
    ∷ compared Equal
    ∷ compared Nequal
    ∷ typed Geq
    ∷ typed Gt
    ∷ typed Lt
    ∷ typed Leq
    ∷ bare ShLeft
    ∷ bare ShRight
    ∷ bare UshRight
    ∷ typed Add
    ∷ typed Sub
    ∷ typed Mul
    ∷ typed Div
    ∷ bare Mod
    ∷ typed Neg
    ∷ bare Comp
    ∷ moved MovSp
    ∷ bare Nop
    ∷ moved Jmp
    ∷ moved Jsr
    ∷ moved Jz
    ∷ bare Retn
    ∷ (λ kind args. Destruct (two_of args) (two_of (drop 2 args)) (two_of (drop 4 args)))
    ∷ bare Not
    ∷ moved DecISp
    ∷ moved IncISp
    ∷ moved Jnz
    ∷ copied CpDownBp
    ∷ copied CpTopBp
    ∷ moved DecIBp
    ∷ moved IncIBp
    ∷ bare SaveBp
    ∷ bare RestoreBp
    ∷ (λ kind args. StoreState (four_of args) (four_of (drop 4 args)))
    ∷ bare Nop
    ∷ []

unfoldable pub op_of : List ℕ → PlainOp
op_of [] = Nop
op_of (code ∷ []) = Nop
op_of (code ∷ kind ∷ args) = slice_index_or rows code (bare Nop) kind args

-- The instructions that follow one another in the bytes, at most so many.
unfoldable pub ops_of : ℕ → List ℕ → List PlainOp
ops_of zero bytes = []
ops_of (suc n) [] = []
ops_of (suc n) (b ∷ bytes) = op_of (b ∷ bytes) ∷ ops_of n
    (drop (op_size (op_of (b ∷ bytes))) (b ∷ bytes))
