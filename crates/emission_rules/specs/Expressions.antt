-- The code of an expression, at a depth of the frame and from a next label on: how many labels it
-- takes, and its lines.
use Rattle.std.specs.Prelude.{ℕ, pos, ◌+◌, ◌-◌, Bool, true, false, List, [], ◌∷◌, ◌++◌, Option, None, Some, length, if◌then◌else◌}
use Rattle.std.specs.Option.{option_map}
use Rattle.nss_tree.specs.declared.operators.PrefixOperator.{PrefixOperator}
use Rattle.nss_tree.specs.declared.operators.PrefixOperator.TheVariants as pre
use Rattle.nss_tree.specs.declared.operators.PostfixOperator.{PostfixOperator}
use Rattle.nss_tree.specs.declared.operators.PostfixOperator.TheVariants as post
use Rattle.nss_tree.specs.declared.operators.BinaryOperator.{BinaryOperator}
use Rattle.nss_tree.specs.declared.operators.BinaryOperator.TheVariants as bin
use Rattle.nss_tree.specs.declared.operators.AssignOperator.{AssignOperator}
use Rattle.nss_tree.specs.declared.operators.AssignOperator.TheVariants as asg
use Rattle.nwq_value.specs.declared.value.Ty.{Ty}
use Rattle.nwq_value.specs.declared.engine.Const.{Const}
use Rattle.ncs_code.specs.Plain.{PlainOp}
use Rattle.ncs_code.specs.Plain as ops
use Rattle.ncs_emit.specs.declared.jump.Jump.TheVariants.{Jmp, Jsr, Jz}
use Rattle.ncs_emit.specs.Labelled.{Line, Instruction, JumpTo, Label}
use Rattle.typing_rules.specs.declared.places.Place.{Place}
use Rattle.typing_rules.specs.declared.places.Place.TheVariants.{Local, Global, Const as IsConst}
use Rattle.typing_rules.specs.declared.places.Callee.{Callee}
use Rattle.typing_rules.specs.declared.places.Callee.TheVariants.{Unit as InUnit, Engine}
use Rattle.typing_rules.specs.Typed.{TypedExpr, TypedExprs, literal, name, call, member, prefix, postfix, binary, assign, no_typed, more_typed, type_of}
use Rattle.typing_rules.specs.Cells.{cell_types, cells, is_captured}
use Rattle.emission_rules.specs.Layout.{Layout, position}
use Rattle.emission_rules.specs.Operations.{bytes_of, beneath, top_again, constant, int_constant, started, operation, combination}

-- ---- places

-- where the cells of a place begin: so many cells above the bottom of the frame, or of the globals
pub data Home : Type 0 where
  InFrame : ℕ → Home
  InGlobals : ℕ → Home

abbrev pub moved : ℕ → Home → Home
moved offset (InFrame at) = InFrame (at + offset)
moved offset (InGlobals at) = InGlobals (at + offset)

abbrev pub home_of_name : Layout → Place → Option Home
home_of_name l (Local n) = Some (InFrame (position l n))
home_of_name l (Global n) = Some (InGlobals (position l n))
home_of_name l (IsConst k) = None

-- None where it is no place
abbrev pub home : Layout → TypedExpr → Option Home
home l (name t p) = home_of_name l p
home l (member t x offset) = option_map (moved offset) (home l x)
home l _ = None

-- what is done at a place, with nothing where there is none
abbrev pub at_home : (Home → PlainOp) → Option Home → List Line
at_home op None = []
at_home op (Some h) = Instruction (op h) ∷ []

-- so many cells that are read, written, and an int that grows or falls by one, at a depth
abbrev pub read : Layout → ℕ → ℕ → Home → PlainOp
read l depth count (InFrame at) = ops.CpTopSp (beneath (depth - at)) (bytes_of count)
read l depth count (InGlobals at) = ops.CpTopBp (beneath (l.globals - at)) (bytes_of count)

abbrev pub write : Layout → ℕ → ℕ → Home → PlainOp
write l depth count (InFrame at) = ops.CpDownSp (beneath (depth - at)) (bytes_of count)
write l depth count (InGlobals at) = ops.CpDownBp (beneath (l.globals - at)) (bytes_of count)

abbrev pub increment : Layout → ℕ → Home → PlainOp
increment l depth (InFrame at) = ops.IncISp (beneath (depth - at))
increment l depth (InGlobals at) = ops.IncIBp (beneath (l.globals - at))

abbrev pub decrement : Layout → ℕ → Home → PlainOp
decrement l depth (InFrame at) = ops.DecISp (beneath (depth - at))
decrement l depth (InGlobals at) = ops.DecIBp (beneath (l.globals - at))

-- ---- nodes, by the code of their parts

abbrev pub name_code : Layout → ℕ → Ty → Place → List Line
name_code l depth t (Local n) = Instruction
    (read l depth (cells l.structs t) (InFrame (position l n))) ∷ []
name_code l depth t (Global n) = Instruction
    (read l depth (cells l.structs t) (InGlobals (position l n))) ∷ []
name_code l depth t (IsConst k) = constant k ∷ []

-- a member of a place is read there, of another value it is cut out
abbrev pub member_code : Layout → ℕ → ℕ → ℕ → ℕ → Option Home → List Line → List Line
member_code l depth total offset count None value = value
    ++ Instruction (ops.Destruct (bytes_of total) (bytes_of offset) (bytes_of count)) ∷ []
member_code l depth total offset count (Some h) value = Instruction
    (read l depth count (moved offset h)) ∷ []

abbrev pub prefix_code : Layout → ℕ → PrefixOperator → Option Home → List Line → List Line
prefix_code l depth pre.Minus h value = value ++ Instruction (ops.Neg 0x03) ∷ []
prefix_code l depth pre.Complement h value = value ++ Instruction ops.Comp ∷ []
prefix_code l depth pre.Not h value = value ++ Instruction ops.Not ∷ []
prefix_code l depth pre.Increment h value = at_home (increment l depth) h ++ value
prefix_code l depth pre.Decrement h value = at_home (decrement l depth) h ++ value

-- the value from before lies on top
abbrev pub postfix_code : Layout → ℕ → PostfixOperator → Option Home → List Line → List Line
postfix_code l depth post.Increment h value = value ++ at_home (increment l (depth + 1)) h
postfix_code l depth post.Decrement h value = value ++ at_home (decrement l (depth + 1)) h

-- What an operator does where its left operand decides alone: `||` and `&&` leave the right one
-- out, where the left one isn't 0 and where it is 0.
pub data Shortcut : Type 0 where
  WhereTrue : Shortcut
  WhereFalse : Shortcut
  Never : Shortcut

abbrev pub shortcut : BinaryOperator → Shortcut
shortcut bin.Or = WhereTrue
shortcut bin.And = WhereFalse
shortcut _ = Never

-- the labels that it takes
abbrev pub shortcut_labels : Shortcut → ℕ
shortcut_labels WhereTrue = 2
shortcut_labels WhereFalse = 1
shortcut_labels Never = 0

abbrev pub binary_code : ℕ → Shortcut → PlainOp → List Line → List Line → List Line
binary_code n WhereTrue op left right =
    left ++ (top_again ∷ JumpTo Jz n ∷ int_constant (pos 1) ∷ Instruction op ∷ JumpTo Jmp
    (n + 1) ∷ Label n ∷ (right ++ Instruction op ∷ Label (n + 1) ∷ []))
binary_code n WhereFalse op left right = left
    ++ (top_again ∷ JumpTo Jz n ∷ (right ++ Instruction op ∷ Label n ∷ []))
binary_code n Never op left right = left ++ (right ++ Instruction op ∷ [])

abbrev pub is_set : AssignOperator → Bool
is_set asg.Set = true
is_set _ = false

-- What an assignment reads of its place first, and how many cells that leaves beneath its value:
-- `=` reads nothing.
abbrev pub read_first : Bool → List Line → List Line
read_first true lines = []
read_first false lines = lines

abbrev pub cells_first : Bool → ℕ → ℕ
cells_first true count = 0
cells_first false count = count

-- the constants, the last one first
abbrev pub constants : List Const → List Line
constants [] = []
constants (k ∷ ks) = constants ks ++ constant k ∷ []

-- the types of the cells that a call makes for its result before its arguments
abbrev pub result_room : Layout → Callee → Ty → List Ty
result_room l (InUnit f) t = cell_types l.structs t
result_room l (Engine routine) t = []

-- a function's code begins at the label of its number
abbrev pub call_line : Callee → ℕ → Line
call_line (InUnit f) count = JumpTo Jsr f
call_line (Engine routine) count = Instruction (ops.Action routine count)

abbrev pub argument_labels : Bool → ℕ
argument_labels captured = if captured then 1 else 0

-- the code of an action stands in the midst and is jumped over
abbrev pub argument_code : Layout → ℕ → ℕ → Bool → List Line → List Line
argument_code l n depth false value = value
argument_code l n depth true value =
    Instruction (ops.StoreState (bytes_of l.globals) (bytes_of depth)) ∷ JumpTo Jmp n ∷
    (value ++ Instruction ops.Retn ∷ Label n ∷ [])

-- ---- arguments in numbers

abbrev pub count_arguments : TypedExprs → ℕ
count_arguments no_typed = 0
count_arguments (more_typed x xs) = 1 + count_arguments xs

-- an action takes no cell
abbrev pub arguments_cells : Layout → TypedExprs → ℕ
arguments_cells l no_typed = 0
arguments_cells l (more_typed x xs) = cells l.structs (type_of x) + arguments_cells l xs

-- ---- expressions

abbrev mutual
  -- how many labels the code takes
  pub labels : TypedExpr → ℕ
  labels (literal k) = 0
  labels (name t p) = 0
  labels (call t f xs ks) = all_labels xs
  labels (member t x offset) = labels x
  labels (prefix t o x) = labels x
  labels (postfix t o x) = labels x
  labels (binary t o x y) = shortcut_labels (shortcut o) + labels x + labels y
  labels (assign t o x y) = labels y

  pub all_labels : TypedExprs → ℕ
  all_labels no_typed = 0
  all_labels (more_typed x xs) = all_labels xs + argument_labels (is_captured x) + labels x

abbrev mutual
  -- with n the next label
  pub emit : Layout → ℕ → ℕ → TypedExpr → List Line
  emit l n depth (literal k) = constant k ∷ []
  emit l n depth (name t p) = name_code l depth t p
  emit l n depth (call t f xs ks) =
      started (result_room l f t)
      ++ (constants ks
      ++ (emit_all l n (depth + length (result_room l f t) + length ks) xs
      ++ call_line f (count_arguments xs + length ks) ∷ []))
  emit l n depth (member t x offset) =
      member_code l depth (cells l.structs (type_of x)) offset (cells l.structs t) (home l x)
      (emit l n depth x)
  emit l n depth (prefix t o x) = prefix_code l depth o (home l x) (emit l n depth x)
  emit l n depth (postfix t o x) = postfix_code l depth o (home l x) (emit l n depth x)
  emit l n depth (binary t o x y) =
      binary_code n (shortcut o) (operation o (type_of x) (cells l.structs (type_of x)))
      (emit l (n + shortcut_labels (shortcut o)) depth x)
      (emit l (n + shortcut_labels (shortcut o) + labels x) (depth + cells l.structs (type_of x)) y)
  emit l n depth (assign t o x y) =
      read_first (is_set o) (at_home (read l depth (cells l.structs t)) (home l x))
      ++ (emit l n (depth + cells_first (is_set o) (cells l.structs t)) y
      ++ (combination o t
      ++ at_home (write l (depth + cells l.structs t) (cells l.structs t)) (home l x)))

  -- arguments, the last one first
  pub emit_all : Layout → ℕ → ℕ → TypedExprs → List Line
  emit_all l n depth no_typed = []
  emit_all l n depth (more_typed x xs) =
      emit_all l n depth xs
      ++ argument_code l (n + all_labels xs) (depth + arguments_cells l xs) (is_captured x)
      (emit l (n + all_labels xs + argument_labels (is_captured x))
      (depth + arguments_cells l xs) x)
