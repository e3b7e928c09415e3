-- The typed tree: the tree of statements and items with typed expressions, values in place of
-- constants, types in place of their names, and variables in place of declared names.
use Rattle.std.specs.Prelude.{ℕ, Bool, false, List}
use Rattle.nss_tree.specs.declared.operators.PrefixOperator.{PrefixOperator}
use Rattle.nss_tree.specs.declared.operators.PostfixOperator.{PostfixOperator}
use Rattle.nss_tree.specs.declared.operators.BinaryOperator.{BinaryOperator}
use Rattle.nss_tree.specs.declared.operators.AssignOperator.{AssignOperator}
use Rattle.nss_tree.specs.declared.statements.DeclaredName.{DeclaredName}
use Rattle.nss_tree.specs.declared.units.FieldLine.{FieldLine}
use Rattle.nss_tree.specs.declared.units.Parameter.{Parameter}
use Rattle.nss_tree.specs.Statements.{PlainStmt, PlainStmts}
use Rattle.nss_tree.specs.Units.{PlainItem}
use Rattle.nwq_value.specs.declared.value.Ty.{Ty}
use Rattle.nwq_value.specs.declared.engine.Const.{Const}
use Rattle.nwq_value.specs.Engine.{const_type}
use Rattle.typing_rules.specs.declared.places.Place.{Place}
use Rattle.typing_rules.specs.declared.places.Callee.{Callee}
pub use Rattle.typing_rules.specs.Places.{is_variable}
use Rattle.typing_rules.specs.declared.places.Variable.{Variable}
use Rattle.typing_rules.specs.declared.places.EntryPoint.{EntryPoint}

mutual
  pub data TypedExpr : Type 0 where
    literal : Const → TypedExpr
    name : Ty → Place → TypedExpr
    -- the arguments as they are written, then the defaults of the parameters that are left
    call : Ty → Callee → TypedExprs → List Const → TypedExpr
    -- a member, by how many cells of the struct stand before it
    member : Ty → TypedExpr → ℕ → TypedExpr
    prefix : Ty → PrefixOperator → TypedExpr → TypedExpr
    postfix : Ty → PostfixOperator → TypedExpr → TypedExpr
    binary : Ty → BinaryOperator → TypedExpr → TypedExpr → TypedExpr
    assign : Ty → AssignOperator → TypedExpr → TypedExpr → TypedExpr

  pub data TypedExprs : Type 0 where
    no_typed : TypedExprs
    more_typed : TypedExpr → TypedExprs → TypedExprs

abbrev pub type_of : TypedExpr → Ty
type_of (literal k) = const_type k
type_of (name t p) = t
type_of (call t f xs ks) = t
type_of (member t x n) = t
type_of (prefix t o x) = t
type_of (postfix t o x) = t
type_of (binary t o x y) = t
type_of (assign t o x y) = t

-- what can be written: a variable, or a member of what can be written
abbrev pub is_place : TypedExpr → Bool
is_place (name t p) = is_variable p
is_place (member t x n) = is_place x
is_place _ = false

abbrev pub TypedName : Type 0
TypedName = DeclaredName TypedExpr Variable

abbrev pub TypedStmt : Type 0
TypedStmt = PlainStmt TypedExpr Const Ty Variable

abbrev pub TypedStmts : Type 0
TypedStmts = PlainStmts TypedExpr Const Ty Variable

abbrev pub TypedLine : Type 0
TypedLine = FieldLine Ty

abbrev pub TypedParameter : Type 0
TypedParameter = Parameter Const Ty Variable

abbrev pub TypedItem : Type 0
TypedItem = PlainItem TypedExpr Const Ty Variable

-- a unit: its items, and the function that a script begins with
pub record TypedUnit : Type 0 where
  pub items : List TypedItem
  pub entry : EntryPoint
