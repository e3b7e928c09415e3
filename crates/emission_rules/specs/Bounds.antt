-- What the typed tree of a unit keeps, as far as its code needs it: types of few cells, numbers
-- inside their fields, calls of functions that are there, `break` and `continue` inside of loops,
-- and a stack that is nowhere too deep.
use Rattle.std.specs.Prelude.{ℕ, ◌+◌, ◌^◌, ◌<◌, ◌≤◌, Bool, true, false, List, [], ◌∷◌, Option, None, Some, length, IsTrue}
use Rattle.std.specs.List.{AllByRecursion}
use Rattle.nss_tree.specs.declared.operators.BinaryOperator.{BinaryOperator}
use Rattle.nss_tree.specs.declared.operators.BinaryOperator.TheVariants as bin
use Rattle.nss_tree.specs.Statements.{block, empty, expression, if_only, if_else, while_loop, do_loop, for_loop, switch, break_off, continue_on, return_from, declaration, case_label, default_label, no_stmt, more_stmts}
use Rattle.nss_tree.specs.Units.{global, function}
use Rattle.nwq_value.specs.declared.value.Ty.{Ty}
use Rattle.nwq_value.specs.declared.value.Ty.TheVariants.{Void, Int, Text, Object, Effect, Event, Action, Struct, Refused}
use Rattle.nwq_value.specs.Engine.{IsConstant}
use Rattle.nwq_value.specs.Limits.{struct_cell_limit, parameter_limit, routine_limit}
use Rattle.typing_rules.specs.declared.places.Place.{Place}
use Rattle.typing_rules.specs.declared.places.Place.TheVariants.{Local, Global, Const as IsConst}
use Rattle.typing_rules.specs.declared.places.Callee.{Callee}
use Rattle.typing_rules.specs.declared.places.Callee.TheVariants.{Unit as InUnit, Engine}
use Rattle.typing_rules.specs.declared.places.EntryPoint.{EntryPoint}
use Rattle.typing_rules.specs.declared.places.EntryPoint.TheVariants.{Main, Conditional}
use Rattle.typing_rules.specs.Types.{is_compared}
use Rattle.typing_rules.specs.Typed.{TypedExpr, TypedExprs, TypedName, TypedStmt, TypedStmts, TypedItem, TypedUnit, literal, name, call, member, prefix, postfix, binary, assign, no_typed, more_typed, type_of}
use Rattle.typing_rules.specs.Cells.{cell_types, cells}
use Rattle.emission_rules.specs.Layout.{Layout, layout_of, params_cells}
use Rattle.emission_rules.specs.Expressions.{count_arguments}
use Rattle.emission_rules.specs.Units.{body_count}

-- ---- depth

-- how many cells a frame may have, values under way among them
abbrev pub frame_limit : ℕ
frame_limit = 2 ^ 28

-- at most so many cells lie above the frame while an expression's code runs
abbrev mutual
  pub weight : TypedExpr → ℕ
  weight (literal k) = struct_cell_limit
  weight (name t p) = struct_cell_limit
  weight (call t f xs ks) = struct_cell_limit + length ks + all_weight xs
  weight (member t x offset) = struct_cell_limit + weight x
  weight (prefix t o x) = struct_cell_limit + weight x
  weight (postfix t o x) = struct_cell_limit + weight x
  weight (binary t o x y) = struct_cell_limit + weight x + weight y
  weight (assign t o x y) = struct_cell_limit + weight x + weight y

  pub all_weight : TypedExprs → ℕ
  all_weight no_typed = 0
  all_weight (more_typed x xs) = weight x + all_weight xs

abbrev pub some_weight : Option TypedExpr → ℕ
some_weight None = 0
some_weight (Some x) = weight x

abbrev pub names_weight : List TypedName → ℕ
names_weight [] = 0
names_weight (x ∷ xs) = struct_cell_limit + some_weight x.value + names_weight xs

abbrev mutual
  pub stmt_weight : TypedStmt → ℕ
  stmt_weight (block m xs) = all_stmt_weight xs
  stmt_weight (empty m) = 0
  stmt_weight (expression m x) = weight x
  stmt_weight (if_only m x a) = weight x + stmt_weight a
  stmt_weight (if_else m x a b) = weight x + stmt_weight a + stmt_weight b
  stmt_weight (while_loop m x a) = weight x + stmt_weight a
  stmt_weight (do_loop m a x) = stmt_weight a + weight x
  stmt_weight (for_loop m x y z a) = some_weight x + some_weight y + some_weight z + stmt_weight a
  stmt_weight (switch m x xs) = 1 + weight x + all_stmt_weight xs
  stmt_weight (break_off m) = 0
  stmt_weight (continue_on m) = 0
  stmt_weight (return_from m x) = some_weight x
  stmt_weight (declaration m t xs) = names_weight xs
  stmt_weight (case_label m k) = 0
  stmt_weight (default_label m) = 0

  pub all_stmt_weight : TypedStmts → ℕ
  all_stmt_weight no_stmt = 0
  all_stmt_weight (more_stmts x xs) = stmt_weight x + all_stmt_weight xs

abbrev pub globals_weight : List TypedItem → ℕ
globals_weight [] = 0
globals_weight (global m t xs ∷ is) = names_weight xs + globals_weight is
globals_weight (_ ∷ is) = globals_weight is

-- ---- numbers

-- a cell may have this type
abbrev pub IsCell : Ty → Type 0
IsCell Int = Unit {0}
IsCell Text = Unit {0}
IsCell Object = Unit {0}
IsCell Effect = Unit {0}
IsCell Event = Unit {0}
IsCell Void = ⊥
IsCell Action = ⊥
IsCell (Struct n) = ⊥
IsCell Refused = ⊥

pub record IsType (l : Layout) (t : Ty) : Type 0 where
  pub few : cells l.structs t ≤ struct_cell_limit
  pub kinds : AllByRecursion IsCell (cell_types l.structs t)

abbrev pub IsPlace : Place → Type 0
IsPlace (Local n) = Unit {0}
IsPlace (Global n) = Unit {0}
IsPlace (IsConst k) = IsConstant k

-- one of so many functions with bodies, or a routine of a header
abbrev pub IsCallee : ℕ → ℕ → Callee → Type 0
IsCallee bodies count (InUnit f) = f < bodies
IsCallee bodies count (Engine routine) = (routine ≤ routine_limit) × (count ≤ parameter_limit)

abbrev pub IsOperator : BinaryOperator → Ty → Type 0
IsOperator bin.Equal t = IsTrue (is_compared t)
IsOperator bin.NotEqual t = IsTrue (is_compared t)
IsOperator _ t = Unit {0}

-- ---- nodes

module _ (bodies : ℕ) (l : Layout) where
  abbrev mutual
    pub IsExpr : TypedExpr → Type 0
    IsExpr (literal k) = IsConstant k
    IsExpr (name t p) = IsType l t × IsPlace p
    IsExpr (call t f xs ks) = IsType l t × IsCallee bodies (count_arguments xs + length ks) f
        × AllByRecursion IsConstant ks × AreExprs xs
    IsExpr (member t x offset) = IsType l t × IsType l (type_of x) × (offset ≤ struct_cell_limit)
        × IsExpr x
    IsExpr (prefix t o x) = IsType l t × IsExpr x
    IsExpr (postfix t o x) = IsType l t × IsExpr x
    IsExpr (binary t o x y) = IsType l t × IsType l (type_of x) × IsOperator o (type_of x)
        × IsExpr x × IsExpr y
    IsExpr (assign t o x y) = IsType l t × IsExpr x × IsExpr y

    pub AreExprs : TypedExprs → Type 0
    AreExprs no_typed = Unit {0}
    AreExprs (more_typed x xs) = IsExpr x × AreExprs xs

  abbrev pub IsSome : Option TypedExpr → Type 0
  IsSome None = Unit {0}
  IsSome (Some x) = IsExpr x

  abbrev pub AreNames : List TypedName → Type 0
  AreNames [] = Unit {0}
  AreNames (x ∷ xs) = IsType l x.name.ty × IsSome x.value × AreNames xs

  -- where `break` may stand, and `continue`
  abbrev mutual
    pub IsStmt : Bool → Bool → TypedStmt → Type 0
    IsStmt breaks continues (block m xs) = AreStmts breaks continues xs
    IsStmt breaks continues (empty m) = Unit {0}
    IsStmt breaks continues (expression m x) = IsExpr x
    IsStmt breaks continues (if_only m x a) = IsExpr x × IsStmt breaks continues a
    IsStmt breaks continues (if_else m x a b) = IsExpr x × IsStmt breaks continues a
        × IsStmt breaks continues b
    IsStmt breaks continues (while_loop m x a) = IsExpr x × IsStmt true true a
    IsStmt breaks continues (do_loop m a x) = IsStmt true true a × IsExpr x
    IsStmt breaks continues (for_loop m x y z a) = IsSome x × IsSome y × IsSome z
        × IsStmt true true a
    IsStmt breaks continues (switch m x xs) = IsExpr x × AreStmts true continues xs
    IsStmt breaks continues (break_off m) = IsTrue breaks
    IsStmt breaks continues (continue_on m) = IsTrue continues
    IsStmt breaks continues (return_from m x) = IsSome x
    IsStmt breaks continues (declaration m t xs) = AreNames xs
    IsStmt breaks continues (case_label m k) = IsConstant k
    IsStmt breaks continues (default_label m) = Unit {0}

    pub AreStmts : Bool → Bool → TypedStmts → Type 0
    AreStmts breaks continues no_stmt = Unit {0}
    AreStmts breaks continues (more_stmts x xs) = IsStmt breaks continues x
        × AreStmts breaks continues xs

  abbrev pub AreItems : List TypedItem → Type 0
  AreItems [] = Unit {0}
  AreItems (global m t xs ∷ is) = AreNames xs × AreItems is
  AreItems (function m t x ps (Some body) ∷ is) =
      AreStmts false false body × (params_cells l.structs ps + all_stmt_weight body ≤ frame_limit)
      × AreItems is
  AreItems (_ ∷ is) = AreItems is

abbrev pub IsEntry : ℕ → EntryPoint → Type 0
IsEntry bodies (Main f) = f < bodies
IsEntry bodies (Conditional f) = f < bodies

pub record IsBounded (u : TypedUnit) : Type 0 where
  pub items : AreItems (body_count u.items) (layout_of u) u.items
  pub globals : globals_weight u.items ≤ frame_limit
  pub entry : IsEntry (body_count u.items) u.entry
