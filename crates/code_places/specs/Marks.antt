-- Whose the instructions of a unit's code are: of each one, in the order of the code, how many bytes
-- it takes and the number of the innermost node whose code it stands in. What a call does around its
-- arguments is the call's, the tests and jumps of a statement are the statement's, what a function
-- does at its end is the function's. The start of the unit is no node's, but for first values.
use Rattle.std.specs.Prelude.{ℕ, zero, suc, Bool, true, false, not, ◌&&◌, ◌||◌, List, [], ◌∷◌, ◌++◌, map, Option, None, Some, if◌then◌else◌}
use Rattle.nss_tree.specs.declared.operators.PrefixOperator.{PrefixOperator}
use Rattle.nss_tree.specs.declared.operators.PrefixOperator.TheVariants as pre
use Rattle.nss_tree.specs.Statements.{block, empty, expression, if_only, if_else, while_loop, do_loop, for_loop, switch, break_off, continue_on, return_from, declaration, case_label, default_label, no_stmt, more_stmts}
use Rattle.nss_tree.specs.Units.{global, function}
use Rattle.nwq_value.specs.declared.value.Ty.{Ty}
use Rattle.nwq_value.specs.declared.engine.Const.{Const}
use Rattle.ncs_code.specs.Spelling.{op_size}
use Rattle.ncs_emit.specs.Labelled.{line_size}
use Rattle.typing_rules.specs.declared.places.Place.{Place}
use Rattle.typing_rules.specs.declared.places.Place.TheVariants.{Local, Global, Const as IsConst}
use Rattle.typing_rules.specs.declared.places.Callee.{Callee}
use Rattle.typing_rules.specs.declared.places.Callee.TheVariants.{Unit as InUnit, Engine}
use Rattle.typing_rules.specs.declared.places.EntryPoint.{EntryPoint}
use Rattle.typing_rules.specs.declared.places.EntryPoint.TheVariants.{Main, Conditional}
use Rattle.typing_rules.specs.Typed.{TypedExpr, TypedExprs, TypedName, TypedStmt, TypedStmts, TypedParameter, TypedItem, TypedUnit, literal, name, call, member, prefix, postfix, binary, assign, no_typed, more_typed, type_of, is_place}
use Rattle.typing_rules.specs.Cells.{cell_types, cells, is_captured}
use Rattle.emission_rules.specs.Layout.{Layout, layout_of, params_cells, declared_cells, all_declared_cells}
use Rattle.emission_rules.specs.Operations.{constant, operation}
use Rattle.emission_rules.specs.Expressions.{Shortcut, WhereTrue, WhereFalse, Never, shortcut, is_set, result_room}
use Rattle.emission_rules.specs.Units.{has_globals}
use Rattle.code_places.specs.declared.frame.Frame.{Frame}
use Rattle.code_places.specs.Numbers.{Number, next, behind, behind_if, behind_stmt, behind_parameters, behind_item}

-- an instruction: how many bytes it takes, and whose it is
pub record Mark : Type 0 where
  pub size : ℕ
  pub node : Number

abbrev pub mark : ℕ → Number → Mark
mark size node = record { size = size; node = node }

abbrev pub mark_if : Bool → ℕ → Number → List Mark
mark_if true size k = mark size k ∷ []
mark_if false size k = []

-- cells are dropped by one instruction, where there are any
abbrev pub some : ℕ → Bool
some zero = false
some (suc count) = true

abbrev pub dropped_marks : Number → Bool → List Mark
dropped_marks k any = mark_if any 6 k

abbrev pub started_marks : Number → List Ty → List Mark
started_marks k ts = map (λ t. mark 2 k) ts

abbrev pub constant_mark : Number → Const → Mark
constant_mark k c = mark (line_size (constant c)) k

-- the last one first
abbrev pub constants_marks : Number → List Const → List Mark
constants_marks k [] = []
constants_marks k (c ∷ cs) = constants_marks k cs ++ constant_mark k c ∷ []

-- ---- nodes, by the marks of their parts

abbrev pub name_mark : Number → Place → Mark
name_mark k (Local n) = mark 8 k
name_mark k (Global n) = mark 8 k
name_mark k (IsConst c) = constant_mark k c

abbrev pub member_marks : Number → Bool → List Mark → List Mark
member_marks k place value = (if place then [] else value) ++ mark 8 k ∷ []

-- before the value, and behind it
abbrev pub before_prefix : Number → PrefixOperator → Bool → List Mark
before_prefix k pre.Minus place = []
before_prefix k pre.Complement place = []
before_prefix k pre.Not place = []
before_prefix k pre.Increment place = mark_if place 6 k
before_prefix k pre.Decrement place = mark_if place 6 k

abbrev pub behind_prefix : Number → PrefixOperator → List Mark
behind_prefix k pre.Minus = mark 2 k ∷ []
behind_prefix k pre.Complement = mark 2 k ∷ []
behind_prefix k pre.Not = mark 2 k ∷ []
behind_prefix k pre.Increment = []
behind_prefix k pre.Decrement = []

-- between the operands, where the operation has this size
abbrev pub between : Number → Shortcut → ℕ → List Mark
between k WhereTrue size = mark 8 k ∷ mark 6 k ∷ mark 6 k ∷ mark size k ∷ mark 6 k ∷ []
between k WhereFalse size = mark 8 k ∷ mark 6 k ∷ []
between k Never size = []

abbrev pub binary_marks : Number → Shortcut → ℕ → List Mark → List Mark → List Mark
binary_marks k s size left right = left ++ (between k s size ++ (right ++ mark size k ∷ []))

-- `=` doesn't read its place first
abbrev pub assign_marks : Number → Bool → Bool → List Mark → List Mark
assign_marks k set place value = mark_if (not set && place) 8 k
    ++ (value ++ (mark_if (not set) 2 k ++ mark_if place 8 k))

abbrev pub call_mark : Number → Callee → Mark
call_mark k (InUnit f) = mark 6 k
call_mark k (Engine routine) = mark 5 k

-- an action is the call's but for its own code
abbrev pub argument_marks : Number → Bool → List Mark → List Mark
argument_marks k captured value = mark_if captured 10 k
    ++ (mark_if captured 6 k ++ (value ++ mark_if captured 2 k))

-- ---- expressions, with k the number of the node

abbrev mutual
  pub marks : Layout → Number → TypedExpr → List Mark
  marks l k (literal c) = constant_mark k c ∷ []
  marks l k (name t p) = name_mark k p ∷ []
  marks l k (call t f xs ks) = started_marks k (result_room l f t)
      ++ (constants_marks k ks ++ (marks_all l k (next k) xs ++ call_mark k f ∷ []))
  marks l k (member t x offset) = member_marks k (is_place x) (marks l (next k) x)
  marks l k (prefix t o x) = before_prefix k o (is_place x)
      ++ (marks l (next k) x ++ behind_prefix k o)
  marks l k (postfix t o x) = marks l (next k) x ++ mark_if (is_place x) 6 k
  marks l k (binary t o x y) =
      binary_marks k (shortcut o) (op_size (operation o (type_of x) (cells l.structs (type_of x))))
      (marks l (next k) x) (marks l (behind (next k) x) y)
  marks l k (assign t o x y) =
      assign_marks k (is_set o) (is_place x) (marks l (behind (next k) x) y)

  -- the arguments of a call, the last one first, with k the number of the first one
  pub marks_all : Layout → Number → Number → TypedExprs → List Mark
  marks_all l of k no_typed = []
  marks_all l of k (more_typed x xs) = marks_all l of (behind k x) xs
      ++ argument_marks of (is_captured x) (marks l k x)

-- ---- statements

-- the frame of a function whose parameters have cells, or none
abbrev pub first_frame : Bool → Frame
first_frame any = record { filled = any; breaks = any; continues = any }

-- behind a declaration of cells, or none
abbrev pub deeper : Frame → Bool → Frame
deeper f true = record { filled = true; breaks = true; continues = true }
deeper f false = f

abbrev pub loop_frame : Frame → Frame
loop_frame f = record { filled = f.filled; breaks = false; continues = false }

-- the selector lies on top
abbrev pub switch_frame : Frame
switch_frame = record { filled = true; breaks = false; continues = true }

-- parts of the statement `of` that may be absent
abbrev pub evaluated_marks : Layout → Number → Number → Option TypedExpr → List Mark
evaluated_marks l of k None = []
evaluated_marks l of k (Some e) = marks l k e
    ++ dropped_marks of (some (cells l.structs (type_of e)))

abbrev pub tested_marks : Layout → Number → Number → Option TypedExpr → List Mark
tested_marks l of k None = mark 6 of ∷ []
tested_marks l of k (Some e) = marks l k e

abbrev pub returned_marks : Layout → Bool → Number → Option TypedExpr → List Mark
returned_marks l filled k None = dropped_marks k filled
returned_marks l filled k (Some e) = marks l (next k) e
    ++ mark 8 k ∷ dropped_marks k (filled || some (cells l.structs (type_of e)))

abbrev pub initial_marks : Layout → Number → Ty → Option TypedExpr → List Mark
initial_marks l k t None = started_marks k (cell_types l.structs t)
initial_marks l k t (Some e) = marks l (next k) e

abbrev pub names_marks : Layout → Number → List TypedName → List Mark
names_marks l k [] = []
names_marks l k (d ∷ ds) = initial_marks l k d.name.ty d.value
    ++ names_marks l (behind_if (next k) d.value) ds

-- the tests of a switch are the switch's
abbrev pub test_marks : Number → TypedStmt → List Mark
test_marks of (case_label n c) = mark 8 of ∷ constant_mark of c ∷ mark 2 of ∷ mark 6 of ∷ []
test_marks of _ = []

abbrev pub tests_marks : Number → TypedStmts → List Mark
tests_marks of no_stmt = []
tests_marks of (more_stmts x xs) = test_marks of x ++ tests_marks of xs

abbrev mutual
  pub stmt_marks : Layout → Frame → Number → TypedStmt → List Mark
  stmt_marks l f k (block n xs) = stmts_marks l f (next k) xs
      ++ dropped_marks k (some (all_declared_cells l.structs xs))
  stmt_marks l f k (empty n) = []
  stmt_marks l f k (expression n e) = marks l (next k) e
      ++ dropped_marks k (some (cells l.structs (type_of e)))
  stmt_marks l f k (if_only n e a) = marks l (next k) e
      ++ mark 6 k ∷ stmt_marks l f (behind (next k) e) a
  stmt_marks l f k (if_else n e a b) = marks l (next k) e
      ++ mark 6 k ∷ (stmt_marks l f (behind (next k) e) a
      ++ mark 6 k ∷ stmt_marks l f (behind_stmt (behind (next k) e) a) b)
  stmt_marks l f k (while_loop n e a) = marks l (next k) e
      ++ mark 6 k ∷ (stmt_marks l (loop_frame f) (behind (next k) e) a ++ mark 6 k ∷ [])
  stmt_marks l f k (do_loop n a e) = stmt_marks l (loop_frame f) (next k) a
      ++ (marks l (behind_stmt (next k) a) e ++ mark 6 k ∷ [])
  stmt_marks l f k (for_loop n x y z a) =
      evaluated_marks l k (next k) x
      ++ (tested_marks l k (behind_if (next k) x) y
      ++ mark 6 k ∷ (stmt_marks l (loop_frame f)
      (behind_if (behind_if (behind_if (next k) x) y) z) a
      ++ (evaluated_marks l k (behind_if (behind_if (next k) x) y) z ++ mark 6 k ∷ [])))
  stmt_marks l f k (switch n e xs) =
      marks l (next k) e
      ++ (tests_marks k xs
      ++ mark 6 k ∷ (stmts_marks l switch_frame (behind (next k) e) xs
      ++ (dropped_marks k (some (all_declared_cells l.structs xs)) ++ mark 6 k ∷ [])))
  stmt_marks l f k (break_off n) = dropped_marks k f.breaks ++ mark 6 k ∷ []
  stmt_marks l f k (continue_on n) = dropped_marks k f.continues ++ mark 6 k ∷ []
  stmt_marks l f k (return_from n e) = returned_marks l f.filled k e ++ mark 2 k ∷ []
  stmt_marks l f k (declaration n t xs) = names_marks l (next k) xs
  stmt_marks l f k (case_label n c) = []
  stmt_marks l f k (default_label n) = []

  pub stmts_marks : Layout → Frame → Number → TypedStmts → List Mark
  stmts_marks l f k no_stmt = []
  stmts_marks l f k (more_stmts x xs) = stmt_marks l f k x
      ++ stmts_marks l (deeper f (some (declared_cells l.structs x))) (behind_stmt k x) xs

-- ---- units

abbrev pub function_marks : Layout → Number → List TypedParameter → TypedStmts → List Mark
function_marks l k ps body =
    stmts_marks l (first_frame (some (params_cells l.structs ps)))
    (behind_parameters (next k) ps) body
    ++ (dropped_marks k (some (all_declared_cells l.structs body))
    ++ (dropped_marks k (some (params_cells l.structs ps)) ++ mark 2 k ∷ []))

-- of one item: only functions with a body have such code
abbrev pub item_marks : Layout → Number → TypedItem → List Mark
item_marks l k (function n t x ps (Some body)) = function_marks l k ps body
item_marks l k _ = []

abbrev pub functions_marks : Layout → Number → List TypedItem → List Mark
functions_marks l k [] = []
functions_marks l k (i ∷ is) = item_marks l k i ++ functions_marks l (behind_item k i) is

abbrev pub is_global : TypedItem → Bool
is_global (global n t ds) = true
is_global _ = false

abbrev pub global_marks : Layout → Number → TypedItem → List Mark
global_marks l k (global n t ds) = names_marks l (next k) ds
global_marks l k _ = []

abbrev pub globals_marks : Layout → Number → List TypedItem → List Mark
globals_marks l k [] = []
globals_marks l k (i ∷ is) = global_marks l k i ++ globals_marks l (behind_item k i) is

abbrev pub entry_marks : EntryPoint → List Mark
entry_marks (Main f) = mark 6 None ∷ []
entry_marks (Conditional f) = mark 2 None ∷ mark 6 None ∷ mark 6 None ∷ []

abbrev pub start_marks : Layout → Bool → List TypedItem → EntryPoint → List Mark
start_marks l false items entry = entry_marks entry ++ mark 2 None ∷ []
start_marks l true items entry =
    mark 6 None ∷ mark 2 None
    ∷ (globals_marks l (Some 0) items
    ++ mark 2 None ∷ (entry_marks entry
    ++ mark 2 None ∷ (dropped_marks None (some l.globals) ++ mark 2 None ∷ [])))

abbrev pub unit_marks : TypedUnit → List Mark
unit_marks u = start_marks (layout_of u) (has_globals u.items) u.items u.entry
    ++ functions_marks (layout_of u) (Some 0) u.items
