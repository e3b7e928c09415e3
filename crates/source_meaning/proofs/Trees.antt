-- Small typed trees, and plays of them: what the worked examples are made of.
use Rattle.std.proofs.Common.{ℕ, pos, List, [], ◌∷◌, Option, None, Some}
use Rattle.std.specs.Prelude.{codes}
use Prim.Native.String.{String}
use Rattle.nss_tree.specs.declared.operators.BinaryOperator.{BinaryOperator}
use Rattle.nss_tree.specs.declared.operators.AssignOperator.{AssignOperator}
use Rattle.nss_tree.specs.declared.operators.AssignOperator.TheVariants as asg
use Rattle.nss_tree.specs.Statements as s
use Rattle.nss_tree.specs.Statements.{no_stmt, more_stmts}
use Rattle.nss_tree.specs.Units as unit
use Rattle.area_rules.specs.Area.{PlainArea}
use Rattle.area_rules.specs.Objects.{AreaObject}
use Rattle.nwq_value.specs.HeaderTable.{header_table}
use Rattle.nwq_value.specs.declared.value.Ty.{Ty}
use Rattle.nwq_value.specs.declared.value.Ty.TheVariants as t
use Rattle.nwq_value.specs.declared.value.Value.TheVariants.{Int}
use Rattle.nwq_value.specs.declared.engine.Const.TheVariants as c
use Rattle.typing_rules.specs.declared.places.Place.TheVariants.{Local, Global}
use Rattle.typing_rules.specs.declared.places.Callee.TheVariants.{Unit as InUnit, Engine}
use Rattle.typing_rules.specs.declared.places.EntryPoint.{EntryPoint}
use Rattle.typing_rules.specs.declared.places.EntryPoint.TheVariants.{Main}
use Rattle.typing_rules.specs.Typed.{TypedExpr, TypedExprs, TypedName, TypedStmt, TypedStmts, TypedParameter, TypedItem, TypedUnit, no_typed, more_typed}
use Rattle.typing_rules.specs.Typed as e
use Rattle.world_rules.specs.Pure.{CellLookup}
use Rattle.world_rules.specs.Trace.{trace_text}
use Rattle.world_rules.specs.Turns.{Planned, new_world}
use Rattle.world_rules.specs.World.{World}
use Rattle.world_rules.specs.Plays.{Played}
use Rattle.source_meaning.specs.Evaluation.{Deferred, Progress, Gives, no_variables, with_variable}
use Rattle.source_meaning.specs.Expressions.{Running}
use Rattle.source_meaning.specs.Scripts.{Listed, Setting}
use Rattle.source_meaning.specs.Plays.{source_play}

-- ---- trees

abbrev pub stmts : List TypedStmt → TypedStmts
stmts [] = no_stmt
stmts (x ∷ xs) = more_stmts x (stmts xs)

abbrev pub args : List TypedExpr → TypedExprs
args [] = no_typed
args (x ∷ xs) = more_typed x (args xs)

abbrev pub int : ℕ → TypedExpr
int n = e.literal (c.Int (pos n))

abbrev pub text : String → TypedExpr
text bytes = e.literal (c.Text (codes bytes))

abbrev pub local : ℕ → TypedExpr
local n = e.name t.Int (Local n)

abbrev pub global : ℕ → TypedExpr
global n = e.name t.Int (Global n)

abbrev pub two : BinaryOperator → TypedExpr → TypedExpr → TypedExpr
two o x y = e.binary t.Int o x y

abbrev pub assign : AssignOperator → TypedExpr → TypedExpr → TypedExpr
assign o x y = e.assign t.Int o x y

-- a call of a routine with this result, and of a function of the unit
abbrev pub routine : Ty → ℕ → List TypedExpr → TypedExpr
routine y n xs = e.call y (Engine n) (args xs) []

abbrev pub function_call : Ty → ℕ → List TypedExpr → TypedExpr
function_call y n xs = e.call y (InUnit n) (args xs) []

abbrev pub print : TypedExpr → TypedExpr
print x = routine t.Void 4 (x ∷ [])

abbrev pub print_string : String → TypedExpr
print_string bytes = routine t.Void 1 (text bytes ∷ [])

abbrev pub delay : TypedExpr → TypedExpr → TypedExpr
delay ms action = routine t.Void 7 (ms ∷ action ∷ [])

-- the script of a name, as the target or as self
abbrev pub execute : String → TypedExpr → TypedExpr
execute name target = routine t.Void 8 (text name ∷ target ∷ [])

abbrev pub execute_here : String → TypedExpr
execute_here name = e.call t.Void (Engine 8) (args (text name ∷ [])) (c.SelfObject ∷ [])

abbrev pub does : TypedExpr → TypedStmt
does x = s.expression 0 x

abbrev pub sets : TypedExpr → TypedExpr → TypedStmt
sets x y = does (assign asg.Set x y)

abbrev pub declared : ℕ → Ty → Option TypedExpr → TypedName
declared n y v = record { token = 0; name = record { number = n; ty = y }; value = v }

abbrev pub declare : ℕ → Ty → Option TypedExpr → TypedStmt
declare n y v = s.declaration 0 y (declared n y v ∷ [])

-- ---- units

abbrev pub param : ℕ → Ty → TypedParameter
param n y = record { token = 0; ty = y; name = record { number = n; ty = y }; default = None }

abbrev pub global_of : ℕ → Option TypedExpr → TypedItem
global_of n v = unit.global 0 t.Int (declared n t.Int v ∷ [])

abbrev pub function : Ty → List TypedParameter → List TypedStmt → TypedItem
function y ps body = unit.function 0 y (codes "f") ps (Some (stmts body))

abbrev pub unit_of : List TypedItem → EntryPoint → TypedUnit
unit_of is start = record { items = is; entry = start }

abbrev pub only_main : List TypedStmt → TypedUnit
only_main body = unit_of (function t.Void [] body ∷ []) (Main 0)

-- ---- plays

-- no table has a cell
abbrev pub no_cell : CellLookup
no_cell name column row = []

abbrev pub listed : String → TypedUnit → Listed
listed name u = record { name = codes name; unit = u }

abbrev pub setting : List Listed → Setting
setting scripts = record { table = header_table; tables = no_cell; scripts = scripts }

abbrev pub creature : String → AreaObject
creature tag = record { tag = codes tag; vars = []; scripts = [] }

abbrev pub area_of : PlainArea → List AreaObject → PlainArea
area_of area objects = record area { objects = objects }

abbrev pub start_of : ℕ → String → Planned
start_of object name = record { due = 0; object = object; script = codes name }

abbrev pub begins : PlainArea → List AreaObject → ℕ → String → World Deferred
begins area objects object name = new_world (area_of area objects) [] (start_of object name ∷ []) 2

-- the play of one start of the first script, as an object of an area
abbrev pub played : List Listed → PlainArea → List AreaObject → ℕ → String → ℕ → Played Deferred
played scripts area objects object name n = source_play (setting scripts) n 9 60000 (begins area objects object name)

-- the script `p` alone, over the empty area, with at most n steps in an entry
abbrev pub alone : TypedUnit → ℕ → PlainArea → Played Deferred
alone u n area = played (listed "p" u ∷ []) area [] 0 "p" n

abbrev pub printed : Played Deferred → List ℕ
printed p = trace_text p.last.trace

-- ---- single expressions and statements

-- a script that runs alone, as object 0
abbrev pub here : Running
here = record { table = header_table; tables = no_cell; structs = []; script = 0; self = 0; execute = λ name target p. Gives [] p }

-- before ten steps, where the local 0 holds 7 and the global 0 holds 40
abbrev pub begun : World Deferred → Progress
begun w = record {
  left = 10;
  globals = with_variable no_variables 0 (Int (pos 40) ∷ []);
  locals = with_variable no_variables 0 (Int (pos 7) ∷ []);
  world = w;
}
