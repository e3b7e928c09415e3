-- What is promised of meaning and code.
use Rattle.std.specs.Prelude.{◌≡◌, ℕ, List, [], ◌∷◌, Option, None, Some, false, slice_get}
use Rattle.nss_tree.specs.Statements.{block, empty, expression, if_only, if_else, while_loop, do_loop, for_loop, switch, break_off, continue_on, return_from, declaration, case_label, default_label, no_stmt, more_stmts}
use Rattle.nwq_value.specs.declared.value.Ty.{Ty}
use Rattle.typing_rules.specs.declared.places.Callee.TheVariants.{Unit as InUnit, Engine}
use Rattle.typing_rules.specs.Typed.{TypedExpr, TypedExprs, TypedName, TypedStmt, TypedStmts, literal, name, call, member, prefix, postfix, binary, assign, no_typed, more_typed}
use Rattle.typing_rules.specs.Cells.{is_captured}
use Rattle.world_rules.specs.Pure.{CellLookup}
use Rattle.machine_rules.specs.Frames.{Frame}
use Rattle.source_meaning.specs.Expressions.{Caller}
use Rattle.source_meaning.specs.Scripts.{Function, Listed, Setting, functions}
use Rattle.source_laws.specs.Ledger.{MachineHost}
use Rattle.source_laws.specs.Kept.{Site, IsListed}
use Rattle.source_laws.specs.Carries.{Carries, unit_site}
use Rattle.source_laws.specs.Calling.{EngineRuns, CapturesCarry, ExecutesRun}
use Rattle.source_laws.specs.StatementsRun.{StmtRuns}
use Rattle.source_laws.specs.Simulation.{Executor, ExprRuns}

-- an expression in which nothing is called
abbrev pub CallsNothing : TypedExpr → Type 0
CallsNothing (literal k) = Unit {0}
CallsNothing (name t p) = Unit {0}
CallsNothing (call t f es ks) = ⊥
CallsNothing (member t e before) = CallsNothing e
CallsNothing (prefix t o e) = CallsNothing e
CallsNothing (postfix t o e) = CallsNothing e
CallsNothing (binary t o d e) = CallsNothing d × CallsNothing e
CallsNothing (assign t o d e) = CallsNothing d × CallsNothing e

-- The code of an expression in which nothing is called does what the expression means, with every
-- operator and every assignment: in any script, at any place, over any stack on which the variables
-- stand.
abbrev pub ExpressionsRun : Type 0
ExpressionsRun =
    (s : Setting) (host : MachineHost) (x : Site) (tables : CellLookup) (execute : Executor)
    (fs : List Function) (caller : Caller) (most : ℕ) (e : TypedExpr)
    → IsListed host x → CallsNothing e → ExprRuns host (Carries s) x tables execute fs caller most e

-- ---- calls of the engine

-- an expression in which no function of the unit is called; an action that is captured may call one
abbrev mutual
  pub CallsEngine : TypedExpr → Type 0
  CallsEngine (literal k) = Unit {0}
  CallsEngine (name t p) = Unit {0}
  CallsEngine (call t (InUnit f) es ks) = ⊥
  CallsEngine (call t (Engine n) es ks) = AllCallEngine es
  CallsEngine (member t e before) = CallsEngine e
  CallsEngine (prefix t o e) = CallsEngine e
  CallsEngine (postfix t o e) = CallsEngine e
  CallsEngine (binary t o d e) = CallsEngine d × CallsEngine e
  CallsEngine (assign t o d e) = CallsEngine d × CallsEngine e

  pub AllCallEngine : TypedExprs → Type 0
  AllCallEngine no_typed = Unit {0}
  AllCallEngine (more_typed e es) = (is_captured e ≡ false → CallsEngine e) × AllCallEngine es

-- So does the code of an expression that calls the engine, with defaults, and with an action that
-- is captured: where the engine answers as it should, states that are captured carry the calls, and
-- scripts that are run do what running them means.
abbrev pub EngineCallsRun : Type 0
EngineCallsRun =
    (s : Setting) (host : MachineHost) (x : Site) (tables : CellLookup) (execute : Executor)
    (fs : List Function) (caller : Caller) (most : ℕ) (e : TypedExpr)
    → IsListed host x → EngineRuns host (Carries s) tables
    → CapturesCarry host (Carries s) x tables execute fs
    → ExecutesRun host (Carries s) x execute most
    → CallsEngine e → ExprRuns host (Carries s) x tables execute fs caller most e

-- In a listed script the states that are captured carry the calls, with the values that globals and
-- variables in sight have then.
abbrev pub CapturesAreCarried : Type 0
CapturesAreCarried =
    (s : Setting) (host : MachineHost) (tables : CellLookup) (execute : Executor) (script self : ℕ)
    (waiting : List Frame) (l : Listed)
    → host.table ≡ s.table → slice_get s.scripts script ≡ Some l
    → CapturesCarry host (Carries s) (unit_site script l.unit self waiting) tables execute
    (functions l.unit.items)

-- ---- statements

-- something holds of each expression of a statement
module _ (P : TypedExpr → Type 0) where
  abbrev pub OfSome : Option TypedExpr → Type 0
  OfSome None = Unit {0}
  OfSome (Some e) = P e

  abbrev pub OfNames : List TypedName → Type 0
  OfNames [] = Unit {0}
  OfNames (d ∷ ds) = OfSome d.value × OfNames ds

  abbrev mutual
    pub OfEach : TypedStmt → Type 0
    OfEach (block m xs) = OfAll xs
    OfEach (empty m) = Unit {0}
    OfEach (expression m e) = P e
    OfEach (if_only m e a) = P e × OfEach a
    OfEach (if_else m e a b) = P e × OfEach a × OfEach b
    OfEach (while_loop m e a) = P e × OfEach a
    OfEach (do_loop m a e) = OfEach a × P e
    OfEach (for_loop m e y z a) = OfSome e × OfSome y × OfSome z × OfEach a
    OfEach (switch m e xs) = P e × OfAll xs
    OfEach (break_off m) = Unit {0}
    OfEach (continue_on m) = Unit {0}
    OfEach (return_from m e) = OfSome e
    OfEach (declaration m t ds) = OfNames ds
    OfEach (case_label m k) = Unit {0}
    OfEach (default_label m) = Unit {0}

    pub OfAll : TypedStmts → Type 0
    OfAll no_stmt = Unit {0}
    OfAll (more_stmts s ss) = OfEach s × OfAll ss

-- The code of a statement does what the statement means: declarations, loops and `switch` with
-- `break` and `continue`, and `return`. So where nothing is called.
abbrev pub StatementsRun : Type 0
StatementsRun =
    (s : Setting) (host : MachineHost) (x : Site) (tables : CellLookup) (execute : Executor)
    (fs : List Function) (caller : Caller) (most : ℕ) (result : Ty) (a : TypedStmt)
    → IsListed host x → OfEach CallsNothing a
    → StmtRuns host (Carries s) x tables execute fs caller most result a

-- and where the engine is called
abbrev pub EngineStatementsRun : Type 0
EngineStatementsRun =
    (s : Setting) (host : MachineHost) (x : Site) (tables : CellLookup) (execute : Executor)
    (fs : List Function) (caller : Caller) (most : ℕ) (result : Ty) (a : TypedStmt)
    → IsListed host x → EngineRuns host (Carries s) tables
    → CapturesCarry host (Carries s) x tables execute fs
    → ExecutesRun host (Carries s) x execute most
    → OfEach CallsEngine a → StmtRuns host (Carries s) x tables execute fs caller most result a
