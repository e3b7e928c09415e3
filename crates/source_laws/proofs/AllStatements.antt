-- Every statement, where each of its expressions does what it means.
use Rattle.std.proofs.Common.{ℕ, List, [], ◌∷◌, Option, None, Some}
use Rattle.nss_tree.specs.Statements.{block, empty, expression, if_only, if_else, while_loop, do_loop, for_loop, switch, break_off, continue_on, return_from, declaration, case_label, default_label}
use Rattle.nss_tree.specs.Statements.{no_stmt, more_stmts}
use Rattle.nwq_value.specs.declared.value.Ty.{Ty}
use Rattle.typing_rules.specs.Typed.{TypedExpr, TypedName, TypedStmt, TypedStmts}
use Rattle.saved_state.specs.declared.saved.Saved.{Saved}
use Rattle.world_rules.specs.Pure.{CellLookup}
use Rattle.machine_rules.specs.Laws.{EqualityIsTested}
use Rattle.source_meaning.specs.Evaluation.{Deferred}
use Rattle.source_meaning.specs.Expressions.{Caller}
use Rattle.source_meaning.specs.Scripts.{Function}
use Rattle.source_laws.specs.Ledger.{MachineHost}
use Rattle.source_laws.specs.Kept.{Site, IsListed}
use Rattle.source_laws.specs.Carries.{Carries}
use Rattle.source_laws.specs.Simulation.{Executor, ExprRuns}
use Rattle.source_laws.specs.StatementsRun.{StmtRuns}
use Rattle.source_laws.specs.Laws.{CallsNothing, CallsEngine, OfSome, OfNames, OfEach, OfAll, StatementsRun, EngineStatementsRun}
use Rattle.source_laws.proofs.Induction.{quiet_runs, engine_runs_in}
use Rattle.source_laws.proofs.Statements.{MaybeRuns, EachName, DoAll, none_do, more_do, block_does, empty_does, expression_does, if_only_does, if_else_does, while_does, do_does, for_does, break_does}
use Rattle.source_laws.proofs.Statements.{continue_does, return_nothing_does, return_value_does, declaration_does, case_does, default_does}
use Rattle.source_laws.proofs.Switches.{EachRest, switch_does}

-- what holds of every expression holds of those of a statement
module _ (P : TypedExpr → Type 0) (all : (e : TypedExpr) → P e) where
  some_too : (o : Option TypedExpr) → OfSome P o
  some_too None = tt
  some_too (Some e) = all e

  names_too : (ds : List TypedName) → OfNames P ds
  names_too [] = tt
  names_too (d ∷ ds) = (some_too d.value, names_too ds)

  mutual
    each_too : (s : TypedStmt) → OfEach P s
    each_too (block m xs) = all_too xs
    each_too (empty m) = tt
    each_too (expression m e) = all e
    each_too (if_only m e a) = (all e, each_too a)
    each_too (if_else m e a b) = (all e, each_too a, each_too b)
    each_too (while_loop m e a) = (all e, each_too a)
    each_too (do_loop m a e) = (each_too a, all e)
    each_too (for_loop m e y z a) = (some_too e, some_too y, some_too z, each_too a)
    each_too (switch m e xs) = (all e, all_too xs)
    each_too (break_off m) = tt
    each_too (continue_on m) = tt
    each_too (return_from m e) = some_too e
    each_too (declaration m t ds) = names_too ds
    each_too (case_label m k) = tt
    each_too (default_label m) = tt

    pub all_too : (ss : TypedStmts) → OfAll P ss
    all_too no_stmt = tt
    all_too (more_stmts s ss) = (each_too s, all_too ss)

module _ (host : MachineHost) (R : Saved → Deferred → Type 0) (tested : EqualityIsTested) (x : Site) (listed : IsListed host x)
    (tables : CellLookup) (execute : Executor) (functions : List Function) (caller : Caller) (most : ℕ) (result : Ty)
    (P : TypedExpr → Type 0) (runs : (e : TypedExpr) → P e → ExprRuns host R x tables execute functions caller most e) where
  some_of : (o : Option TypedExpr) → OfSome P o → MaybeRuns host R x listed tables execute functions caller most result o
  some_of None h = tt
  some_of (Some e) h = runs e h

  names_of : (ds : List TypedName) → OfNames P ds → EachName host R x listed tables execute functions caller most result ds
  names_of [] h = tt
  names_of (d ∷ ds) h = (some_of d.value h.0, names_of ds h.1)

  mutual
    pub stmt_does : (s : TypedStmt) → OfEach P s → StmtRuns host R x tables execute functions caller most result s
    stmt_does (block m xs) h = block_does host R x listed tables execute functions caller most result m xs (stmts_do xs h)
    stmt_does (empty m) h = empty_does host R x listed tables execute functions caller most result m
    stmt_does (expression m e) h = expression_does host R x listed tables execute functions caller most result m e (runs e h)
    stmt_does (if_only m e a) h = if_only_does host R x listed tables execute functions caller most result m e a (runs e h.0) (stmt_does a h.1)
    stmt_does (if_else m e a b) h = if_else_does host R x listed tables execute functions caller most result m e a b (runs e h.0) (stmt_does a h.1) (stmt_does b h.2)
    stmt_does (while_loop m e a) h = while_does host R x listed tables execute functions caller most result m e a (runs e h.0) (stmt_does a h.1)
    stmt_does (do_loop m a e) h = do_does host R x listed tables execute functions caller most result m a e (stmt_does a h.0) (runs e h.1)
    stmt_does (for_loop m e y z a) h = for_does host R x listed tables execute functions caller most result m e y z a (some_of e h.0) (some_of y h.1) (some_of z h.2) (stmt_does a h.3)
    stmt_does (switch m e xs) h = switch_does host R tested x listed tables execute functions caller most result m e xs (runs e h.0) (rests_do xs h.1)
    stmt_does (break_off m) h = break_does host R x listed tables execute functions caller most result m
    stmt_does (continue_on m) h = continue_does host R x listed tables execute functions caller most result m
    stmt_does (return_from m None) h = return_nothing_does host R x listed tables execute functions caller most result m
    stmt_does (return_from m (Some e)) h = return_value_does host R x listed tables execute functions caller most result m e (runs e h)
    stmt_does (declaration m t ds) h = declaration_does host R x listed tables execute functions caller most result m t ds (names_of ds h)
    stmt_does (case_label m k) h = case_does host R x listed tables execute functions caller most result m k
    stmt_does (default_label m) h = default_does host R x listed tables execute functions caller most result m

    pub stmts_do : (ss : TypedStmts) → OfAll P ss → DoAll host R x listed tables execute functions caller most result ss
    stmts_do no_stmt h = none_do host R x listed tables execute functions caller most result
    stmts_do (more_stmts s ss) h = more_do host R x listed tables execute functions caller most result s ss (stmt_does s h.0) (stmts_do ss h.1)

    rests_do : (ss : TypedStmts) → OfAll P ss → EachRest host R tested x listed tables execute functions caller most result ss
    rests_do no_stmt h = tt
    rests_do (more_stmts s ss) h = (block_does host R x listed tables execute functions caller most result 0 ss (stmts_do ss h.1), rests_do ss h.1)

pub statements_run : EqualityIsTested → StatementsRun
statements_run tested s host x tables execute fs caller most result a listed h =
    stmt_does host (Carries s) tested x listed tables execute fs caller most result CallsNothing (quiet_runs host (Carries s) tested x listed tables execute fs caller most) a h

pub engine_statements_run : EqualityIsTested → EngineStatementsRun
engine_statements_run tested s host x tables execute fs caller most result a listed engine_runs captures executes h =
    stmt_does host (Carries s) tested x listed tables execute fs caller most result CallsEngine
    (engine_runs_in host (Carries s) tested x listed tables execute fs caller most engine_runs captures executes) a h
