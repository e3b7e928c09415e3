-- Every expression in which nothing is called.
use Rattle.std.proofs.Common.{ℕ, List}
use Rattle.typing_rules.specs.declared.places.Place.TheVariants.{Local, Global, Const as IsConst}
use Rattle.typing_rules.specs.declared.places.Callee.TheVariants.{Unit as InUnit, Engine}
use Rattle.typing_rules.specs.Typed.{TypedExpr, TypedExprs, literal, name, call, member, prefix, postfix, binary, assign, no_typed, more_typed}
use Rattle.saved_state.specs.declared.saved.Saved.{Saved}
use Rattle.world_rules.specs.Pure.{CellLookup}
use Rattle.machine_rules.specs.Laws.{EqualityIsTested}
use Rattle.source_meaning.specs.Evaluation.{Deferred}
use Rattle.source_meaning.specs.Expressions.{Caller}
use Rattle.source_meaning.specs.Scripts.{Function}
use Rattle.source_laws.specs.Ledger.{MachineHost}
use Rattle.source_laws.specs.Kept.{Site, IsListed}
use Rattle.source_laws.specs.Laws.{CallsNothing, ExpressionsRun, CallsEngine, AllCallEngine, EngineCallsRun}
use Rattle.source_laws.specs.Carries.{Carries}
use Rattle.source_laws.specs.Calling.{EngineRuns, CapturesCarry, ExecutesRun}
use Rattle.source_laws.specs.Simulation.{Executor, ExprRuns}
use Rattle.source_laws.proofs.Expressions.{literal_runs, local_runs, global_runs, constant_runs, member_runs, prefix_runs, postfix_runs, binary_runs, assign_runs}
use Rattle.source_laws.proofs.EngineCalls.{EachRuns, engine_call_runs}

module _ (host : MachineHost) (R : Saved → Deferred → Type 0) (tested : EqualityIsTested) (x : Site) (listed : IsListed host x)
    (tables : CellLookup) (execute : Executor) (functions : List Function) (caller : Caller) (most : ℕ) where
  pub quiet_runs : (e : TypedExpr) → CallsNothing e → ExprRuns host R x tables execute functions caller most e
  quiet_runs (literal k) h = literal_runs host R tested x listed tables execute functions caller most k
  quiet_runs (name t (Local n)) h = local_runs host R tested x listed tables execute functions caller most t n
  quiet_runs (name t (Global n)) h = global_runs host R tested x listed tables execute functions caller most t n
  quiet_runs (name t (IsConst k)) h = constant_runs host R tested x listed tables execute functions caller most t k
  quiet_runs (call t f es ks) h = absurd h
  quiet_runs (member t e before) h = member_runs host R tested x listed tables execute functions caller most t e before (quiet_runs e h)
  quiet_runs (prefix t o e) h = prefix_runs host R tested x listed tables execute functions caller most t o e (quiet_runs e h)
  quiet_runs (postfix t o e) h = postfix_runs host R tested x listed tables execute functions caller most t o e
  quiet_runs (binary t o d e) h = binary_runs host R tested x listed tables execute functions caller most t o d e (quiet_runs d h.0) (quiet_runs e h.1)
  quiet_runs (assign t o d e) h = assign_runs host R tested x listed tables execute functions caller most t o d e (quiet_runs e h.1)

  module _ (engine_runs : EngineRuns host R tables) (captures : CapturesCarry host R x tables execute functions) (executes : ExecutesRun host R x execute most) where
    mutual
      pub engine_runs_in : (e : TypedExpr) → CallsEngine e → ExprRuns host R x tables execute functions caller most e
      engine_runs_in (literal k) h = literal_runs host R tested x listed tables execute functions caller most k
      engine_runs_in (name t (Local n)) h = local_runs host R tested x listed tables execute functions caller most t n
      engine_runs_in (name t (Global n)) h = global_runs host R tested x listed tables execute functions caller most t n
      engine_runs_in (name t (IsConst k)) h = constant_runs host R tested x listed tables execute functions caller most t k
      engine_runs_in (call t (InUnit f) es ks) h = absurd h
      engine_runs_in (call t (Engine n) es ks) h =
          engine_call_runs host R tested x listed tables execute functions caller most t n es ks engine_runs captures executes (each_runs es h)
      engine_runs_in (member t e before) h = member_runs host R tested x listed tables execute functions caller most t e before (engine_runs_in e h)
      engine_runs_in (prefix t o e) h = prefix_runs host R tested x listed tables execute functions caller most t o e (engine_runs_in e h)
      engine_runs_in (postfix t o e) h = postfix_runs host R tested x listed tables execute functions caller most t o e
      engine_runs_in (binary t o d e) h = binary_runs host R tested x listed tables execute functions caller most t o d e (engine_runs_in d h.0) (engine_runs_in e h.1)
      engine_runs_in (assign t o d e) h = assign_runs host R tested x listed tables execute functions caller most t o d e (engine_runs_in e h.1)

      each_runs : (es : TypedExprs) → AllCallEngine es → EachRuns host R tested x listed tables execute functions caller most es
      each_runs no_typed h = tt
      each_runs (more_typed e es) h = (λ plain. engine_runs_in e (h.0 plain), each_runs es h.1)

pub engine_calls_run : EqualityIsTested → EngineCallsRun
engine_calls_run tested s host x tables execute fs caller most e listed engine_runs captures executes h =
    engine_runs_in host (Carries s) tested x listed tables execute fs caller most engine_runs captures executes e h

pub expressions_run : EqualityIsTested → ExpressionsRun
expressions_run tested s host x tables execute fs caller most e listed h = quiet_runs host (Carries s) tested x listed tables execute fs caller most e h
