-- A script that keeps what the law asks for.
use Rattle.std.proofs.Common.{◌≡◌, inl, inr, arith, ℕ, zero, suc, pos, List, [], ◌∷◌, Some, None, false, slice_get, refl, subst}
use Rattle.std.specs.Prelude.{codes}
use Rattle.nss_tree.specs.declared.operators.PostfixOperator.TheVariants as post
use Rattle.nss_tree.specs.declared.operators.BinaryOperator.{BinaryOperator}
use Rattle.nss_tree.specs.declared.operators.BinaryOperator.TheVariants as bin
use Rattle.nss_tree.specs.declared.operators.AssignOperator.TheVariants as asg
use Rattle.nss_tree.specs.Statements as s
use Rattle.nss_tree.specs.Units as unit
use Rattle.nwq_value.specs.declared.value.Ty.TheVariants as t
use Rattle.nwq_value.specs.declared.engine.Const.TheVariants as c
use Rattle.nwq_value.specs.declared.engine.Role.TheVariants.{World}
use Rattle.nwq_value.specs.declared.engine.Routine.{Routine}
use Rattle.nwq_value.specs.Engine.{EngineTable}
use Rattle.typing_rules.specs.declared.places.Place.TheVariants.{Local, Global}
use Rattle.typing_rules.specs.declared.places.Callee.TheVariants.{Unit as InUnit, Engine}
use Rattle.typing_rules.specs.declared.places.EntryPoint.TheVariants.{Main}
use Rattle.typing_rules.specs.Typed.{TypedExpr, TypedExprs, TypedName, TypedStmt, TypedStmts, TypedUnit, no_typed, more_typed, type_of}
use Rattle.typing_rules.specs.Typed as e
use Rattle.typing_rules.specs.Cells.{is_captured}
use Rattle.stack_shape.specs.Calls.{is_action, is_callable}
use Rattle.source_meaning.specs.Scripts.{Function, functions}
use Rattle.source_laws.specs.Fine.{IsArgument, CallsFunction, CallsRoutine, IsFine}
use Rattle.emission_laws.specs.WellTyped.{site, IsFineFunction, IsWellTyped}

abbrev stmts : List TypedStmt → TypedStmts
stmts [] = s.no_stmt
stmts (x ∷ xs) = s.more_stmts x (stmts xs)

abbrev args : List TypedExpr → TypedExprs
args [] = no_typed
args (x ∷ xs) = more_typed x (args xs)

abbrev int : ℕ → TypedExpr
int n = e.literal (c.Int (pos n))

abbrev local : ℕ → TypedExpr
local n = e.name t.Int (Local n)

abbrev declared : ℕ → TypedExpr → TypedName
declared n v = record { token = 0; name = record { number = n; ty = t.Int }; value = Some v }

abbrev print_routine : Routine
print_routine = record { name = codes "Print"; result = t.Void; params = record { ty = t.Int; default = None } ∷ []; role = World }

abbrev delay_routine : Routine
delay_routine = record { name = codes "Delay"; result = t.Void; params = record { ty = t.Int; default = None } ∷ record { ty = t.Action; default = None } ∷ []; role = World }

-- void Print(int n); void Delay(int time, action a);
abbrev header : EngineTable
header = record { routines = print_routine ∷ delay_routine ∷ []; constants = [] }

abbrev two : BinaryOperator → TypedExpr → TypedExpr → TypedExpr
two o x y = e.binary t.Int o x y

abbrev body : TypedStmts
body = stmts (
    s.while_loop 0 (two bin.Less (local 1) (e.name t.Int (Global 0))) (s.expression 0 (e.postfix t.Int post.Increment (local 1)))
    ∷ s.switch 0 (local 1) (stmts (
    s.case_label 0 (c.Int (pos 1)) ∷ s.return_from 0 (Some (local 1)) ∷ s.default_label 0 ∷ s.declaration 0 t.Int (declared 2 (int 2) ∷ [])
    ∷ s.expression 0 (e.assign t.Int asg.Set (local 1) (local 2)) ∷ []))
    ∷ s.return_from 0 (Some (e.call t.Int (InUnit 0) (args (two bin.Subtract (local 1) (int 1) ∷ [])) []))
    ∷ [])

abbrev main_body : TypedStmts
main_body = stmts (s.expression 0 (e.call t.Void (Engine 1) (args (
    int 1 ∷ e.call t.Void (Engine 0) (args (e.call t.Int (InUnit 0) (args (e.name t.Int (Global 0) ∷ [])) [] ∷ [])) [] ∷ [])) []) ∷ [])

-- int g = 1;
-- int f(int n) { while (n < g) n++; switch (n) { case 1: return n; default: int k = 2; n = k; }
-- return f(n - 1); } void main() { Delay(1, Print(f(g))); }
abbrev script : TypedUnit
script = record {
  items = unit.global 0 t.Int (declared 0 (int 1) ∷ [])
      ∷ unit.function 0 t.Int (codes "f") (record { token = 0; ty = t.Int; name = record { number = 1; ty = t.Int }; default = None } ∷ []) (Some body)
      ∷ unit.function 0 t.Void (codes "main") [] (Some main_body) ∷ [];
  entry = Main 1;
}

abbrev f : Function
f = record { result = t.Int; parameters = record { token = 0; ty = t.Int; name = record { number = 1; ty = t.Int }; default = None } ∷ []; body = body }

abbrev main : Function
main = record { result = t.Void; parameters = []; body = main_body }

-- ---- what is asked of it

abbrev Fine : List ℕ → TypedExpr → Type 0
Fine scope x = IsFine header (functions script.items) (site script) scope x

-- the parameter, in sight at once or behind another variable
parameter_fine : Fine (1 ∷ []) (local 1)
parameter_fine = (inl refl, refl, omega arith)

parameter_behind : Fine (2 ∷ 1 ∷ []) (local 1)
parameter_behind = (inr (inl refl), refl, omega arith)

inner_fine : Fine (2 ∷ 1 ∷ []) (local 2)
inner_fine = (inl refl, refl, omega arith)

global_fine : (scope : List ℕ) → Fine scope (e.name t.Int (Global 0))
global_fine scope = (inl refl, refl, omega arith, refl)

value_argument : (x : TypedExpr) → is_captured x ≡ false → is_action (type_of x) ≡ false → IsArgument (site script) x
value_argument x h a = record { made = λ g. absurd cc; value = λ g. a }

calls_f : (x : TypedExpr) → type_of x ≡ t.Int → CallsFunction (functions script.items) t.Int 0 (args (x ∷ [])) []
calls_f x typed = record {
  function = f;
  is = refl;
  result = refl;
  arguments = rw typed refl;
  values = (rw typed refl, tt);
}

f_fine : IsFineFunction header script f
f_fine = record {
  parameters = (refl, refl, tt);
  body = (
    (((parameter_fine, global_fine (1 ∷ []), refl), refl), (parameter_fine, refl, refl, refl), tt),
    (
      (
        (parameter_fine, refl),
        (refl, ((parameter_fine, refl, omega arith), (tt, ((refl, refl, (tt, refl), tt), ((parameter_behind, inner_fine, refl, refl), tt))))),
        (inl tt, (inl tt, (inl tt, (inr (refl, tt), (inl tt, tt))))),
      ),
      ((((calls_f (two bin.Subtract (local 1) (int 1)) refl, ((parameter_fine, tt, refl), value_argument _ refl refl, tt)), refl, omega arith), tt)),
    ),
  );
  switches = (tt, (((inl tt, (inl tt, (inl tt, (inr refl, (inl tt, tt))))), (refl, (tt, (tt, (tt, (tt, tt)))))), (tt, tt)));
}

-- the routine's number, and its parameters
print_called : (x : TypedExpr) → type_of x ≡ t.Int → CallsRoutine header (site script).layout.structs t.Void 0 (args (x ∷ [])) []
unfolding is_callable
print_called x typed = record {
  routine = print_routine;
  is = refl;
  result = refl;
  single = (refl, tt);
  callable = refl;
  arguments = rw typed refl;
  actions = omega arith;
}

delay_called : (x y : TypedExpr) → type_of x ≡ t.Int → type_of y ≡ t.Void → CallsRoutine header (site script).layout.structs t.Void 1 (args (x ∷ y ∷ [])) []
unfolding is_callable
delay_called x y typed captured = record {
  routine = delay_routine;
  is = refl;
  result = refl;
  single = (refl, (refl, tt));
  callable = refl;
  arguments = rw (typed, captured) refl;
  actions = omega arith;
}

main_fine : IsFineFunction header script main
main_fine =
    let call : TypedExpr = e.call t.Int (InUnit 0) (args (e.name t.Int (Global 0) ∷ [])) [] in
    record {
      parameters = tt;
      body = (
        (
          delay_called (int 1) (e.call t.Void (Engine 0) (args (call ∷ [])) []) refl refl,
          (
            tt,
            value_argument (int 1) refl refl,
            (
              (print_called call refl, ((calls_f (e.name t.Int (Global 0)) refl, (global_fine [], value_argument _ refl refl, tt)), value_argument call refl refl, tt)),
              record { made = λ g. refl; value = λ g. absurd cc },
              tt,
            ),
          ),
        ),
        tt,
      );
      switches = (tt, tt);
    }

one_of : {A : Type 0} {x y : A} → Some x ≡ Some y → x ≡ y
one_of h = cc

bodies_fine : (n : ℕ) (fn : Function) → slice_get (functions script.items) n ≡ Some fn → IsFineFunction header script fn
bodies_fine zero fn is = subst (IsFineFunction header script) (one_of is) f_fine
bodies_fine (suc zero) fn is = subst (IsFineFunction header script) (one_of is) main_fine
bodies_fine (suc (suc n)) fn is = absurd cc

script_well_typed : IsWellTyped header script
script_well_typed = record {
  bodies = bodies_fine;
  names = (refl, refl, (tt, refl), tt);
  calls = (tt, tt);
  entry = record { function = main; is = refl; parameters = refl; result = refl };
}
