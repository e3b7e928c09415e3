-- Small units: whose the bytes of their code are, as the definitions compute it. The unit stands
-- above its places, and the number of each node is its place in preorder.
use Rattle.std.proofs.Common.{◌≡◌, refl, ℕ, pos, List, [], ◌∷◌, map, codes, Option, None, Some}
use Rattle.nss_tree.specs.declared.constants.TypeName.{TypeName}
use Rattle.nss_tree.specs.declared.operators.BinaryOperator.TheVariants as bin
use Rattle.nss_tree.specs.declared.operators.AssignOperator.TheVariants as asg
use Rattle.nss_tree.specs.Expressions as x
use Rattle.nss_tree.specs.Places.{places}
use Rattle.nss_tree.specs.Source.{SourceTree}
use Rattle.nss_tree.specs.Statements as s
use Rattle.nss_tree.specs.Statements.{no_stmt, more_stmts}
use Rattle.nss_tree.specs.Units as unit
use Rattle.nwq_value.specs.declared.value.Ty.{Ty}
use Rattle.nwq_value.specs.declared.value.Ty.TheVariants as t
use Rattle.nwq_value.specs.declared.engine.Const.TheVariants as c
use Rattle.typing_rules.specs.declared.places.Place.TheVariants.{Local}
use Rattle.typing_rules.specs.declared.places.Callee.TheVariants.{Unit as InUnit, Engine}
use Rattle.typing_rules.specs.declared.places.EntryPoint.TheVariants.{Main}
use Rattle.typing_rules.specs.Typed.{TypedExpr, TypedExprs, TypedName, TypedStmt, TypedStmts, TypedParameter, TypedItem, TypedUnit, no_typed, more_typed}
use Rattle.typing_rules.specs.Typed as e
use Rattle.code_places.specs.Seeking.{node_at, sought, token_at}

-- ---- typed trees

abbrev stmts : List TypedStmt → TypedStmts
stmts [] = no_stmt
stmts (x ∷ xs) = more_stmts x (stmts xs)

abbrev args : List TypedExpr → TypedExprs
args [] = no_typed
args (x ∷ xs) = more_typed x (args xs)

abbrev function : Ty → List TypedParameter → List TypedStmt → TypedItem
function y ps body = unit.function 0 y (codes "f") ps (Some (stmts body))

abbrev declared : ℕ → TypedExpr → TypedName
declared n v = record { token = 0; name = record { number = n; ty = t.Int }; value = Some v }

abbrev only_main : List TypedStmt → TypedUnit
only_main body = record { items = function t.Void [] body ∷ []; entry = Main 0 }

abbrev int : ℕ → TypedExpr
int n = e.literal (c.Int (pos n))

abbrev local : ℕ → TypedExpr
local n = e.name t.Int (Local n)

abbrev engine : ℕ → List TypedExpr → TypedExpr
engine n xs = e.call t.Void (Engine n) (args xs) []

abbrev print : TypedExpr → TypedExpr
print x = engine 4 (x ∷ [])

abbrev run : TypedExpr → TypedStmt
run x = s.expression 0 x

-- 6 / 0: its number, then those of 6 and 0; two bytes behind twelve
abbrev division : TypedExpr
division = e.binary t.Int bin.Divide (int 6) (int 0)

abbrev nodes : TypedUnit → List ℕ → List (Option ℕ)
nodes u at = map (node_at u) at

-- ---- places

-- void main() { PrintInteger(6 / 0); }
in_argument : nodes (only_main (run (print division) ∷ [])) (12 ∷ 13 ∷ 19 ∷ 21 ∷ 26 ∷ 27 ∷ 33 ∷ 34 ∷ 35 ∷ 40 ∷ 42 ∷ [])
    ≡ None ∷ None ∷ None ∷ Some 4 ∷ Some 4 ∷ Some 5 ∷ Some 3 ∷ Some 3 ∷ Some 2 ∷ Some 0 ∷ None ∷ []
unfolding sought
in_argument = refl

-- void main() { while (6 / 0); }
in_test : nodes (only_main (s.while_loop 0 division (s.empty 0) ∷ [])) (33 ∷ 35 ∷ 41 ∷ 47 ∷ []) ≡ Some 2 ∷ Some 1 ∷ Some 1 ∷ Some 0 ∷ []
unfolding sought
in_test = refl

-- void main() { for (; 6 / 0;) { break; } }
in_for : nodes (only_main (s.for_loop 0 None (Some division) None (s.block 0 (stmts (s.break_off 0 ∷ []))) ∷ [])) (33 ∷ 35 ∷ 41 ∷ 47 ∷ 53 ∷ [])
    ≡ Some 2 ∷ Some 1 ∷ Some 6 ∷ Some 1 ∷ Some 0 ∷ []
unfolding sought
in_for = refl

-- void main() { if (6 / 0) PrintInteger(1); else do; while (6 / 0); }
in_branches : nodes (only_main (s.if_else 0 division (run (print (int 1))) (s.do_loop 0 (s.empty 0) division) ∷ [])) (33 ∷ 35 ∷ 47 ∷ 52 ∷ 70 ∷ 72 ∷ 78 ∷ [])
    ≡ Some 2 ∷ Some 1 ∷ Some 6 ∷ Some 1 ∷ Some 10 ∷ Some 8 ∷ Some 0 ∷ []
unfolding sought
in_branches = refl

-- void main() { switch (6 / 0) { case 1: PrintInteger(6 / 0); } }: the tests are the switch's
in_switch : nodes (only_main (s.switch 0 division (stmts (s.case_label 0 (c.Int (pos 1)) ∷ run (print division) ∷ [])) ∷ []))
    (33 ∷ 35 ∷ 43 ∷ 49 ∷ 51 ∷ 57 ∷ 75 ∷ 77 ∷ 82 ∷ 88 ∷ [])
    ≡ Some 2 ∷ Some 1 ∷ Some 1 ∷ Some 1 ∷ Some 1 ∷ Some 1 ∷ Some 9 ∷ Some 8 ∷ Some 1 ∷ Some 0 ∷ []
unfolding sought
in_switch = refl

-- void main() { DelayCommand(1, PrintInteger(6 / 0)); }: what surrounds the action is the call's
in_action : nodes (only_main (run (engine 7 (int 1 ∷ print division ∷ [])) ∷ [])) (21 ∷ 31 ∷ 37 ∷ 49 ∷ 51 ∷ 56 ∷ 58 ∷ 64 ∷ 69 ∷ [])
    ≡ Some 2 ∷ Some 2 ∷ Some 6 ∷ Some 5 ∷ Some 4 ∷ Some 2 ∷ Some 3 ∷ Some 2 ∷ Some 0 ∷ []
unfolding sought
in_action = refl

-- int g = 6 / 0; void main() {}
in_first_value : nodes (record { items = unit.global 0 t.Int (declared 0 division ∷ []) ∷ function t.Void [] [] ∷ []; entry = Main 0 })
    (13 ∷ 21 ∷ 33 ∷ 35 ∷ 37 ∷ 45 ∷ 51 ∷ 53 ∷ [])
    ≡ None ∷ Some 3 ∷ Some 2 ∷ None ∷ None ∷ None ∷ None ∷ Some 5 ∷ []
unfolding sought
in_first_value = refl

-- int f(int a) { return 6 / a; } void main() { int n = 1; n /= f(2); }: the jump to f, at 83, is the
-- call's, and so is the byte before the place that f goes back to
in_function : nodes (record {
  items =
      function t.Int (record { token = 0; ty = t.Int; name = record { number = 0; ty = t.Int }; default = None } ∷ [])
      (s.return_from 0 (Some (e.binary t.Int bin.Divide (int 6) (local 0))) ∷ [])
      ∷ function t.Void [] (
      s.declaration 0 t.Int (declared 1 (int 1) ∷ [])
      ∷ run (e.assign t.Int asg.Divide (local 1) (e.call t.Int (InUnit 0) (args (int 2 ∷ [])) [])) ∷ [])
      ∷ [];
  entry = Main 1;
})
    (27 ∷ 35 ∷ 37 ∷ 51 ∷ 53 ∷ 59 ∷ 61 ∷ 67 ∷ 75 ∷ 77 ∷ 83 ∷ 88 ∷ 89 ∷ 91 ∷ 99 ∷ 105 ∷ 111 ∷ [])
    ≡ Some 5 ∷ Some 3 ∷ Some 2 ∷ Some 2 ∷ Some 0 ∷ Some 0 ∷ Some 9 ∷ Some 11 ∷ Some 13 ∷ Some 14 ∷ Some 13 ∷ Some 13 ∷ Some 11 ∷ Some 11 ∷ Some 10 ∷ Some 6 ∷ Some 6 ∷ []
unfolding sought
in_function = refl

-- void main() { PrintInteger(6 / 0); }: the tokens are numbered from 0, and `/` is number 8
source : TypeName → SourceTree
source y = record {
  items = unit.function 1 y (codes "main") [] (Some (more_stmts
      (s.expression 5 (x.call 5 (codes "PrintInteger") (x.more_exprs (x.binary 8 bin.Divide (x.int 7 (pos 6)) (x.int 9 (pos 0))) x.no_expr))) no_stmt)) ∷ [];
  count = 13;
}

told : (y : TypeName) → map (token_at (source y) (only_main (run (print division) ∷ []))) (13 ∷ 21 ∷ 27 ∷ 33 ∷ 35 ∷ 40 ∷ [])
    ≡ None ∷ Some 7 ∷ Some 9 ∷ Some 8 ∷ Some 5 ∷ Some 1 ∷ []
unfolding places sought source
told y = refl
