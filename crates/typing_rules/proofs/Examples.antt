-- Small units, each with its first fault or none, as the definitions compute it. The unit stands
-- above its tree.
use Rattle.std.proofs.Common.{◌≡◌, refl, ℕ, pos, true, false, List, [], ◌∷◌, codes, Option, None, Some}
use Rattle.std.specs.Prelude.{is_some}
use Rattle.nss_tree.specs.declared.constants.Constant.{Constant}
use Rattle.nss_tree.specs.declared.constants.Constant.TheVariants as k
use Rattle.nss_tree.specs.declared.constants.TypeName.{TypeName}
use Rattle.nss_tree.specs.declared.constants.TypeName.TheVariants as ty
use Rattle.nss_tree.specs.declared.operators.PrefixOperator.TheVariants as pre
use Rattle.nss_tree.specs.declared.operators.PostfixOperator.TheVariants as post
use Rattle.nss_tree.specs.declared.operators.BinaryOperator.TheVariants as bin
use Rattle.nss_tree.specs.declared.operators.AssignOperator.TheVariants as asg
use Rattle.nss_tree.specs.declared.units.Identifier.{Identifier}
use Rattle.nss_tree.specs.Expressions.{PlainExpr, no_expr, more_exprs}
use Rattle.nss_tree.specs.Expressions as e
use Rattle.nss_tree.specs.Statements.{no_stmt, more_stmts}
use Rattle.nss_tree.specs.Statements as s
use Rattle.nss_tree.specs.Units as unit
use Rattle.nss_tree.specs.Source.{SourceDeclared, SourceItem, SourceTree, SourceLine, SourceParameter}
use Rattle.nwq_value.specs.declared.value.Ty.TheVariants as t
use Rattle.nwq_value.specs.declared.engine.Const.TheVariants as c
use Rattle.nwq_value.specs.declared.engine.Param.{Param}
use Rattle.nwq_value.specs.declared.value.Ty.{Ty}
use Rattle.nwq_value.specs.declared.engine.Const.{Const}
use Rattle.nwq_value.specs.declared.engine.Role.{Role}
use Rattle.nwq_value.specs.declared.engine.Role.TheVariants.{World, Uncallable}
use Rattle.nwq_value.specs.declared.engine.Routine.{Routine}
use Rattle.nwq_value.specs.Engine as engine
use Rattle.nwq_value.specs.Engine.{EngineTable}
use Rattle.typing_rules.specs.declared.fault.FaultKind.{FaultKind}
use Rattle.typing_rules.specs.declared.fault.FaultKind.TheVariants.{RefusedType, Unknown, Redeclared, Arity, NotConst, NotPlace, Outside, Mismatch, NoReturn, Cells, Entry}
use Rattle.typing_rules.specs.Nodes.{kept}
use Rattle.typing_rules.specs.Verdicts.{unit_typed, unit_faults}

abbrev wanted : Ty → Param
wanted y = record { ty = y; default = None }

abbrev optional : Ty → Const → Param
optional y v = record { ty = y; default = Some v }

abbrev routine : List ℕ → Ty → List Param → Role → Routine
routine x r ps role = record { name = x; result = r; params = ps; role = role }

-- the header of all these units
abbrev header : EngineTable
header = record {
  routines =
      routine (codes "PrintInteger") t.Void (wanted t.Int ∷ []) World
      ∷ routine (codes "Random") t.Int (wanted t.Int ∷ []) World
      ∷ routine (codes "DelayCommand") t.Void (wanted t.Int ∷ wanted t.Action ∷ []) World
      ∷ routine (codes "Damage") t.Effect (wanted t.Int ∷ optional t.Int (c.Int (pos 8)) ∷ optional t.Int (c.Int (pos 0)) ∷ []) World
      ∷ routine (codes "Half") t.Int (optional t.Int (c.Int (pos 1)) ∷ wanted t.Int ∷ []) World
      ∷ routine (codes "Later") t.Int (wanted t.Action ∷ []) World
      ∷ routine (codes "Sine") t.Refused (wanted t.Refused ∷ []) Uncallable
      ∷ routine (codes "Odd") t.Int (wanted t.Void ∷ []) World
      ∷ routine (codes "Custom") t.Event (wanted t.Int ∷ []) World
      ∷ [];
  constants = record { name = codes "TRUE"; value = c.Int (pos 1) } ∷ record { name = codes "HELLO"; value = c.Text (codes "hi") } ∷ [];
}

abbrev u : List SourceItem → ℕ → SourceTree
u items n = record { items = items; count = n }

abbrev d : ℕ → List ℕ → Option PlainExpr → SourceDeclared
d n x v = record { token = n; name = x; value = v }

abbrev i : ℕ → List ℕ → Identifier
i n x = record { token = n; name = x }

abbrev l : ℕ → TypeName → List Identifier → SourceLine
l n y xs = record { token = n; ty = y; names = xs }

abbrev p : ℕ → TypeName → List ℕ → Option Constant → SourceParameter
p n y x v = record { token = n; ty = y; name = x; default = v }

-- no node is at fault, and the unit has a typed tree
abbrev IsFine : SourceTree → Type 0
IsFine x = (kept None (unit_faults header x) ≡ None) × (is_some (unit_typed header x) ≡ true)

-- the node at fault with the least token has this kind, and this token
abbrev IsAt : FaultKind → ℕ → SourceTree → Type 0
IsAt kind n x = (kept None (unit_faults header x) ≡ Some (record { kind = kind; token = n })) × (is_some (unit_typed header x) ≡ false)

-- void main() {}
unit_1 : IsFine (u ((unit.function 1 ty.Void (codes "main") [] (Some no_stmt)) ∷ []) 6)
unfolding engine.routine_named engine.constant_named
unit_1 = (refl, refl)

-- void main() { float f; }
unit_2 : IsAt RefusedType 5 (u ((unit.function 1 ty.Void (codes "main") [] (Some (more_stmts (s.declaration 5 ty.Float ((d 6 (codes "f") None) ∷ [])) no_stmt))) ∷ []) 9)
unfolding engine.routine_named engine.constant_named
unit_2 = (refl, refl)

-- int x;
unit_3 : IsAt Entry 3 (u ((unit.global 0 ty.Int ((d 1 (codes "x") None) ∷ [])) ∷ []) 3)
unfolding engine.routine_named engine.constant_named
unit_3 = (refl, refl)

-- int StartingConditional() { return 1; }
unit_4 : IsFine (u ((unit.function 1 ty.Int (codes "StartingConditional") [] (Some (more_stmts (s.return_from 5 (Some (e.int 6 (pos 1)))) no_stmt))) ∷ []) 9)
unfolding engine.routine_named engine.constant_named
unit_4 = (refl, refl)

-- void main() { int n = 1; DelayCommand(1000, PrintInteger(n)); n = 2; PrintInteger(n); }
unit_5 : IsFine (u ((unit.function 1 ty.Void (codes "main") []
    (Some (more_stmts (s.declaration 5 ty.Int ((d 6 (codes "n") (Some (e.int 8 (pos 1)))) ∷ []))
    (more_stmts (s.expression 10
    (e.call 10 (codes "DelayCommand")
    (more_exprs (e.int 12 (pos 1000))
    (more_exprs (e.call 14 (codes "PrintInteger") (more_exprs (e.name 16 (codes "n")) no_expr)) no_expr))))
    (more_stmts (s.expression 20 (e.assign 21 asg.Set (e.name 20 (codes "n")) (e.int 22 (pos 2))))
    (more_stmts (s.expression 24
    (e.call 24 (codes "PrintInteger") (more_exprs (e.name 26 (codes "n")) no_expr))) no_stmt)))))) ∷ []) 30)
unfolding engine.routine_named engine.constant_named
unit_5 = (refl, refl)

-- int g; void F() { g = g + 1; PrintInteger(g); } void main() { DelayCommand(10, F());
-- DelayCommand(20, F()); }
unit_6 : IsFine (u ((unit.global 0 ty.Int ((d 1 (codes "g") None) ∷ [])) ∷
    (unit.function 4 ty.Void (codes "F") []
    (Some (more_stmts (s.expression 8
    (e.assign 9 asg.Set (e.name 8 (codes "g")) (e.binary 11 bin.Add (e.name 10 (codes "g")) (e.int 12 (pos 1)))))
    (more_stmts (s.expression 14
    (e.call 14 (codes "PrintInteger") (more_exprs (e.name 16 (codes "g")) no_expr))) no_stmt)))) ∷
    (unit.function 21 ty.Void (codes "main") []
    (Some (more_stmts (s.expression 25
    (e.call 25 (codes "DelayCommand")
    (more_exprs (e.int 27 (pos 10)) (more_exprs (e.call 29 (codes "F") no_expr) no_expr))))
    (more_stmts (s.expression 34
    (e.call 34 (codes "DelayCommand")
    (more_exprs (e.int 36 (pos 20)) (more_exprs (e.call 38 (codes "F") no_expr) no_expr)))) no_stmt)))) ∷ []) 44)
unfolding engine.routine_named engine.constant_named
unit_6 = (refl, refl)

-- int f() { f(); } void main() {}
unit_7 : IsAt NoReturn 1 (u
    ((unit.function 1 ty.Int (codes "f") []
    (Some (more_stmts (s.expression 5 (e.call 5 (codes "f") no_expr)) no_stmt))) ∷
    (unit.function 11 ty.Void (codes "main") [] (Some no_stmt)) ∷ []) 16)
unfolding engine.routine_named engine.constant_named
unit_7 = (refl, refl)

-- void main() { f(1, 2); } int f() { if (1) return 1; }
unit_8 : IsAt Arity 5 (u ((unit.function 1 ty.Void (codes "main") []
    (Some (more_stmts (s.expression 5
    (e.call 5 (codes "f") (more_exprs (e.int 7 (pos 1)) (more_exprs (e.int 9 (pos 2)) no_expr)))) no_stmt))) ∷
    (unit.function 14 ty.Int (codes "f") []
    (Some (more_stmts (s.if_only 18 (e.int 20 (pos 1))
    (s.return_from 22 (Some (e.int 23 (pos 1))))) no_stmt))) ∷ []) 26)
unfolding engine.routine_named engine.constant_named
unit_8 = (refl, refl)

-- void main() { float f = x; }
unit_9 : IsAt RefusedType 5 (u ((unit.function 1 ty.Void (codes "main") [] (Some (more_stmts (s.declaration 5 ty.Float ((d 6 (codes "f") (Some (e.name 8 (codes "x")))) ∷ [])) no_stmt))) ∷ []) 11)
unfolding engine.routine_named engine.constant_named
unit_9 = (refl, refl)

-- void main() { float f = 1; }
unit_10 : IsAt RefusedType 5 (u ((unit.function 1 ty.Void (codes "main") [] (Some (more_stmts (s.declaration 5 ty.Float ((d 6 (codes "f") (Some (e.int 8 (pos 1)))) ∷ [])) no_stmt))) ∷ []) 11)
unfolding engine.routine_named engine.constant_named
unit_10 = (refl, refl)

-- void main() { void v = x; }
unit_11 : IsAt Mismatch 5 (u ((unit.function 1 ty.Void (codes "main") [] (Some (more_stmts (s.declaration 5 ty.Void ((d 6 (codes "v") (Some (e.name 8 (codes "x")))) ∷ [])) no_stmt))) ∷ []) 11)
unfolding engine.routine_named engine.constant_named
unit_11 = (refl, refl)

-- void main() { struct S s; }
unit_12 : IsAt Unknown 5 (u ((unit.function 1 ty.Void (codes "main") [] (Some (more_stmts (s.declaration 5 (ty.Struct (codes "S")) ((d 7 (codes "s") None) ∷ [])) no_stmt))) ∷ []) 10)
unfolding engine.routine_named engine.constant_named
unit_12 = (refl, refl)

-- void f(float x = 1.0) {} void main() {}
unit_13 : IsAt RefusedType 6
    (u ((unit.function 1 ty.Void (codes "f") ((p 3 ty.Float (codes "x") (Some (k.Float 6 false))) ∷ [])
    (Some no_stmt)) ∷ (unit.function 11 ty.Void (codes "main") [] (Some no_stmt)) ∷ []) 16)
unfolding engine.routine_named engine.constant_named
unit_13 = (refl, refl)

-- void main() { if ("x") { y; } }
unit_14 : IsAt Unknown 10
    (u ((unit.function 1 ty.Void (codes "main") []
    (Some (more_stmts (s.if_only 5 (e.text 7 (codes "x"))
    (s.block 9 (more_stmts (s.expression 10 (e.name 10 (codes "y"))) no_stmt))) no_stmt))) ∷ []) 14)
unfolding engine.routine_named engine.constant_named
unit_14 = (refl, refl)

-- void main() { if ("x") { 1; } }
unit_15 : IsAt Mismatch 5
    (u ((unit.function 1 ty.Void (codes "main") []
    (Some (more_stmts (s.if_only 5 (e.text 7 (codes "x"))
    (s.block 9 (more_stmts (s.expression 10 (e.int 10 (pos 1))) no_stmt))) no_stmt))) ∷ []) 14)
unfolding engine.routine_named engine.constant_named
unit_15 = (refl, refl)

-- void main() { f("a"); } void f(float x) {}
unit_16 : IsAt RefusedType 14
    (u ((unit.function 1 ty.Void (codes "main") []
    (Some (more_stmts (s.expression 5 (e.call 5 (codes "f") (more_exprs (e.text 7 (codes "a")) no_expr))) no_stmt))) ∷
    (unit.function 12 ty.Void (codes "f") ((p 14 ty.Float (codes "x") None) ∷ []) (Some no_stmt)) ∷ []) 19)
unfolding engine.routine_named engine.constant_named
unit_16 = (refl, refl)

-- int P; struct P { int x; }; void main() {}
unit_17 : IsFine (u ((unit.global 0 ty.Int ((d 1 (codes "P") None) ∷ [])) ∷
    (unit.structure 4 (codes "P") ((l 6 ty.Int ((i 7 (codes "x")) ∷ [])) ∷ [])) ∷
    (unit.function 12 ty.Void (codes "main") [] (Some no_stmt)) ∷ []) 17)
unfolding engine.routine_named engine.constant_named
unit_17 = (refl, refl)

-- struct P { int x; }; struct P { int x; }; void main() {}
unit_18 : IsAt Redeclared 9
    (u ((unit.structure 1 (codes "P") ((l 3 ty.Int ((i 4 (codes "x")) ∷ [])) ∷ [])) ∷
    (unit.structure 9 (codes "P") ((l 11 ty.Int ((i 12 (codes "x")) ∷ [])) ∷ [])) ∷
    (unit.function 17 ty.Void (codes "main") [] (Some no_stmt)) ∷ []) 22)
unfolding engine.routine_named engine.constant_named
unit_18 = (refl, refl)

-- struct P { int x; string x; }; void main() {}
unit_19 : IsAt Redeclared 7
    (u ((unit.structure 1 (codes "P")
    ((l 3 ty.Int ((i 4 (codes "x")) ∷ [])) ∷ (l 6 ty.String ((i 7 (codes "x")) ∷ [])) ∷ [])) ∷
    (unit.function 12 ty.Void (codes "main") [] (Some no_stmt)) ∷ []) 17)
unfolding engine.routine_named engine.constant_named
unit_19 = (refl, refl)

-- int n; void main() { n.x; }
unit_20 : IsAt Unknown 9 (u
    ((unit.global 0 ty.Int ((d 1 (codes "n") None) ∷ [])) ∷
    (unit.function 4 ty.Void (codes "main") []
    (Some (more_stmts (s.expression 8 (e.member 9 (e.name 8 (codes "n")) (codes "x"))) no_stmt))) ∷ []) 13)
unfolding engine.routine_named engine.constant_named
unit_20 = (refl, refl)

-- void main() { PrintInteger(1).x; }
unit_21 : IsAt Unknown 9 (u
    ((unit.function 1 ty.Void (codes "main") []
    (Some (more_stmts (s.expression 5
    (e.member 9 (e.call 5 (codes "PrintInteger") (more_exprs (e.int 7 (pos 1)) no_expr))
    (codes "x"))) no_stmt))) ∷ []) 13)
unfolding engine.routine_named engine.constant_named
unit_21 = (refl, refl)

-- int g = Later(PrintInteger(1)); void main() {}
unit_22 : IsAt NotConst 5
    (u ((unit.global 0 ty.Int
    ((d 1 (codes "g") (Some (e.call 3 (codes "Later")
    (more_exprs (e.call 5 (codes "PrintInteger") (more_exprs (e.int 7 (pos 1)) no_expr)) no_expr)))) ∷ [])) ∷
    (unit.function 12 ty.Void (codes "main") [] (Some no_stmt)) ∷ []) 17)
unfolding engine.routine_named engine.constant_named
unit_22 = (refl, refl)

-- int f() { return 1; } int g = f(); void main() {}
unit_23 : IsAt NotConst 12
    (u ((unit.function 1 ty.Int (codes "f") [] (Some (more_stmts (s.return_from 5 (Some (e.int 6 (pos 1)))) no_stmt))) ∷
    (unit.global 9 ty.Int ((d 10 (codes "g") (Some (e.call 12 (codes "f") no_expr))) ∷ [])) ∷
    (unit.function 17 ty.Void (codes "main") [] (Some no_stmt)) ∷ []) 22)
unfolding engine.routine_named engine.constant_named
unit_23 = (refl, refl)

-- int g = Later(Random(3)); void main() {}
unit_24 : IsAt Mismatch 3
    (u ((unit.global 0 ty.Int
    ((d 1 (codes "g") (Some (e.call 3 (codes "Later")
    (more_exprs (e.call 5 (codes "Random") (more_exprs (e.int 7 (pos 3)) no_expr)) no_expr)))) ∷ [])) ∷
    (unit.function 12 ty.Void (codes "main") [] (Some no_stmt)) ∷ []) 17)
unfolding engine.routine_named engine.constant_named
unit_24 = (refl, refl)

-- int f(int n) { switch (n) { case 1: return 1; default: return 2; int x; } } void main() {}
unit_25 : IsFine (u ((unit.function 1 ty.Int (codes "f") ((p 3 ty.Int (codes "n") None) ∷ [])
    (Some (more_stmts (s.switch 7 (e.name 9 (codes "n"))
    (more_stmts (s.case_label 12 (k.Int 13 false (pos 1)))
    (more_stmts (s.return_from 15 (Some (e.int 16 (pos 1))))
    (more_stmts (s.default_label 18)
    (more_stmts (s.return_from 20 (Some (e.int 21 (pos 2))))
    (more_stmts (s.declaration 23 ty.Int ((d 24 (codes "x") None) ∷ [])) no_stmt)))))) no_stmt))) ∷
    (unit.function 29 ty.Void (codes "main") [] (Some no_stmt)) ∷ []) 34)
unfolding engine.routine_named engine.constant_named
unit_25 = (refl, refl)

-- int f(int n) { switch (n) { case 1: break; default: return 2; } } void main() {}
unit_26 : IsAt NoReturn 1
    (u ((unit.function 1 ty.Int (codes "f") ((p 3 ty.Int (codes "n") None) ∷ [])
    (Some (more_stmts (s.switch 7 (e.name 9 (codes "n"))
    (more_stmts (s.case_label 12 (k.Int 13 false (pos 1)))
    (more_stmts (s.break_off 15)
    (more_stmts (s.default_label 17) (more_stmts (s.return_from 19 (Some (e.int 20 (pos 2)))) no_stmt))))) no_stmt))) ∷
    (unit.function 25 ty.Void (codes "main") [] (Some no_stmt)) ∷ []) 30)
unfolding engine.routine_named engine.constant_named
unit_26 = (refl, refl)

-- int f(int n) { do { break; return 1; } while (1); } void main() {}
unit_27 : IsFine (u ((unit.function 1 ty.Int (codes "f") ((p 3 ty.Int (codes "n") None) ∷ [])
    (Some (more_stmts (s.do_loop 7
    (s.block 8 (more_stmts (s.break_off 9) (more_stmts (s.return_from 11 (Some (e.int 12 (pos 1)))) no_stmt)))
    (e.int 17 (pos 1))) no_stmt))) ∷ (unit.function 22 ty.Void (codes "main") [] (Some no_stmt)) ∷ []) 27)
unfolding engine.routine_named engine.constant_named
unit_27 = (refl, refl)

-- int f(int n) { while (1) return 1; } void main() {}
unit_28 : IsAt NoReturn 1
    (u ((unit.function 1 ty.Int (codes "f") ((p 3 ty.Int (codes "n") None) ∷ [])
    (Some (more_stmts (s.while_loop 7 (e.int 9 (pos 1)) (s.return_from 11 (Some (e.int 12 (pos 1))))) no_stmt))) ∷
    (unit.function 16 ty.Void (codes "main") [] (Some no_stmt)) ∷ []) 21)
unfolding engine.routine_named engine.constant_named
unit_28 = (refl, refl)

-- void main() { Damage(1); Damage(1, 2); Damage(1, 2, 3); }
unit_29 : IsFine (u ((unit.function 1 ty.Void (codes "main") []
    (Some (more_stmts (s.expression 5 (e.call 5 (codes "Damage") (more_exprs (e.int 7 (pos 1)) no_expr)))
    (more_stmts (s.expression 10
    (e.call 10 (codes "Damage") (more_exprs (e.int 12 (pos 1)) (more_exprs (e.int 14 (pos 2)) no_expr))))
    (more_stmts (s.expression 17
    (e.call 17 (codes "Damage")
    (more_exprs (e.int 19 (pos 1))
    (more_exprs (e.int 21 (pos 2)) (more_exprs (e.int 23 (pos 3)) no_expr))))) no_stmt))))) ∷ []) 27)
unfolding engine.routine_named engine.constant_named
unit_29 = (refl, refl)

-- void main() { Damage(); }
unit_30 : IsAt Arity 5 (u ((unit.function 1 ty.Void (codes "main") [] (Some (more_stmts (s.expression 5 (e.call 5 (codes "Damage") no_expr)) no_stmt))) ∷ []) 10)
unfolding engine.routine_named engine.constant_named
unit_30 = (refl, refl)

-- void main() { Damage(1, 2, 3, 4); }
unit_31 : IsAt Arity 5 (u
    ((unit.function 1 ty.Void (codes "main") []
    (Some (more_stmts (s.expression 5
    (e.call 5 (codes "Damage")
    (more_exprs (e.int 7 (pos 1))
    (more_exprs (e.int 9 (pos 2))
    (more_exprs (e.int 11 (pos 3)) (more_exprs (e.int 13 (pos 4)) no_expr)))))) no_stmt))) ∷ []) 17)
unfolding engine.routine_named engine.constant_named
unit_31 = (refl, refl)

-- void main() { Half(2); }
unit_32 : IsAt Arity 5 (u ((unit.function 1 ty.Void (codes "main") [] (Some (more_stmts (s.expression 5 (e.call 5 (codes "Half") (more_exprs (e.int 7 (pos 2)) no_expr))) no_stmt))) ∷ []) 11)
unfolding engine.routine_named engine.constant_named
unit_32 = (refl, refl)

-- const int C = 1; void F(int C, int D = C) {} void main() {}
unit_33 : IsAt NotConst 15
    (u ((unit.constant 1 ty.Int (i 2 (codes "C")) (k.Int 4 false (pos 1))) ∷
    (unit.function 7 ty.Void (codes "F")
    ((p 9 ty.Int (codes "C") None) ∷ (p 12 ty.Int (codes "D") (Some (k.Name 15 (codes "C")))) ∷ []) (Some no_stmt)) ∷
    (unit.function 20 ty.Void (codes "main") [] (Some no_stmt)) ∷ []) 25)
unfolding engine.routine_named engine.constant_named
unit_33 = (refl, refl)

-- const int C = 1; void F(int C = C) {} void main() {}
unit_34 : IsFine (u ((unit.constant 1 ty.Int (i 2 (codes "C")) (k.Int 4 false (pos 1))) ∷
    (unit.function 7 ty.Void (codes "F") ((p 9 ty.Int (codes "C") (Some (k.Name 12 (codes "C")))) ∷ [])
    (Some no_stmt)) ∷ (unit.function 17 ty.Void (codes "main") [] (Some no_stmt)) ∷ []) 22)
unfolding engine.routine_named engine.constant_named
unit_34 = (refl, refl)

-- const object O = OBJECT_SELF; void main() {}
unit_35 : IsAt Mismatch 1 (u ((unit.constant 1 ty.Object (i 2 (codes "O")) (k.ObjectSelf 4)) ∷ (unit.function 7 ty.Void (codes "main") [] (Some no_stmt)) ∷ []) 12)
unfolding engine.routine_named engine.constant_named
unit_35 = (refl, refl)

-- const int A = "s"; void main() {}
unit_36 : IsAt Mismatch 2 (u ((unit.constant 1 ty.Int (i 2 (codes "A")) (k.Text 4 (codes "s"))) ∷ (unit.function 7 ty.Void (codes "main") [] (Some no_stmt)) ∷ []) 12)
unfolding engine.routine_named engine.constant_named
unit_36 = (refl, refl)

-- void main() { Sine(1); }
unit_37 : IsAt RefusedType 5 (u ((unit.function 1 ty.Void (codes "main") [] (Some (more_stmts (s.expression 5 (e.call 5 (codes "Sine") (more_exprs (e.int 7 (pos 1)) no_expr))) no_stmt))) ∷ []) 11)
unfolding engine.routine_named engine.constant_named
unit_37 = (refl, refl)

-- void main() { Odd(PrintInteger(1)); }
unit_38 : IsAt Mismatch 5
    (u ((unit.function 1 ty.Void (codes "main") []
    (Some (more_stmts (s.expression 5
    (e.call 5 (codes "Odd") (more_exprs
    (e.call 7 (codes "PrintInteger") (more_exprs (e.int 9 (pos 1)) no_expr)) no_expr))) no_stmt))) ∷ []) 14)
unfolding engine.routine_named engine.constant_named
unit_38 = (refl, refl)

-- void main() { DelayCommand(1, Random(3)); }
unit_39 : IsAt Mismatch 5
    (u ((unit.function 1 ty.Void (codes "main") []
    (Some (more_stmts (s.expression 5
    (e.call 5 (codes "DelayCommand")
    (more_exprs (e.int 7 (pos 1))
    (more_exprs (e.call 9 (codes "Random") (more_exprs (e.int 11 (pos 3)) no_expr)) no_expr)))) no_stmt))) ∷ []) 16)
unfolding engine.routine_named engine.constant_named
unit_39 = (refl, refl)

-- void main() { DelayCommand(1, 3); }
unit_40 : IsAt Mismatch 5
    (u ((unit.function 1 ty.Void (codes "main") []
    (Some (more_stmts (s.expression 5
    (e.call 5 (codes "DelayCommand")
    (more_exprs (e.int 7 (pos 1)) (more_exprs (e.int 9 (pos 3)) no_expr)))) no_stmt))) ∷ []) 13)
unfolding engine.routine_named engine.constant_named
unit_40 = (refl, refl)

-- void f(); void main() { f(); }
unit_41 : IsAt Unknown 10
    (u ((unit.function 1 ty.Void (codes "f") [] None) ∷
    (unit.function 6 ty.Void (codes "main") []
    (Some (more_stmts (s.expression 10 (e.call 10 (codes "f") no_expr)) no_stmt))) ∷ []) 15)
unfolding engine.routine_named engine.constant_named
unit_41 = (refl, refl)

-- void f(int n = 3); void main() { f(); } void f(int n) {}
unit_42 : IsFine (u ((unit.function 1 ty.Void (codes "f")
    ((p 3 ty.Int (codes "n") (Some (k.Int 6 false (pos 3)))) ∷ []) None) ∷
    (unit.function 10 ty.Void (codes "main") []
    (Some (more_stmts (s.expression 14 (e.call 14 (codes "f") no_expr)) no_stmt))) ∷
    (unit.function 20 ty.Void (codes "f") ((p 22 ty.Int (codes "n") None) ∷ []) (Some no_stmt)) ∷ []) 27)
unfolding engine.routine_named engine.constant_named
unit_42 = (refl, refl)

-- void f(int n); void main() { f(); } void f(int n = 3) {}
unit_43 : IsAt Arity 12 (u
    ((unit.function 1 ty.Void (codes "f") ((p 3 ty.Int (codes "n") None) ∷ []) None) ∷
    (unit.function 8 ty.Void (codes "main") []
    (Some (more_stmts (s.expression 12 (e.call 12 (codes "f") no_expr)) no_stmt))) ∷
    (unit.function 18 ty.Void (codes "f") ((p 20 ty.Int (codes "n") (Some (k.Int 23 false (pos 3)))) ∷ [])
    (Some no_stmt)) ∷ []) 27)
unfolding engine.routine_named engine.constant_named
unit_43 = (refl, refl)

-- void f(int n); int f(int n) { return n; } void main() {}
unit_44 : IsAt Redeclared 8
    (u ((unit.function 1 ty.Void (codes "f") ((p 3 ty.Int (codes "n") None) ∷ []) None) ∷
    (unit.function 8 ty.Int (codes "f") ((p 10 ty.Int (codes "n") None) ∷ [])
    (Some (more_stmts (s.return_from 14 (Some (e.name 15 (codes "n")))) no_stmt))) ∷
    (unit.function 19 ty.Void (codes "main") [] (Some no_stmt)) ∷ []) 24)
unfolding engine.routine_named engine.constant_named
unit_44 = (refl, refl)

-- void f() {} void f() {} void main() {}
unit_45 : IsAt Redeclared 7
    (u ((unit.function 1 ty.Void (codes "f") [] (Some no_stmt)) ∷
    (unit.function 7 ty.Void (codes "f") [] (Some no_stmt)) ∷
    (unit.function 13 ty.Void (codes "main") [] (Some no_stmt)) ∷ []) 18)
unfolding engine.routine_named engine.constant_named
unit_45 = (refl, refl)

-- int TRUE; void main() {}
unit_46 : IsAt Redeclared 1 (u ((unit.global 0 ty.Int ((d 1 (codes "TRUE") None) ∷ [])) ∷ (unit.function 4 ty.Void (codes "main") [] (Some no_stmt)) ∷ []) 9)
unfolding engine.routine_named engine.constant_named
unit_46 = (refl, refl)

-- void Random(); void main() {}
unit_47 : IsAt Redeclared 1 (u ((unit.function 1 ty.Void (codes "Random") [] None) ∷ (unit.function 6 ty.Void (codes "main") [] (Some no_stmt)) ∷ []) 11)
unfolding engine.routine_named engine.constant_named
unit_47 = (refl, refl)

-- int f; void f() {} void main() {}
unit_48 : IsAt Redeclared 4
    (u ((unit.global 0 ty.Int ((d 1 (codes "f") None) ∷ [])) ∷ (unit.function 4 ty.Void (codes "f") [] (Some no_stmt)) ∷
    (unit.function 10 ty.Void (codes "main") [] (Some no_stmt)) ∷ []) 15)
unfolding engine.routine_named engine.constant_named
unit_48 = (refl, refl)

-- void f(int n) { int n; } void main() {}
unit_49 : IsAt Redeclared 8
    (u ((unit.function 1 ty.Void (codes "f") ((p 3 ty.Int (codes "n") None) ∷ [])
    (Some (more_stmts (s.declaration 7 ty.Int ((d 8 (codes "n") None) ∷ [])) no_stmt))) ∷
    (unit.function 12 ty.Void (codes "main") [] (Some no_stmt)) ∷ []) 17)
unfolding engine.routine_named engine.constant_named
unit_49 = (refl, refl)

-- void f(int n) { { int n; } } void main() {}
unit_50 : IsFine (u ((unit.function 1 ty.Void (codes "f") ((p 3 ty.Int (codes "n") None) ∷ [])
    (Some (more_stmts (s.block 7
    (more_stmts (s.declaration 8 ty.Int ((d 9 (codes "n") None) ∷ [])) no_stmt)) no_stmt))) ∷
    (unit.function 14 ty.Void (codes "main") [] (Some no_stmt)) ∷ []) 19)
unfolding engine.routine_named engine.constant_named
unit_50 = (refl, refl)

-- void f(int n = 1, int m) {} void main() {}
unit_51 : IsAt Arity 8 (u
    ((unit.function 1 ty.Void (codes "f")
    ((p 3 ty.Int (codes "n") (Some (k.Int 6 false (pos 1)))) ∷ (p 8 ty.Int (codes "m") None) ∷ []) (Some no_stmt)) ∷
    (unit.function 14 ty.Void (codes "main") [] (Some no_stmt)) ∷ []) 19)
unfolding engine.routine_named engine.constant_named
unit_51 = (refl, refl)

-- void f(int n = "s") {} void main() {}
unit_52 : IsAt Mismatch 3
    (u ((unit.function 1 ty.Void (codes "f") ((p 3 ty.Int (codes "n") (Some (k.Text 6 (codes "s")))) ∷ [])
    (Some no_stmt)) ∷ (unit.function 11 ty.Void (codes "main") [] (Some no_stmt)) ∷ []) 16)
unfolding engine.routine_named engine.constant_named
unit_52 = (refl, refl)

-- void f(void n) {} void main() {}
unit_53 : IsAt Mismatch 3 (u ((unit.function 1 ty.Void (codes "f") ((p 3 ty.Void (codes "n") None) ∷ []) (Some no_stmt)) ∷ (unit.function 9 ty.Void (codes "main") [] (Some no_stmt)) ∷ []) 14)
unfolding engine.routine_named engine.constant_named
unit_53 = (refl, refl)

-- void main() { int n = n; }
unit_54 : IsAt Unknown 8 (u ((unit.function 1 ty.Void (codes "main") [] (Some (more_stmts (s.declaration 5 ty.Int ((d 6 (codes "n") (Some (e.name 8 (codes "n")))) ∷ [])) no_stmt))) ∷ []) 11)
unfolding engine.routine_named engine.constant_named
unit_54 = (refl, refl)

-- void main() { { int n; } n; }
unit_55 : IsAt Unknown 10
    (u ((unit.function 1 ty.Void (codes "main") []
    (Some (more_stmts (s.block 5 (more_stmts (s.declaration 6 ty.Int ((d 7 (codes "n") None) ∷ [])) no_stmt))
    (more_stmts (s.expression 10 (e.name 10 (codes "n"))) no_stmt)))) ∷ []) 13)
unfolding engine.routine_named engine.constant_named
unit_55 = (refl, refl)

-- void main() { 1 = 2; }
unit_56 : IsAt NotPlace 6 (u ((unit.function 1 ty.Void (codes "main") [] (Some (more_stmts (s.expression 5 (e.assign 6 asg.Set (e.int 5 (pos 1)) (e.int 7 (pos 2)))) no_stmt))) ∷ []) 10)
unfolding engine.routine_named engine.constant_named
unit_56 = (refl, refl)

-- void main() { TRUE++; }
unit_57 : IsAt NotPlace 6 (u ((unit.function 1 ty.Void (codes "main") [] (Some (more_stmts (s.expression 5 (e.postfix 6 post.Increment (e.name 5 (codes "TRUE")))) no_stmt))) ∷ []) 9)
unfolding engine.routine_named engine.constant_named
unit_57 = (refl, refl)

-- void main() { string s; s++; }
unit_58 : IsAt Mismatch 9
    (u ((unit.function 1 ty.Void (codes "main") []
    (Some (more_stmts (s.declaration 5 ty.String ((d 6 (codes "s") None) ∷ []))
    (more_stmts (s.expression 8 (e.postfix 9 post.Increment (e.name 8 (codes "s")))) no_stmt)))) ∷ []) 12)
unfolding engine.routine_named engine.constant_named
unit_58 = (refl, refl)

-- struct P { int x; string s; }; void main() { struct P p; p.x += 1; ++p.x; p.s += "a"; }
unit_59 : IsFine (u ((unit.structure 1 (codes "P")
    ((l 3 ty.Int ((i 4 (codes "x")) ∷ [])) ∷ (l 6 ty.String ((i 7 (codes "s")) ∷ [])) ∷ [])) ∷
    (unit.function 12 ty.Void (codes "main") []
    (Some (more_stmts (s.declaration 16 (ty.Struct (codes "P")) ((d 18 (codes "p") None) ∷ []))
    (more_stmts (s.expression 20
    (e.assign 23 asg.Add (e.member 21 (e.name 20 (codes "p")) (codes "x")) (e.int 24 (pos 1))))
    (more_stmts (s.expression 26 (e.prefix 26 pre.Increment (e.member 28 (e.name 27 (codes "p")) (codes "x"))))
    (more_stmts (s.expression 31
    (e.assign 34 asg.Add (e.member 32 (e.name 31 (codes "p")) (codes "s"))
    (e.text 35 (codes "a")))) no_stmt)))))) ∷ []) 38)
unfolding engine.routine_named engine.constant_named
unit_59 = (refl, refl)

-- struct P { int x; }; struct Q { struct P p; }; void main() { struct Q q; q.p.x = q.p.x + 1; q ==
-- q; }
unit_60 : IsFine (u ((unit.structure 1 (codes "P") ((l 3 ty.Int ((i 4 (codes "x")) ∷ [])) ∷ [])) ∷
    (unit.structure 9 (codes "Q") ((l 11 (ty.Struct (codes "P")) ((i 13 (codes "p")) ∷ [])) ∷ [])) ∷
    (unit.function 18 ty.Void (codes "main") []
    (Some (more_stmts (s.declaration 22 (ty.Struct (codes "Q")) ((d 24 (codes "q") None) ∷ []))
    (more_stmts (s.expression 26
    (e.assign 31 asg.Set (e.member 29 (e.member 27 (e.name 26 (codes "q")) (codes "p")) (codes "x"))
    (e.binary 37 bin.Add (e.member 35 (e.member 33 (e.name 32 (codes "q")) (codes "p")) (codes "x"))
    (e.int 38 (pos 1))))) (more_stmts
    (s.expression 40 (e.binary 41 bin.Equal (e.name 40 (codes "q")) (e.name 42 (codes "q")))) no_stmt))))) ∷ []) 45)
unfolding engine.routine_named engine.constant_named
unit_60 = (refl, refl)

-- struct P { int x; }; struct Q { int x; }; void main() { struct P p; struct Q q; p == q; }
unit_61 : IsAt Mismatch 30
    (u ((unit.structure 1 (codes "P") ((l 3 ty.Int ((i 4 (codes "x")) ∷ [])) ∷ [])) ∷
    (unit.structure 9 (codes "Q") ((l 11 ty.Int ((i 12 (codes "x")) ∷ [])) ∷ [])) ∷
    (unit.function 17 ty.Void (codes "main") []
    (Some (more_stmts (s.declaration 21 (ty.Struct (codes "P")) ((d 23 (codes "p") None) ∷ []))
    (more_stmts (s.declaration 25 (ty.Struct (codes "Q")) ((d 27 (codes "q") None) ∷ []))
    (more_stmts (s.expression 29
    (e.binary 30 bin.Equal (e.name 29 (codes "p")) (e.name 31 (codes "q")))) no_stmt))))) ∷ []) 34)
unfolding engine.routine_named engine.constant_named
unit_61 = (refl, refl)

-- void main() { Custom(1) == Custom(2); Damage(1) != Damage(2); OBJECT_SELF == OBJECT_INVALID; "a"
-- == HELLO; }
unit_62 : IsFine (u ((unit.function 1 ty.Void (codes "main") []
    (Some (more_stmts (s.expression 5
    (e.binary 9 bin.Equal (e.call 5 (codes "Custom") (more_exprs (e.int 7 (pos 1)) no_expr))
    (e.call 10 (codes "Custom") (more_exprs (e.int 12 (pos 2)) no_expr))))
    (more_stmts (s.expression 15
    (e.binary 19 bin.NotEqual (e.call 15 (codes "Damage") (more_exprs (e.int 17 (pos 1)) no_expr))
    (e.call 20 (codes "Damage") (more_exprs (e.int 22 (pos 2)) no_expr))))
    (more_stmts (s.expression 25 (e.binary 26 bin.Equal (e.object_self 25) (e.object_invalid 27)))
    (more_stmts (s.expression 29
    (e.binary 30 bin.Equal (e.text 29 (codes "a")) (e.name 31 (codes "HELLO")))) no_stmt)))))) ∷ []) 34)
unfolding engine.routine_named engine.constant_named
unit_62 = (refl, refl)

-- void main() { 1 == "a"; }
unit_63 : IsAt Mismatch 6 (u ((unit.function 1 ty.Void (codes "main") [] (Some (more_stmts (s.expression 5 (e.binary 6 bin.Equal (e.int 5 (pos 1)) (e.text 7 (codes "a")))) no_stmt))) ∷ []) 10)
unfolding engine.routine_named engine.constant_named
unit_63 = (refl, refl)

-- void main() { 1 && "a"; }
unit_64 : IsAt Mismatch 6 (u ((unit.function 1 ty.Void (codes "main") [] (Some (more_stmts (s.expression 5 (e.binary 6 bin.And (e.int 5 (pos 1)) (e.text 7 (codes "a")))) no_stmt))) ∷ []) 10)
unfolding engine.routine_named engine.constant_named
unit_64 = (refl, refl)

-- void main() { string s = 1; }
unit_65 : IsAt Mismatch 6 (u ((unit.function 1 ty.Void (codes "main") [] (Some (more_stmts (s.declaration 5 ty.String ((d 6 (codes "s") (Some (e.int 8 (pos 1)))) ∷ [])) no_stmt))) ∷ []) 11)
unfolding engine.routine_named engine.constant_named
unit_65 = (refl, refl)

-- void main() { int n = PrintInteger(1); }
unit_66 : IsAt Mismatch 6
    (u ((unit.function 1 ty.Void (codes "main") []
    (Some (more_stmts (s.declaration 5 ty.Int
    ((d 6 (codes "n") (Some (e.call 8 (codes "PrintInteger")
    (more_exprs (e.int 10 (pos 1)) no_expr)))) ∷ [])) no_stmt))) ∷ []) 14)
unfolding engine.routine_named engine.constant_named
unit_66 = (refl, refl)

-- void main() { for (PrintInteger(1); 1; PrintInteger(2)) {} for (;;) {} }
unit_67 : IsFine (u ((unit.function 1 ty.Void (codes "main") []
    (Some (more_stmts (s.for_loop 5 (Some (e.call 7 (codes "PrintInteger") (more_exprs (e.int 9 (pos 1)) no_expr)))
    (Some (e.int 12 (pos 1))) (Some (e.call 14 (codes "PrintInteger") (more_exprs (e.int 16 (pos 2)) no_expr)))
    (s.block 19 no_stmt)) (more_stmts (s.for_loop 21 None None None (s.block 26 no_stmt)) no_stmt)))) ∷ []) 29)
unfolding engine.routine_named engine.constant_named
unit_67 = (refl, refl)

-- void main() { for (; "a";) {} }
unit_68 : IsAt Mismatch 5 (u ((unit.function 1 ty.Void (codes "main") [] (Some (more_stmts (s.for_loop 5 None (Some (e.text 8 (codes "a"))) None (s.block 11 no_stmt)) no_stmt))) ∷ []) 14)
unfolding engine.routine_named engine.constant_named
unit_68 = (refl, refl)

-- void main() { break; }
unit_69 : IsAt Outside 5 (u ((unit.function 1 ty.Void (codes "main") [] (Some (more_stmts (s.break_off 5) no_stmt))) ∷ []) 8)
unfolding engine.routine_named engine.constant_named
unit_69 = (refl, refl)

-- void main() { switch (1) { case 1: continue; } }
unit_70 : IsAt Outside 13
    (u ((unit.function 1 ty.Void (codes "main") []
    (Some (more_stmts (s.switch 5 (e.int 7 (pos 1))
    (more_stmts (s.case_label 10 (k.Int 11 false (pos 1)))
    (more_stmts (s.continue_on 13) no_stmt))) no_stmt))) ∷ []) 17)
unfolding engine.routine_named engine.constant_named
unit_70 = (refl, refl)

-- void main() { while (1) { switch (1) { case 1: continue; default: break; } } }
unit_71 : IsFine (u ((unit.function 1 ty.Void (codes "main") []
    (Some (more_stmts (s.while_loop 5 (e.int 7 (pos 1))
    (s.block 9 (more_stmts (s.switch 10 (e.int 12 (pos 1))
    (more_stmts (s.case_label 15 (k.Int 16 false (pos 1)))
    (more_stmts (s.continue_on 18)
    (more_stmts (s.default_label 20) (more_stmts (s.break_off 22) no_stmt))))) no_stmt))) no_stmt))) ∷ []) 27)
unfolding engine.routine_named engine.constant_named
unit_71 = (refl, refl)

-- void main() { switch (1) { case 1: int n; case 2: n; } }
unit_72 : IsAt Outside 16
    (u ((unit.function 1 ty.Void (codes "main") []
    (Some (more_stmts (s.switch 5 (e.int 7 (pos 1))
    (more_stmts (s.case_label 10 (k.Int 11 false (pos 1)))
    (more_stmts (s.declaration 13 ty.Int ((d 14 (codes "n") None) ∷ []))
    (more_stmts (s.case_label 16 (k.Int 17 false (pos 2)))
    (more_stmts (s.expression 19 (e.name 19 (codes "n"))) no_stmt))))) no_stmt))) ∷ []) 23)
unfolding engine.routine_named engine.constant_named
unit_72 = (refl, refl)

-- void main() { switch (1) { case 1: case 1: ; } }
unit_73 : IsAt Redeclared 13
    (u ((unit.function 1 ty.Void (codes "main") []
    (Some (more_stmts (s.switch 5 (e.int 7 (pos 1))
    (more_stmts (s.case_label 10 (k.Int 11 false (pos 1)))
    (more_stmts (s.case_label 13 (k.Int 14 false (pos 1))) (more_stmts (s.empty 16) no_stmt)))) no_stmt))) ∷ []) 19)
unfolding engine.routine_named engine.constant_named
unit_73 = (refl, refl)

-- void main() { switch (1) { default: default: ; } }
unit_74 : IsAt Redeclared 12
    (u ((unit.function 1 ty.Void (codes "main") []
    (Some (more_stmts (s.switch 5 (e.int 7 (pos 1))
    (more_stmts (s.default_label 10)
    (more_stmts (s.default_label 12) (more_stmts (s.empty 14) no_stmt)))) no_stmt))) ∷ []) 17)
unfolding engine.routine_named engine.constant_named
unit_74 = (refl, refl)

-- const int C = 2; void main() { switch (1) { case 1: case C: case -1: case 3: ; } }
unit_75 : IsFine (u ((unit.constant 1 ty.Int (i 2 (codes "C")) (k.Int 4 false (pos 2))) ∷
    (unit.function 7 ty.Void (codes "main") []
    (Some (more_stmts (s.switch 11 (e.int 13 (pos 1))
    (more_stmts (s.case_label 16 (k.Int 17 false (pos 1)))
    (more_stmts (s.case_label 19 (k.Name 20 (codes "C")))
    (more_stmts (s.case_label 22 (k.Int 24 true (pos 1)))
    (more_stmts (s.case_label 26 (k.Int 27 false (pos 3))) (more_stmts (s.empty 29) no_stmt)))))) no_stmt))) ∷ []) 32)
unfolding engine.routine_named engine.constant_named
unit_75 = (refl, refl)

-- void main() { switch (1) { case "a": ; } }
unit_76 : IsAt Mismatch 10
    (u ((unit.function 1 ty.Void (codes "main") []
    (Some (more_stmts (s.switch 5 (e.int 7 (pos 1))
    (more_stmts (s.case_label 10 (k.Text 11 (codes "a"))) (more_stmts (s.empty 13) no_stmt))) no_stmt))) ∷ []) 16)
unfolding engine.routine_named engine.constant_named
unit_76 = (refl, refl)

-- int n; void main() { switch (1) { case n: ; } }
unit_77 : IsAt NotConst 14
    (u ((unit.global 0 ty.Int ((d 1 (codes "n") None) ∷ [])) ∷
    (unit.function 4 ty.Void (codes "main") []
    (Some (more_stmts (s.switch 8 (e.int 10 (pos 1))
    (more_stmts (s.case_label 13 (k.Name 14 (codes "n"))) (more_stmts (s.empty 16) no_stmt))) no_stmt))) ∷ []) 19)
unfolding engine.routine_named engine.constant_named
unit_77 = (refl, refl)

-- void main() { switch (1) { case -1.5: ; } }
unit_78 : IsAt RefusedType 12
    (u ((unit.function 1 ty.Void (codes "main") []
    (Some (more_stmts (s.switch 5 (e.int 7 (pos 1))
    (more_stmts (s.case_label 10 (k.Float 12 true)) (more_stmts (s.empty 14) no_stmt))) no_stmt))) ∷ []) 17)
unfolding engine.routine_named engine.constant_named
unit_78 = (refl, refl)

-- void main() { return 1; }
unit_79 : IsAt Mismatch 5 (u ((unit.function 1 ty.Void (codes "main") [] (Some (more_stmts (s.return_from 5 (Some (e.int 6 (pos 1)))) no_stmt))) ∷ []) 9)
unfolding engine.routine_named engine.constant_named
unit_79 = (refl, refl)

-- int f() { return; } void main() {}
unit_80 : IsAt Mismatch 5 (u ((unit.function 1 ty.Int (codes "f") [] (Some (more_stmts (s.return_from 5 None) no_stmt))) ∷ (unit.function 9 ty.Void (codes "main") [] (Some no_stmt)) ∷ []) 14)
unfolding engine.routine_named engine.constant_named
unit_80 = (refl, refl)

-- void main() { return PrintInteger(1); }
unit_81 : IsAt Mismatch 5
    (u ((unit.function 1 ty.Void (codes "main") []
    (Some (more_stmts (s.return_from 5
    (Some (e.call 6 (codes "PrintInteger") (more_exprs (e.int 8 (pos 1)) no_expr)))) no_stmt))) ∷ []) 12)
unfolding engine.routine_named engine.constant_named
unit_81 = (refl, refl)

-- void main(int n) {}
unit_82 : IsAt Entry 8 (u ((unit.function 1 ty.Void (codes "main") ((p 3 ty.Int (codes "n") None) ∷ []) (Some no_stmt)) ∷ []) 8)
unfolding engine.routine_named engine.constant_named
unit_82 = (refl, refl)

-- void main();
unit_83 : IsAt Entry 5 (u ((unit.function 1 ty.Void (codes "main") [] None) ∷ []) 5)
unfolding engine.routine_named engine.constant_named
unit_83 = (refl, refl)

-- void main() {} int StartingConditional() { return 1; }
unit_84 : IsFine (u ((unit.function 1 ty.Void (codes "main") [] (Some no_stmt)) ∷
    (unit.function 7 ty.Int (codes "StartingConditional") []
    (Some (more_stmts (s.return_from 11 (Some (e.int 12 (pos 1)))) no_stmt))) ∷ []) 15)
unfolding engine.routine_named engine.constant_named
unit_84 = (refl, refl)

-- struct S { struct S x; }; void main() {}
unit_85 : IsAt Unknown 3 (u ((unit.structure 1 (codes "S") ((l 3 (ty.Struct (codes "S")) ((i 5 (codes "x")) ∷ [])) ∷ [])) ∷ (unit.function 10 ty.Void (codes "main") [] (Some no_stmt)) ∷ []) 15)
unfolding engine.routine_named engine.constant_named
unit_85 = (refl, refl)

-- struct S { float x; }; struct S s; void main() { s.x; 1 = 2; }
unit_86 : IsAt RefusedType 3
    (u ((unit.structure 1 (codes "S") ((l 3 ty.Float ((i 4 (codes "x")) ∷ [])) ∷ [])) ∷
    (unit.global 8 (ty.Struct (codes "S")) ((d 10 (codes "s") None) ∷ [])) ∷
    (unit.function 13 ty.Void (codes "main") []
    (Some (more_stmts (s.expression 17 (e.member 18 (e.name 17 (codes "s")) (codes "x")))
    (more_stmts (s.expression 21 (e.assign 22 asg.Set (e.int 21 (pos 1)) (e.int 23 (pos 2)))) no_stmt)))) ∷ []) 26)
unfolding engine.routine_named engine.constant_named
unit_86 = (refl, refl)

-- struct S { int x; }; void main() { f().x = 1; } struct S f() { struct S s; return s; }
unit_87 : IsAt NotPlace 18
    (u ((unit.structure 1 (codes "S") ((l 3 ty.Int ((i 4 (codes "x")) ∷ [])) ∷ [])) ∷
    (unit.function 9 ty.Void (codes "main") []
    (Some (more_stmts (s.expression 13
    (e.assign 18 asg.Set (e.member 16 (e.call 13 (codes "f") no_expr) (codes "x")) (e.int 19 (pos 1)))) no_stmt))) ∷
    (unit.function 24 (ty.Struct (codes "S")) (codes "f") []
    (Some (more_stmts (s.declaration 28 (ty.Struct (codes "S")) ((d 30 (codes "s") None) ∷ []))
    (more_stmts (s.return_from 32 (Some (e.name 33 (codes "s")))) no_stmt)))) ∷ []) 36)
unfolding engine.routine_named engine.constant_named
unit_87 = (refl, refl)

-- float f() { return 1; } void main() { y; }
unit_88 : IsAt RefusedType 1
    (u ((unit.function 1 ty.Float (codes "f") []
    (Some (more_stmts (s.return_from 5 (Some (e.int 6 (pos 1)))) no_stmt))) ∷
    (unit.function 10 ty.Void (codes "main") []
    (Some (more_stmts (s.expression 14 (e.name 14 (codes "y"))) no_stmt))) ∷ []) 17)
unfolding engine.routine_named engine.constant_named
unit_88 = (refl, refl)

-- int a = 1, b = a + 1; void main() { a = b; }
unit_89 : IsFine (u ((unit.global 0 ty.Int
    ((d 1 (codes "a") (Some (e.int 3 (pos 1)))) ∷
    (d 5 (codes "b") (Some (e.binary 8 bin.Add (e.name 7 (codes "a")) (e.int 9 (pos 1))))) ∷ [])) ∷
    (unit.function 12 ty.Void (codes "main") []
    (Some (more_stmts (s.expression 16
    (e.assign 17 asg.Set (e.name 16 (codes "a")) (e.name 18 (codes "b")))) no_stmt))) ∷ []) 21)
unfolding engine.routine_named engine.constant_named
unit_89 = (refl, refl)

-- int a = b, b = 1; void main() {}
unit_90 : IsAt Unknown 3 (u
    ((unit.global 0 ty.Int ((d 1 (codes "a") (Some (e.name 3 (codes "b")))) ∷
    (d 5 (codes "b") (Some (e.int 7 (pos 1)))) ∷ [])) ∷
    (unit.function 10 ty.Void (codes "main") [] (Some no_stmt)) ∷ []) 15)
unfolding engine.routine_named engine.constant_named
unit_90 = (refl, refl)

-- void main() { switch (1) { case 1: case TRUE: ; } }
unit_91 : IsAt Redeclared 13
    (u ((unit.function 1 ty.Void (codes "main") []
    (Some (more_stmts (s.switch 5 (e.int 7 (pos 1))
    (more_stmts (s.case_label 10 (k.Int 11 false (pos 1)))
    (more_stmts (s.case_label 13 (k.Name 14 (codes "TRUE"))) (more_stmts (s.empty 16) no_stmt)))) no_stmt))) ∷ []) 19)
unfolding engine.routine_named engine.constant_named
unit_91 = (refl, refl)

-- struct A { int a, b, c, d, e, f, g, h; }; struct B { struct A a, b, c, d, e, f, g, h; }; void
-- main() {}
unit_92 : IsFine (u ((unit.structure 1 (codes "A")
    ((l 3 ty.Int ((i 4 (codes "a")) ∷ (i 6 (codes "b")) ∷ (i 8 (codes "c")) ∷ (i 10 (codes "d")) ∷ (i 12 (codes "e")) ∷
    (i 14 (codes "f")) ∷ (i 16 (codes "g")) ∷ (i 18 (codes "h")) ∷ [])) ∷ [])) ∷
    (unit.structure 23 (codes "B")
    ((l 25 (ty.Struct (codes "A"))
    ((i 27 (codes "a")) ∷ (i 29 (codes "b")) ∷ (i 31 (codes "c")) ∷ (i 33 (codes "d")) ∷ (i 35 (codes "e")) ∷
    (i 37 (codes "f")) ∷ (i 39 (codes "g")) ∷ (i 41 (codes "h")) ∷ [])) ∷ [])) ∷
    (unit.function 46 ty.Void (codes "main") [] (Some no_stmt)) ∷ []) 51)
unfolding engine.routine_named engine.constant_named
unit_92 = (refl, refl)

-- struct A { int a, b, c, d, e, f, g, h; }; struct B { struct A a, b, c, d, e, f, g, h; int n; };
-- void main() {}
unit_93 : IsAt Cells 44 (u
    ((unit.structure 1 (codes "A")
    ((l 3 ty.Int ((i 4 (codes "a")) ∷ (i 6 (codes "b")) ∷ (i 8 (codes "c")) ∷ (i 10 (codes "d")) ∷ (i 12 (codes "e")) ∷
    (i 14 (codes "f")) ∷ (i 16 (codes "g")) ∷ (i 18 (codes "h")) ∷ [])) ∷ [])) ∷
    (unit.structure 23 (codes "B")
    ((l 25 (ty.Struct (codes "A"))
    ((i 27 (codes "a")) ∷ (i 29 (codes "b")) ∷ (i 31 (codes "c")) ∷ (i 33 (codes "d")) ∷ (i 35 (codes "e")) ∷
    (i 37 (codes "f")) ∷ (i 39 (codes "g")) ∷ (i 41 (codes "h")) ∷ [])) ∷
    (l 43 ty.Int ((i 44 (codes "n")) ∷ [])) ∷ [])) ∷
    (unit.function 49 ty.Void (codes "main") [] (Some no_stmt)) ∷ []) 54)
unfolding engine.routine_named engine.constant_named
unit_93 = (refl, refl)

-- struct A { int a, b, c, d, e, f, g, h; }; struct B { struct A a, b, c, d, e, f, g, h; }; void
-- main() { struct B v0, v1, v2, v3, v4, v5, v6, v7, v8, v9, v10, v11, v12, v13, v14, v15, v16, v17,
-- v18, v19, v20, v21, v22, v23, v24, v25, v26, v27, v28, v29, v30, v31, v32, v33, v34, v35, v36,
-- v37, v38, v39, v40, v41, v42, v43, v44, v45, v46, v47, v48, v49, v50, v51, v52, v53, v54, v55,
-- v56, v57, v58, v59, v60, v61, v62; }
unit_94 : IsAt Cells 176 (u
    ((unit.structure 1 (codes "A")
    ((l 3 ty.Int ((i 4 (codes "a")) ∷ (i 6 (codes "b")) ∷ (i 8 (codes "c")) ∷ (i 10 (codes "d")) ∷ (i 12 (codes "e")) ∷
    (i 14 (codes "f")) ∷ (i 16 (codes "g")) ∷ (i 18 (codes "h")) ∷ [])) ∷ [])) ∷
    (unit.structure 23 (codes "B")
    ((l 25 (ty.Struct (codes "A"))
    ((i 27 (codes "a")) ∷ (i 29 (codes "b")) ∷ (i 31 (codes "c")) ∷ (i 33 (codes "d")) ∷ (i 35 (codes "e")) ∷
    (i 37 (codes "f")) ∷ (i 39 (codes "g")) ∷ (i 41 (codes "h")) ∷ [])) ∷ [])) ∷
    (unit.function 46 ty.Void (codes "main") []
    (Some (more_stmts (s.declaration 50 (ty.Struct (codes "B"))
    ((d 52 (codes "v0") None) ∷ (d 54 (codes "v1") None) ∷ (d 56 (codes "v2") None) ∷ (d 58 (codes "v3") None) ∷
    (d 60 (codes "v4") None) ∷ (d 62 (codes "v5") None) ∷ (d 64 (codes "v6") None) ∷ (d 66 (codes "v7") None) ∷
    (d 68 (codes "v8") None) ∷ (d 70 (codes "v9") None) ∷ (d 72 (codes "v10") None) ∷ (d 74 (codes "v11") None) ∷
    (d 76 (codes "v12") None) ∷ (d 78 (codes "v13") None) ∷ (d 80 (codes "v14") None) ∷ (d 82 (codes "v15") None) ∷
    (d 84 (codes "v16") None) ∷ (d 86 (codes "v17") None) ∷ (d 88 (codes "v18") None) ∷ (d 90 (codes "v19") None) ∷
    (d 92 (codes "v20") None) ∷ (d 94 (codes "v21") None) ∷ (d 96 (codes "v22") None) ∷ (d 98 (codes "v23") None) ∷
    (d 100 (codes "v24") None) ∷ (d 102 (codes "v25") None) ∷ (d 104 (codes "v26") None) ∷ (d 106 (codes "v27") None) ∷
    (d 108 (codes "v28") None) ∷ (d 110 (codes "v29") None) ∷ (d 112 (codes "v30") None) ∷ (d 114 (codes "v31") None) ∷
    (d 116 (codes "v32") None) ∷ (d 118 (codes "v33") None) ∷ (d 120 (codes "v34") None) ∷ (d 122 (codes "v35") None) ∷
    (d 124 (codes "v36") None) ∷ (d 126 (codes "v37") None) ∷ (d 128 (codes "v38") None) ∷ (d 130 (codes "v39") None) ∷
    (d 132 (codes "v40") None) ∷ (d 134 (codes "v41") None) ∷ (d 136 (codes "v42") None) ∷ (d 138 (codes "v43") None) ∷
    (d 140 (codes "v44") None) ∷ (d 142 (codes "v45") None) ∷ (d 144 (codes "v46") None) ∷ (d 146 (codes "v47") None) ∷
    (d 148 (codes "v48") None) ∷ (d 150 (codes "v49") None) ∷ (d 152 (codes "v50") None) ∷ (d 154 (codes "v51") None) ∷
    (d 156 (codes "v52") None) ∷ (d 158 (codes "v53") None) ∷ (d 160 (codes "v54") None) ∷ (d 162 (codes "v55") None) ∷
    (d 164 (codes "v56") None) ∷ (d 166 (codes "v57") None) ∷ (d 168 (codes "v58") None) ∷ (d 170 (codes "v59") None) ∷
    (d 172 (codes "v60") None) ∷ (d 174 (codes "v61") None) ∷ (d 176 (codes "v62") None) ∷ [])) no_stmt))) ∷ []) 179)
unfolding engine.routine_named engine.constant_named
unit_94 = (refl, refl)

-- struct A { int a, b, c, d, e, f, g, h; }; struct B { struct A a, b, c, d, e, f, g, h; }; void
-- main() { struct B v0, v1, v2, v3, v4, v5, v6, v7, v8, v9, v10, v11, v12, v13, v14, v15, v16, v17,
-- v18, v19, v20, v21, v22, v23, v24, v25, v26, v27, v28, v29, v30, v31, v32, v33, v34, v35, v36,
-- v37, v38, v39, v40, v41, v42, v43, v44, v45, v46, v47, v48, v49, v50, v51, v52, v53, v54, v55,
-- v56, v57, v58, v59, v60, v61; struct A w0, w1, w2, w3; { } }
unit_95 : IsFine (u ((unit.structure 1 (codes "A")
    ((l 3 ty.Int ((i 4 (codes "a")) ∷ (i 6 (codes "b")) ∷ (i 8 (codes "c")) ∷ (i 10 (codes "d")) ∷ (i 12 (codes "e")) ∷
    (i 14 (codes "f")) ∷ (i 16 (codes "g")) ∷ (i 18 (codes "h")) ∷ [])) ∷ [])) ∷
    (unit.structure 23 (codes "B")
    ((l 25 (ty.Struct (codes "A"))
    ((i 27 (codes "a")) ∷ (i 29 (codes "b")) ∷ (i 31 (codes "c")) ∷ (i 33 (codes "d")) ∷ (i 35 (codes "e")) ∷
    (i 37 (codes "f")) ∷ (i 39 (codes "g")) ∷ (i 41 (codes "h")) ∷ [])) ∷ [])) ∷
    (unit.function 46 ty.Void (codes "main") []
    (Some (more_stmts (s.declaration 50 (ty.Struct (codes "B"))
    ((d 52 (codes "v0") None) ∷ (d 54 (codes "v1") None) ∷ (d 56 (codes "v2") None) ∷ (d 58 (codes "v3") None) ∷
    (d 60 (codes "v4") None) ∷ (d 62 (codes "v5") None) ∷ (d 64 (codes "v6") None) ∷ (d 66 (codes "v7") None) ∷
    (d 68 (codes "v8") None) ∷ (d 70 (codes "v9") None) ∷ (d 72 (codes "v10") None) ∷ (d 74 (codes "v11") None) ∷
    (d 76 (codes "v12") None) ∷ (d 78 (codes "v13") None) ∷ (d 80 (codes "v14") None) ∷ (d 82 (codes "v15") None) ∷
    (d 84 (codes "v16") None) ∷ (d 86 (codes "v17") None) ∷ (d 88 (codes "v18") None) ∷ (d 90 (codes "v19") None) ∷
    (d 92 (codes "v20") None) ∷ (d 94 (codes "v21") None) ∷ (d 96 (codes "v22") None) ∷ (d 98 (codes "v23") None) ∷
    (d 100 (codes "v24") None) ∷ (d 102 (codes "v25") None) ∷ (d 104 (codes "v26") None) ∷ (d 106 (codes "v27") None) ∷
    (d 108 (codes "v28") None) ∷ (d 110 (codes "v29") None) ∷ (d 112 (codes "v30") None) ∷ (d 114 (codes "v31") None) ∷
    (d 116 (codes "v32") None) ∷ (d 118 (codes "v33") None) ∷ (d 120 (codes "v34") None) ∷ (d 122 (codes "v35") None) ∷
    (d 124 (codes "v36") None) ∷ (d 126 (codes "v37") None) ∷ (d 128 (codes "v38") None) ∷ (d 130 (codes "v39") None) ∷
    (d 132 (codes "v40") None) ∷ (d 134 (codes "v41") None) ∷ (d 136 (codes "v42") None) ∷ (d 138 (codes "v43") None) ∷
    (d 140 (codes "v44") None) ∷ (d 142 (codes "v45") None) ∷ (d 144 (codes "v46") None) ∷ (d 146 (codes "v47") None) ∷
    (d 148 (codes "v48") None) ∷ (d 150 (codes "v49") None) ∷ (d 152 (codes "v50") None) ∷ (d 154 (codes "v51") None) ∷
    (d 156 (codes "v52") None) ∷ (d 158 (codes "v53") None) ∷ (d 160 (codes "v54") None) ∷ (d 162 (codes "v55") None) ∷
    (d 164 (codes "v56") None) ∷ (d 166 (codes "v57") None) ∷ (d 168 (codes "v58") None) ∷ (d 170 (codes "v59") None) ∷
    (d 172 (codes "v60") None) ∷ (d 174 (codes "v61") None) ∷ []))
    (more_stmts (s.declaration 176 (ty.Struct (codes "A"))
    ((d 178 (codes "w0") None) ∷ (d 180 (codes "w1") None) ∷ (d 182 (codes "w2") None) ∷
    (d 184 (codes "w3") None) ∷ [])) (more_stmts (s.block 186 no_stmt) no_stmt))))) ∷ []) 189)
unfolding engine.routine_named engine.constant_named
unit_95 = (refl, refl)

-- struct A { int a, b, c, d, e, f, g, h; }; struct B { struct A a, b, c, d, e, f, g, h; }; void
-- main() { struct B v0, v1, v2, v3, v4, v5, v6, v7, v8, v9, v10, v11, v12, v13, v14, v15, v16, v17,
-- v18, v19, v20, v21, v22, v23, v24, v25, v26, v27, v28, v29, v30, v31, v32, v33, v34, v35, v36,
-- v37, v38, v39, v40, v41, v42, v43, v44, v45, v46, v47, v48, v49, v50, v51, v52, v53, v54, v55,
-- v56, v57, v58, v59, v60, v61; struct A w0, w1, w2, w3; switch (1) { } }
unit_96 : IsAt Cells 186 (u
    ((unit.structure 1 (codes "A")
    ((l 3 ty.Int ((i 4 (codes "a")) ∷ (i 6 (codes "b")) ∷ (i 8 (codes "c")) ∷ (i 10 (codes "d")) ∷ (i 12 (codes "e")) ∷
    (i 14 (codes "f")) ∷ (i 16 (codes "g")) ∷ (i 18 (codes "h")) ∷ [])) ∷ [])) ∷
    (unit.structure 23 (codes "B")
    ((l 25 (ty.Struct (codes "A"))
    ((i 27 (codes "a")) ∷ (i 29 (codes "b")) ∷ (i 31 (codes "c")) ∷ (i 33 (codes "d")) ∷ (i 35 (codes "e")) ∷
    (i 37 (codes "f")) ∷ (i 39 (codes "g")) ∷ (i 41 (codes "h")) ∷ [])) ∷ [])) ∷
    (unit.function 46 ty.Void (codes "main") []
    (Some (more_stmts (s.declaration 50 (ty.Struct (codes "B"))
    ((d 52 (codes "v0") None) ∷ (d 54 (codes "v1") None) ∷ (d 56 (codes "v2") None) ∷ (d 58 (codes "v3") None) ∷
    (d 60 (codes "v4") None) ∷ (d 62 (codes "v5") None) ∷ (d 64 (codes "v6") None) ∷ (d 66 (codes "v7") None) ∷
    (d 68 (codes "v8") None) ∷ (d 70 (codes "v9") None) ∷ (d 72 (codes "v10") None) ∷ (d 74 (codes "v11") None) ∷
    (d 76 (codes "v12") None) ∷ (d 78 (codes "v13") None) ∷ (d 80 (codes "v14") None) ∷ (d 82 (codes "v15") None) ∷
    (d 84 (codes "v16") None) ∷ (d 86 (codes "v17") None) ∷ (d 88 (codes "v18") None) ∷ (d 90 (codes "v19") None) ∷
    (d 92 (codes "v20") None) ∷ (d 94 (codes "v21") None) ∷ (d 96 (codes "v22") None) ∷ (d 98 (codes "v23") None) ∷
    (d 100 (codes "v24") None) ∷ (d 102 (codes "v25") None) ∷ (d 104 (codes "v26") None) ∷ (d 106 (codes "v27") None) ∷
    (d 108 (codes "v28") None) ∷ (d 110 (codes "v29") None) ∷ (d 112 (codes "v30") None) ∷ (d 114 (codes "v31") None) ∷
    (d 116 (codes "v32") None) ∷ (d 118 (codes "v33") None) ∷ (d 120 (codes "v34") None) ∷ (d 122 (codes "v35") None) ∷
    (d 124 (codes "v36") None) ∷ (d 126 (codes "v37") None) ∷ (d 128 (codes "v38") None) ∷ (d 130 (codes "v39") None) ∷
    (d 132 (codes "v40") None) ∷ (d 134 (codes "v41") None) ∷ (d 136 (codes "v42") None) ∷ (d 138 (codes "v43") None) ∷
    (d 140 (codes "v44") None) ∷ (d 142 (codes "v45") None) ∷ (d 144 (codes "v46") None) ∷ (d 146 (codes "v47") None) ∷
    (d 148 (codes "v48") None) ∷ (d 150 (codes "v49") None) ∷ (d 152 (codes "v50") None) ∷ (d 154 (codes "v51") None) ∷
    (d 156 (codes "v52") None) ∷ (d 158 (codes "v53") None) ∷ (d 160 (codes "v54") None) ∷ (d 162 (codes "v55") None) ∷
    (d 164 (codes "v56") None) ∷ (d 166 (codes "v57") None) ∷ (d 168 (codes "v58") None) ∷ (d 170 (codes "v59") None) ∷
    (d 172 (codes "v60") None) ∷ (d 174 (codes "v61") None) ∷ []))
    (more_stmts (s.declaration 176 (ty.Struct (codes "A"))
    ((d 178 (codes "w0") None) ∷ (d 180 (codes "w1") None) ∷ (d 182 (codes "w2") None) ∷
    (d 184 (codes "w3") None) ∷ [])) (more_stmts (s.switch 186 (e.int 188 (pos 1)) no_stmt) no_stmt))))) ∷ []) 193)
unfolding engine.routine_named engine.constant_named
unit_96 = (refl, refl)

-- struct A { int a, b, c, d, e, f, g, h; }; struct B { struct A a, b, c, d, e, f, g, h; }; struct B
-- v0, v1, v2, v3, v4, v5, v6, v7, v8, v9, v10, v11, v12, v13, v14, v15, v16, v17, v18, v19, v20,
-- v21, v22, v23, v24, v25, v26, v27, v28, v29, v30, v31, v32, v33, v34, v35, v36, v37, v38, v39,
-- v40, v41, v42, v43, v44, v45, v46, v47, v48, v49, v50, v51, v52, v53, v54, v55, v56, v57, v58,
-- v59, v60, v61, v62; void main() {}
unit_97 : IsAt Cells 171 (u
    ((unit.structure 1 (codes "A")
    ((l 3 ty.Int ((i 4 (codes "a")) ∷ (i 6 (codes "b")) ∷ (i 8 (codes "c")) ∷ (i 10 (codes "d")) ∷ (i 12 (codes "e")) ∷
    (i 14 (codes "f")) ∷ (i 16 (codes "g")) ∷ (i 18 (codes "h")) ∷ [])) ∷ [])) ∷
    (unit.structure 23 (codes "B")
    ((l 25 (ty.Struct (codes "A"))
    ((i 27 (codes "a")) ∷ (i 29 (codes "b")) ∷ (i 31 (codes "c")) ∷ (i 33 (codes "d")) ∷ (i 35 (codes "e")) ∷
    (i 37 (codes "f")) ∷ (i 39 (codes "g")) ∷ (i 41 (codes "h")) ∷ [])) ∷ [])) ∷
    (unit.global 45 (ty.Struct (codes "B"))
    ((d 47 (codes "v0") None) ∷ (d 49 (codes "v1") None) ∷ (d 51 (codes "v2") None) ∷ (d 53 (codes "v3") None) ∷
    (d 55 (codes "v4") None) ∷ (d 57 (codes "v5") None) ∷ (d 59 (codes "v6") None) ∷ (d 61 (codes "v7") None) ∷
    (d 63 (codes "v8") None) ∷ (d 65 (codes "v9") None) ∷ (d 67 (codes "v10") None) ∷ (d 69 (codes "v11") None) ∷
    (d 71 (codes "v12") None) ∷ (d 73 (codes "v13") None) ∷ (d 75 (codes "v14") None) ∷ (d 77 (codes "v15") None) ∷
    (d 79 (codes "v16") None) ∷ (d 81 (codes "v17") None) ∷ (d 83 (codes "v18") None) ∷ (d 85 (codes "v19") None) ∷
    (d 87 (codes "v20") None) ∷ (d 89 (codes "v21") None) ∷ (d 91 (codes "v22") None) ∷ (d 93 (codes "v23") None) ∷
    (d 95 (codes "v24") None) ∷ (d 97 (codes "v25") None) ∷ (d 99 (codes "v26") None) ∷ (d 101 (codes "v27") None) ∷
    (d 103 (codes "v28") None) ∷ (d 105 (codes "v29") None) ∷ (d 107 (codes "v30") None) ∷ (d 109 (codes "v31") None) ∷
    (d 111 (codes "v32") None) ∷ (d 113 (codes "v33") None) ∷ (d 115 (codes "v34") None) ∷ (d 117 (codes "v35") None) ∷
    (d 119 (codes "v36") None) ∷ (d 121 (codes "v37") None) ∷ (d 123 (codes "v38") None) ∷ (d 125 (codes "v39") None) ∷
    (d 127 (codes "v40") None) ∷ (d 129 (codes "v41") None) ∷ (d 131 (codes "v42") None) ∷ (d 133 (codes "v43") None) ∷
    (d 135 (codes "v44") None) ∷ (d 137 (codes "v45") None) ∷ (d 139 (codes "v46") None) ∷ (d 141 (codes "v47") None) ∷
    (d 143 (codes "v48") None) ∷ (d 145 (codes "v49") None) ∷ (d 147 (codes "v50") None) ∷ (d 149 (codes "v51") None) ∷
    (d 151 (codes "v52") None) ∷ (d 153 (codes "v53") None) ∷ (d 155 (codes "v54") None) ∷ (d 157 (codes "v55") None) ∷
    (d 159 (codes "v56") None) ∷ (d 161 (codes "v57") None) ∷ (d 163 (codes "v58") None) ∷ (d 165 (codes "v59") None) ∷
    (d 167 (codes "v60") None) ∷ (d 169 (codes "v61") None) ∷ (d 171 (codes "v62") None) ∷ [])) ∷
    (unit.function 174 ty.Void (codes "main") [] (Some no_stmt)) ∷ []) 179)
unfolding engine.routine_named engine.constant_named
unit_97 = (refl, refl)

-- struct S s; struct S { int x; }; void main() {}
unit_98 : IsAt Unknown 0 (u
    ((unit.global 0 (ty.Struct (codes "S")) ((d 2 (codes "s") None) ∷ [])) ∷
    (unit.structure 5 (codes "S") ((l 7 ty.Int ((i 8 (codes "x")) ∷ [])) ∷ [])) ∷
    (unit.function 13 ty.Void (codes "main") [] (Some no_stmt)) ∷ []) 18)
unfolding engine.routine_named engine.constant_named
unit_98 = (refl, refl)

-- void f(int n); void main() { f(1, x()); } void f(int n) {} int x() { return 1; }
unit_99 : IsAt Arity 12 (u
    ((unit.function 1 ty.Void (codes "f") ((p 3 ty.Int (codes "n") None) ∷ []) None) ∷
    (unit.function 8 ty.Void (codes "main") []
    (Some (more_stmts (s.expression 12
    (e.call 12 (codes "f") (more_exprs (e.int 14 (pos 1))
    (more_exprs (e.call 16 (codes "x") no_expr) no_expr)))) no_stmt))) ∷
    (unit.function 23 ty.Void (codes "f") ((p 25 ty.Int (codes "n") None) ∷ []) (Some no_stmt)) ∷
    (unit.function 31 ty.Int (codes "x") []
    (Some (more_stmts (s.return_from 35 (Some (e.int 36 (pos 1)))) no_stmt))) ∷ []) 39)
unfolding engine.routine_named engine.constant_named
unit_99 = (refl, refl)

-- void f(int n); void main() { f(x, "a"); f(1); }
unit_100 : IsAt Unknown 14
    (u ((unit.function 1 ty.Void (codes "f") ((p 3 ty.Int (codes "n") None) ∷ []) None) ∷
    (unit.function 8 ty.Void (codes "main") []
    (Some (more_stmts (s.expression 12
    (e.call 12 (codes "f") (more_exprs (e.name 14 (codes "x")) (more_exprs (e.text 16 (codes "a")) no_expr))))
    (more_stmts (s.expression 19 (e.call 19 (codes "f") (more_exprs (e.int 21 (pos 1)) no_expr))) no_stmt)))) ∷ []) 25)
unfolding engine.routine_named engine.constant_named
unit_100 = (refl, refl)
