-- What small scripts print. Each script stands above its tree.
use Rattle.std.proofs.Common.{◌≡◌, refl, pos, [], ◌∷◌, None, Some}
use Rattle.std.specs.Prelude.{codes}
use Rattle.std.specs.Fmt.{digits}
use Rattle.nss_tree.specs.declared.operators.PostfixOperator.TheVariants as post
use Rattle.nss_tree.specs.declared.operators.BinaryOperator.TheVariants as bin
use Rattle.nss_tree.specs.declared.operators.AssignOperator.TheVariants as asg
use Rattle.nss_tree.specs.Statements as s
use Rattle.nss_tree.specs.Units as unit
use Rattle.area_rules.specs.Area.{PlainArea}
use Rattle.nwq_text.specs.Escape.{escaped, spelling}
use Rattle.nwq_text.specs.Values.{value_text}
use Rattle.nwq_value.specs.Header.{header_routines}
use Rattle.nwq_value.specs.HeaderTable.{header_table}
use Rattle.nwq_value.specs.declared.value.Ty.TheVariants as t
use Rattle.nwq_value.specs.declared.engine.Const.TheVariants as c
use Rattle.nwq_value.specs.Operators.{value_eq}
use Rattle.typing_rules.specs.declared.places.EntryPoint.TheVariants.{Main, Conditional}
use Rattle.typing_rules.specs.declared.places.Place.TheVariants.{Local}
use Rattle.typing_rules.specs.declared.places.Callee.TheVariants.{Engine}
use Rattle.typing_rules.specs.Typed.{TypedUnit}
use Rattle.typing_rules.specs.Typed as e
use Rattle.world_rules.specs.Engine.{engine}
use Rattle.world_rules.specs.Trace.{line_text, trace_text}
use Rattle.world_rules.specs.Plays.{Done, StoppedInside}
use Rattle.source_meaning.specs.Evaluation.{bind, spend}
use Rattle.source_meaning.proofs.Trees.{stmts, int, text, local, global, two, assign, routine, function_call, print, print_string, delay, execute, execute_here, does, sets, declare, param, global_of}
use Rattle.source_meaning.proofs.Trees.{function, unit_of, only_main, listed, creature, played, alone, printed}

-- void main() { PrintInteger(2+3); }
abbrev sum : TypedUnit
sum = only_main (does (print (two bin.Add (int 2) (int 3))) ∷ [])

sum_printed : (area : PlainArea) → printed (alone sum 5 area) ≡ codes "0 #0 print 5\n"
unfolding bind spend engine header_table header_routines trace_text line_text digits escaped spelling value_text
sum_printed area = refl

-- the start, two literals, the sum and the call
sum_steps : (area : PlainArea) → (alone sum 9 area).last.count ≡ 5
unfolding bind spend engine header_table header_routines
sum_steps area = refl

sum_stopped : (area : PlainArea) → (alone sum 4 area).ending ≡ StoppedInside
unfolding bind spend engine header_table header_routines
sum_stopped area = refl

sum_unprinted : (area : PlainArea) → (alone sum 4 area).last.trace ≡ []
unfolding bind spend engine header_table header_routines
sum_unprinted area = refl

-- void main() { int n=1; DelayCommand(1000, PrintInteger(n)); n=2; PrintInteger(n); }
abbrev captured_local : TypedUnit
captured_local = only_main (
    declare 0 t.Int (Some (int 1)) ∷ does (delay (int 1000) (print (local 0))) ∷ sets (local 0) (int 2) ∷ does (print (local 0)) ∷ [])

captured_local_printed : (area : PlainArea) → printed (alone captured_local 20 area) ≡ codes "0 #0 print 2\n1000 #0 print 1\n"
unfolding bind spend engine header_table header_routines trace_text line_text digits escaped spelling value_text
captured_local_printed area = refl

-- int n=1; void main() { DelayCommand(1000, PrintInteger(n)); n=2; PrintInteger(n); }
abbrev captured_global : TypedUnit
captured_global = unit_of (
    global_of 0 (Some (int 1))
    ∷ function t.Void [] (does (delay (int 1000) (print (global 0))) ∷ sets (global 0) (int 2) ∷ does (print (global 0)) ∷ []) ∷ []) (Main 0)

captured_global_printed : (area : PlainArea) → printed (alone captured_global 20 area) ≡ codes "0 #0 print 2\n1000 #0 print 1\n"
unfolding bind spend engine header_table header_routines trace_text line_text digits escaped spelling value_text
captured_global_printed area = refl

-- int g; void F() { g=g+1; PrintInteger(g); } void main() { DelayCommand(10, F()); DelayCommand(20,
-- F()); }
abbrev captured_apart : TypedUnit
captured_apart = unit_of (
    global_of 0 None
    ∷ function t.Void [] (sets (global 0) (two bin.Add (global 0) (int 1)) ∷ does (print (global 0)) ∷ [])
    ∷ function t.Void [] (does (delay (int 10) (function_call t.Void 0 [])) ∷ does (delay (int 20) (function_call t.Void 0 [])) ∷ []) ∷ []) (Main 1)

captured_apart_printed : (area : PlainArea) → printed (alone captured_apart 20 area) ≡ codes "10 #0 print 1\n20 #0 print 1\n"
unfolding bind spend engine header_table header_routines trace_text line_text digits escaped spelling value_text
captured_apart_printed area = refl

-- void main() { int n=0; AssignCommand(GetObjectByTag(IntToString(n++)), PrintInteger(n));
-- PrintInteger(n); }
abbrev last_first : TypedUnit
last_first = only_main (
    declare 0 t.Int (Some (int 0))
    ∷ does (routine t.Void 6 (
    e.call t.Object (Engine 14) (e.more_typed (routine t.Text 29 (e.postfix t.Int post.Increment (local 0) ∷ [])) e.no_typed) (c.Int (pos 0) ∷ [])
    ∷ print (local 0) ∷ []))
    ∷ does (print (local 0)) ∷ [])

last_first_printed : (area : PlainArea) → printed (played (listed "p" last_first ∷ []) area (creature "0" ∷ []) 1 "p" 20) ≡ codes "0 #1 print 1\n0 #1 print 0\n"
unfolding bind spend engine header_table header_routines trace_text line_text digits escaped spelling value_text
last_first_printed area = refl

-- int f() { DelayCommand(1, PrintString("inner")); return 5; } void main() { DelayCommand(f(),
-- PrintString("outer")); }
abbrev nested : TypedUnit
nested = unit_of (
    function t.Int [] (does (delay (int 1) (print_string "inner")) ∷ s.return_from 0 (Some (int 5)) ∷ [])
    ∷ function t.Void [] (does (delay (function_call t.Int 0 []) (print_string "outer")) ∷ []) ∷ []) (Main 1)

nested_printed : (area : PlainArea) → printed (alone nested 20 area) ≡ codes "1 #0 print inner\n5 #0 print outer\n"
unfolding bind spend engine header_table header_routines trace_text line_text digits escaped spelling value_text
nested_printed area = refl

-- void main() { DelayCommand(5, PrintInteger(8)); PrintInteger(7); PrintInteger(1/0); }
abbrev divided : TypedUnit
divided = only_main (does (delay (int 5) (print (int 8))) ∷ does (print (int 7)) ∷ does (print (two bin.Divide (int 1) (int 0))) ∷ [])

divided_printed : (area : PlainArea) → printed (alone divided 20 area) ≡ codes "0 #0 print 7\n0 #0 fault divide\n5 #0 print 8\n"
unfolding bind spend engine header_table header_routines trace_text line_text digits escaped spelling value_text
divided_printed area = refl

-- void main() { int i; for (i=0; i<3; i++) PrintInteger(i); }
abbrev counting : TypedUnit
counting = only_main (
    declare 0 t.Int None
    ∷ s.for_loop 0 (Some (assign asg.Set (local 0) (int 0))) (Some (two bin.Less (local 0) (int 3)))
    (Some (e.postfix t.Int post.Increment (local 0))) (does (print (local 0))) ∷ [])

counting_printed : (area : PlainArea) → printed (alone counting 40 area) ≡ codes "0 #0 print 0\n0 #0 print 1\n0 #0 print 2\n"
unfolding bind spend engine header_table header_routines trace_text line_text digits escaped spelling value_text
counting_printed area = refl

-- void main() { PrintInteger(7); PrintInteger(1/0); PrintInteger(8); }
abbrev broken_off : TypedUnit
broken_off = only_main (does (print (int 7)) ∷ does (print (two bin.Divide (int 1) (int 0))) ∷ does (print (int 8)) ∷ [])

broken_off_printed : (area : PlainArea) → printed (alone broken_off 20 area) ≡ codes "0 #0 print 7\n0 #0 fault divide\n"
unfolding bind spend engine header_table header_routines trace_text line_text digits escaped spelling value_text
broken_off_printed area = refl

-- void main() { switch (2) { case 1: PrintInteger(1); case 2: PrintInteger(2); default:
-- PrintInteger(3); } }
abbrev falling : TypedUnit
falling = only_main (
    s.switch 0 (int 2) (stmts (
    s.case_label 0 (c.Int (pos 1)) ∷ does (print (int 1))
    ∷ s.case_label 0 (c.Int (pos 2)) ∷ does (print (int 2))
    ∷ s.default_label 0 ∷ does (print (int 3)) ∷ [])) ∷ [])

falling_printed : (area : PlainArea) → printed (alone falling 20 area) ≡ codes "0 #0 print 2\n0 #0 print 3\n"
unfolding bind spend engine header_table header_routines trace_text line_text digits escaped spelling value_text value_eq
falling_printed area = refl

-- void main() { int p; p += p += 1/0; }
abbrev divided_first : TypedUnit
divided_first = only_main (
    declare 0 t.Int None ∷ does (assign asg.Add (local 0) (assign asg.Add (local 0) (two bin.Divide (int 1) (int 0)))) ∷ [])

divided_first_printed : (area : PlainArea) → printed (alone divided_first 20 area) ≡ codes "0 #0 fault divide\n"
unfolding bind spend engine header_table header_routines trace_text line_text digits escaped spelling value_text
divided_first_printed area = refl

-- the start, the variable, two reads and two literals: the division is none
divided_first_steps : (area : PlainArea) → (alone divided_first 20 area).last.count ≡ 6
unfolding bind spend engine header_table header_routines
divided_first_steps area = refl

-- int f(int a, int b) { if (a==0) return b; return f(a-1,b+1); } void main() {
-- PrintInteger(f(3,4)); }
abbrev recursive : TypedUnit
recursive = unit_of (
    function t.Int (param 0 t.Int ∷ param 1 t.Int ∷ []) (
    s.if_only 0 (two bin.Equal (local 0) (int 0)) (s.return_from 0 (Some (local 1)))
    ∷ s.return_from 0 (Some (function_call t.Int 0 (two bin.Subtract (local 0) (int 1) ∷ two bin.Add (local 1) (int 1) ∷ []))) ∷ [])
    ∷ function t.Void [] (does (print (function_call t.Int 0 (int 3 ∷ int 4 ∷ []))) ∷ []) ∷ []) (Main 1)

recursive_printed : (area : PlainArea) → printed (alone recursive 70 area) ≡ codes "0 #0 print 7\n"
unfolding bind spend engine header_table header_routines trace_text line_text digits escaped spelling value_text value_eq
recursive_printed area = refl

-- int StartingConditional() { return 3; }
abbrev conditional : TypedUnit
conditional = unit_of (function t.Int [] (s.return_from 0 (Some (int 3)) ∷ []) ∷ []) (Conditional 0)

-- the start, the result's cell, the literal and the return
conditional_steps : (area : PlainArea) → (alone conditional 9 area).last.count ≡ 4
unfolding bind spend engine header_table header_routines
conditional_steps area = refl

conditional_ends : (area : PlainArea) → (alone conditional 4 area).ending ≡ Done
unfolding bind spend engine header_table header_routines
conditional_ends area = refl

-- int g=1; void F() { g=g+1; PrintInteger(g); } void main() { F(); F(); }
abbrev counted : TypedUnit
counted = unit_of (
    global_of 0 (Some (int 1))
    ∷ function t.Void [] (sets (global 0) (two bin.Add (global 0) (int 1)) ∷ does (print (global 0)) ∷ [])
    ∷ function t.Void [] (does (function_call t.Void 0 []) ∷ does (function_call t.Void 0 []) ∷ []) ∷ []) (Main 1)

counted_printed : (area : PlainArea) → printed (alone counted 30 area) ≡ codes "0 #0 print 2\n0 #0 print 3\n"
unfolding bind spend engine header_table header_routines trace_text line_text digits escaped spelling value_text
counted_printed area = refl

-- struct P { int x; int y; }; struct P Make(int a) { struct P p; p.x=a; p.y=a+1; return p; } void
-- main() { PrintInteger(Make(4).y); }
abbrev pair_of : TypedUnit
pair_of = unit_of (
    unit.structure 0 (codes "P") (
    record { token = 0; ty = t.Int; names = record { token = 0; name = codes "x" } ∷ [] }
    ∷ record { token = 0; ty = t.Int; names = record { token = 0; name = codes "y" } ∷ [] } ∷ [])
    ∷ function (t.Struct 0) (param 0 t.Int ∷ []) (
    declare 1 (t.Struct 0) None
    ∷ sets (e.member t.Int (e.name (t.Struct 0) (Local 1)) 0) (local 0)
    ∷ sets (e.member t.Int (e.name (t.Struct 0) (Local 1)) 1) (two bin.Add (local 0) (int 1))
    ∷ s.return_from 0 (Some (e.name (t.Struct 0) (Local 1))) ∷ [])
    ∷ function t.Void [] (does (print (e.member t.Int (function_call (t.Struct 0) 0 (int 4 ∷ [])) 1)) ∷ []) ∷ []) (Main 1)

pair_of_printed : (area : PlainArea) → printed (alone pair_of 30 area) ≡ codes "0 #0 print 5\n"
unfolding bind spend engine header_table header_routines trace_text line_text digits escaped spelling value_text
pair_of_printed area = refl

-- void main() { PrintInteger(1); ExecuteScript("p"); }
abbrev again : TypedUnit
again = only_main (does (print (int 1)) ∷ does (execute_here "p") ∷ [])

again_printed : (area : PlainArea) → printed (alone again 60 area)
    ≡ codes "0 #0 print 1\n0 #0 print 1\n0 #0 print 1\n0 #0 print 1\n0 #0 print 1\n0 #0 print 1\n0 #0 print 1\n0 #0 print 1\n0 #0 print 1\n0 #0 deep p\n"
unfolding bind spend engine header_table header_routines trace_text line_text digits escaped spelling value_text
again_printed area = refl

-- s: int g=1; void main() { ExecuteScript("t", GetObjectByTag("guard")); PrintInteger(g); }
abbrev outer : TypedUnit
outer = unit_of (
    global_of 0 (Some (int 1))
    ∷ function t.Void [] (
    does (execute "t" (e.call t.Object (Engine 14) (e.more_typed (text "guard") e.no_typed) (c.Int (pos 0) ∷ [])))
    ∷ does (print (global 0)) ∷ []) ∷ []) (Main 0)

-- t: int g=5; void main() { g=6; PrintInteger(g); }
abbrev inner : TypedUnit
inner = unit_of (global_of 0 (Some (int 5)) ∷ function t.Void [] (sets (global 0) (int 6) ∷ does (print (global 0)) ∷ []) ∷ []) (Main 0)

executed_printed : (area : PlainArea) → printed (played (listed "s" outer ∷ listed "t" inner ∷ []) area (creature "guard" ∷ []) 0 "s" 30) ≡ codes "0 #1 print 6\n0 #0 print 1\n"
unfolding bind spend engine header_table header_routines trace_text line_text digits escaped spelling value_text
executed_printed area = refl

-- as t: void main() { PrintInteger(1/0); }
executed_divides : (area : PlainArea)
    → printed (played (listed "s" outer ∷ listed "t" (only_main (does (print (two bin.Divide (int 1) (int 0))) ∷ [])) ∷ []) area (creature "guard" ∷ []) 0 "s" 30) ≡ codes "0 #1 fault divide\n"
unfolding bind spend engine header_table header_routines trace_text line_text digits escaped spelling value_text
executed_divides area = refl
