-- What small scripts with each kind of statement print, and the steps of each kind. Each script
-- stands above its tree; what is expected was worked out by hand.
use Rattle.std.proofs.Common.{◌≡◌, refl, ℕ, pos, [], ◌∷◌, ◌-◌, None, Some}
use Rattle.std.specs.Prelude.{codes}
use Rattle.std.specs.Fmt.{digits}
use Rattle.nss_tree.specs.declared.operators.PostfixOperator.TheVariants as post
use Rattle.nss_tree.specs.declared.operators.BinaryOperator.TheVariants as bin
use Rattle.nss_tree.specs.declared.operators.AssignOperator.TheVariants as asg
use Rattle.nss_tree.specs.Statements as s
use Rattle.nss_tree.specs.Units as unit
use Rattle.area_rules.specs.Area.{PlainArea}
use Rattle.nwq_text.specs.Escape.{escaped, spelling}
use Rattle.nwq_text.specs.Values.{value_text}
use Rattle.nwq_value.specs.Header.{header_routines}
use Rattle.nwq_value.specs.HeaderTable.{header_table}
use Rattle.nwq_value.specs.Operators.{value_eq}
use Rattle.nwq_value.specs.declared.value.Ty.TheVariants as t
use Rattle.nwq_value.specs.declared.engine.Const.TheVariants as c
use Rattle.typing_rules.specs.declared.places.EntryPoint.TheVariants.{Main}
use Rattle.typing_rules.specs.declared.places.Place.TheVariants.{Local}
use Rattle.typing_rules.specs.Typed.{TypedExpr, TypedStmt, TypedUnit}
use Rattle.typing_rules.specs.Typed as e
use Rattle.world_rules.specs.Engine.{engine}
use Rattle.world_rules.specs.Trace.{line_text, trace_text}
use Rattle.world_rules.specs.World.{World}
use Rattle.source_meaning.specs.Evaluation.{Deferred, Outcome, Gives, Divides, OutOfSteps, bind, spend}
use Rattle.source_meaning.specs.Expressions.{Running}
use Rattle.source_meaning.specs.Statements.{Flow, exec}
use Rattle.source_meaning.specs.Scripts.{no_functions}
use Rattle.source_meaning.proofs.Trees.{stmts, int, local, global, two, assign, function_call, print, delay, execute_here, does, sets, declare, global_of, function, unit_of, only_main, listed, played}
use Rattle.source_meaning.proofs.Trees.{alone, printed, here, begun}

abbrev count_up : TypedExpr
count_up = e.postfix t.Int post.Increment (local 0)

-- a loop of the local 0 from 0 up to 2
abbrev three_times : TypedStmt → TypedStmt
three_times body = s.for_loop 0 (Some (assign asg.Set (local 0) (int 0))) (Some (two bin.Less (local 0) (int 3))) (Some count_up) body

-- ---- loops

-- for (i=0; i<3; i++) { if (i==1) continue; PrintInteger(i); }
abbrev continued_for : TypedUnit
continued_for = only_main (declare 0 t.Int None ∷ three_times (s.block 0 (stmts (
    s.if_only 0 (two bin.Equal (local 0) (int 1)) (s.continue_on 0) ∷ does (print (local 0)) ∷ []))) ∷ [])

-- `continue` goes on with the third part
continued_for_printed : (area : PlainArea) → printed (alone continued_for 60 area) ≡ codes "0 #0 print 0\n0 #0 print 2\n"
unfolding bind spend engine header_table header_routines trace_text line_text digits escaped spelling value_text value_eq
continued_for_printed area = refl

-- for (i=0; i<3; i++) { switch (i) { case 1: continue; default: PrintInteger(i); } PrintInteger(9);
-- }
abbrev continued_switch : TypedUnit
continued_switch = only_main (declare 0 t.Int None ∷ three_times (s.block 0 (stmts (
    s.switch 0 (local 0) (stmts (s.case_label 0 (c.Int (pos 1)) ∷ s.continue_on 0 ∷ s.default_label 0 ∷ does (print (local 0)) ∷ []))
    ∷ does (print (int 9)) ∷ []))) ∷ [])

-- `continue` leaves the switch for the loop around it
continued_switch_printed : (area : PlainArea) → printed (alone continued_switch 60 area) ≡ codes "0 #0 print 0\n0 #0 print 9\n0 #0 print 2\n0 #0 print 9\n"
unfolding bind spend engine header_table header_routines trace_text line_text digits escaped spelling value_text value_eq
continued_switch_printed area = refl

-- for (i=0; i<3; i++) { switch (i) { case 0: PrintInteger(0); break; case 1: PrintInteger(1); }
-- PrintInteger(9); if (i==1) break; }
abbrev broken_switch : TypedUnit
broken_switch = only_main (declare 0 t.Int None ∷ three_times (s.block 0 (stmts (
    s.switch 0 (local 0) (stmts (
    s.case_label 0 (c.Int (pos 0)) ∷ does (print (int 0)) ∷ s.break_off 0 ∷ s.case_label 0 (c.Int (pos 1)) ∷ does (print (int 1)) ∷ []))
    ∷ does (print (int 9)) ∷ s.if_only 0 (two bin.Equal (local 0) (int 1)) (s.break_off 0) ∷ []))) ∷ [])

-- `break` in a switch ends the switch, and else the loop
broken_switch_printed : (area : PlainArea) → printed (alone broken_switch 60 area) ≡ codes "0 #0 print 0\n0 #0 print 9\n0 #0 print 1\n0 #0 print 9\n"
unfolding bind spend engine header_table header_routines trace_text line_text digits escaped spelling value_text value_eq
broken_switch_printed area = refl

-- int i=5; do { PrintInteger(i); i++; if (i==7) continue; PrintInteger(0); } while (i<7);
abbrev done_first : TypedUnit
done_first = only_main (declare 0 t.Int (Some (int 5)) ∷ s.do_loop 0 (s.block 0 (stmts (
    does (print (local 0)) ∷ does count_up ∷ s.if_only 0 (two bin.Equal (local 0) (int 7)) (s.continue_on 0) ∷ does (print (int 0)) ∷ [])))
    (two bin.Less (local 0) (int 7)) ∷ [])

done_first_printed : (area : PlainArea) → printed (alone done_first 60 area) ≡ codes "0 #0 print 5\n0 #0 print 0\n0 #0 print 6\n"
unfolding bind spend engine header_table header_routines trace_text line_text digits escaped spelling value_text value_eq
done_first_printed area = refl

-- int i=1; while (i) { if (i<3) i++; else { PrintInteger(i); break; } }
abbrev while_broken : TypedUnit
while_broken = only_main (declare 0 t.Int (Some (int 1)) ∷ s.while_loop 0 (local 0)
    (s.if_else 0 (two bin.Less (local 0) (int 3)) (does count_up) (s.block 0 (stmts (does (print (local 0)) ∷ s.break_off 0 ∷ [])))) ∷ [])

while_broken_printed : (area : PlainArea) → printed (alone while_broken 60 area) ≡ codes "0 #0 print 3\n"
unfolding bind spend engine header_table header_routines trace_text line_text digits escaped spelling value_text
while_broken_printed area = refl

-- ---- captures, structs, globals

-- for (i=0; i<3; i++) DelayCommand(i, PrintInteger(i));
abbrev captured_turns : TypedUnit
captured_turns = only_main (declare 0 t.Int None ∷ three_times (does (delay (local 0) (print (local 0)))) ∷ [])

-- each turn captures its own value
captured_turns_printed : (area : PlainArea) → printed (alone captured_turns 60 area) ≡ codes "0 #0 print 0\n1 #0 print 1\n2 #0 print 2\n"
unfolding bind spend engine header_table header_routines trace_text line_text digits escaped spelling value_text
captured_turns_printed area = refl

abbrev pair : ℕ → TypedExpr
pair i = e.name (t.Struct 0) (Local i)

-- struct P { int x; string y; }; void main() { struct P p; struct P q; p.x=1; PrintInteger(p==q);
-- q.x=1; PrintInteger(p==q); PrintInteger(p!=q); q=p; }
abbrev compared : TypedUnit
compared = unit_of (
    unit.structure 0 (codes "P") (
    record { token = 0; ty = t.Int; names = record { token = 0; name = codes "x" } ∷ [] }
    ∷ record { token = 0; ty = t.Text; names = record { token = 0; name = codes "y" } ∷ [] } ∷ [])
    ∷ function t.Void [] (
    declare 0 (t.Struct 0) None ∷ declare 1 (t.Struct 0) None
    ∷ sets (e.member t.Int (pair 0) 0) (int 1) ∷ does (print (two bin.Equal (pair 0) (pair 1)))
    ∷ sets (e.member t.Int (pair 1) 0) (int 1) ∷ does (print (two bin.Equal (pair 0) (pair 1))) ∷ does (print (two bin.NotEqual (pair 0) (pair 1)))
    ∷ does (e.assign (t.Struct 0) asg.Set (pair 1) (pair 0)) ∷ []) ∷ []) (Main 0)

compared_printed : (area : PlainArea) → printed (alone compared 60 area) ≡ codes "0 #0 print 0\n0 #0 print 1\n0 #0 print 0\n"
unfolding bind spend engine header_table header_routines trace_text line_text digits escaped spelling value_text value_eq
compared_printed area = refl

-- int g=3; void F() { g -= 5; } void main() { g *= 4; F(); PrintInteger(g); }
abbrev global_changed : TypedUnit
global_changed = unit_of (
    global_of 0 (Some (int 3))
    ∷ function t.Void [] (does (assign asg.Subtract (global 0) (int 5)) ∷ [])
    ∷ function t.Void [] (does (assign asg.Multiply (global 0) (int 4)) ∷ does (function_call t.Void 0 []) ∷ does (print (global 0)) ∷ []) ∷ []) (Main 1)

global_changed_printed : (area : PlainArea) → printed (alone global_changed 60 area) ≡ codes "0 #0 print 7\n"
unfolding bind spend engine header_table header_routines trace_text line_text digits escaped spelling value_text
global_changed_printed area = refl

-- ---- steps

-- how many of ten steps a statement takes
abbrev taken : Outcome Flow → ℕ
taken (Gives f p) = 10 - p.left
taken (Divides self p) = 10 - p.left
taken (OutOfSteps p) = 99

abbrev steps : World Deferred → TypedStmt → ℕ
steps w x = taken (exec here no_functions (0 ∷ []) x (begun w))

-- `int k;`, `int k = 1;`, `;`, `1;`, `break`, `continue`, `return`, `return 1`
plain_steps : (w : World Deferred) → (steps w (declare 1 t.Int None) ≡ 1) × (steps w (declare 1 t.Int (Some (int 1))) ≡ 1) × (steps w (s.empty 0) ≡ 0)
    × (steps w (does (int 1)) ≡ 1) × (steps w (s.break_off 0) ≡ 1) × (steps w (s.continue_on 0) ≡ 1) × (steps w (s.return_from 0 None) ≡ 1)
    × (steps w (s.return_from 0 (Some (int 1))) ≡ 2)
unfolding bind spend
plain_steps w = (refl, refl, refl, refl, refl, refl, refl, refl)

-- `while (0) ;`: the literal and the test; `do ; while (0);` likewise; `for (;;) break;`: a missing
-- test is a literal and a test
loop_steps : (w : World Deferred) → (steps w (s.while_loop 0 (int 0) (s.empty 0)) ≡ 2) × (steps w (s.do_loop 0 (s.empty 0) (int 0)) ≡ 2)
    × (steps w (s.for_loop 0 None None None (s.break_off 0)) ≡ 3) × (steps w (s.if_only 0 (int 0) (s.break_off 0)) ≡ 1)
unfolding bind spend
loop_steps w = (refl, refl, refl, refl)

-- `switch (2) { case 1: case 2: break; case 3: }`: the literal, two cases and the `break`
switch_steps : (w : World Deferred)
    → steps w (s.switch 0 (int 2) (stmts (s.case_label 0 (c.Int (pos 1)) ∷ s.case_label 0 (c.Int (pos 2)) ∷ s.break_off 0 ∷ s.case_label 0 (c.Int (pos 3)) ∷ []))) ≡ 4
unfolding bind spend value_eq
switch_steps w = refl

-- int f() { return 5; } void main() { f(); }: the start, the result's cell, the call that is begun,
-- the literal and the `return`
abbrev calling : TypedUnit
calling = unit_of (function t.Int [] (s.return_from 0 (Some (int 5)) ∷ []) ∷ function t.Void [] (does (function_call t.Int 0 []) ∷ []) ∷ []) (Main 1)

call_steps : (area : PlainArea) → (alone calling 9 area).last.count ≡ 5
unfolding bind spend engine header_table header_routines
call_steps area = refl

-- ---- steps of structs

-- where `struct P { int x; string y; };` stands in front
abbrev with_pairs : Running
with_pairs = record here { structs = (t.Int ∷ t.Text ∷ []) ∷ [] }

abbrev pair_steps : World Deferred → TypedStmt → ℕ
pair_steps w x = taken (exec with_pairs no_functions (1 ∷ 0 ∷ []) x (begun w))

-- `struct P q;` makes two cells; `p;` and `p.x;` are one expression each, and `p.x = n;` is two
struct_steps : (w : World Deferred) → (pair_steps w (declare 2 (t.Struct 0) None) ≡ 2) × (pair_steps w (does (pair 1)) ≡ 1)
    × (pair_steps w (does (e.member t.Int (pair 1) 0)) ≡ 1) × (pair_steps w (sets (e.member t.Int (pair 1) 0) (local 0)) ≡ 2)
unfolding bind spend
struct_steps w = (refl, refl, refl, refl)

-- struct P { int x; string y; }; struct P f() { struct P p; return p; } void main() { f(); }
abbrev pair_made : TypedUnit
pair_made = unit_of (
    unit.structure 0 (codes "P") (
    record { token = 0; ty = t.Int; names = record { token = 0; name = codes "x" } ∷ [] }
    ∷ record { token = 0; ty = t.Text; names = record { token = 0; name = codes "y" } ∷ [] } ∷ [])
    ∷ function (t.Struct 0) [] (declare 0 (t.Struct 0) None ∷ s.return_from 0 (Some (pair 0)) ∷ [])
    ∷ function t.Void [] (does (function_call (t.Struct 0) 0 []) ∷ []) ∷ []) (Main 1)

-- the start, the result's two cells, the call that is begun, the variable's two cells, its value
-- and the `return`
pair_made_steps : (area : PlainArea) → (alone pair_made 9 area).last.count ≡ 8
unfolding bind spend engine header_table header_routines
pair_made_steps area = refl

-- ---- functions that are left at their end, and scripts that run others

-- int f() { do { if (1) break; return 5; } while (0); } void main() { PrintInteger(f()); }
abbrev left_at_end : TypedUnit
left_at_end = unit_of (
    function t.Int [] (s.do_loop 0 (s.block 0 (stmts (s.if_only 0 (int 1) (s.break_off 0) ∷ s.return_from 0 (Some (int 5)) ∷ []))) (int 0) ∷ [])
    ∷ function t.Void [] (does (print (function_call t.Int 0 [])) ∷ []) ∷ []) (Main 1)

-- it gives its type's starting value
left_at_end_printed : (area : PlainArea) → printed (alone left_at_end 20 area) ≡ codes "0 #0 print 0\n"
unfolding bind spend engine header_table header_routines trace_text line_text digits escaped spelling value_text
left_at_end_printed area = refl

-- the start, the result's cell, the call that is begun, the literal, the `break` and the printing
left_at_end_steps : (area : PlainArea) → (alone left_at_end 9 area).last.count ≡ 6
unfolding bind spend engine header_table header_routines
left_at_end_steps area = refl

-- s: void main() { ExecuteScript("t"); }
abbrev runs_t : TypedUnit
runs_t = only_main (does (execute_here "t") ∷ [])

-- Where t is void main() { PrintInteger(1); }: the start, the name, the default, the start of t,
-- the literal, the printing and the call, which has its value when t has ended. Where t isn't
-- listed, the start, the name, the default and the call.
executed_steps : (area : PlainArea)
    → ((played (listed "s" runs_t ∷ listed "t" (only_main (does (print (int 1)) ∷ [])) ∷ []) area [] 0 "s" 9).last.count ≡ 7)
    × ((played (listed "s" runs_t ∷ []) area [] 0 "s" 9).last.count ≡ 4)
unfolding bind spend engine header_table header_routines
executed_steps area = (refl, refl)

unlisted_told : (area : PlainArea) → printed (played (listed "s" runs_t ∷ []) area [] 0 "s" 9) ≡ codes "0 #0 noscript t\n"
unfolding bind spend engine header_table header_routines trace_text line_text digits escaped spelling value_text
unlisted_told area = refl
