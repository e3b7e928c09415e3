-- Small units: their code as the definitions compute it. The unit stands above its tree.
use Rattle.std.proofs.Common.{rules, arith, ◌≡◌, refl, ℕ, ℤ, pos, List, [], ◌∷◌, codes, Option, None, Some}
use Rattle.std.specs.Prelude.{neg_ℤ}
use Rattle.nss_tree.specs.declared.operators.PrefixOperator.TheVariants as pre
use Rattle.nss_tree.specs.declared.operators.PostfixOperator.TheVariants as post
use Rattle.nss_tree.specs.declared.operators.BinaryOperator.TheVariants as bin
use Rattle.nss_tree.specs.declared.operators.AssignOperator.TheVariants as asg
use Rattle.nss_tree.specs.Statements as s
use Rattle.nss_tree.specs.Statements.{no_stmt, more_stmts}
use Rattle.nss_tree.specs.Units as unit
use Rattle.nwq_value.specs.declared.value.Ty.{Ty}
use Rattle.nwq_value.specs.declared.value.Ty.TheVariants as t
use Rattle.nwq_value.specs.declared.engine.Const.TheVariants as c
use Rattle.ncs_code.specs.Plain.{PlainOp}
use Rattle.ncs_code.specs.Plain as ops
use Rattle.ncs_code.specs.Spelling.{two, four, signed}
use Rattle.ncs_emit.specs.declared.jump.Jump.TheVariants.{Jmp, Jsr, Jz, Jnz}
use Rattle.ncs_emit.specs.Labelled.{Line, Instruction, JumpTo, Label, program}
use Rattle.typing_rules.specs.declared.places.Place.TheVariants.{Local, Global}
use Rattle.typing_rules.specs.declared.places.Callee.TheVariants.{Unit as InUnit, Engine}
use Rattle.typing_rules.specs.declared.places.EntryPoint.{EntryPoint}
use Rattle.typing_rules.specs.declared.places.EntryPoint.TheVariants.{Main, Conditional}
use Rattle.typing_rules.specs.Typed.{TypedExpr, TypedExprs, TypedName, TypedStmt, TypedStmts, TypedParameter, TypedItem, TypedUnit, no_typed, more_typed}
use Rattle.typing_rules.specs.Typed as e
use Rattle.emission_rules.specs.Layout.{Layout, layout_of}
use Rattle.emission_rules.specs.Expressions.{emit}
use Rattle.emission_rules.specs.Statements.{emit_stmt, no_exits}
use Rattle.emission_rules.specs.Bounds.{IsType, IsBounded}
use Rattle.emission_rules.specs.Units.{unit_code, unit_file}

abbrev minus : ℕ → ℤ
minus n = neg_ℤ (pos n)

-- ---- typed trees

abbrev stmts : List TypedStmt → TypedStmts
stmts [] = no_stmt
stmts (x ∷ xs) = more_stmts x (stmts xs)

abbrev args : List TypedExpr → TypedExprs
args [] = no_typed
args (x ∷ xs) = more_typed x (args xs)

abbrev function : Ty → List TypedParameter → List TypedStmt → TypedItem
function y ps body = unit.function 0 y (codes "f") ps (Some (stmts body))

abbrev param : ℕ → Ty → TypedParameter
param n y = record { token = 0; ty = y; name = record { number = n; ty = y }; default = None }

abbrev declared : ℕ → Ty → Option TypedExpr → TypedName
declared n y v = record { token = 0; name = record { number = n; ty = y }; value = v }

abbrev declare : ℕ → Ty → Option TypedExpr → TypedStmt
declare n y v = s.declaration 0 y (declared n y v ∷ [])

abbrev global : ℕ → Ty → Option TypedExpr → TypedItem
global n y v = unit.global 0 y (declared n y v ∷ [])

abbrev unit_of : List TypedItem → EntryPoint → TypedUnit
unit_of is start = record { items = is; entry = start }

abbrev only_main : List TypedStmt → TypedUnit
only_main body = unit_of (function t.Void [] body ∷ []) (Main 0)

abbrev int : ℕ → TypedExpr
int n = e.literal (c.Int (pos n))

abbrev local : ℕ → TypedExpr
local n = e.name t.Int (Local n)

abbrev of_globals : ℕ → TypedExpr
of_globals n = e.name t.Int (Global n)

abbrev engine : Ty → ℕ → List TypedExpr → TypedExpr
engine y n xs = e.call y (Engine n) (args xs) []

abbrev print : TypedExpr → TypedExpr
print x = engine t.Void 4 (x ∷ [])

abbrev run : TypedExpr → TypedStmt
run x = s.expression 0 x

-- ---- instructions

abbrev push : ℕ → PlainOp
push n = ops.Const (ops.Int (pos n))

abbrev text : List ℕ → PlainOp
text bytes = ops.Const (ops.Text bytes)

abbrev code : TypedUnit → List PlainOp
code u = program (unit_code u).lines

-- ---- whole files

-- void main() {}
nothing : unit_file (only_main [])
    ≡ 0x4E ∷ 0x43 ∷ 0x53 ∷ 0x20 ∷ 0x56 ∷ 0x31 ∷ 0x2E ∷ 0x30 ∷ 0x42 ∷ 0 ∷ 0 ∷ 0 ∷ 0x17
    ∷ 0x1E ∷ 0 ∷ 0 ∷ 0 ∷ 0 ∷ 8 ∷ 0x20 ∷ 0 ∷ 0x20 ∷ 0 ∷ []
unfolding program two four signed
nothing = refl

-- void main() { PrintInteger(2+3); }
sum : unit_file (only_main (run (print (e.binary t.Int bin.Add (int 2) (int 3))) ∷ []))
    ≡ 0x4E ∷ 0x43 ∷ 0x53 ∷ 0x20 ∷ 0x56 ∷ 0x31 ∷ 0x2E ∷ 0x30 ∷ 0x42 ∷ 0 ∷ 0 ∷ 0 ∷ 0x2A
    ∷ 0x1E ∷ 0 ∷ 0 ∷ 0 ∷ 0 ∷ 8 ∷ 0x20 ∷ 0 ∷ 4 ∷ 3 ∷ 0 ∷ 0 ∷ 0 ∷ 2 ∷ 4 ∷ 3 ∷ 0 ∷ 0 ∷ 0 ∷ 3 ∷ 0x14 ∷ 0x20 ∷ 5 ∷ 0 ∷ 0 ∷ 4 ∷ 1 ∷ 0x20 ∷ 0 ∷ []
unfolding program two four signed
sum = refl

-- void main() { PrintObject(OBJECT_INVALID); }
no_object : unit_file (only_main (run (engine t.Void 5 (e.literal c.InvalidObject ∷ [])) ∷ []))
    ≡ 0x4E ∷ 0x43 ∷ 0x53 ∷ 0x20 ∷ 0x56 ∷ 0x31 ∷ 0x2E ∷ 0x30 ∷ 0x42 ∷ 0 ∷ 0 ∷ 0 ∷ 0x22
    ∷ 0x1E ∷ 0 ∷ 0 ∷ 0 ∷ 0 ∷ 8 ∷ 0x20 ∷ 0 ∷ 4 ∷ 6 ∷ 0 ∷ 0 ∷ 0 ∷ 1 ∷ 5 ∷ 0 ∷ 0 ∷ 5 ∷ 1 ∷ 0x20 ∷ 0 ∷ []
unfolding program two four signed
no_object = refl

-- ---- programs

-- void main() { int i; for (i=0; i<3; i++) PrintInteger(i); }
counting : code (only_main (
    declare 0 t.Int None
    ∷ s.for_loop 0 (Some (e.assign t.Int asg.Set (local 0) (int 0))) (Some (e.binary t.Int bin.Less (local 0) (int 3)))
    (Some (e.postfix t.Int post.Increment (local 0))) (run (print (local 0)))
    ∷ []))
    ≡ ops.Jsr (pos 8) ∷ ops.Retn
    ∷ ops.RsAdd 3 ∷ push 0 ∷ ops.CpDownSp (minus 8) 4 ∷ ops.MovSp (minus 4)
    ∷ ops.CpTopSp (minus 4) 4 ∷ push 3 ∷ ops.Lt 0x20 ∷ ops.Jz (pos 45)
    ∷ ops.CpTopSp (minus 4) 4 ∷ ops.Action 4 1
    ∷ ops.CpTopSp (minus 4) 4 ∷ ops.IncISp (minus 8) ∷ ops.MovSp (minus 4) ∷ ops.Jmp (minus 55)
    ∷ ops.MovSp (minus 4) ∷ ops.Retn ∷ []
unfolding program
counting = refl

-- void main() { switch (2) { case 1: PrintInteger(1); case 2: PrintInteger(2); default:
-- PrintInteger(3); } }
falling : code (only_main (
    s.switch 0 (int 2) (stmts (
    s.case_label 0 (c.Int (pos 1)) ∷ run (print (int 1))
    ∷ s.case_label 0 (c.Int (pos 2)) ∷ run (print (int 2))
    ∷ s.default_label 0 ∷ run (print (int 3)) ∷ []))
    ∷ []))
    ≡ ops.Jsr (pos 8) ∷ ops.Retn ∷ push 2
    ∷ ops.CpTopSp (minus 4) 4 ∷ push 1 ∷ ops.Equal 0x20 0 ∷ ops.Jnz (pos 34)
    ∷ ops.CpTopSp (minus 4) 4 ∷ push 2 ∷ ops.Equal 0x20 0 ∷ ops.Jnz (pos 23)
    ∷ ops.Jmp (pos 28)
    ∷ push 1 ∷ ops.Action 4 1 ∷ push 2 ∷ ops.Action 4 1 ∷ push 3 ∷ ops.Action 4 1
    ∷ ops.MovSp (minus 4) ∷ ops.Retn ∷ []
unfolding program
falling = refl

-- int f(int a, int b) { if (a==0) return b; return f(a-1,b+1); } void main() {
-- PrintInteger(f(3,4)); }
recursive : code (unit_of (
    function t.Int (param 0 t.Int ∷ param 1 t.Int ∷ []) (
    s.if_only 0 (e.binary t.Int bin.Equal (local 0) (int 0)) (s.return_from 0 (Some (local 1)))
    ∷ s.return_from 0 (Some (e.call t.Int (InUnit 0)
    (args (e.binary t.Int bin.Subtract (local 0) (int 1) ∷ e.binary t.Int bin.Add (local 1) (int 1) ∷ [])) [])) ∷ [])
    ∷ function t.Void [] (run (print (e.call t.Int (InUnit 0) (args (int 3 ∷ int 4 ∷ [])) [])) ∷ [])
    ∷ []) (Main 1))
    ≡ ops.Jsr (pos 118) ∷ ops.Retn
    ∷ ops.CpTopSp (minus 4) 4 ∷ push 0 ∷ ops.Equal 0x20 0 ∷ ops.Jz (pos 30)
    ∷ ops.CpTopSp (minus 8) 4 ∷ ops.CpDownSp (minus 16) 4 ∷ ops.MovSp (minus 12) ∷ ops.Retn
    ∷ ops.RsAdd 3 ∷ ops.CpTopSp (minus 12) 4 ∷ push 1 ∷ ops.Add 0x20
    ∷ ops.CpTopSp (minus 12) 4 ∷ push 1 ∷ ops.Sub 0x20 ∷ ops.Jsr (minus 80)
    ∷ ops.CpDownSp (minus 16) 4 ∷ ops.MovSp (minus 12) ∷ ops.Retn
    ∷ ops.MovSp (minus 8) ∷ ops.Retn
    ∷ ops.RsAdd 3 ∷ push 4 ∷ push 3 ∷ ops.Jsr (minus 124) ∷ ops.Action 4 1 ∷ ops.Retn ∷ []
unfolding program
recursive = refl

-- int StartingConditional() { return 3; }
condition : code (unit_of (function t.Int [] (s.return_from 0 (Some (int 3)) ∷ []) ∷ []) (Conditional 0))
    ≡ ops.RsAdd 3 ∷ ops.Jsr (pos 14) ∷ ops.MovSp (minus 4) ∷ ops.Retn
    ∷ push 3 ∷ ops.CpDownSp (minus 8) 4 ∷ ops.MovSp (minus 4) ∷ ops.Retn ∷ ops.Retn ∷ []
unfolding program
condition = refl

-- int g=1; void F() { g=g+1; PrintInteger(g); } void main() { F(); F(); }
shared : code (unit_of (
    global 0 t.Int (Some (int 1))
    ∷ function t.Void [] (
    run (e.assign t.Int asg.Set (of_globals 0) (e.binary t.Int bin.Add (of_globals 0) (int 1)))
    ∷ run (print (of_globals 0)) ∷ [])
    ∷ function t.Void [] (run (e.call t.Void (InUnit 0) no_typed []) ∷ run (e.call t.Void (InUnit 0) no_typed []) ∷ [])
    ∷ []) (Main 1))
    ≡ ops.Jsr (pos 8) ∷ ops.Retn
    ∷ push 1 ∷ ops.SaveBp ∷ ops.Jsr (pos 61) ∷ ops.RestoreBp ∷ ops.MovSp (minus 4) ∷ ops.Retn
    ∷ ops.CpTopBp (minus 4) 4 ∷ push 1 ∷ ops.Add 0x20 ∷ ops.CpDownBp (minus 4) 4 ∷ ops.MovSp (minus 4)
    ∷ ops.CpTopBp (minus 4) 4 ∷ ops.Action 4 1 ∷ ops.Retn
    ∷ ops.Jsr (minus 45) ∷ ops.Jsr (minus 51) ∷ ops.Retn ∷ []
unfolding program
shared = refl

-- struct P { int x; int y; }; struct P Make(int a) { struct P p; p.x=a; p.y=a+1; return p; } void
-- main() { PrintInteger(Make(4).y); }
made : code (unit_of (
    unit.structure 0 (codes "P") (record { token = 0; ty = t.Int; names = record { token = 0; name = codes "x" } ∷ [] }
    ∷ record { token = 0; ty = t.Int; names = record { token = 0; name = codes "y" } ∷ [] } ∷ [])
    ∷ function (t.Struct 0) (param 0 t.Int ∷ []) (
    declare 1 (t.Struct 0) None
    ∷ run (e.assign t.Int asg.Set (e.member t.Int (e.name (t.Struct 0) (Local 1)) 0) (local 0))
    ∷ run (e.assign t.Int asg.Set (e.member t.Int (e.name (t.Struct 0) (Local 1)) 1) (e.binary t.Int bin.Add (local 0) (int 1)))
    ∷ s.return_from 0 (Some (e.name (t.Struct 0) (Local 1))) ∷ [])
    ∷ function t.Void [] (run (print (e.member t.Int (e.call (t.Struct 0) (InUnit 0) (args (int 4 ∷ [])) []) 1)) ∷ [])
    ∷ []) (Main 1))
    ≡ ops.Jsr (pos 102) ∷ ops.Retn
    ∷ ops.RsAdd 3 ∷ ops.RsAdd 3
    ∷ ops.CpTopSp (minus 12) 4 ∷ ops.CpDownSp (minus 12) 4 ∷ ops.MovSp (minus 4)
    ∷ ops.CpTopSp (minus 12) 4 ∷ push 1 ∷ ops.Add 0x20 ∷ ops.CpDownSp (minus 8) 4 ∷ ops.MovSp (minus 4)
    ∷ ops.CpTopSp (minus 8) 8 ∷ ops.CpDownSp (minus 28) 8 ∷ ops.MovSp (minus 20) ∷ ops.Retn
    ∷ ops.MovSp (minus 8) ∷ ops.MovSp (minus 4) ∷ ops.Retn
    ∷ ops.RsAdd 3 ∷ ops.RsAdd 3 ∷ push 4 ∷ ops.Jsr (minus 104) ∷ ops.Destruct 8 4 4 ∷ ops.Action 4 1 ∷ ops.Retn ∷ []
unfolding program
made = refl

-- void main() { int n=1; DelayCommand(1000, PrintInteger(n)); n=2; PrintInteger(n); }
kept_local : code (only_main (
    declare 0 t.Int (Some (int 1))
    ∷ run (engine t.Void 7 (int 1000 ∷ print (local 0) ∷ []))
    ∷ run (e.assign t.Int asg.Set (local 0) (int 2))
    ∷ run (print (local 0)) ∷ []))
    ≡ ops.Jsr (pos 8) ∷ ops.Retn ∷ push 1
    ∷ ops.StoreState 0 4 ∷ ops.Jmp (pos 21) ∷ ops.CpTopSp (minus 4) 4 ∷ ops.Action 4 1 ∷ ops.Retn
    ∷ push 1000 ∷ ops.Action 7 2
    ∷ push 2 ∷ ops.CpDownSp (minus 8) 4 ∷ ops.MovSp (minus 4)
    ∷ ops.CpTopSp (minus 4) 4 ∷ ops.Action 4 1 ∷ ops.MovSp (minus 4) ∷ ops.Retn ∷ []
unfolding program
kept_local = refl

-- int n=1; void main() { n=5; DelayCommand(1, PrintInteger(n)); }
kept_global : code (unit_of (
    global 0 t.Int (Some (int 1))
    ∷ function t.Void [] (
    run (e.assign t.Int asg.Set (of_globals 0) (int 5))
    ∷ run (engine t.Void 7 (int 1 ∷ print (of_globals 0) ∷ [])) ∷ [])
    ∷ []) (Main 0))
    ≡ ops.Jsr (pos 8) ∷ ops.Retn
    ∷ push 1 ∷ ops.SaveBp ∷ ops.Jsr (pos 16) ∷ ops.RestoreBp ∷ ops.MovSp (minus 4) ∷ ops.Retn
    ∷ push 5 ∷ ops.CpDownBp (minus 4) 4 ∷ ops.MovSp (minus 4)
    ∷ ops.StoreState 4 0 ∷ ops.Jmp (pos 21) ∷ ops.CpTopBp (minus 4) 4 ∷ ops.Action 4 1 ∷ ops.Retn
    ∷ push 1 ∷ ops.Action 7 2 ∷ ops.Retn ∷ []
unfolding program
kept_global = refl

-- int f() { DelayCommand(1, PrintString("inner")); return 5; } void main() { DelayCommand(f(),
-- PrintString("outer")); }
both_kept : code (unit_of (
    function t.Int [] (
    run (engine t.Void 7 (int 1 ∷ engine t.Void 1 (e.literal (c.Text (codes "inner")) ∷ []) ∷ []))
    ∷ s.return_from 0 (Some (int 5)) ∷ [])
    ∷ function t.Void [] (
    run (engine t.Void 7 (e.call t.Int (InUnit 0) no_typed [] ∷ engine t.Void 1 (e.literal (c.Text (codes "outer")) ∷ []) ∷ [])) ∷ [])
    ∷ []) (Main 1))
    ≡ ops.Jsr (pos 75) ∷ ops.Retn
    ∷ ops.StoreState 0 0 ∷ ops.Jmp (pos 22) ∷ text (codes "inner") ∷ ops.Action 1 1 ∷ ops.Retn
    ∷ push 1 ∷ ops.Action 7 2
    ∷ push 5 ∷ ops.CpDownSp (minus 8) 4 ∷ ops.MovSp (minus 4) ∷ ops.Retn ∷ ops.Retn
    ∷ ops.StoreState 0 0 ∷ ops.Jmp (pos 22) ∷ text (codes "outer") ∷ ops.Action 1 1 ∷ ops.Retn
    ∷ ops.RsAdd 3 ∷ ops.Jsr (minus 101) ∷ ops.Action 7 2 ∷ ops.Retn ∷ []
unfolding program
both_kept = refl

-- ---- lines of nodes: struct 0 has an int and a text, variable 0 is an int at the bottom of the
-- frame, 1 a struct above it, 2 a global struct that stands above one cell

abbrev here : Layout
here = record { structs = (t.Int ∷ t.Text ∷ []) ∷ []; positions = 0 ∷ 1 ∷ 1 ∷ []; globals = 3 }

abbrev op : PlainOp → Line
op x = Instruction x

abbrev inner : TypedExpr
inner = e.name (t.Struct 0) (Local 1)

abbrev outer : TypedExpr
outer = e.name (t.Struct 0) (Global 2)

-- n && 1, with 7 the next label
conjunction : emit here 7 3 (e.binary t.Int bin.And (local 0) (int 1))
    ≡ op (ops.CpTopSp (minus 12) 4) ∷ op (ops.CpTopSp (minus 4) 4) ∷ JumpTo Jz 7 ∷ op (push 1) ∷ op ops.LogAnd ∷ Label 7 ∷ []
conjunction = refl

-- n || 0
disjunction : emit here 7 3 (e.binary t.Int bin.Or (local 0) (int 0))
    ≡ op (ops.CpTopSp (minus 12) 4) ∷ op (ops.CpTopSp (minus 4) 4) ∷ JumpTo Jz 7 ∷ op (push 1) ∷ op ops.LogOr ∷ JumpTo Jmp 8
    ∷ Label 7 ∷ op (push 0) ∷ op ops.LogOr ∷ Label 8 ∷ []
disjunction = refl

-- p == q, of two structs
comparison : emit here 7 3 (e.binary t.Int bin.Equal inner outer)
    ≡ op (ops.CpTopSp (minus 8) 8) ∷ op (ops.CpTopBp (minus 8) 8) ∷ op (ops.Equal 0x24 8) ∷ []
comparison = refl

-- q.s, a member of a global
global_member : emit here 7 3 (e.member t.Text outer 1) ≡ op (ops.CpTopBp (minus 4) 4) ∷ []
global_member = refl

-- p.s += "x"
joined : emit here 7 3 (e.assign t.Text asg.Add (e.member t.Text inner 1) (e.literal (c.Text (codes "x"))))
    ≡ op (ops.CpTopSp (minus 4) 4) ∷ op (text (codes "x")) ∷ op (ops.Add 0x23) ∷ op (ops.CpDownSp (minus 8) 4) ∷ []
joined = refl

-- p = q
copied : emit here 7 3 (e.assign (t.Struct 0) asg.Set inner outer)
    ≡ op (ops.CpTopBp (minus 8) 8) ∷ op (ops.CpDownSp (minus 16) 8) ∷ []
copied = refl

-- ++q.n and q.n--
stepped : emit here 7 3 (e.prefix t.Int pre.Increment (e.member t.Int outer 0)) ≡ op (ops.IncIBp (minus 8)) ∷ op (ops.CpTopBp (minus 8) 4) ∷ []
stepped = refl

stepped_back : emit here 7 3 (e.postfix t.Int post.Decrement (e.member t.Int inner 0)) ≡ op (ops.CpTopSp (minus 8) 4) ∷ op (ops.DecISp (minus 12)) ∷ []
stepped_back = refl

-- -~n
signs : emit here 7 3 (e.prefix t.Int pre.Minus (e.prefix t.Int pre.Complement (local 0)))
    ≡ op (ops.CpTopSp (minus 12) 4) ∷ op ops.Comp ∷ op (ops.Neg 3) ∷ []
signs = refl

-- ExecuteScript("t"), whose second parameter is OBJECT_SELF where it is left out
filled : emit here 7 3 (e.call t.Void (Engine 8) (args (e.literal (c.Text (codes "t")) ∷ [])) (c.SelfObject ∷ []))
    ≡ op (ops.Const (ops.Object 0)) ∷ op (text (codes "t")) ∷ op (ops.Action 8 2) ∷ []
filled = refl

-- f(n, DelayCommand(n, F())) where f gives a struct: room for the result, then the action at the
-- depth above it, then n
captured : emit here 7 3 (e.call (t.Struct 0) (InUnit 2) (args (local 0 ∷ engine t.Void 7 (local 0 ∷ e.call t.Void (InUnit 3) no_typed [] ∷ []) ∷ [])) [])
    ≡ op (ops.RsAdd 3) ∷ op (ops.RsAdd 5)
    ∷ op (ops.StoreState 12 20) ∷ JumpTo Jmp 7
    ∷ op (ops.StoreState 12 20) ∷ JumpTo Jmp 8 ∷ JumpTo Jsr 3 ∷ op ops.Retn ∷ Label 8
    ∷ op (ops.CpTopSp (minus 20) 4) ∷ op (ops.Action 7 2) ∷ op ops.Retn ∷ Label 7
    ∷ op (ops.CpTopSp (minus 20) 4) ∷ JumpTo Jsr 2 ∷ []
captured = refl

-- while (n) { object o; if (1) break; else continue; }
left_early : emit_stmt here no_exits 4 3 (s.while_loop 0 (local 0) (s.block 0 (stmts (
    declare 3 t.Object None ∷ s.if_else 0 (int 1) (s.break_off 0) (s.continue_on 0) ∷ []))))
    ≡ Label 4 ∷ op (ops.CpTopSp (minus 12) 4) ∷ JumpTo Jz 5
    ∷ op (ops.RsAdd 6) ∷ op (push 1) ∷ JumpTo Jz 6 ∷ op (ops.MovSp (minus 4)) ∷ JumpTo Jmp 5 ∷ JumpTo Jmp 7
    ∷ Label 6 ∷ op (ops.MovSp (minus 4)) ∷ JumpTo Jmp 4 ∷ Label 7
    ∷ op (ops.MovSp (minus 4)) ∷ JumpTo Jmp 4 ∷ Label 5 ∷ []
left_early = refl

-- for (;;) continue; goes on at the third part, which is empty
endless : emit_stmt here no_exits 4 3 (s.for_loop 0 None None None (s.continue_on 0))
    ≡ Label 4 ∷ op (push 1) ∷ JumpTo Jz 6 ∷ JumpTo Jmp 5 ∷ Label 5 ∷ JumpTo Jmp 4 ∷ Label 6 ∷ []
endless = refl

-- do switch (n) { effect x; case 5: break; event y; case 6: continue; } while (0);
switched : emit_stmt here no_exits 4 3 (s.do_loop 0 (s.switch 0 (local 0) (stmts (
    declare 3 t.Effect None ∷ s.case_label 0 (c.Int (minus 5)) ∷ s.break_off 0 ∷ declare 4 t.Event None ∷ s.case_label 0 (c.Int (pos 6)) ∷ s.continue_on 0 ∷ []))) (int 0))
    ≡ Label 4 ∷ op (ops.CpTopSp (minus 12) 4)
    ∷ op (ops.CpTopSp (minus 4) 4) ∷ op (ops.Const (ops.Int (minus 5))) ∷ op (ops.Equal 0x20 0) ∷ JumpTo Jnz 8
    ∷ op (ops.CpTopSp (minus 4) 4) ∷ op (push 6) ∷ op (ops.Equal 0x20 0) ∷ JumpTo Jnz 9
    ∷ JumpTo Jmp 7
    ∷ op (ops.RsAdd 0x10) ∷ Label 8 ∷ op (ops.MovSp (minus 4)) ∷ JumpTo Jmp 7
    ∷ op (ops.RsAdd 0x11) ∷ Label 9 ∷ op (ops.MovSp (minus 12)) ∷ JumpTo Jmp 5
    ∷ op (ops.MovSp (minus 8)) ∷ Label 7 ∷ op (ops.MovSp (minus 4))
    ∷ Label 5 ∷ op (push 0) ∷ JumpTo Jnz 4 ∷ Label 6 ∷ []
switched = refl

-- return; and return p; of a function whose frame has three cells
returned : emit_stmt here no_exits 4 3 (s.return_from 0 None) ≡ op (ops.MovSp (minus 12)) ∷ op ops.Retn ∷ []
returned = refl

returned_struct : emit_stmt here no_exits 4 3 (s.return_from 0 (Some inner))
    ≡ op (ops.CpTopSp (minus 8) 8) ∷ op (ops.CpDownSp (minus 28) 8) ∷ op (ops.MovSp (minus 20)) ∷ op ops.Retn ∷ []
returned_struct = refl

-- ---- bounds

int_type : (l : Layout) → IsType l t.Int
int_type l = record { few = omega arith; kinds = (tt, tt) }

no_type : (l : Layout) → IsType l t.Void
no_type l = record { few = omega arith; kinds = tt }

-- int g=1; void main() { while (g) { PrintInteger(-g); break; } }
bounded : IsBounded (unit_of (
    global 0 t.Int (Some (int 1))
    ∷ function t.Void [] (
    s.while_loop 0 (of_globals 0) (s.block 0 (stmts (run (print (e.prefix t.Int pre.Minus (of_globals 0))) ∷ s.break_off 0 ∷ []))) ∷ [])
    ∷ []) (Main 0))
bounded =
    record {
      items = (
        (int_type _, search (rules, arith), tt),
        ((((int_type _, tt), ((no_type _, (omega arith, omega arith), tt, ((int_type _, (int_type _, tt)), tt)), (refl, tt))), tt), omega arith, tt),
      );
      globals = omega arith;
      entry = omega arith;
    }

-- int a = 1, b = a; int StartingConditional() { return b; }: where b is made, a is a local
condition_with_globals : code (unit_of (
    unit.global 0 t.Int (declared 0 t.Int (Some (int 1)) ∷ declared 1 t.Int (Some (local 0)) ∷ [])
    ∷ function t.Int [] (s.return_from 0 (Some (of_globals 1)) ∷ [])
    ∷ []) (Conditional 0))
    ≡ ops.Jsr (pos 8) ∷ ops.Retn
    ∷ push 1 ∷ ops.CpTopSp (minus 4) 4 ∷ ops.SaveBp
    ∷ ops.RsAdd 3 ∷ ops.Jsr (pos 22) ∷ ops.MovSp (minus 4) ∷ ops.RestoreBp ∷ ops.MovSp (minus 8) ∷ ops.Retn
    ∷ ops.CpTopBp (minus 4) 4 ∷ ops.CpDownSp (minus 8) 4 ∷ ops.MovSp (minus 4) ∷ ops.Retn ∷ ops.Retn ∷ []
unfolding program
condition_with_globals = refl

-- int g(int a); int f(int b); int f(int b) { return g(b); } int g(int a) { return a; } void main()
-- { f(1); }: prototypes take numbers of variables, and no place in the code
declared_before : code (unit_of (
    unit.function 0 t.Int (codes "g") (param 0 t.Int ∷ []) None
    ∷ unit.function 0 t.Int (codes "f") (param 1 t.Int ∷ []) None
    ∷ function t.Int (param 2 t.Int ∷ []) (s.return_from 0 (Some (e.call t.Int (InUnit 1) (args (local 2 ∷ [])) [])) ∷ [])
    ∷ function t.Int (param 3 t.Int ∷ []) (s.return_from 0 (Some (local 3)) ∷ [])
    ∷ function t.Void [] (run (e.call t.Int (InUnit 0) (args (int 1 ∷ [])) []) ∷ [])
    ∷ []) (Main 2))
    ≡ ops.Jsr (pos 80) ∷ ops.Retn
    ∷ ops.RsAdd 3 ∷ ops.CpTopSp (minus 8) 4 ∷ ops.Jsr (pos 30) ∷ ops.CpDownSp (minus 12) 4 ∷ ops.MovSp (minus 8) ∷ ops.Retn ∷ ops.MovSp (minus 4) ∷ ops.Retn
    ∷ ops.CpTopSp (minus 4) 4 ∷ ops.CpDownSp (minus 12) 4 ∷ ops.MovSp (minus 8) ∷ ops.Retn ∷ ops.MovSp (minus 4) ∷ ops.Retn
    ∷ ops.RsAdd 3 ∷ push 1 ∷ ops.Jsr (minus 80) ∷ ops.MovSp (minus 4) ∷ ops.Retn ∷ []
unfolding program
declared_before = refl

-- struct P { int x; string s; }; struct P g; int h; void F(int a, struct P p) { int n; { int m; }
-- object o; }
laid_out : layout_of (unit_of (
    unit.structure 0 (codes "P") (record { token = 0; ty = t.Int; names = record { token = 0; name = codes "x" } ∷ [] }
    ∷ record { token = 0; ty = t.Text; names = record { token = 0; name = codes "s" } ∷ [] } ∷ [])
    ∷ global 0 (t.Struct 0) None
    ∷ global 1 t.Int None
    ∷ function t.Void (param 2 t.Int ∷ param 3 (t.Struct 0) ∷ []) (
    declare 4 t.Int None ∷ s.block 0 (stmts (declare 5 t.Int None ∷ [])) ∷ declare 6 t.Object None ∷ [])
    ∷ []) (Main 0))
    ≡ record { structs = (t.Int ∷ t.Text ∷ []) ∷ []; positions = 0 ∷ 2 ∷ 2 ∷ 0 ∷ 3 ∷ 4 ∷ 4 ∷ []; globals = 3 }
laid_out = refl

-- switch (n) { default: return; }
left_for_good : emit_stmt here no_exits 4 3 (s.switch 0 (local 0) (stmts (s.default_label 0 ∷ s.return_from 0 None ∷ [])))
    ≡ op (ops.CpTopSp (minus 12) 4) ∷ JumpTo Jmp 5 ∷ Label 5 ∷ op (ops.MovSp (minus 16)) ∷ op ops.Retn ∷ Label 4 ∷ op (ops.MovSp (minus 4)) ∷ []
left_for_good = refl

-- two defaults, 1 and 2
both_filled : emit here 7 3 (e.call t.Int (Engine 9) no_typed (c.Int (pos 1) ∷ c.Int (pos 2) ∷ [])) ≡ op (push 2) ∷ op (push 1) ∷ op (ops.Action 9 2) ∷ []
both_filled = refl

-- Pair().p.s of a function that gives a struct of struct 0 and an int
cut_twice : emit (record here { structs = (t.Int ∷ t.Text ∷ []) ∷ (t.Int ∷ t.Text ∷ t.Int ∷ []) ∷ [] }) 7 3
    (e.member t.Text (e.member (t.Struct 0) (e.call (t.Struct 1) (InUnit 0) no_typed []) 0) 1)
    ≡ op (ops.RsAdd 3) ∷ op (ops.RsAdd 5) ∷ op (ops.RsAdd 3) ∷ JumpTo Jsr 0 ∷ op (ops.Destruct 12 0 8) ∷ op (ops.Destruct 8 4 4) ∷ []
cut_twice = refl

-- OBJECT_SELF != OBJECT_INVALID, and "a" == "b"
two_objects : emit here 7 3 (e.binary t.Int bin.NotEqual (e.literal c.SelfObject) (e.literal c.InvalidObject))
    ≡ op (ops.Const (ops.Object 0)) ∷ op (ops.Const (ops.Object 1)) ∷ op (ops.Nequal 0x22 0) ∷ []
two_objects = refl

two_texts : emit here 7 3 (e.binary t.Int bin.Equal (e.literal (c.Text (codes "a"))) (e.literal (c.Text (codes "b"))))
    ≡ op (text (codes "a")) ∷ op (text (codes "b")) ∷ op (ops.Equal 0x23 0) ∷ []
two_texts = refl
