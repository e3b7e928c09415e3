-- Declared names and statements: verdicts, faults and meaning agree.
use Rattle.std.proofs.Common.{◌≡◌, refl, subst, ℕ, false, List, [], ◌∷◌, ◌++◌, Option}
use Rattle.nss_tree.specs.declared.constants.Constant.{Constant}
use Rattle.nss_tree.specs.declared.constants.TypeName.{TypeName}
use Rattle.nss_tree.specs.Expressions.{PlainExpr}
use Rattle.nss_tree.specs.Statements as stmt
use Rattle.nss_tree.specs.Source.{SourceDeclared, SourceStmt, SourceStmts}
use Rattle.nwq_value.specs.declared.value.Ty.{Ty}
use Rattle.typing_rules.specs.declared.fault.FaultKind.TheVariants.{Outside, Mismatch}
use Rattle.typing_rules.specs.Typed.{TypedName, TypedStmt, TypedStmts}
use Rattle.typing_rules.specs.Nodes.{fine, Fits, There, at, if_there, faults_there, FaultThere}
use Rattle.typing_rules.specs.Sight.{Head, Sight, scope_entered, inside, looped, switched, declared}
use Rattle.typing_rules.specs.Rules.{variable_rule, variable_rows, if_rule, if_rows, if_else_rule, if_else_rows, while_rule, do_rule, do_rows, for_rule, for_rows, switch_rule, switch_rows, break_rule}
use Rattle.typing_rules.specs.Rules.{continue_rule, outside_rows, return_rule, return_rows, case_rule, case_rows, default_rule, default_rows}
use Rattle.typing_rules.specs.Verdicts.{value, value_faults, longer, longer_stmts, declaration_of, line_type, line_verdict, names_fine, names_faults, variable_verdict, after, after_then, stmt_verdict}
use Rattle.typing_rules.specs.Verdicts.{stmts_fine, stmt_faults, stmts_faults}
use Rattle.typing_rules.specs.Meaning.{TypesValue, FaultInValue, NoParts, TypesConstant, TypesLine, VariableParts, TypesNames, FaultInName, FaultInNames, TypesStmt, TypesStmts, IfParts, IfElseParts}
use Rattle.typing_rules.specs.Meaning.{DoParts, ForParts, SwitchParts, ReturnParts, FaultInStmt, FaultInStmts}
use Rattle.typing_rules.specs.Meaning as rules
use Rattle.typing_rules.proofs.Right.{Right, Image, said, under, node, leaf, no_part, both, all_three, all_four, looked_and, if_right, passes, maps, always, none_split}
use Rattle.typing_rules.proofs.Coverage.{variable_covered, switch_covered}
use Rattle.typing_rules.proofs.InSight.{IsThere, Sighted, Valued, Scoped, declared_sighted, names_sighted, names_result}
use Rattle.typing_rules.proofs.RightExpressions.{right_expr, right_constant, right_line}

-- ---- declared names of one line

right_name : (hs : List Head) (c : Sight) (t : Option Ty) (d : SourceDeclared)
    → Right (Valued hs c × IsThere t) (Fits (VariableParts hs c t d) (variable_rule c d)) (fine (variable_verdict hs c t d))
    (faults_there (value_faults hs c) d.value ++ at d.token (variable_verdict hs c t d)) (FaultInName hs c t d)
right_name hs c t d =
    node (variable_rows c d.name) (variable_rule c d) (variable_covered c d) d.token
    (looked_and t (λ v. v.1) (under (λ v. v.0) (if_right (value hs c) (value_faults hs c) (FaultInValue hs c) (λ e. right_expr hs c false e) d.value)))

no_name_back : (hs : List Head) (c : Sight) (t : Option Ty) (us : List TypedName) → TypesNames hs c t [] us → [] ≡ us
no_name_back hs c t us (rules.TypesNames.none d s) = refl

abbrev NamesParts : List Head → Sight → Option Ty → SourceDeclared → List SourceDeclared → TypedName × List TypedName → Type 0
NamesParts hs c t d ds p = Fits (VariableParts hs c t d) (variable_rule c d) p.0 × TypesNames hs (declared c d.name t) t ds p.1

name_more_back : (hs : List Head) (c : Sight) (t : Option Ty) (d : SourceDeclared) (ds : List SourceDeclared) (us : List TypedName)
    → TypesNames hs c t (d ∷ ds) us → Image longer (NamesParts hs c t d ds) us
name_more_back hs c t d ds us (rules.TypesNames.more e s {u = u} {us = vs} h i) = ((u, vs), (h, i), refl)

pub right_names : (hs : List Head) (c : Sight) (t : Option Ty) (ds : List SourceDeclared)
    → Right (Valued hs c × IsThere t) (TypesNames hs c t ds) (names_fine hs c t ds) (names_faults hs c t ds) (FaultInNames hs c t ds)
right_names hs c t [] = said (λ us e. subst (TypesNames hs c t []) e (rules.TypesNames.none c t)) (no_name_back hs c t) (always [])
right_names hs c t (d ∷ ds) =
    said (λ us h. subst (TypesNames hs c t (d ∷ ds)) h.2 (rules.TypesNames.more c t h.1.0 h.1.1)) (name_more_back hs c t d ds)
    (maps longer (both (right_name hs c t d) (λ v e. ((v.0.0, declared_sighted c d.name t v.1 v.0.1), v.1)) (right_names hs (declared c d.name t) t ds)))

-- the line of a declaration, where nothing in it is at fault
pub line_typed : (c : Sight) (n : ℕ) (t : TypeName) → Sighted c → at n (line_verdict c.structs t) ≡ [] → IsThere (line_type c.structs t)
line_typed c n t v e = (right_line c.structs n t).settled v.1 e

-- ---- what a typed statement was made of

block_back : (hs : List Head) (c : Sight) (n : ℕ) (xs : SourceStmts) (s : TypedStmt) → TypesStmt hs c (stmt.block n xs) s
    → Image (stmt.block n) (TypesStmts hs (scope_entered c) xs) s
block_back hs c n xs s (rules.TypesStmt.block d m {ts = ts} h) = (ts, h, refl)

empty_back : (hs : List Head) (c : Sight) (n : ℕ) (s : TypedStmt) → TypesStmt hs c (stmt.empty n) s → stmt.empty n ≡ s
empty_back hs c n s (rules.TypesStmt.empty d m) = refl

expression_back : (hs : List Head) (c : Sight) (n : ℕ) (e : PlainExpr) (s : TypedStmt) → TypesStmt hs c (stmt.expression n e) s
    → Image (stmt.expression n) (TypesValue hs c e) s
expression_back hs c n e s (rules.TypesStmt.expression d m {t = t} h) = (t, h, refl)

if_back : (hs : List Head) (c : Sight) (n : ℕ) (e : PlainExpr) (a : SourceStmt) (s : TypedStmt) → TypesStmt hs c (stmt.if_only n e a) s
    → Fits (IfParts hs c (inside c) e a) (if_rule n) s
if_back hs c n e a s (rules.TypesStmt.if_only d m {t = t} {u = u} h i g) = record { typed = (t, u); parts = (h, i); gives = g }

if_else_back : (hs : List Head) (c : Sight) (n : ℕ) (e : PlainExpr) (a b : SourceStmt) (s : TypedStmt) → TypesStmt hs c (stmt.if_else n e a b) s
    → Fits (IfElseParts hs c e a b) (if_else_rule n) s
if_else_back hs c n e a b s (rules.TypesStmt.if_else d m {t = t} {u = u} {v = v} h i j g) = record { typed = (t, u, v); parts = (h, i, j); gives = g }

while_back : (hs : List Head) (c : Sight) (n : ℕ) (e : PlainExpr) (a : SourceStmt) (s : TypedStmt) → TypesStmt hs c (stmt.while_loop n e a) s
    → Fits (IfParts hs c (looped c) e a) (while_rule n) s
while_back hs c n e a s (rules.TypesStmt.while_loop d m {t = t} {u = u} h i g) = record { typed = (t, u); parts = (h, i); gives = g }

do_back : (hs : List Head) (c : Sight) (n : ℕ) (a : SourceStmt) (e : PlainExpr) (s : TypedStmt) → TypesStmt hs c (stmt.do_loop n a e) s
    → Fits (DoParts hs c a e) (do_rule n) s
do_back hs c n a e s (rules.TypesStmt.do_loop d m {u = u} {t = t} h i g) = record { typed = (u, t); parts = (h, i); gives = g }

for_back : (hs : List Head) (c : Sight) (n : ℕ) (x y z : Option PlainExpr) (a : SourceStmt) (s : TypedStmt) → TypesStmt hs c (stmt.for_loop n x y z a) s
    → Fits (ForParts hs c x y z a) (for_rule n) s
for_back hs c n x y z a s (rules.TypesStmt.for_loop d m {t = t} {u = u} {v = v} {w = w} h i j k g) =
    record { typed = (t, u, v, w); parts = (h, i, j, k); gives = g }

switch_back : (hs : List Head) (c : Sight) (n : ℕ) (e : PlainExpr) (xs : SourceStmts) (s : TypedStmt) → TypesStmt hs c (stmt.switch n e xs) s
    → Fits (SwitchParts hs c e xs) (switch_rule c n) s
switch_back hs c n e xs s (rules.TypesStmt.switch d m {t = t} {ts = ts} h i g) = record { typed = (t, ts); parts = (h, i); gives = g }

break_back : (hs : List Head) (c : Sight) (n : ℕ) (s : TypedStmt) → TypesStmt hs c (stmt.break_off n) s → Fits NoParts (break_rule c n) s
break_back hs c n s (rules.TypesStmt.break_off d m g) = record { typed = tt; parts = tt; gives = g }

continue_back : (hs : List Head) (c : Sight) (n : ℕ) (s : TypedStmt) → TypesStmt hs c (stmt.continue_on n) s → Fits NoParts (continue_rule c n) s
continue_back hs c n s (rules.TypesStmt.continue_on d m g) = record { typed = tt; parts = tt; gives = g }

return_back : (hs : List Head) (c : Sight) (n : ℕ) (e : Option PlainExpr) (s : TypedStmt) → TypesStmt hs c (stmt.return_from n e) s
    → Fits (ReturnParts hs c e) (return_rule n) s
return_back hs c n e s (rules.TypesStmt.return_from d m {r = r} {t = t} h i g) = record { typed = (r, t); parts = (h, i); gives = g }

abbrev DeclarationParts : List Head → Sight → TypeName → List SourceDeclared → Ty × List TypedName → Type 0
DeclarationParts hs c t ds p = TypesLine c.structs t p.0 × TypesNames hs c (line_type c.structs t) ds p.1

declaration_back : (hs : List Head) (c : Sight) (n : ℕ) (t : TypeName) (ds : List SourceDeclared) (s : TypedStmt) → TypesStmt hs c (stmt.declaration n t ds) s
    → Image (declaration_of n) (DeclarationParts hs c t ds) s
declaration_back hs c n t ds s (rules.TypesStmt.declaration d m y {s = u} {us = us} h i) = ((u, us), (h, i), refl)

case_back : (hs : List Head) (c : Sight) (n : ℕ) (k : Constant) (s : TypedStmt) → TypesStmt hs c (stmt.case_label n k) s
    → Fits (TypesConstant c k) (case_rule c.labels n) s
case_back hs c n k s (rules.TypesStmt.case_label d m {v = v} h g) = record { typed = v; parts = h; gives = g }

default_back : (hs : List Head) (c : Sight) (n : ℕ) (s : TypedStmt) → TypesStmt hs c (stmt.default_label n) s → Fits NoParts (default_rule c.labels n) s
default_back hs c n s (rules.TypesStmt.default_label d m g) = record { typed = tt; parts = tt; gives = g }

no_stmt_back : (hs : List Head) (c : Sight) (ts : TypedStmts) → TypesStmts hs c stmt.no_stmt ts → stmt.no_stmt ≡ ts
no_stmt_back hs c ts (rules.TypesStmts.none d) = refl

abbrev StmtsParts : List Head → Sight → SourceStmt → SourceStmts → TypedStmt × TypedStmts → Type 0
StmtsParts hs c x xs p = TypesStmt hs c x p.0 × TypesStmts hs (after c x) xs p.1

more_stmts_back : (hs : List Head) (c : Sight) (x : SourceStmt) (xs : SourceStmts) (ts : TypedStmts) → TypesStmts hs c (stmt.more_stmts x xs) ts
    → Image longer_stmts (StmtsParts hs c x xs) ts
more_stmts_back hs c x xs ts (rules.TypesStmts.more d {t = t} {ts = us} h i) = ((t, us), (h, i), refl)

-- ---- what stands in sight after a statement without faults is typed

pub stmt_keeps : (hs : List Head) (c : Sight) (x : SourceStmt) → Scoped hs c → stmt_faults hs c x ≡ [] → Scoped hs (after c x)
stmt_keeps hs c (stmt.block n xs) v e = v
stmt_keeps hs c (stmt.empty n) v e = v
stmt_keeps hs c (stmt.expression n x) v e = v
stmt_keeps hs c (stmt.if_only n x a) v e = v
stmt_keeps hs c (stmt.if_else n x a b) v e = v
stmt_keeps hs c (stmt.while_loop n x a) v e = v
stmt_keeps hs c (stmt.do_loop n a x) v e = v
stmt_keeps hs c (stmt.for_loop n x y z a) v e = v
stmt_keeps hs c (stmt.switch n x xs) v e = v
stmt_keeps hs c (stmt.break_off n) v e = v
stmt_keeps hs c (stmt.continue_on n) v e = v
stmt_keeps hs c (stmt.return_from n x) v e = v
stmt_keeps hs c (stmt.declaration n t ds) v e =
    let line = (none_split (at n (line_verdict c.structs t)) (names_faults hs c (line_type c.structs t) ds) e).0 in
    let typed = line_typed c n t v.0.1 line in (
      (v.0.0, names_sighted c (line_type c.structs t) ds typed v.0.1),
      (v.1.0, rw (names_result c (line_type c.structs t) ds) v.1.1),
    )
stmt_keeps hs c (stmt.case_label n k) v e = v
stmt_keeps hs c (stmt.default_label n) v e = v

right_value : (hs : List Head) (c : Sight) (e : PlainExpr) → Right (Scoped hs c) (TypesValue hs c e) (value hs c e) (value_faults hs c e) (FaultInValue hs c e)
right_value hs c e = under (λ v. v.0) (right_expr hs c false e)

right_there : (hs : List Head) (c : Sight) (e : Option PlainExpr)
    → Right (Scoped hs c) (There (TypesValue hs c) e) (if_there (value hs c) e) (faults_there (value_faults hs c) e) (FaultThere (FaultInValue hs c) e)
right_there hs c e = if_right (value hs c) (value_faults hs c) (FaultInValue hs c) (right_value hs c) e

-- ---- statements

mutual
  pub right_stmt : (hs : List Head) (c : Sight) (x : SourceStmt)
      → Right (Scoped hs c) (TypesStmt hs c x) (fine (stmt_verdict hs c x)) (stmt_faults hs c x) (FaultInStmt hs c x)
  right_stmt hs c (stmt.block n xs) =
      said (λ s h. subst (TypesStmt hs c (stmt.block n xs)) h.2 (rules.TypesStmt.block c n h.1)) (block_back hs c n xs)
      (passes (stmt.block n) (right_stmts hs (scope_entered c) xs))
  right_stmt hs c (stmt.empty n) = said (λ s e. subst (TypesStmt hs c (stmt.empty n)) e (rules.TypesStmt.empty c n)) (empty_back hs c n) (always (stmt.empty n))
  right_stmt hs c (stmt.expression n e) =
      said (λ s h. subst (TypesStmt hs c (stmt.expression n e)) h.2 (rules.TypesStmt.expression c n h.1)) (expression_back hs c n e)
      (passes (stmt.expression n) (right_value hs c e))
  right_stmt hs c (stmt.if_only n e a) =
      said (λ s h. rules.TypesStmt.if_only c n h.parts.0 h.parts.1 h.gives) (if_back hs c n e a)
      (node if_rows (if_rule n) (λ p i. (Mismatch, refl)) n (both (right_value hs c e) (λ v i. v) (right_stmt hs (inside c) a)))
  right_stmt hs c (stmt.if_else n e a b) =
      said (λ s h. rules.TypesStmt.if_else c n h.parts.0 h.parts.1 h.parts.2 h.gives) (if_else_back hs c n e a b)
      (node if_else_rows (if_else_rule n) (λ p i. (Mismatch, refl)) n
      (all_three (right_value hs c e) (λ v i. v) (right_stmt hs (inside c) a) (λ v i. v) (right_stmt hs (after_then c a) b)))
  right_stmt hs c (stmt.while_loop n e a) =
      said (λ s h. rules.TypesStmt.while_loop c n h.parts.0 h.parts.1 h.gives) (while_back hs c n e a)
      (node if_rows (while_rule n) (λ p i. (Mismatch, refl)) n (both (right_value hs c e) (λ v i. v) (right_stmt hs (looped c) a)))
  right_stmt hs c (stmt.do_loop n a e) =
      said (λ s h. rules.TypesStmt.do_loop c n h.parts.0 h.parts.1 h.gives) (do_back hs c n a e)
      (node do_rows (do_rule n) (λ p i. (Mismatch, refl)) n (both (right_stmt hs (looped c) a) (λ v i. v) (right_value hs c e)))
  right_stmt hs c (stmt.for_loop n x y z a) =
      said (λ s h. rules.TypesStmt.for_loop c n h.parts.0 h.parts.1 h.parts.2 h.parts.3 h.gives) (for_back hs c n x y z a)
      (node for_rows (for_rule n) (λ p i. (Mismatch, refl)) n
      (all_four (right_there hs c x) (right_there hs c y) (right_there hs c z) (right_stmt hs (looped c) a)))
  right_stmt hs c (stmt.switch n e xs) =
      said (λ s h. rules.TypesStmt.switch c n h.parts.0 h.parts.1 h.gives) (switch_back hs c n e xs)
      (node (switch_rows c) (switch_rule c n) (switch_covered c n) n (both (right_value hs c e) (λ v i. v) (right_stmts hs (switched c) xs)))
  right_stmt hs c (stmt.break_off n) =
      said (λ s h. rules.TypesStmt.break_off c n h.gives) (break_back hs c n) (leaf outside_rows (break_rule c n) (λ p i. (Outside, refl)) n no_part)
  right_stmt hs c (stmt.continue_on n) =
      said (λ s h. rules.TypesStmt.continue_on c n h.gives) (continue_back hs c n) (leaf outside_rows (continue_rule c n) (λ p i. (Outside, refl)) n no_part)
  right_stmt hs c (stmt.return_from n e) =
      said (λ s h. rules.TypesStmt.return_from c n h.parts.0 h.parts.1 h.gives) (return_back hs c n e)
      (node return_rows (return_rule n) (λ p i. (Mismatch, refl)) n (looked_and c.result (λ v. v.1) (right_there hs c e)))
  right_stmt hs c (stmt.declaration n t ds) =
      said (λ s h. subst (TypesStmt hs c (stmt.declaration n t ds)) h.2 (rules.TypesStmt.declaration c n t h.1.0 h.1.1)) (declaration_back hs c n t ds)
      (passes (declaration_of n)
      (both (under (λ (v : Scoped hs c). v.0.1.1) (right_line c.structs n t)) (λ v i. (v.0, line_typed c n t v.0.1 i)) (right_names hs c (line_type c.structs t) ds)))
  right_stmt hs c (stmt.case_label n k) =
      said (λ s h. rules.TypesStmt.case_label c n h.parts h.gives) (case_back hs c n k)
      (node (case_rows c.labels) (case_rule c.labels n) (λ p i. (Mismatch, refl)) n (under (λ (v : Scoped hs c). v.0.1) (right_constant c k)))
  right_stmt hs c (stmt.default_label n) =
      said (λ s h. rules.TypesStmt.default_label c n h.gives) (default_back hs c n)
      (leaf (default_rows c.labels) (default_rule c.labels n) (λ p i. (Outside, refl)) n no_part)

  pub right_stmts : (hs : List Head) (c : Sight) (xs : SourceStmts)
      → Right (Scoped hs c) (TypesStmts hs c xs) (stmts_fine hs c xs) (stmts_faults hs c xs) (FaultInStmts hs c xs)
  right_stmts hs c stmt.no_stmt = said (λ ts e. subst (TypesStmts hs c stmt.no_stmt) e (rules.TypesStmts.none c)) (no_stmt_back hs c) (always stmt.no_stmt)
  right_stmts hs c (stmt.more_stmts x xs) =
      said (λ ts h. subst (TypesStmts hs c (stmt.more_stmts x xs)) h.2 (rules.TypesStmts.more c h.1.0 h.1.1)) (more_stmts_back hs c x xs)
      (maps longer_stmts (both (right_stmt hs c x) (stmt_keeps hs c x) (right_stmts hs (after c x) xs)))
