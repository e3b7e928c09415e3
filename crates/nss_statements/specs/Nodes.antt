-- A statement of the source that is known, with its parts as code reaches them; how large it is;
-- and the scope of a statement that is left.
use Rattle.std.proofs.Common.{◌≡◌, ◌<◌, ◌≤◌, ◌+◌, ℕ, zero, suc, List, [], ◌∷◌, length, drop, get_or, Option, Result, Ok, Err, arith, sym, true≢false, ap, subst, ◌∙◌}
use Rattle.std.specs.Option.{option_map}
use Rattle.std.specs.Result.{IsErr, OnOk}
use Rattle.std.proofs.lemmas.List.{at_drop_more}
use Rattle.nss_tree.specs.declared.constants.Constant.{Constant}
use Rattle.nss_tree.specs.declared.constants.TypeName.{TypeName}
use Rattle.nss_tree.specs.declared.expressions.Expr.{Expr}
use Rattle.nss_tree.specs.declared.statements.DeclaredName.{DeclaredName}
use Rattle.nss_tree.specs.declared.statements.Stmt.{Stmt}
use Rattle.nss_tree.specs.Reading.{plain_expr, plain_names, plain_stmt, plain_stmts, tree_of_stmt, tree_of_stmts}
use Rattle.nss_tree.specs.Readings.{stmts_more}
use Rattle.nss_tree.specs.Source.{SourceStmt, SourceStmts}
use Rattle.nss_tree.specs.Statements as s
use Rattle.nss_tree.specs.Statements.{map_stmt, map_stmts}

-- ---- a statement that is known

pub block_is : (the : Stmt Expr Constant TypeName (List ℕ)) (n : ℕ)
    (xs ys : List (Stmt Expr Constant TypeName (List ℕ))) → tree_of_stmt the ≡ s.block n (tree_of_stmts xs) → ys ≡ xs
    → plain_stmt the ≡ s.block n (plain_stmts ys)
block_is the n xs ys is same = ap (map_stmt plain_expr) is ∙ ap (λ zs. s.block n (plain_stmts zs)) (sym same)

pub if_only_is : (the : Stmt Expr Constant TypeName (List ℕ)) (n : ℕ) (e : Expr)
    (a y : Stmt Expr Constant TypeName (List ℕ)) → tree_of_stmt the ≡ s.if_only n e (tree_of_stmt a) → y ≡ a
    → plain_stmt the ≡ s.if_only n (plain_expr e) (plain_stmt y)
if_only_is the n e a y is same = ap (map_stmt plain_expr) is ∙ ap (λ z. s.if_only n (plain_expr e) (plain_stmt z)) (sym same)

pub if_else_is : (the : Stmt Expr Constant TypeName (List ℕ)) (n : ℕ) (e : Expr)
    (a b y z : Stmt Expr Constant TypeName (List ℕ))
    → tree_of_stmt the ≡ s.if_else n e (tree_of_stmt a) (tree_of_stmt b) → y ≡ a → z ≡ b
    → plain_stmt the ≡ s.if_else n (plain_expr e) (plain_stmt y) (plain_stmt z)
if_else_is the n e a b y z is first second =
    ap (map_stmt plain_expr) is ∙ (ap (λ w. s.if_else n (plain_expr e) (plain_stmt w) (plain_stmt b)) (sym first) ∙ ap (λ w. s.if_else n (plain_expr e) (plain_stmt y) (plain_stmt w)) (sym second))

pub while_is : (the : Stmt Expr Constant TypeName (List ℕ)) (n : ℕ) (e : Expr)
    (a y : Stmt Expr Constant TypeName (List ℕ)) → tree_of_stmt the ≡ s.while_loop n e (tree_of_stmt a) → y ≡ a
    → plain_stmt the ≡ s.while_loop n (plain_expr e) (plain_stmt y)
while_is the n e a y is same = ap (map_stmt plain_expr) is ∙ ap (λ z. s.while_loop n (plain_expr e) (plain_stmt z)) (sym same)

pub do_is : (the : Stmt Expr Constant TypeName (List ℕ)) (n : ℕ) (e : Expr) (a y : Stmt Expr Constant TypeName (List ℕ))
    → tree_of_stmt the ≡ s.do_loop n (tree_of_stmt a) e → y ≡ a
    → plain_stmt the ≡ s.do_loop n (plain_stmt y) (plain_expr e)
do_is the n e a y is same = ap (map_stmt plain_expr) is ∙ ap (λ z. s.do_loop n (plain_stmt z) (plain_expr e)) (sym same)

pub for_is : (the : Stmt Expr Constant TypeName (List ℕ)) (n : ℕ) (x y z : Option Expr) (a w : Stmt Expr Constant TypeName (List ℕ)) → tree_of_stmt the ≡ s.for_loop n x y z (tree_of_stmt a) → w ≡ a
    → plain_stmt the ≡ s.for_loop n (option_map plain_expr x) (option_map plain_expr y) (option_map plain_expr z) (plain_stmt w)
for_is the n x y z a w is same = ap (map_stmt plain_expr) is ∙ ap (λ v. s.for_loop n (option_map plain_expr x) (option_map plain_expr y) (option_map plain_expr z) (plain_stmt v)) (sym same)

pub switch_is : (the : Stmt Expr Constant TypeName (List ℕ)) (n : ℕ) (e : Expr)
    (xs ys : List (Stmt Expr Constant TypeName (List ℕ))) → tree_of_stmt the ≡ s.switch n e (tree_of_stmts xs) → ys ≡ xs
    → plain_stmt the ≡ s.switch n (plain_expr e) (plain_stmts ys)
switch_is the n e xs ys is same = ap (map_stmt plain_expr) is ∙ ap (λ zs. s.switch n (plain_expr e) (plain_stmts zs)) (sym same)

pub declaration_is : (the : Stmt Expr Constant TypeName (List ℕ)) (n : ℕ) (t : TypeName)
    (xs ys : List (DeclaredName Expr (List ℕ))) → tree_of_stmt the ≡ s.declaration n t xs → ys ≡ xs
    → plain_stmt the ≡ s.declaration n t (plain_names ys)
declaration_is the n t xs ys is same = ap (map_stmt plain_expr) is ∙ ap (λ zs. s.declaration n t (plain_names zs)) (sym same)

-- ---- how large a statement is, so that the walk ends

abbrev mutual
  pub size : SourceStmt → ℕ
  size (s.block n xs) = 3 + all_size xs
  size (s.empty n) = 0
  size (s.expression n e) = 0
  size (s.if_only n e a) = 3 + size a
  size (s.if_else n e a b) = 3 + size a + size b
  size (s.while_loop n e a) = 3 + size a
  size (s.do_loop n a e) = 3 + size a
  size (s.for_loop n x y z a) = 3 + size a
  size (s.switch n e xs) = 3 + all_size xs
  size (s.break_off n) = 0
  size (s.continue_on n) = 0
  size (s.return_from n e) = 0
  size (s.declaration n t xs) = 0
  size (s.case_label n k) = 0
  size (s.default_label n) = 0

  pub all_size : SourceStmts → ℕ
  all_size s.no_stmt = 0
  all_size (s.more_stmts x xs) = 1 + size x + all_size xs

-- from a statement to what it is known to be
pub falls : (e d : SourceStmt) (t k : ℕ) → e ≡ d → size e ≡ t → k < size d → k < t
falls e d t k node is less = subst (λ n. k < n) (sym (ap size node) ∙ is) less

drop_size : (ys : List (Stmt Expr Constant TypeName (List ℕ))) (j : ℕ) → all_size (plain_stmts (drop j ys)) ≤ all_size (plain_stmts ys)
unfolding tree_of_stmts
drop_size ys zero = omega arith
drop_size [] (suc j) = omega arith
drop_size (y ∷ ys) (suc j) = omega (arith, drop_size ys j)

-- from a list to a statement in it
pub next_falls : (xs : List (Stmt Expr Constant TypeName (List ℕ))) (i : ℕ) (x : Stmt Expr Constant TypeName (List ℕ)) → x ≡ get_or xs i x → i < length xs → (t : ℕ) → all_size (plain_stmts xs) + 1 ≡ t
    → size (plain_stmt x) < t
next_falls xs i x is lt t falls =
    let next : all_size (plain_stmts (drop i xs)) ≡ 1 + size (plain_stmt x) + all_size (plain_stmts (drop (i + 1) xs)) =
    at_drop_more (λ ys. all_size (plain_stmts ys)) xs i x lt
    ∙ (ap (λ y. all_size (plain_stmts (y ∷ drop (i + 1) xs))) (sym is) ∙ ap (λ ys. all_size (map_stmts plain_expr ys)) (stmts_more x (drop (i + 1) xs))) in
    omega (arith, next, drop_size xs i)

-- ---- what holds behind a call that succeeds

pub on_ok : {A E P Q : Type 0} (r : Result A E) → (P → Q) → OnOk r P → OnOk r Q
on_ok (Ok a) f h = f h
on_ok (Err e) f h = tt

-- what is ensured for all, at one of them
pub on_ok_at : {A B E : Type 0} (r : Result A E) (P : B → Type 0) (b : B) → OnOk r ((x : B) → P x) → OnOk r (P b)
on_ok_at (Ok a) P b h = h b
on_ok_at (Err e) P b h = tt

-- ---- what holds of an error

pub err_on : {A E : Type 0} (r : Result A E) (P : Type 0) → IsErr r → OnOk r P
err_on (Ok a) P h = absurd (true≢false (sym h))
err_on (Err e) P h = tt
