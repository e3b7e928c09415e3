-- An expression of the source that is known, with its parts as code reaches them, and how large it
-- is, so that the walk ends.
use Rattle.std.proofs.Common.{◌≡◌, ◌<◌, ◌≤◌, ◌+◌, ℕ, zero, suc, List, [], ◌∷◌, length, drop, get_or, Result, Ok, Err, arith, sym, true≢false, ap, subst, ◌∙◌}
use Rattle.std.specs.Result.{IsErr, OnOk}
use Rattle.std.proofs.lemmas.List.{at_drop_more}
use Rattle.nss_tree.specs.declared.expressions.Expr.{Expr}
use Rattle.nss_tree.specs.declared.operators.AssignOperator.{AssignOperator}
use Rattle.nss_tree.specs.declared.operators.BinaryOperator.{BinaryOperator}
use Rattle.nss_tree.specs.declared.operators.PostfixOperator.{PostfixOperator}
use Rattle.nss_tree.specs.declared.operators.PrefixOperator.{PrefixOperator}
use Rattle.nss_tree.specs.Expressions as tree
use Rattle.nss_tree.specs.Expressions.{PlainExpr, PlainExprs}
use Rattle.nss_tree.specs.Reading.{plain_expr, plain_exprs}
use Rattle.nss_tree.specs.Readings.{plain_exprs_more}

-- ---- an expression that is known

pub call_is : (the : Expr) (n : ℕ) (f : List ℕ) (xs ys : List Expr) → plain_expr the ≡ tree.call n f (plain_exprs xs) → ys ≡ xs → plain_expr the ≡ tree.call n f (plain_exprs ys)
call_is the n f xs ys is same = is ∙ ap (λ zs. tree.call n f (plain_exprs zs)) (sym same)

pub member_is : (the : Expr) (n : ℕ) (x y : Expr) (f : List ℕ) → plain_expr the ≡ tree.member n (plain_expr x) f → y ≡ x → plain_expr the ≡ tree.member n (plain_expr y) f
member_is the n x y f is same = is ∙ ap (λ z. tree.member n (plain_expr z) f) (sym same)

pub prefix_is : (the : Expr) (n : ℕ) (o : PrefixOperator) (x y : Expr) → plain_expr the ≡ tree.prefix n o (plain_expr x) → y ≡ x → plain_expr the ≡ tree.prefix n o (plain_expr y)
prefix_is the n o x y is same = is ∙ ap (λ z. tree.prefix n o (plain_expr z)) (sym same)

pub postfix_is : (the : Expr) (n : ℕ) (o : PostfixOperator) (x y : Expr) → plain_expr the ≡ tree.postfix n o (plain_expr x) → y ≡ x → plain_expr the ≡ tree.postfix n o (plain_expr y)
postfix_is the n o x y is same = is ∙ ap (λ z. tree.postfix n o (plain_expr z)) (sym same)

pub binary_is : (the : Expr) (n : ℕ) (o : BinaryOperator) (a b x y : Expr)
    → plain_expr the ≡ tree.binary n o (plain_expr a) (plain_expr b) → x ≡ a → y ≡ b
    → plain_expr the ≡ tree.binary n o (plain_expr x) (plain_expr y)
binary_is the n o a b x y is first second = is ∙ (ap (λ z. tree.binary n o (plain_expr z) (plain_expr b)) (sym first) ∙ ap (λ z. tree.binary n o (plain_expr x) (plain_expr z)) (sym second))

pub assign_is : (the : Expr) (n : ℕ) (o : AssignOperator) (a b x y : Expr)
    → plain_expr the ≡ tree.assign n o (plain_expr a) (plain_expr b) → x ≡ a → y ≡ b
    → plain_expr the ≡ tree.assign n o (plain_expr x) (plain_expr y)
assign_is the n o a b x y is first second = is ∙ (ap (λ z. tree.assign n o (plain_expr z) (plain_expr b)) (sym first) ∙ ap (λ z. tree.assign n o (plain_expr x) (plain_expr z)) (sym second))

-- ---- how large an expression is

abbrev mutual
  pub size : PlainExpr → ℕ
  size (tree.int n v) = 0
  size (tree.float n) = 0
  size (tree.text n v) = 0
  size (tree.object_self n) = 0
  size (tree.object_invalid n) = 0
  size (tree.name n f) = 0
  size (tree.call n f xs) = 2 + all_size xs
  size (tree.member n x f) = 2 + size x
  size (tree.prefix n o x) = 2 + size x
  size (tree.postfix n o x) = 2 + size x
  size (tree.binary n o x y) = 2 + size x + size y
  size (tree.assign n o x y) = 2 + size x + size y

  pub all_size : PlainExprs → ℕ
  all_size tree.no_expr = 0
  all_size (tree.more_exprs x xs) = 1 + size x + all_size xs

-- from an expression to what it is known to be
pub falls : (e d : PlainExpr) (t k : ℕ) → e ≡ d → size e ≡ t → k < size d → k < t
falls e d t k node is less = subst (λ n. k < n) (sym (ap size node) ∙ is) less

drop_size : (ys : List Expr) (j : ℕ) → all_size (plain_exprs (drop j ys)) ≤ all_size (plain_exprs ys)
unfolding plain_exprs
drop_size ys zero = omega arith
drop_size [] (suc j) = omega arith
drop_size (y ∷ ys) (suc j) = omega (arith, drop_size ys j)

-- from a list to an expression in it
pub next_falls : (xs : List Expr) (i : ℕ) (x : Expr) → x ≡ get_or xs i x → i < length xs → (t : ℕ) → all_size (plain_exprs xs) ≡ t → size (plain_expr x) < t
next_falls xs i x is lt t falls =
    let next : all_size (plain_exprs (drop i xs)) ≡ 1 + size (plain_expr x) + all_size (plain_exprs (drop (i + 1) xs)) =
    at_drop_more (λ ys. all_size (plain_exprs ys)) xs i x lt
    ∙ (ap (λ y. all_size (plain_exprs (y ∷ drop (i + 1) xs))) (sym is) ∙ ap all_size (plain_exprs_more x (drop (i + 1) xs))) in
    omega (arith, next, drop_size xs i)

-- ---- what holds of an error

pub err_on : {A E : Type 0} (r : Result A E) (P : Type 0) → IsErr r → OnOk r P
err_on (Ok a) P h = absurd (true≢false (sym h))
err_on (Err e) P h = tt
