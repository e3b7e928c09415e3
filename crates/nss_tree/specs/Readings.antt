-- Laws of the reading: its equation for each variant as code makes it, with its boxes and vectors;
-- the same for a value that is known to be the variant, as an arm of a `match` knows it; and that
-- of a list. Crates that make or walk a tree cite them, by `plain_laws` where they make one, by
-- `plain_cases` where they match on one.
use Rattle.std.proofs.Common.{◌≡◌, ◌∙◌, option_map, ap, refl, ℕ, ℤ, List, [], ◌∷◌, ◌++◌, Vec, Box, Option, None, Some, Global}
use Rattle.nss_tree.specs.declared.operators.PrefixOperator.{PrefixOperator}
use Rattle.nss_tree.specs.declared.operators.PostfixOperator.{PostfixOperator}
use Rattle.nss_tree.specs.declared.operators.BinaryOperator.{BinaryOperator}
use Rattle.nss_tree.specs.declared.operators.AssignOperator.{AssignOperator}
use Rattle.nss_tree.specs.declared.expressions.Expr.{Expr, Row_of-Expr, end_of-Expr, more_of-Expr, items-the_row-Expr}
use Rattle.nss_tree.specs.declared.expressions.Expr.TheBlock.{hidden-the_row-Expr-0, items_hidden-the_row-Expr-0}
use Rattle.nss_tree.specs.declared.expressions.Expr.TheViews as expr_view
use Rattle.nss_tree.specs.declared.expressions.Expr as expr
use Rattle.nss_tree.specs.declared.statements.DeclaredName.{DeclaredName}
use Rattle.nss_tree.specs.declared.statements.Stmt.{Stmt, Row_of-Stmt, end_of-Stmt, more_of-Stmt, items-the_row-Stmt}
use Rattle.nss_tree.specs.declared.statements.Stmt.TheBlock.{hidden-the_row-Stmt-0, items_hidden-the_row-Stmt-0}
use Rattle.nss_tree.specs.declared.statements.Stmt.TheViews as stmt_view
use Rattle.nss_tree.specs.declared.statements.Stmt as stmt
use Rattle.nss_tree.specs.Expressions as e
use Rattle.nss_tree.specs.Statements as s
use Rattle.nss_tree.specs.Reading.{plain_expr, plain_exprs, plain_row, tree_of_row, tree_of_stmt, tree_of_stmts}

row_items : {n : _} (es : Row_of-Expr n) → plain_row es ≡ plain_exprs (items-the_row-Expr n es)
unfolding plain_row plain_exprs
row_items end_of-Expr = refl
row_items (more_of-Expr x xs) = ap (e.more_exprs (plain_expr x)) (row_items xs)

stmt_row_items : {E C T N : Type 0} {n : _} (es : Row_of-Stmt E C T N n)
    → tree_of_row es ≡ tree_of_stmts (items-the_row-Stmt E C T N n es)
unfolding tree_of_row tree_of_stmts
stmt_row_items end_of-Stmt = refl
stmt_row_items (more_of-Stmt x xs) = ap (s.more_stmts (tree_of_stmt x)) (stmt_row_items xs)

vec_items : (xs : Vec Expr Global) → plain_row (hidden-the_row-Expr-0 xs) ≡ plain_exprs xs.items
vec_items xs = row_items (hidden-the_row-Expr-0 xs)
    ∙ ap plain_exprs (items_hidden-the_row-Expr-0 xs)

stmt_vec_items : {E C T N : Type 0} (xs : Vec (Stmt E C T N) Global)
    → tree_of_row (hidden-the_row-Stmt-0 E C T N xs) ≡ tree_of_stmts xs.items
stmt_vec_items xs = stmt_row_items (hidden-the_row-Stmt-0 _ _ _ _ xs)
    ∙ ap tree_of_stmts (items_hidden-the_row-Stmt-0 _ _ _ _ xs)

pub int_is : (n : ℕ) (v : ℤ) → plain_expr (expr.Int n v) ≡ e.int n v
unfolding plain_expr
int_is n v = refl

pub float_is : (n : ℕ) → plain_expr (expr.Float n) ≡ e.float n
unfolding plain_expr
float_is n = refl

pub text_is : (n : ℕ) (v : List ℕ) → plain_expr (expr.Text n v) ≡ e.text n v
unfolding plain_expr
text_is n v = refl

pub object_self_is : (n : ℕ) → plain_expr (expr.ObjectSelf n) ≡ e.object_self n
unfolding plain_expr
object_self_is n = refl

pub object_invalid_is : (n : ℕ) → plain_expr (expr.ObjectInvalid n) ≡ e.object_invalid n
unfolding plain_expr
object_invalid_is n = refl

pub name_is : (n : ℕ) (f : List ℕ) → plain_expr (expr.Name n f) ≡ e.name n f
unfolding plain_expr
name_is n f = refl

pub call_is : (n : ℕ) (f : List ℕ) (xs : Vec Expr Global)
    → plain_expr (expr_view.Call n f xs) ≡ e.call n f (plain_exprs xs.items)
unfolding plain_expr
call_is n f xs = ap (e.call n f) (vec_items xs)

pub member_is : (n : ℕ) (x : Box Expr Global) (f : List ℕ)
    → plain_expr (expr_view.Member n x f) ≡ e.member n (plain_expr x.value) f
unfolding plain_expr
member_is n x f = refl

pub prefix_is : (n : ℕ) (o : PrefixOperator) (x : Box Expr Global)
    → plain_expr (expr_view.Prefix n o x) ≡ e.prefix n o (plain_expr x.value)
unfolding plain_expr
prefix_is n o x = refl

pub postfix_is : (n : ℕ) (o : PostfixOperator) (x : Box Expr Global)
    → plain_expr (expr_view.Postfix n o x) ≡ e.postfix n o (plain_expr x.value)
unfolding plain_expr
postfix_is n o x = refl

pub binary_is : (n : ℕ) (o : BinaryOperator) (x : Box Expr Global) (y : Box Expr Global)
    → plain_expr (expr_view.Binary n o x y) ≡ e.binary n o (plain_expr x.value) (plain_expr y.value)
unfolding plain_expr
binary_is n o x y = refl

pub assign_is : (n : ℕ) (o : AssignOperator) (x : Box Expr Global) (y : Box Expr Global)
    → plain_expr (expr_view.Assign n o x y) ≡ e.assign n o (plain_expr x.value) (plain_expr y.value)
unfolding plain_expr
assign_is n o x y = refl

pub plain_int : (the : Expr) (n : ℕ) (v : ℤ) → the ≡ expr.Int n v → plain_expr the ≡ e.int n v
plain_int the n v is = ap plain_expr is ∙ int_is n v

pub plain_float : (the : Expr) (n : ℕ) → the ≡ expr.Float n → plain_expr the ≡ e.float n
plain_float the n is = ap plain_expr is ∙ float_is n

pub plain_text : (the : Expr) (n : ℕ) (v : List ℕ) → the ≡ expr.Text n v
    → plain_expr the ≡ e.text n v
plain_text the n v is = ap plain_expr is ∙ text_is n v

pub plain_object_self : (the : Expr) (n : ℕ) → the ≡ expr.ObjectSelf n
    → plain_expr the ≡ e.object_self n
plain_object_self the n is = ap plain_expr is ∙ object_self_is n

pub plain_object_invalid : (the : Expr) (n : ℕ) → the ≡ expr.ObjectInvalid n
    → plain_expr the ≡ e.object_invalid n
plain_object_invalid the n is = ap plain_expr is ∙ object_invalid_is n

pub plain_name : (the : Expr) (n : ℕ) (f : List ℕ) → the ≡ expr.Name n f
    → plain_expr the ≡ e.name n f
plain_name the n f is = ap plain_expr is ∙ name_is n f

pub plain_call : (the : Expr) (n : ℕ) (f : List ℕ) (xs : Vec Expr Global)
    → the ≡ expr_view.Call n f xs → plain_expr the ≡ e.call n f (plain_exprs xs.items)
plain_call the n f xs is = ap plain_expr is ∙ call_is n f xs

pub plain_member : (the : Expr) (n : ℕ) (x : Box Expr Global) (f : List ℕ)
    → the ≡ expr_view.Member n x f → plain_expr the ≡ e.member n (plain_expr x.value) f
plain_member the n x f is = ap plain_expr is ∙ member_is n x f

pub plain_prefix : (the : Expr) (n : ℕ) (o : PrefixOperator) (x : Box Expr Global)
    → the ≡ expr_view.Prefix n o x → plain_expr the ≡ e.prefix n o (plain_expr x.value)
plain_prefix the n o x is = ap plain_expr is ∙ prefix_is n o x

pub plain_postfix : (the : Expr) (n : ℕ) (o : PostfixOperator) (x : Box Expr Global)
    → the ≡ expr_view.Postfix n o x → plain_expr the ≡ e.postfix n o (plain_expr x.value)
plain_postfix the n o x is = ap plain_expr is ∙ postfix_is n o x

pub plain_binary : (the : Expr) (n : ℕ) (o : BinaryOperator) (x : Box Expr Global)
    (y : Box Expr Global) → the ≡ expr_view.Binary n o x y
    → plain_expr the ≡ e.binary n o (plain_expr x.value) (plain_expr y.value)
plain_binary the n o x y is = ap plain_expr is ∙ binary_is n o x y

pub plain_assign : (the : Expr) (n : ℕ) (o : AssignOperator) (x : Box Expr Global)
    (y : Box Expr Global) → the ≡ expr_view.Assign n o x y
    → plain_expr the ≡ e.assign n o (plain_expr x.value) (plain_expr y.value)
plain_assign the n o x y is = ap plain_expr is ∙ assign_is n o x y

pub block_is : {E C T N : Type 0} (n : ℕ) (xs : Vec (Stmt E C T N) Global)
    → tree_of_stmt {E = E} {C = C} {T = T} {N = N} (stmt_view.Block n xs)
    ≡ s.block n (tree_of_stmts xs.items)
unfolding tree_of_stmt
block_is n xs = ap (s.block n) (stmt_vec_items xs)

pub empty_is : {E C T N : Type 0} (n : ℕ)
    → tree_of_stmt {E = E} {C = C} {T = T} {N = N} (stmt.Empty n) ≡ s.empty n
unfolding tree_of_stmt
empty_is n = refl

pub expression_is : {E C T N : Type 0} (n : ℕ) (x : E)
    → tree_of_stmt {E = E} {C = C} {T = T} {N = N} (stmt.Expression n x) ≡ s.expression n x
unfolding tree_of_stmt
expression_is n x = refl

pub if_only_is : {E C T N : Type 0} (n : ℕ) (x : E) (a : Box (Stmt E C T N) Global)
    → tree_of_stmt {E = E} {C = C} {T = T} {N = N} (stmt_view.If n x a)
    ≡ s.if_only n x (tree_of_stmt a.value)
unfolding tree_of_stmt
if_only_is n x a = refl

pub if_else_is : {E C T N : Type 0} (n : ℕ) (x : E) (a : Box (Stmt E C T N) Global)
    (b : Box (Stmt E C T N) Global)
    → tree_of_stmt {E = E} {C = C} {T = T} {N = N} (stmt_view.IfElse n x a b)
    ≡ s.if_else n x (tree_of_stmt a.value) (tree_of_stmt b.value)
unfolding tree_of_stmt
if_else_is n x a b = refl

pub while_loop_is : {E C T N : Type 0} (n : ℕ) (x : E) (a : Box (Stmt E C T N) Global)
    → tree_of_stmt {E = E} {C = C} {T = T} {N = N} (stmt_view.While n x a)
    ≡ s.while_loop n x (tree_of_stmt a.value)
unfolding tree_of_stmt
while_loop_is n x a = refl

pub do_loop_is : {E C T N : Type 0} (n : ℕ) (a : Box (Stmt E C T N) Global) (x : E)
    → tree_of_stmt {E = E} {C = C} {T = T} {N = N} (stmt_view.Do n a x)
    ≡ s.do_loop n (tree_of_stmt a.value) x
unfolding tree_of_stmt
do_loop_is n a x = refl

pub for_loop_is : {E C T N : Type 0} (n : ℕ) (x : Option E) (y : Option E) (z : Option E)
    (a : Box (Stmt E C T N) Global)
    → tree_of_stmt {E = E} {C = C} {T = T} {N = N} (stmt_view.For n x y z a)
    ≡ s.for_loop n x y z (tree_of_stmt a.value)
unfolding tree_of_stmt
for_loop_is n x y z a = refl

pub switch_is : {E C T N : Type 0} (n : ℕ) (x : E) (xs : Vec (Stmt E C T N) Global)
    → tree_of_stmt {E = E} {C = C} {T = T} {N = N} (stmt_view.Switch n x xs)
    ≡ s.switch n x (tree_of_stmts xs.items)
unfolding tree_of_stmt
switch_is n x xs = ap (s.switch n x) (stmt_vec_items xs)

pub break_off_is : {E C T N : Type 0} (n : ℕ)
    → tree_of_stmt {E = E} {C = C} {T = T} {N = N} (stmt.Break n) ≡ s.break_off n
unfolding tree_of_stmt
break_off_is n = refl

pub continue_on_is : {E C T N : Type 0} (n : ℕ)
    → tree_of_stmt {E = E} {C = C} {T = T} {N = N} (stmt.Continue n) ≡ s.continue_on n
unfolding tree_of_stmt
continue_on_is n = refl

pub return_from_is : {E C T N : Type 0} (n : ℕ) (x : Option E)
    → tree_of_stmt {E = E} {C = C} {T = T} {N = N} (stmt.Return n x) ≡ s.return_from n x
unfolding tree_of_stmt
return_from_is n x = refl

pub declaration_is : {E C T N : Type 0} (n : ℕ) (t : T) (ds : List (DeclaredName E N))
    → tree_of_stmt {E = E} {C = C} {T = T} {N = N} (stmt.Declaration n t ds) ≡ s.declaration n t ds
unfolding tree_of_stmt
declaration_is n t ds = refl

pub case_label_is : {E C T N : Type 0} (n : ℕ) (c : C)
    → tree_of_stmt {E = E} {C = C} {T = T} {N = N} (stmt.Case n c) ≡ s.case_label n c
unfolding tree_of_stmt
case_label_is n c = refl

pub default_label_is : {E C T N : Type 0} (n : ℕ)
    → tree_of_stmt {E = E} {C = C} {T = T} {N = N} (stmt.Default n) ≡ s.default_label n
unfolding tree_of_stmt
default_label_is n = refl

pub tree_block : {E C T N : Type 0} (the : Stmt E C T N) (n : ℕ) (xs : Vec (Stmt E C T N) Global)
    → the ≡ stmt_view.Block n xs → tree_of_stmt the ≡ s.block n (tree_of_stmts xs.items)
tree_block the n xs is = ap tree_of_stmt is ∙ block_is n xs

pub tree_empty : {E C T N : Type 0} (the : Stmt E C T N) (n : ℕ) → the ≡ stmt.Empty n
    → tree_of_stmt the ≡ s.empty n
tree_empty the n is = ap tree_of_stmt is ∙ empty_is n

pub tree_expression : {E C T N : Type 0} (the : Stmt E C T N) (n : ℕ) (x : E)
    → the ≡ stmt.Expression n x → tree_of_stmt the ≡ s.expression n x
tree_expression the n x is = ap tree_of_stmt is ∙ expression_is n x

pub tree_if_only : {E C T N : Type 0} (the : Stmt E C T N) (n : ℕ) (x : E)
    (a : Box (Stmt E C T N) Global) → the ≡ stmt_view.If n x a
    → tree_of_stmt the ≡ s.if_only n x (tree_of_stmt a.value)
tree_if_only the n x a is = ap tree_of_stmt is ∙ if_only_is n x a

pub tree_if_else : {E C T N : Type 0} (the : Stmt E C T N) (n : ℕ) (x : E)
    (a : Box (Stmt E C T N) Global) (b : Box (Stmt E C T N) Global) → the ≡ stmt_view.IfElse n x a b
    → tree_of_stmt the ≡ s.if_else n x (tree_of_stmt a.value) (tree_of_stmt b.value)
tree_if_else the n x a b is = ap tree_of_stmt is ∙ if_else_is n x a b

pub tree_while_loop : {E C T N : Type 0} (the : Stmt E C T N) (n : ℕ) (x : E)
    (a : Box (Stmt E C T N) Global) → the ≡ stmt_view.While n x a
    → tree_of_stmt the ≡ s.while_loop n x (tree_of_stmt a.value)
tree_while_loop the n x a is = ap tree_of_stmt is ∙ while_loop_is n x a

pub tree_do_loop : {E C T N : Type 0} (the : Stmt E C T N) (n : ℕ) (a : Box (Stmt E C T N) Global)
    (x : E) → the ≡ stmt_view.Do n a x → tree_of_stmt the ≡ s.do_loop n (tree_of_stmt a.value) x
tree_do_loop the n a x is = ap tree_of_stmt is ∙ do_loop_is n a x

pub tree_for_loop : {E C T N : Type 0} (the : Stmt E C T N) (n : ℕ) (x : Option E) (y : Option E)
    (z : Option E) (a : Box (Stmt E C T N) Global) → the ≡ stmt_view.For n x y z a
    → tree_of_stmt the ≡ s.for_loop n x y z (tree_of_stmt a.value)
tree_for_loop the n x y z a is = ap tree_of_stmt is ∙ for_loop_is n x y z a

pub tree_switch : {E C T N : Type 0} (the : Stmt E C T N) (n : ℕ) (x : E)
    (xs : Vec (Stmt E C T N) Global) → the ≡ stmt_view.Switch n x xs
    → tree_of_stmt the ≡ s.switch n x (tree_of_stmts xs.items)
tree_switch the n x xs is = ap tree_of_stmt is ∙ switch_is n x xs

pub tree_break_off : {E C T N : Type 0} (the : Stmt E C T N) (n : ℕ) → the ≡ stmt.Break n
    → tree_of_stmt the ≡ s.break_off n
tree_break_off the n is = ap tree_of_stmt is ∙ break_off_is n

pub tree_continue_on : {E C T N : Type 0} (the : Stmt E C T N) (n : ℕ) → the ≡ stmt.Continue n
    → tree_of_stmt the ≡ s.continue_on n
tree_continue_on the n is = ap tree_of_stmt is ∙ continue_on_is n

pub tree_return_from : {E C T N : Type 0} (the : Stmt E C T N) (n : ℕ) (x : Option E)
    → the ≡ stmt.Return n x → tree_of_stmt the ≡ s.return_from n x
tree_return_from the n x is = ap tree_of_stmt is ∙ return_from_is n x

pub tree_declaration : {E C T N : Type 0} (the : Stmt E C T N) (n : ℕ) (t : T)
    (ds : List (DeclaredName E N)) → the ≡ stmt.Declaration n t ds
    → tree_of_stmt the ≡ s.declaration n t ds
tree_declaration the n t ds is = ap tree_of_stmt is ∙ declaration_is n t ds

pub tree_case_label : {E C T N : Type 0} (the : Stmt E C T N) (n : ℕ) (c : C) → the ≡ stmt.Case n c
    → tree_of_stmt the ≡ s.case_label n c
tree_case_label the n c is = ap tree_of_stmt is ∙ case_label_is n c

pub tree_default_label : {E C T N : Type 0} (the : Stmt E C T N) (n : ℕ) → the ≡ stmt.Default n
    → tree_of_stmt the ≡ s.default_label n
tree_default_label the n is = ap tree_of_stmt is ∙ default_label_is n

pub plain_exprs_none : plain_exprs [] ≡ e.no_expr
unfolding plain_exprs
plain_exprs_none = refl

pub plain_exprs_more : (x : Expr) (xs : List Expr)
    → plain_exprs (x ∷ xs) ≡ e.more_exprs (plain_expr x) (plain_exprs xs)
unfolding plain_exprs
plain_exprs_more x xs = refl

pub stmts_none : {E C T N : Type 0} → tree_of_stmts {E = E} {C = C} {T = T} {N = N} [] ≡ s.no_stmt
unfolding tree_of_stmts
stmts_none = refl

pub stmts_more : {E C T N : Type 0} (x : Stmt E C T N) (xs : List (Stmt E C T N))
    → tree_of_stmts (x ∷ xs) ≡ s.more_stmts (tree_of_stmt x) (tree_of_stmts xs)
unfolding tree_of_stmts
stmts_more x xs = refl

-- one more at the end
pub plain_exprs_push : (xs : List Expr) (x : Expr)
    → plain_exprs (xs ++ x ∷ [])
    ≡ e.joined_exprs (plain_exprs xs) (e.more_exprs (plain_expr x) e.no_expr)
unfolding plain_exprs
plain_exprs_push [] x = refl
plain_exprs_push (y ∷ ys) x = ap (e.more_exprs (plain_expr y)) (plain_exprs_push ys x)

-- one more at the end
pub stmts_push : {E C T N : Type 0} (xs : List (Stmt E C T N)) (x : Stmt E C T N)
    → tree_of_stmts (xs ++ x ∷ [])
    ≡ s.joined_stmts (tree_of_stmts xs) (s.more_stmts (tree_of_stmt x) s.no_stmt)
unfolding tree_of_stmts
stmts_push [] x = refl
stmts_push (y ∷ ys) x = ap (s.more_stmts (tree_of_stmt y)) (stmts_push ys x)

-- the same with other expressions
pub map_joined : {E F C T N : Type 0} (f : E → F) (xs ys : s.PlainStmts E C T N)
    → s.map_stmts f (s.joined_stmts xs ys) ≡ s.joined_stmts (s.map_stmts f xs) (s.map_stmts f ys)
map_joined f s.no_stmt ys = refl
map_joined f (s.more_stmts x xs) ys = ap (s.more_stmts (s.map_stmt f x)) (map_joined f xs ys)

pub map_stmts_push : {E F C T N : Type 0} (f : E → F) (xs : List (Stmt E C T N)) (x : Stmt E C T N)
    → s.map_stmts f (tree_of_stmts (xs ++ x ∷ []))
    ≡ s.joined_stmts (s.map_stmts f (tree_of_stmts xs))
    (s.more_stmts (s.map_stmt f (tree_of_stmt x)) s.no_stmt)
map_stmts_push f xs x = ap (s.map_stmts f) (stmts_push xs x) ∙ map_joined f (tree_of_stmts xs) _

pub map_stmts_none : {E F C T N : Type 0} (f : E → F)
    → s.map_stmts f (tree_of_stmts {E = E} {C = C} {T = T} {N = N} []) ≡ s.no_stmt
map_stmts_none f = ap (s.map_stmts f) stmts_none

-- the body of a function, with other expressions
pub map_body : {E F C T N : Type 0} (f : E → F) (body : Option (List (Stmt E C T N)))
    → option_map (s.map_stmts f) (option_map tree_of_stmts body)
    ≡ option_map (λ xs. s.map_stmts f (tree_of_stmts xs)) body
map_body f None = refl
map_body f (Some xs) = refl

-- for constructor functions
pub ruleset plain_laws = (
  int_is,
  float_is,
  text_is,
  object_self_is,
  object_invalid_is,
  name_is,
  call_is,
  member_is,
  prefix_is,
  postfix_is,
  binary_is,
  assign_is,
  block_is,
  empty_is,
  expression_is,
  if_only_is,
  if_else_is,
  while_loop_is,
  do_loop_is,
  for_loop_is,
  switch_is,
  break_off_is,
  continue_on_is,
  return_from_is,
  declaration_is,
  case_label_is,
  default_label_is,
  plain_exprs_none,
  plain_exprs_more,
  plain_exprs_push,
  stmts_none,
  stmts_more,
  stmts_push,
)

-- for a walk that matches
pub ruleset plain_cases = (
  plain_int,
  plain_float,
  plain_text,
  plain_object_self,
  plain_object_invalid,
  plain_name,
  plain_call,
  plain_member,
  plain_prefix,
  plain_postfix,
  plain_binary,
  plain_assign,
  tree_block,
  tree_empty,
  tree_expression,
  tree_if_only,
  tree_if_else,
  tree_while_loop,
  tree_do_loop,
  tree_for_loop,
  tree_switch,
  tree_break_off,
  tree_continue_on,
  tree_return_from,
  tree_declaration,
  tree_case_label,
  tree_default_label,
)
