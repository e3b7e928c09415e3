-- A tree is known in one way, so that a script can carry that it is.
use Rattle.std.specs.Prelude.{ℕ, ℤ, List, [], ◌∷◌, Option, None, Some, FitsSigned}
use Rattle.std.specs.Int.{w32}
use Rattle.std.specs.Coded.{×_prop, le_prop}
use Rattle.nss_symbols.specs.Symbols.{IsText}
use Rattle.nss_tree.specs.declared.constants.Constant.{Constant}
use Rattle.nss_tree.specs.declared.constants.Constant.TheVariants as spelled
use Rattle.nss_tree.specs.Expressions.{PlainExpr, PlainExprs}
use Rattle.nss_tree.specs.Expressions as tree
use Rattle.nss_tree.specs.Statements as stmt
use Rattle.nss_tree.specs.Units as item
use Rattle.nss_tree.specs.Source.{SourceDeclared, SourceStmt, SourceStmts, SourceItem, SourceItems, SourceParameter, SourceTree}
use Rattle.nss_parser.specs.Sizes.{IsKnown, AreKnown, IsSomeKnown, IsKnownConstant, AreKnownNames, IsKnownStmt, AreKnownStmts, IsKnownDefault, AreKnownParams, IsKnownBody, IsKnownItem, AreKnownItems, IsKnownTree}

unit_once : IsProp (Unit {0})
unit_once = Prim.hlevel

int_once : (v : ℤ) → IsProp (FitsSigned w32 v)
int_once v = Prim.hlevel le_prop

text_once : (bytes : List ℕ) → IsProp (IsText bytes)
text_once bytes = Prim.hlevel le_prop

mutual
  known_once : (e : PlainExpr) → IsProp (IsKnown e)
  known_once (tree.int n v) = int_once v
  known_once (tree.float n) = unit_once
  known_once (tree.text n v) = text_once v
  known_once (tree.object_self n) = unit_once
  known_once (tree.object_invalid n) = unit_once
  known_once (tree.name n x) = unit_once
  known_once (tree.call n f es) = all_known_once es
  known_once (tree.member n e x) = known_once e
  known_once (tree.prefix n o e) = known_once e
  known_once (tree.postfix n o e) = known_once e
  known_once (tree.binary n o d e) = ×_prop (known_once d) (known_once e)
  known_once (tree.assign n o d e) = ×_prop (known_once d) (known_once e)

  all_known_once : (es : PlainExprs) → IsProp (AreKnown es)
  all_known_once tree.no_expr = unit_once
  all_known_once (tree.more_exprs e es) = ×_prop (known_once e) (all_known_once es)

some_once : (e : Option PlainExpr) → IsProp (IsSomeKnown e)
some_once None = unit_once
some_once (Some e) = known_once e

constant_once : (k : Constant) → IsProp (IsKnownConstant k)
constant_once (spelled.Int n negated v) = int_once v
constant_once (spelled.Float n negated) = unit_once
constant_once (spelled.Text n v) = text_once v
constant_once (spelled.Name n x) = unit_once
constant_once (spelled.ObjectSelf n) = unit_once
constant_once (spelled.ObjectInvalid n) = unit_once

names_once : (ds : List SourceDeclared) → IsProp (AreKnownNames ds)
names_once [] = unit_once
names_once (d ∷ ds) = ×_prop (some_once d.value) (names_once ds)

mutual
  stmt_once : (x : SourceStmt) → IsProp (IsKnownStmt x)
  stmt_once (stmt.block n xs) = stmts_once xs
  stmt_once (stmt.empty n) = unit_once
  stmt_once (stmt.expression n e) = known_once e
  stmt_once (stmt.if_only n e a) = ×_prop (known_once e) (stmt_once a)
  stmt_once (stmt.if_else n e a b) = ×_prop (known_once e) (×_prop (stmt_once a) (stmt_once b))
  stmt_once (stmt.while_loop n e a) = ×_prop (known_once e) (stmt_once a)
  stmt_once (stmt.do_loop n a e) = ×_prop (stmt_once a) (known_once e)
  stmt_once (stmt.for_loop n x y z a) = ×_prop (some_once x)
      (×_prop (some_once y) (×_prop (some_once z) (stmt_once a)))
  stmt_once (stmt.switch n e xs) = ×_prop (known_once e) (stmts_once xs)
  stmt_once (stmt.break_off n) = unit_once
  stmt_once (stmt.continue_on n) = unit_once
  stmt_once (stmt.return_from n e) = some_once e
  stmt_once (stmt.declaration n t ds) = names_once ds
  stmt_once (stmt.case_label n k) = constant_once k
  stmt_once (stmt.default_label n) = unit_once

  stmts_once : (xs : SourceStmts) → IsProp (AreKnownStmts xs)
  stmts_once stmt.no_stmt = unit_once
  stmts_once (stmt.more_stmts x xs) = ×_prop (stmt_once x) (stmts_once xs)

default_once : (o : Option Constant) → IsProp (IsKnownDefault o)
default_once None = unit_once
default_once (Some k) = constant_once k

params_once : (ps : List SourceParameter) → IsProp (AreKnownParams ps)
params_once [] = unit_once
params_once (p ∷ ps) = ×_prop (default_once p.default) (params_once ps)

body_once : (body : Option SourceStmts) → IsProp (IsKnownBody body)
body_once None = unit_once
body_once (Some xs) = stmts_once xs

item_once : (i : SourceItem) → IsProp (IsKnownItem i)
item_once (item.structure n x ls) = unit_once
item_once (item.constant n t x k) = constant_once k
item_once (item.global n t ds) = names_once ds
item_once (item.function n t x ps body) = ×_prop (params_once ps) (body_once body)

pub items_once : (is : SourceItems) → IsProp (AreKnownItems is)
items_once [] = unit_once
items_once (i ∷ is) = ×_prop (item_once i) (items_once is)

pub tree_once : (u : SourceTree) → IsProp (IsKnownTree u)
tree_once u = Prim.hlevel (le_prop, items_once u.items)
