-- The one reading of the plain tree from the tree that code holds.
use Rattle.std.specs.Prelude.{ℕ, List, [], ◌∷◌, map}
use Rattle.std.specs.Option.{option_map}
use Rattle.nss_tree.specs.Expressions as e
use Rattle.nss_tree.specs.Expressions.{PlainExpr, PlainExprs}
use Rattle.nss_tree.specs.Statements as s
use Rattle.nss_tree.specs.Statements.{PlainStmt, PlainStmts, map_declared, map_stmt, map_stmts}
use Rattle.nss_tree.specs.Units as u
use Rattle.nss_tree.specs.Units.{PlainItem, map_item}
use Rattle.nss_tree.specs.Source.{SourceDeclared, SourceItem, SourceStmt, SourceStmts, SourceTree}
use Rattle.nss_tree.specs.declared.constants.Constant.{Constant}
use Rattle.nss_tree.specs.declared.constants.TypeName.{TypeName}
use Rattle.nss_tree.specs.declared.expressions.Expr.{Expr, Int, Float, Text, ObjectSelf, ObjectInvalid, Name, Call', Member', Prefix', Postfix', Binary', Assign', Row_of-Expr, end_of-Expr, more_of-Expr}
use Rattle.nss_tree.specs.declared.statements.DeclaredName.{DeclaredName}
use Rattle.nss_tree.specs.declared.statements.Stmt.{Stmt, Block', Empty, Expression, If', IfElse', While', Do', For', Switch', Break, Continue, Return, Declaration, Case, Default, Row_of-Stmt, end_of-Stmt, more_of-Stmt}
use Rattle.nss_tree.specs.declared.units.Item.{Item}
use Rattle.nss_tree.specs.declared.units.Item.TheVariants.{Struct, Const, Global, Function}
use Rattle.nss_tree.specs.declared.units.Tree.{Tree}

unfoldable mutual
  pub plain_expr : Expr → PlainExpr
  plain_expr (Int n v) = e.int n v
  plain_expr (Float n) = e.float n
  plain_expr (Text n v) = e.text n v
  plain_expr (ObjectSelf n) = e.object_self n
  plain_expr (ObjectInvalid n) = e.object_invalid n
  plain_expr (Name n f) = e.name n f
  plain_expr (Call' n f shape es) = e.call n f (plain_row es)
  plain_expr (Member' n p x f) = e.member n (plain_expr x) f
  plain_expr (Prefix' n o p x) = e.prefix n o (plain_expr x)
  plain_expr (Postfix' n o p x) = e.postfix n o (plain_expr x)
  plain_expr (Binary' n o p x q y) = e.binary n o (plain_expr x) (plain_expr y)
  plain_expr (Assign' n o p x q y) = e.assign n o (plain_expr x) (plain_expr y)

  pub plain_row : {m : _} → Row_of-Expr m → PlainExprs
  plain_row end_of-Expr = e.no_expr
  plain_row (more_of-Expr x xs) = e.more_exprs (plain_expr x) (plain_row xs)

-- the same of the list that code sees
unfoldable pub plain_exprs : List Expr → PlainExprs
plain_exprs [] = e.no_expr
plain_exprs (x ∷ xs) = e.more_exprs (plain_expr x) (plain_exprs xs)

-- Statements with their expressions as they are, whatever these are.
unfoldable mutual
  pub tree_of_stmt : {E C T N : Type 0} → Stmt E C T N → PlainStmt E C T N
  tree_of_stmt (Block' n shape xs) = s.block n (tree_of_row xs)
  tree_of_stmt (Empty n) = s.empty n
  tree_of_stmt (Expression n x) = s.expression n x
  tree_of_stmt (If' n x p a) = s.if_only n x (tree_of_stmt a)
  tree_of_stmt (IfElse' n x p a q b) = s.if_else n x (tree_of_stmt a) (tree_of_stmt b)
  tree_of_stmt (While' n x p a) = s.while_loop n x (tree_of_stmt a)
  tree_of_stmt (Do' n p a x) = s.do_loop n (tree_of_stmt a) x
  tree_of_stmt (For' n x y z p a) = s.for_loop n x y z (tree_of_stmt a)
  tree_of_stmt (Switch' n x shape xs) = s.switch n x (tree_of_row xs)
  tree_of_stmt (Break n) = s.break_off n
  tree_of_stmt (Continue n) = s.continue_on n
  tree_of_stmt (Return n x) = s.return_from n x
  tree_of_stmt (Declaration n t ds) = s.declaration n t ds
  tree_of_stmt (Case n c) = s.case_label n c
  tree_of_stmt (Default n) = s.default_label n

  pub tree_of_row : {E C T N : Type 0} {m : _} → Row_of-Stmt E C T N m → PlainStmts E C T N
  tree_of_row end_of-Stmt = s.no_stmt
  tree_of_row (more_of-Stmt x xs) = s.more_stmts (tree_of_stmt x) (tree_of_row xs)

unfoldable pub tree_of_stmts : {E C T N : Type 0} → List (Stmt E C T N) → PlainStmts E C T N
tree_of_stmts [] = s.no_stmt
tree_of_stmts (x ∷ xs) = s.more_stmts (tree_of_stmt x) (tree_of_stmts xs)

abbrev pub tree_of_item : {E C T N : Type 0} → Item E C T N → PlainItem E C T N
tree_of_item (Struct n f lines) = u.structure n f lines
tree_of_item (Const n t x c) = u.constant n t x c
tree_of_item (Global n t ds) = u.global n t ds
tree_of_item (Function n t f ps body) = u.function n t f ps (option_map tree_of_stmts body)

-- The same with their expressions seen through a view, as the plain expressions of a script.
abbrev pub plain_name : DeclaredName Expr (List ℕ) → SourceDeclared
plain_name = map_declared plain_expr

abbrev pub plain_names : List (DeclaredName Expr (List ℕ)) → List SourceDeclared
plain_names = map plain_name

abbrev pub plain_stmt : Stmt Expr Constant TypeName (List ℕ) → SourceStmt
plain_stmt x = map_stmt plain_expr (tree_of_stmt x)

abbrev pub plain_stmts : List (Stmt Expr Constant TypeName (List ℕ)) → SourceStmts
plain_stmts xs = map_stmts plain_expr (tree_of_stmts xs)

abbrev pub plain_item : Item Expr Constant TypeName (List ℕ) → SourceItem
plain_item x = map_item plain_expr (tree_of_item x)

abbrev pub plain_tree : Tree Expr Constant TypeName (List ℕ) → SourceTree
plain_tree t = record { items = map plain_item t.items; count = t.count }
