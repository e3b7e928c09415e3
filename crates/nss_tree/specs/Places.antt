-- The nodes of a tree in preorder, a node before its parts and the parts as they stand in the
-- source, each by the number of its token. Nodes are: structs, field lines, fields, const lines and
-- their names, constants, declarations, declared names, functions, parameters, statements, labels
-- and expressions. No node are: types, the body of a function and the list of a switch's body,
-- whose items are.
use Rattle.std.specs.Prelude.{ℕ, List, [], ◌∷◌, ◌++◌}
use Rattle.std.specs.Prelude.{Option, None, Some}
use Rattle.nss_tree.specs.declared.constants.Constant.{Constant}
use Rattle.nss_tree.specs.declared.constants.Constant.TheVariants as c
use Rattle.nss_tree.specs.declared.constants.TypeName.{TypeName}
use Rattle.nss_tree.specs.declared.units.FieldLine.{FieldLine}
use Rattle.nss_tree.specs.declared.units.Identifier.{Identifier}
use Rattle.nss_tree.specs.declared.units.Parameter.{Parameter}
use Rattle.nss_tree.specs.Expressions.{PlainExpr, PlainExprs, int, float, text, object_self, object_invalid, name, call, member, prefix, postfix, binary, assign, no_expr, more_exprs}
use Rattle.nss_tree.specs.Source.{SourceDeclared, SourceItem, SourceStmt, SourceStmts, SourceTree}
use Rattle.nss_tree.specs.Statements.{block, empty, expression, if_only, if_else, while_loop, do_loop, for_loop, switch, break_off, continue_on, return_from, declaration, case_label, default_label, no_stmt, more_stmts}
use Rattle.nss_tree.specs.Units.{structure, constant, global, function}

abbrev pub token_of : Constant → ℕ
token_of (c.Int n negated v) = n
token_of (c.Float n negated) = n
token_of (c.Text n v) = n
token_of (c.Name n f) = n
token_of (c.ObjectSelf n) = n
token_of (c.ObjectInvalid n) = n

-- the nodes of the parts that are lists or may be absent
abbrev pub places_each : {A : Type 0} → (A → List ℕ) → List A → List ℕ
places_each f [] = []
places_each f (x ∷ xs) = f x ++ places_each f xs

abbrev pub places_if : {A : Type 0} → (A → List ℕ) → Option A → List ℕ
places_if f None = []
places_if f (Some x) = f x

abbrev pub of_constant : Constant → List ℕ
of_constant x = token_of x ∷ []

abbrev mutual
  pub places_expr : PlainExpr → List ℕ
  places_expr (int n v) = n ∷ []
  places_expr (float n) = n ∷ []
  places_expr (text n v) = n ∷ []
  places_expr (object_self n) = n ∷ []
  places_expr (object_invalid n) = n ∷ []
  places_expr (name n f) = n ∷ []
  places_expr (call n f xs) = n ∷ places_exprs xs
  places_expr (member n x f) = n ∷ places_expr x
  places_expr (prefix n o x) = n ∷ places_expr x
  places_expr (postfix n o x) = n ∷ places_expr x
  places_expr (binary n o x y) = n ∷ (places_expr x ++ places_expr y)
  places_expr (assign n o x y) = n ∷ (places_expr x ++ places_expr y)

  pub places_exprs : PlainExprs → List ℕ
  places_exprs no_expr = []
  places_exprs (more_exprs x xs) = places_expr x ++ places_exprs xs

-- a declared name, then its first value
abbrev pub places_declared : SourceDeclared → List ℕ
places_declared d = d.token ∷ places_if places_expr d.value

abbrev mutual
  pub places_stmt : SourceStmt → List ℕ
  places_stmt (block n xs) = n ∷ places_stmts xs
  places_stmt (empty n) = n ∷ []
  places_stmt (expression n x) = n ∷ places_expr x
  places_stmt (if_only n x a) = n ∷ (places_expr x ++ places_stmt a)
  places_stmt (if_else n x a b) = n ∷ (places_expr x ++ (places_stmt a ++ places_stmt b))
  places_stmt (while_loop n x a) = n ∷ (places_expr x ++ places_stmt a)
  places_stmt (do_loop n a x) = n ∷ (places_stmt a ++ places_expr x)
  places_stmt (for_loop n x y z a) = n ∷
      (places_if places_expr x ++
      (places_if places_expr y ++ (places_if places_expr z ++ places_stmt a)))
  places_stmt (switch n x xs) = n ∷ (places_expr x ++ places_stmts xs)
  places_stmt (break_off n) = n ∷ []
  places_stmt (continue_on n) = n ∷ []
  places_stmt (return_from n x) = n ∷ places_if places_expr x
  places_stmt (declaration n t ds) = n ∷ places_each places_declared ds
  places_stmt (case_label n c) = n ∷ of_constant c
  places_stmt (default_label n) = n ∷ []

  pub places_stmts : SourceStmts → List ℕ
  places_stmts no_stmt = []
  places_stmts (more_stmts x xs) = places_stmt x ++ places_stmts xs

abbrev pub places_identifier : Identifier → List ℕ
places_identifier x = x.token ∷ []

abbrev pub places_line : FieldLine TypeName → List ℕ
places_line x = x.token ∷ places_each places_identifier x.names

-- a parameter, then its default
abbrev pub places_parameter : Parameter Constant TypeName (List ℕ) → List ℕ
places_parameter x = x.token ∷ places_if of_constant x.default

abbrev pub places_item : SourceItem → List ℕ
places_item (structure n f lines) = n ∷ places_each places_line lines
places_item (constant n t x c) = n ∷ (x.token ∷ of_constant c)
places_item (global n t ds) = n ∷ places_each places_declared ds
places_item (function n t f ps body) = n ∷
    (places_each places_parameter ps ++ places_if places_stmts body)

unfoldable pub places : SourceTree → List ℕ
places t = places_each places_item t.items
