-- How large a source tree is, as a number of its tokens, and that the numbers and texts in it are
-- those of literals.
use Rattle.std.specs.Prelude.{ℕ, ◌+◌, ◌≤◌, List, [], ◌∷◌, Option, None, Some, length, FitsSigned}
use Rattle.std.specs.List.{AllByRecursion}
use Rattle.std.specs.Int.{w32}
use Rattle.nss_tree.specs.declared.constants.Constant.{Constant}
use Rattle.nss_tree.specs.declared.constants.Constant.TheVariants as spelled
use Rattle.nss_tree.specs.Expressions.{PlainExpr, PlainExprs}
use Rattle.nss_tree.specs.Expressions as tree
use Rattle.nss_tree.specs.Statements as stmt
use Rattle.nss_tree.specs.Units as item
use Rattle.nss_tree.specs.Source.{SourceDeclared, SourceStmt, SourceStmts, SourceItem, SourceItems, SourceParameter, SourceTree}
use Rattle.nss_symbols.specs.Symbols.{Symbol, IsText, IsLiteral}
use Rattle.nss_parser.specs.Sentence.{Parses}

-- ---- expressions

abbrev mutual
  pub size : PlainExpr → ℕ
  size (tree.int n v) = 1
  size (tree.float n) = 1
  size (tree.text n v) = 1
  size (tree.object_self n) = 1
  size (tree.object_invalid n) = 1
  size (tree.name n x) = 1
  size (tree.call n f es) = 3 + all_size es
  size (tree.member n e x) = 1 + size e
  size (tree.prefix n o e) = 1 + size e
  size (tree.postfix n o e) = 1 + size e
  size (tree.binary n o d e) = 1 + (size d + size e)
  size (tree.assign n o d e) = 1 + (size d + size e)

  pub all_size : PlainExprs → ℕ
  all_size tree.no_expr = 0
  all_size (tree.more_exprs e es) = size e + all_size es

abbrev mutual
  pub IsKnown : PlainExpr → Type 0
  IsKnown (tree.int n v) = FitsSigned w32 v
  IsKnown (tree.float n) = Unit {0}
  IsKnown (tree.text n v) = IsText v
  IsKnown (tree.object_self n) = Unit {0}
  IsKnown (tree.object_invalid n) = Unit {0}
  IsKnown (tree.name n x) = Unit {0}
  IsKnown (tree.call n f es) = AreKnown es
  IsKnown (tree.member n e x) = IsKnown e
  IsKnown (tree.prefix n o e) = IsKnown e
  IsKnown (tree.postfix n o e) = IsKnown e
  IsKnown (tree.binary n o d e) = IsKnown d × IsKnown e
  IsKnown (tree.assign n o d e) = IsKnown d × IsKnown e

  pub AreKnown : PlainExprs → Type 0
  AreKnown tree.no_expr = Unit {0}
  AreKnown (tree.more_exprs e es) = IsKnown e × AreKnown es

abbrev pub some_size : Option PlainExpr → ℕ
some_size None = 0
some_size (Some e) = size e

abbrev pub IsSomeKnown : Option PlainExpr → Type 0
IsSomeKnown None = Unit {0}
IsSomeKnown (Some e) = IsKnown e

abbrev pub IsKnownConstant : Constant → Type 0
IsKnownConstant (spelled.Int n negated v) = FitsSigned w32 v
IsKnownConstant (spelled.Float n negated) = Unit {0}
IsKnownConstant (spelled.Text n v) = IsText v
IsKnownConstant (spelled.Name n x) = Unit {0}
IsKnownConstant (spelled.ObjectSelf n) = Unit {0}
IsKnownConstant (spelled.ObjectInvalid n) = Unit {0}

-- ---- statements

abbrev pub names_size : List SourceDeclared → ℕ
names_size [] = 0
names_size (d ∷ ds) = (1 + some_size d.value) + names_size ds

abbrev pub AreKnownNames : List SourceDeclared → Type 0
AreKnownNames [] = Unit {0}
AreKnownNames (d ∷ ds) = IsSomeKnown d.value × AreKnownNames ds

abbrev mutual
  pub stmt_size : SourceStmt → ℕ
  stmt_size (stmt.block n xs) = 1 + all_stmt_size xs
  stmt_size (stmt.empty n) = 1
  stmt_size (stmt.expression n e) = 1 + size e
  stmt_size (stmt.if_only n e a) = 1 + (size e + stmt_size a)
  stmt_size (stmt.if_else n e a b) = 1 + (size e + (stmt_size a + stmt_size b))
  stmt_size (stmt.while_loop n e a) = 1 + (size e + stmt_size a)
  stmt_size (stmt.do_loop n a e) = 1 + (stmt_size a + size e)
  stmt_size (stmt.for_loop n x y z a) = 1 +
      (some_size x + (some_size y + (some_size z + stmt_size a)))
  stmt_size (stmt.switch n e xs) = 1 + (size e + all_stmt_size xs)
  stmt_size (stmt.break_off n) = 1
  stmt_size (stmt.continue_on n) = 1
  stmt_size (stmt.return_from n e) = 1 + some_size e
  stmt_size (stmt.declaration n t ds) = 1 + names_size ds
  stmt_size (stmt.case_label n k) = 1
  stmt_size (stmt.default_label n) = 1

  pub all_stmt_size : SourceStmts → ℕ
  all_stmt_size stmt.no_stmt = 0
  all_stmt_size (stmt.more_stmts x xs) = stmt_size x + all_stmt_size xs

abbrev mutual
  pub IsKnownStmt : SourceStmt → Type 0
  IsKnownStmt (stmt.block n xs) = AreKnownStmts xs
  IsKnownStmt (stmt.empty n) = Unit {0}
  IsKnownStmt (stmt.expression n e) = IsKnown e
  IsKnownStmt (stmt.if_only n e a) = IsKnown e × IsKnownStmt a
  IsKnownStmt (stmt.if_else n e a b) = IsKnown e × (IsKnownStmt a × IsKnownStmt b)
  IsKnownStmt (stmt.while_loop n e a) = IsKnown e × IsKnownStmt a
  IsKnownStmt (stmt.do_loop n a e) = IsKnownStmt a × IsKnown e
  IsKnownStmt (stmt.for_loop n x y z a) = IsSomeKnown x
      × (IsSomeKnown y × (IsSomeKnown z × IsKnownStmt a))
  IsKnownStmt (stmt.switch n e xs) = IsKnown e × AreKnownStmts xs
  IsKnownStmt (stmt.break_off n) = Unit {0}
  IsKnownStmt (stmt.continue_on n) = Unit {0}
  IsKnownStmt (stmt.return_from n e) = IsSomeKnown e
  IsKnownStmt (stmt.declaration n t ds) = AreKnownNames ds
  IsKnownStmt (stmt.case_label n k) = IsKnownConstant k
  IsKnownStmt (stmt.default_label n) = Unit {0}

  pub AreKnownStmts : SourceStmts → Type 0
  AreKnownStmts stmt.no_stmt = Unit {0}
  AreKnownStmts (stmt.more_stmts x xs) = IsKnownStmt x × AreKnownStmts xs

-- ---- items

abbrev pub IsKnownDefault : Option Constant → Type 0
IsKnownDefault None = Unit {0}
IsKnownDefault (Some k) = IsKnownConstant k

abbrev pub AreKnownParams : List SourceParameter → Type 0
AreKnownParams [] = Unit {0}
AreKnownParams (p ∷ ps) = IsKnownDefault p.default × AreKnownParams ps

abbrev pub body_size : Option SourceStmts → ℕ
body_size None = 0
body_size (Some xs) = all_stmt_size xs

abbrev pub IsKnownBody : Option SourceStmts → Type 0
IsKnownBody None = Unit {0}
IsKnownBody (Some xs) = AreKnownStmts xs

abbrev pub item_size : SourceItem → ℕ
item_size (item.structure n x ls) = 0
item_size (item.constant n t x k) = 0
item_size (item.global n t ds) = 1 + names_size ds
item_size (item.function n t x ps body) = 1 + (length ps + body_size body)

abbrev pub IsKnownItem : SourceItem → Type 0
IsKnownItem (item.structure n x ls) = Unit {0}
IsKnownItem (item.constant n t x k) = IsKnownConstant k
IsKnownItem (item.global n t ds) = AreKnownNames ds
IsKnownItem (item.function n t x ps body) = AreKnownParams ps × IsKnownBody body

abbrev pub items_size : SourceItems → ℕ
items_size [] = 0
items_size (i ∷ is) = item_size i + items_size is

abbrev pub AreKnownItems : SourceItems → Type 0
AreKnownItems [] = Unit {0}
AreKnownItems (i ∷ is) = IsKnownItem i × AreKnownItems is

-- ---- trees

-- the numbers and texts of a tree are within bounds, and it is no larger than its tokens are many
pub record IsKnownTree (u : SourceTree) : Type 0 where
  pub items : AreKnownItems u.items
  pub size : items_size u.items ≤ u.count

-- that of a list of tokens whose literals are within bounds
abbrev pub EachTreeIsKnown : Type 0
EachTreeIsKnown = (tokens : List Symbol) (u : SourceTree) → AllByRecursion IsLiteral tokens
    → Parses tokens u → IsKnownTree u
