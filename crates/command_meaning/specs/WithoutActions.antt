-- Units without action arguments.
use Rattle.std.specs.Prelude.{◌≡◌, false, List, Option, None, Some}
use Rattle.std.specs.List.{AllByRecursion}
use Rattle.nss_tree.specs.Statements.{block, empty, expression, if_only, if_else, while_loop, do_loop, for_loop, switch, break_off, continue_on, return_from, declaration, case_label, default_label, no_stmt, more_stmts}
use Rattle.nss_tree.specs.Units.{structure, constant, global, function}
use Rattle.typing_rules.specs.Typed.{TypedExpr, TypedExprs, TypedName, TypedStmt, TypedStmts, TypedItem, TypedUnit, literal, name, call, member, prefix, postfix, binary, assign, no_typed, more_typed}
use Rattle.typing_rules.specs.Cells.{is_captured}

-- each argument of each call in it has a value
abbrev mutual
  pub HasNoAction : TypedExpr → Type 0
  HasNoAction (literal k) = Unit {0}
  HasNoAction (name t p) = Unit {0}
  HasNoAction (call t f xs ks) = HaveValues xs
  HasNoAction (member t x n) = HasNoAction x
  HasNoAction (prefix t o x) = HasNoAction x
  HasNoAction (postfix t o x) = HasNoAction x
  HasNoAction (binary t o x y) = HasNoAction x × HasNoAction y
  HasNoAction (assign t o x y) = HasNoAction x × HasNoAction y

  pub HaveValues : TypedExprs → Type 0
  HaveValues no_typed = Unit {0}
  HaveValues (more_typed x xs) = (is_captured x ≡ false) × HasNoAction x × HaveValues xs

abbrev pub HasNoneThere : Option TypedExpr → Type 0
HasNoneThere None = Unit {0}
HasNoneThere (Some x) = HasNoAction x

abbrev pub NamesHaveNone : List TypedName → Type 0
NamesHaveNone xs = AllByRecursion (λ (x : TypedName). HasNoneThere x.value) xs

abbrev mutual
  pub StatementHasNone : TypedStmt → Type 0
  StatementHasNone (block m xs) = StatementsHaveNone xs
  StatementHasNone (empty m) = Unit {0}
  StatementHasNone (expression m x) = HasNoAction x
  StatementHasNone (if_only m x a) = HasNoAction x × StatementHasNone a
  StatementHasNone (if_else m x a b) = HasNoAction x × StatementHasNone a × StatementHasNone b
  StatementHasNone (while_loop m x a) = HasNoAction x × StatementHasNone a
  StatementHasNone (do_loop m a x) = StatementHasNone a × HasNoAction x
  StatementHasNone (for_loop m x y z a) = HasNoneThere x × HasNoneThere y × HasNoneThere z
      × StatementHasNone a
  StatementHasNone (switch m x xs) = HasNoAction x × StatementsHaveNone xs
  StatementHasNone (break_off m) = Unit {0}
  StatementHasNone (continue_on m) = Unit {0}
  StatementHasNone (return_from m x) = HasNoneThere x
  StatementHasNone (declaration m t xs) = NamesHaveNone xs
  StatementHasNone (case_label m k) = Unit {0}
  StatementHasNone (default_label m) = Unit {0}

  pub StatementsHaveNone : TypedStmts → Type 0
  StatementsHaveNone no_stmt = Unit {0}
  StatementsHaveNone (more_stmts x xs) = StatementHasNone x × StatementsHaveNone xs

abbrev pub BodyHasNone : Option TypedStmts → Type 0
BodyHasNone None = Unit {0}
BodyHasNone (Some xs) = StatementsHaveNone xs

abbrev pub ItemHasNone : TypedItem → Type 0
ItemHasNone (structure n x ls) = Unit {0}
ItemHasNone (constant n t x k) = Unit {0}
ItemHasNone (global n t xs) = NamesHaveNone xs
ItemHasNone (function n t x ps body) = BodyHasNone body

-- no call in the unit has an action as an argument
abbrev pub UnitHasNoAction : TypedUnit → Type 0
UnitHasNoAction u = AllByRecursion ItemHasNone u.items
