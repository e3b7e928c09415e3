-- Whether a statement returns, whatever it is that it computes.
use Rattle.std.specs.Prelude.{Bool, true, false, not, ◌&&◌, ◌||◌, if◌then◌else◌}
use Rattle.nss_tree.specs.Statements.{PlainStmt, PlainStmts, block, empty, expression, if_only, if_else, while_loop, do_loop, for_loop, switch, break_off, continue_on, return_from, declaration, case_label, default_label, no_stmt, more_stmts}

-- a break in it leaves the loop or the switch that it stands in
abbrev mutual
  pub has_break : {E C T N : Type 0} → PlainStmt E C T N → Bool
  has_break (block n xs) = have_break xs
  has_break (empty n) = false
  has_break (expression n x) = false
  has_break (if_only n x a) = has_break a
  has_break (if_else n x a b) = has_break a || has_break b
  has_break (while_loop n x a) = false
  has_break (do_loop n a x) = false
  has_break (for_loop n x y z a) = false
  has_break (switch n x xs) = false
  has_break (break_off n) = true
  has_break (continue_on n) = false
  has_break (return_from n x) = false
  has_break (declaration n t ds) = false
  has_break (case_label n c) = false
  has_break (default_label n) = false

  pub have_break : {E C T N : Type 0} → PlainStmts E C T N → Bool
  have_break no_stmt = false
  have_break (more_stmts x xs) = has_break x || have_break xs

abbrev pub is_default : {E C T N : Type 0} → PlainStmt E C T N → Bool
is_default (default_label n) = true
is_default _ = false

abbrev pub has_default : {E C T N : Type 0} → PlainStmts E C T N → Bool
has_default no_stmt = false
has_default (more_stmts x xs) = is_default x || has_default xs

-- a statement, and no label or declaration
abbrev pub is_statement : {E C T N : Type 0} → PlainStmt E C T N → Bool
is_statement (declaration n t ds) = false
is_statement (case_label n c) = false
is_statement (default_label n) = false
is_statement _ = true

abbrev pub has_statement : {E C T N : Type 0} → PlainStmts E C T N → Bool
has_statement no_stmt = false
has_statement (more_stmts x xs) = is_statement x || has_statement xs

-- A statement returns where each way through it ends with a `return`, as far as these rules see:
-- loops but for `do` are taken to be passed over, and a `break` before a `return` in a `do` isn't
-- looked at.
abbrev mutual
  pub returns : {E C T N : Type 0} → PlainStmt E C T N → Bool
  returns (block n xs) = some_returns xs
  returns (empty n) = false
  returns (expression n x) = false
  returns (if_only n x a) = false
  returns (if_else n x a b) = returns a && returns b
  returns (while_loop n x a) = false
  returns (do_loop n a x) = returns a
  returns (for_loop n x y z a) = false
  returns (switch n x xs) = has_default xs && (not (have_break xs) && last_returns xs)
  returns (break_off n) = false
  returns (continue_on n) = false
  returns (return_from n x) = true
  returns (declaration n t ds) = false
  returns (case_label n c) = false
  returns (default_label n) = false

  -- one of these returns
  pub some_returns : {E C T N : Type 0} → PlainStmts E C T N → Bool
  some_returns no_stmt = false
  some_returns (more_stmts x xs) = returns x || some_returns xs

  -- the last statement among these returns, labels and declarations passed over
  pub last_returns : {E C T N : Type 0} → PlainStmts E C T N → Bool
  last_returns no_stmt = false
  last_returns (more_stmts x xs) = if has_statement xs then last_returns xs else returns x
