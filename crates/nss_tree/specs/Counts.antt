-- How many variables, structs and bodies a unit has, whatever its expressions are. Variables are
-- parameters, those of prototypes too, and declared names, globals among them.
use Rattle.std.specs.Prelude.{ℕ, ◌+◌, List, [], ◌∷◌, Option, None, Some, length}
use Rattle.nss_tree.specs.Statements.{PlainStmt, PlainStmts, block, empty, expression, if_only, if_else, while_loop, do_loop, for_loop, switch, break_off, continue_on, return_from, declaration, case_label, default_label, no_stmt, more_stmts}
use Rattle.nss_tree.specs.Units.{PlainItem, structure, constant, global, function}

abbrev mutual
  pub variables_in : {E C T N : Type 0} → PlainStmt E C T N → ℕ
  variables_in (block n xs) = variables_in_all xs
  variables_in (empty n) = 0
  variables_in (expression n x) = 0
  variables_in (if_only n x a) = variables_in a
  variables_in (if_else n x a b) = variables_in a + variables_in b
  variables_in (while_loop n x a) = variables_in a
  variables_in (do_loop n a x) = variables_in a
  variables_in (for_loop n x y z a) = variables_in a
  variables_in (switch n x xs) = variables_in_all xs
  variables_in (break_off n) = 0
  variables_in (continue_on n) = 0
  variables_in (return_from n x) = 0
  variables_in (declaration n t ds) = length ds
  variables_in (case_label n c) = 0
  variables_in (default_label n) = 0

  pub variables_in_all : {E C T N : Type 0} → PlainStmts E C T N → ℕ
  variables_in_all no_stmt = 0
  variables_in_all (more_stmts x xs) = variables_in x + variables_in_all xs

abbrev pub variables_in_body : {E C T N : Type 0} → Option (PlainStmts E C T N) → ℕ
variables_in_body None = 0
variables_in_body (Some xs) = variables_in_all xs

abbrev pub variables_of : {E C T N : Type 0} → PlainItem E C T N → ℕ
variables_of (structure n f lines) = 0
variables_of (constant n t x c) = 0
variables_of (global n t ds) = length ds
variables_of (function n t f ps body) = length ps + variables_in_body body

abbrev pub structs_of : {E C T N : Type 0} → PlainItem E C T N → ℕ
structs_of (structure n f lines) = 1
structs_of (constant n t x c) = 0
structs_of (global n t ds) = 0
structs_of (function n t f ps body) = 0

abbrev pub one_if : {A : Type 0} → Option A → ℕ
one_if None = 0
one_if (Some x) = 1

abbrev pub bodies_of : {E C T N : Type 0} → PlainItem E C T N → ℕ
bodies_of (structure n f lines) = 0
bodies_of (constant n t x c) = 0
bodies_of (global n t ds) = 0
bodies_of (function n t f ps body) = one_if body

abbrev pub in_all : {A : Type 0} → (A → ℕ) → List A → ℕ
in_all f [] = 0
in_all f (x ∷ xs) = f x + in_all f xs
