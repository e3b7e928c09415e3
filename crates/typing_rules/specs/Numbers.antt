-- The numbers of the variables in a typed tree, in the order of their tokens.
use Rattle.std.specs.Prelude.{◌≡◌, ℕ, zero, suc, ◌+◌, List, [], ◌∷◌, ◌++◌, map, Option, None, Some}
use Rattle.nss_tree.specs.Statements.{block, empty, expression, if_only, if_else, while_loop, do_loop, for_loop, switch, break_off, continue_on, return_from, declaration, case_label, default_label, no_stmt, more_stmts}
use Rattle.nss_tree.specs.Units.{structure, constant, global, function}
use Rattle.nss_tree.specs.Counts.{in_all, variables_of}
use Rattle.nss_tree.specs.Source.{SourceTree}
use Rattle.nwq_value.specs.Engine.{EngineTable}
use Rattle.typing_rules.specs.Typed.{TypedName, TypedStmt, TypedStmts, TypedParameter, TypedItem, TypedUnit}
use Rattle.typing_rules.specs.Meaning.{TypesUnit}

abbrev pub number_of : TypedName → ℕ
number_of d = d.name.number

abbrev pub number_of_parameter : TypedParameter → ℕ
number_of_parameter p = p.name.number

abbrev mutual
  pub numbers : TypedStmt → List ℕ
  numbers (block n xs) = all_numbers xs
  numbers (empty n) = []
  numbers (expression n x) = []
  numbers (if_only n x a) = numbers a
  numbers (if_else n x a b) = numbers a ++ numbers b
  numbers (while_loop n x a) = numbers a
  numbers (do_loop n a x) = numbers a
  numbers (for_loop n x y z a) = numbers a
  numbers (switch n x xs) = all_numbers xs
  numbers (break_off n) = []
  numbers (continue_on n) = []
  numbers (return_from n x) = []
  numbers (declaration n t ds) = map number_of ds
  numbers (case_label n c) = []
  numbers (default_label n) = []

  pub all_numbers : TypedStmts → List ℕ
  all_numbers no_stmt = []
  all_numbers (more_stmts x xs) = numbers x ++ all_numbers xs

abbrev pub body_numbers : Option TypedStmts → List ℕ
body_numbers None = []
body_numbers (Some xs) = all_numbers xs

abbrev pub item_numbers : TypedItem → List ℕ
item_numbers (structure n x ls) = []
item_numbers (constant n t x k) = []
item_numbers (global n t ds) = map number_of ds
item_numbers (function n t x ps body) = map number_of_parameter ps ++ body_numbers body

abbrev pub items_numbers : List TypedItem → List ℕ
items_numbers [] = []
items_numbers (i ∷ is) = item_numbers i ++ items_numbers is

-- so many numbers from this one on
abbrev pub numbers_from : ℕ → ℕ → List ℕ
numbers_from n zero = []
numbers_from n (suc k) = n ∷ numbers_from (n + 1) k

-- the variables of a typed unit are numbered in one row from 0
abbrev pub NumberedInOrder : Type 0
NumberedInOrder = (table : EngineTable) (u : SourceTree) (t : TypedUnit) → TypesUnit table u t
    → items_numbers t.items ≡ numbers_from 0 (in_all variables_of u.items)
