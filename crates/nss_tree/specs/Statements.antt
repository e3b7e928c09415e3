-- The plain tree of statements, over the types of their expressions E, constants C, types T and
-- declared names N. The first number is the node's token. What is said of all statements, whatever
-- their expressions are, is said of these types; a tree whose expressions are typed is the same
-- type with other parts.
use Rattle.std.specs.Prelude.{ℕ, List, Option, map}
use Rattle.std.specs.Option.{option_map}
use Rattle.nss_tree.specs.declared.statements.DeclaredName.{DeclaredName}

mutual
  pub data PlainStmt (E C T N : Type 0) : Type 0 where
    block : ℕ → PlainStmts E C T N → PlainStmt E C T N
    empty : ℕ → PlainStmt E C T N
    expression : ℕ → E → PlainStmt E C T N
    if_only : ℕ → E → PlainStmt E C T N → PlainStmt E C T N
    if_else : ℕ → E → PlainStmt E C T N → PlainStmt E C T N → PlainStmt E C T N
    while_loop : ℕ → E → PlainStmt E C T N → PlainStmt E C T N
    do_loop : ℕ → PlainStmt E C T N → E → PlainStmt E C T N
    for_loop : ℕ → Option E → Option E → Option E → PlainStmt E C T N → PlainStmt E C T N
    switch : ℕ → E → PlainStmts E C T N → PlainStmt E C T N
    break_off : ℕ → PlainStmt E C T N
    continue_on : ℕ → PlainStmt E C T N
    return_from : ℕ → Option E → PlainStmt E C T N
    declaration : ℕ → T → List (DeclaredName E N) → PlainStmt E C T N
    case_label : ℕ → C → PlainStmt E C T N
    default_label : ℕ → PlainStmt E C T N

  -- what stands in a block or in the body of a switch
  pub data PlainStmts (E C T N : Type 0) : Type 0 where
    no_stmt : PlainStmts E C T N
    more_stmts : PlainStmt E C T N → PlainStmts E C T N → PlainStmts E C T N

-- one list after another
abbrev pub joined_stmts : {E C T N : Type 0} → PlainStmts E C T N → PlainStmts E C T N
    → PlainStmts E C T N
joined_stmts no_stmt ys = ys
joined_stmts (more_stmts x xs) ys = more_stmts x (joined_stmts xs ys)

-- the same with other expressions: each expression in it is changed by a function
abbrev pub map_declared : {E F N : Type 0} → (E → F) → DeclaredName E N → DeclaredName F N
map_declared f d = record { token = d.token; name = d.name; value = option_map f d.value }

abbrev mutual
  pub map_stmt : {E F C T N : Type 0} → (E → F) → PlainStmt E C T N → PlainStmt F C T N
  map_stmt f (block n xs) = block n (map_stmts f xs)
  map_stmt f (empty n) = empty n
  map_stmt f (expression n x) = expression n (f x)
  map_stmt f (if_only n x a) = if_only n (f x) (map_stmt f a)
  map_stmt f (if_else n x a b) = if_else n (f x) (map_stmt f a) (map_stmt f b)
  map_stmt f (while_loop n x a) = while_loop n (f x) (map_stmt f a)
  map_stmt f (do_loop n a x) = do_loop n (map_stmt f a) (f x)
  map_stmt f (for_loop n x y z a) = for_loop n (option_map f x) (option_map f y) (option_map f z)
      (map_stmt f a)
  map_stmt f (switch n x xs) = switch n (f x) (map_stmts f xs)
  map_stmt f (break_off n) = break_off n
  map_stmt f (continue_on n) = continue_on n
  map_stmt f (return_from n x) = return_from n (option_map f x)
  map_stmt f (declaration n t ds) = declaration n t (map (map_declared f) ds)
  map_stmt f (case_label n c) = case_label n c
  map_stmt f (default_label n) = default_label n

  pub map_stmts : {E F C T N : Type 0} → (E → F) → PlainStmts E C T N → PlainStmts F C T N
  map_stmts f no_stmt = no_stmt
  map_stmts f (more_stmts x xs) = more_stmts (map_stmt f x) (map_stmts f xs)
