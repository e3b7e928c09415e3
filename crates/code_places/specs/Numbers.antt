-- The numbers of a typed tree's nodes, in preorder from 0: None from 2^32 on.
use Rattle.std.specs.Prelude.{ℕ, ◌+◌, nat_lt, List, [], ◌∷◌, Option, None, Some, if◌then◌else◌}
use Rattle.nss_tree.specs.declared.units.Identifier.{Identifier}
use Rattle.nss_tree.specs.Statements.{block, empty, expression, if_only, if_else, while_loop, do_loop, for_loop, switch, break_off, continue_on, return_from, declaration, case_label, default_label, no_stmt, more_stmts}
use Rattle.nss_tree.specs.Units.{structure, constant, global, function}
use Rattle.nwq_value.specs.declared.engine.Const.{Const}
use Rattle.typing_rules.specs.Typed.{TypedExpr, TypedExprs, TypedName, TypedStmt, TypedStmts, TypedLine, TypedParameter, TypedItem, literal, name, call, member, prefix, postfix, binary, assign, no_typed, more_typed}

abbrev pub Number : Type 0
Number = Option ℕ

abbrev pub next : Number → Number
next None = None
next (Some n) = if nat_lt n 4294967295 then Some (n + 1) else None

-- ---- the number behind all nodes of a part that begins with the number k

abbrev mutual
  pub behind : Number → TypedExpr → Number
  behind k (literal c) = next k
  behind k (name t p) = next k
  behind k (call t f xs ks) = behind_all (next k) xs
  behind k (member t x n) = behind (next k) x
  behind k (prefix t o x) = behind (next k) x
  behind k (postfix t o x) = behind (next k) x
  behind k (binary t o x y) = behind (behind (next k) x) y
  behind k (assign t o x y) = behind (behind (next k) x) y

  pub behind_all : Number → TypedExprs → Number
  behind_all k no_typed = k
  behind_all k (more_typed x xs) = behind_all (behind k x) xs

abbrev pub behind_if : Number → Option TypedExpr → Number
behind_if k None = k
behind_if k (Some x) = behind k x

abbrev pub behind_names : Number → List TypedName → Number
behind_names k [] = k
behind_names k (d ∷ ds) = behind_names (behind_if (next k) d.value) ds

abbrev mutual
  pub behind_stmt : Number → TypedStmt → Number
  behind_stmt k (block n xs) = behind_stmts (next k) xs
  behind_stmt k (empty n) = next k
  behind_stmt k (expression n x) = behind (next k) x
  behind_stmt k (if_only n x a) = behind_stmt (behind (next k) x) a
  behind_stmt k (if_else n x a b) = behind_stmt (behind_stmt (behind (next k) x) a) b
  behind_stmt k (while_loop n x a) = behind_stmt (behind (next k) x) a
  behind_stmt k (do_loop n a x) = behind (behind_stmt (next k) a) x
  behind_stmt k (for_loop n x y z a) =
      behind_stmt (behind_if (behind_if (behind_if (next k) x) y) z) a
  behind_stmt k (switch n x xs) = behind_stmts (behind (next k) x) xs
  behind_stmt k (break_off n) = next k
  behind_stmt k (continue_on n) = next k
  behind_stmt k (return_from n x) = behind_if (next k) x
  behind_stmt k (declaration n t ds) = behind_names (next k) ds
  behind_stmt k (case_label n c) = next (next k)
  behind_stmt k (default_label n) = next k

  pub behind_stmts : Number → TypedStmts → Number
  behind_stmts k no_stmt = k
  behind_stmts k (more_stmts x xs) = behind_stmts (behind_stmt k x) xs

abbrev pub behind_fields : Number → List Identifier → Number
behind_fields k [] = k
behind_fields k (x ∷ xs) = behind_fields (next k) xs

abbrev pub behind_lines : Number → List TypedLine → Number
behind_lines k [] = k
behind_lines k (x ∷ xs) = behind_lines (behind_fields (next k) x.names) xs

abbrev pub behind_default : Number → Option Const → Number
behind_default k None = k
behind_default k (Some c) = next k

abbrev pub behind_parameters : Number → List TypedParameter → Number
behind_parameters k [] = k
behind_parameters k (p ∷ ps) = behind_parameters (behind_default (next k) p.default) ps

abbrev pub behind_body : Number → Option TypedStmts → Number
behind_body k None = k
behind_body k (Some xs) = behind_stmts k xs

abbrev pub behind_item : Number → TypedItem → Number
behind_item k (structure n x ls) = behind_lines (next k) ls
behind_item k (constant n t x c) = next (next (next k))
behind_item k (global n t ds) = behind_names (next k) ds
behind_item k (function n t x ps body) = behind_body (behind_parameters (next k) ps) body
