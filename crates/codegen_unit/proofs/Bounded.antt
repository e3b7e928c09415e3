-- Values and statements that keep the bounds, and labelled code that grows part by part.
use Rattle.std.proofs.Common.{◌≡◌, ◌≤◌, ◌+◌, ℕ, Bool, true, List, [], ◌∷◌, ◌++◌, Option, Some, None, arith, ap, sym, ◌∙◌, append_assoc}
use Rattle.std.proofs.lemmas.List.{append-nil}
use Rattle.nwq_value.specs.Limits.{struct_cell_limit}
use Rattle.nwq_value.specs.declared.engine.Const.TheVariants as const
use Rattle.nss_tree.specs.Statements.{block, empty, expression, if_only, if_else, while_loop, do_loop, for_loop, switch, break_off, continue_on, return_from, declaration, case_label, default_label}
use Rattle.nss_tree.specs.Statements.{no_stmt, more_stmts}
use Rattle.ncs_emit.specs.Labelled.{Line, LabelledCode}
use Rattle.typing_rules.specs.Typed.{TypedExpr, TypedName, TypedStmt, TypedStmts, type_of}
use Rattle.typing_rules.specs.Cells.{cells}
use Rattle.emission_rules.specs.Bounds.{IsSome, AreNames, IsStmt, AreStmts}
use Rattle.emission_rules.specs.Layout.{Layout}
use Rattle.codegen_expr.specs.Emitted.{CanBeEmitted, extended}
use Rattle.codegen_expr.specs.BoundLemmas.{grows, type_few}

pub ready_few : (n : ℕ) (l : Layout) (d : ℕ) (x : TypedExpr) → CanBeEmitted n l d x → cells l.structs (type_of x) ≤ struct_cell_limit
ready_few n l d x ready = type_few n l x ready.bounded

-- ---- code that grows

both_same : (xs ys : List Line) (n m : ℕ) → xs ≡ ys → n ≡ m → ◌≡◌ {A = LabelledCode} (record { lines = xs; labels = n }) (record { lines = ys; labels = m })
both_same xs ys n m e f = ap (λ zs. record { lines = zs; labels = n }) e ∙ ap (λ k. record { lines = ys; labels = k }) f

pub extended_none : (c : LabelledCode) → c ≡ extended c [] 0
extended_none c = both_same c.lines (c.lines ++ []) c.labels (c.labels + 0) (sym (append-nil c.lines)) (omega arith)

pub extended_twice : (c : LabelledCode) (xs ys : List Line) (n m k : ℕ) → k ≡ n + m → extended (extended c xs n) ys m ≡ extended c (xs ++ ys) k
extended_twice c xs ys n m k is = both_same ((c.lines ++ xs) ++ ys) (c.lines ++ (xs ++ ys)) (c.labels + n + m) (c.labels + k) (append_assoc c.lines xs ys) (omega arith)

-- ---- more functions have labels

pub some_grows : (n m : ℕ) (l : Layout) (x : Option TypedExpr) → n ≤ m → IsSome n l x → IsSome m l x
some_grows n m l None le is = tt
some_grows n m l (Some x) le is = grows n m l x le is

pub all_names_grow : (n m : ℕ) (l : Layout) (xs : List TypedName) → n ≤ m → AreNames n l xs → AreNames m l xs
all_names_grow n m l [] le are = tt
all_names_grow n m l (x ∷ xs) le are = (are.0, some_grows n m l x.value le are.1, all_names_grow n m l xs le are.2)

mutual
  pub stmt_grows : (n m : ℕ) (l : Layout) (breaks continues : Bool) (x : TypedStmt) → n ≤ m → IsStmt n l breaks continues x → IsStmt m l breaks continues x
  stmt_grows n m l b k (block i xs) le is = stmts_grow n m l b k xs le is
  stmt_grows n m l b k (empty i) le is = tt
  stmt_grows n m l b k (expression i x) le is = grows n m l x le is
  stmt_grows n m l b k (if_only i x a) le is = (grows n m l x le is.0, stmt_grows n m l b k a le is.1)
  stmt_grows n m l b k (if_else i x a c) le is = (grows n m l x le is.0, stmt_grows n m l b k a le is.1, stmt_grows n m l b k c le is.2)
  stmt_grows n m l b k (while_loop i x a) le is = (grows n m l x le is.0, stmt_grows n m l true true a le is.1)
  stmt_grows n m l b k (do_loop i a x) le is = (stmt_grows n m l true true a le is.0, grows n m l x le is.1)
  stmt_grows n m l b k (for_loop i x y z a) le is = (some_grows n m l x le is.0, some_grows n m l y le is.1, some_grows n m l z le is.2, stmt_grows n m l true true a le is.3)
  stmt_grows n m l b k (switch i x xs) le is = (grows n m l x le is.0, stmts_grow n m l true k xs le is.1)
  stmt_grows n m l b k (break_off i) le is = is
  stmt_grows n m l b k (continue_on i) le is = is
  stmt_grows n m l b k (return_from i x) le is = some_grows n m l x le is
  stmt_grows n m l b k (declaration i t xs) le is = all_names_grow n m l xs le is
  stmt_grows n m l b k (case_label i c) le is = is
  stmt_grows n m l b k (default_label i) le is = tt

  pub stmts_grow : (n m : ℕ) (l : Layout) (breaks continues : Bool) (xs : TypedStmts) → n ≤ m → AreStmts n l breaks continues xs → AreStmts m l breaks continues xs
  stmts_grow n m l b k no_stmt le are = tt
  stmts_grow n m l b k (more_stmts x xs) le are = (stmt_grows n m l b k x le are.0, stmts_grow n m l b k xs le are.1)
