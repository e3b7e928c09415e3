-- Each label is placed once: the labels from a next one on are those that a node takes.
use Rattle.std.proofs.Common.{◌≡◌, ◌<◌, ℕ, ◌+◌, ◌-◌, List, [], ◌∷◌, ◌++◌, length, arith, refl, ap, ◌∙◌, Bool, true, false, eqb, cond, ltb, Option, Some, None, zero, suc}
use Rattle.std.specs.Option.{option_map}
use Rattle.std.proofs.lemmas.Bool.Decides.{nat_tests}
use Rattle.nss_tree.specs.declared.operators.PrefixOperator.{PrefixOperator}
use Rattle.nss_tree.specs.declared.operators.PrefixOperator.TheVariants as pre
use Rattle.nss_tree.specs.declared.operators.PostfixOperator.{PostfixOperator}
use Rattle.nss_tree.specs.declared.operators.PostfixOperator.TheVariants as post
use Rattle.nss_tree.specs.declared.operators.AssignOperator.{AssignOperator}
use Rattle.nss_tree.specs.Statements.{block, empty, expression, if_only, if_else, while_loop, do_loop, for_loop, switch, break_off, continue_on, return_from, declaration, case_label, default_label}
use Rattle.nss_tree.specs.Statements.{no_stmt, more_stmts}
use Rattle.nss_tree.specs.Units.{structure, constant, global, function}
use Rattle.nss_tree.specs.declared.operators.AssignOperator.TheVariants as asg
use Rattle.ncs_code.specs.Plain.{PlainOp}
use Rattle.nwq_value.specs.declared.engine.Const.{Const}
use Rattle.nwq_value.specs.declared.value.Ty.{Ty}
use Rattle.ncs_emit.specs.Labelled.{Line, Label, placements}
use Rattle.ncs_emit.specs.Laws.{PlacementsAdd}
use Rattle.typing_rules.specs.declared.places.Place.{Place}
use Rattle.typing_rules.specs.declared.places.Place.TheVariants.{Local, Global, Const as IsConst}
use Rattle.typing_rules.specs.declared.places.Callee.{Callee}
use Rattle.typing_rules.specs.declared.places.Callee.TheVariants.{Unit as InUnit, Engine}
use Rattle.typing_rules.specs.declared.places.EntryPoint.{EntryPoint}
use Rattle.typing_rules.specs.declared.places.EntryPoint.TheVariants.{Main, Conditional}
use Rattle.typing_rules.specs.Typed.{TypedExpr, TypedExprs, TypedName, TypedStmt, TypedStmts, TypedItem, literal, name, call, member, prefix, postfix, binary, assign, no_typed, more_typed, type_of}
use Rattle.typing_rules.specs.Cells.{cell_types, cells, is_captured}
use Rattle.emission_rules.specs.Layout.{Layout, declared_cells, all_declared_cells, params_cells, item_cells}
use Rattle.emission_rules.specs.Operations.{started, dropped, combination, operation}
use Rattle.emission_rules.specs.Expressions.{Home, increment, decrement, moved, home, at_home, read, write, name_code, member_code, prefix_code, postfix_code, Shortcut, WhereTrue, WhereFalse, Never}
use Rattle.emission_rules.specs.Expressions.{shortcut, shortcut_labels, binary_code, is_set, read_first, cells_first, constants, result_room, call_line, argument_labels, argument_code}
use Rattle.emission_rules.specs.Expressions.{count_arguments, arguments_cells, emit, emit_all, labels, all_labels}
use Rattle.emission_rules.specs.Statements.{Exits, no_exits, in_loop, in_switch, some_labels, evaluated, tested, returned, initial, names_labels, emit_names, is_label, count_labels, behind, test_of}
use Rattle.emission_rules.specs.Statements.{tests, placed, placed_on, stmt_labels, all_stmt_labels, emit_stmt, emit_stmts}
use Rattle.emission_rules.specs.Units.{body_count, functions_labels, emit_function, emit_functions, globals_labels, emit_globals, entry_call, start_labels, emit_start}

-- what can be written takes no label
mapped_none : (a offset : ℕ) (o : Option Home) → ((h : Home) → o ≡ Some h → a ≡ 0) → (h : Home) → option_map (moved offset) o ≡ Some h → a ≡ 0
mapped_none a offset None f h is = absurd cc
mapped_none a offset (Some g) f h is = f g refl

home_labels : (l : Layout) (x : TypedExpr) (h : Home) → home l x ≡ Some h → labels x ≡ 0
home_labels l (literal k) h is = absurd cc
home_labels l (name t p) h is = refl
home_labels l (call t f xs ks) h is = absurd cc
home_labels l (member t x offset) h is = mapped_none (labels x) offset (home l x) (home_labels l x) h is
home_labels l (prefix t o x) h is = absurd cc
home_labels l (postfix t o x) h is = absurd cc
home_labels l (binary t o x y) h is = absurd cc
home_labels l (assign t o x y) h is = absurd cc

-- `up n` stands for whether the label is n or a greater one: all that is used of it is how it goes
-- from one number to the next.
module _ (add : PlacementsAdd) (label : ℕ) (up : ℕ → ℕ) (one : (n : ℕ) → cond (eqb n label) 1 0 + up (n + 1) ≡ up n) where
  -- the lines place no label
  record NoLabels (lines : List Line) : Type 0 where
    none : placements lines label ≡ 0

  -- the lines place the labels from n on below m
  record Counts (lines : List Line) (n m : ℕ) : Type 0 where
    count : placements lines label + up m ≡ up n

  both_counts : {xs ys : List Line} {n m k : ℕ} → Counts xs n m → Counts ys m k → Counts (xs ++ ys) n k
  both_counts f g = record { count = simp add (omega arith) }

  behind_none : {xs ys : List Line} {n m : ℕ} → NoLabels xs → Counts ys n m → Counts (xs ++ ys) n m
  behind_none f g = record { count = simp add (omega arith) }

  before_none : {xs ys : List Line} {n m : ℕ} → Counts xs n m → NoLabels ys → Counts (xs ++ ys) n m
  before_none f g = record { count = simp add (omega arith) }

  both_none : {xs ys : List Line} → NoLabels xs → NoLabels ys → NoLabels (xs ++ ys)
  both_none f g = record { none = simp add (omega arith) }

  none_counts : {xs : List Line} {n m : ℕ} → NoLabels xs → m ≡ n + 0 → Counts xs n m
  none_counts {n = n} {m = m} f is =
      let e : up m ≡ up n = ap up (omega arith) in
      record { count = omega arith }

  -- ---- lines without labels

  started_none : (ts : List Ty) → NoLabels (started ts)
  started_none [] = record { none = refl }
  started_none (t ∷ ts) = record { none = (started_none ts).none }

  constants_none : (ks : List Const) → NoLabels (constants ks)
  constants_none [] = record { none = refl }
  constants_none (k ∷ ks) = both_none (constants_none ks) (record { none = refl })

  dropped_none : (n : ℕ) → NoLabels (dropped n)
  dropped_none zero = record { none = refl }
  dropped_none (suc n) = record { none = refl }

  home_none : (op : Home → PlainOp) (h : Option Home) → NoLabels (at_home op h)
  home_none op None = record { none = refl }
  home_none op (Some h) = record { none = refl }

  first_none : (b : Bool) (op : Home → PlainOp) (h : Option Home) → NoLabels (read_first b (at_home op h))
  first_none true op h = record { none = refl }
  first_none false op h = home_none op h

  combination_none : (o : AssignOperator) (t : Ty) → NoLabels (combination o t)
  combination_none asg.Set t = record { none = refl }
  combination_none asg.Add t = record { none = refl }
  combination_none asg.Subtract t = record { none = refl }
  combination_none asg.Multiply t = record { none = refl }
  combination_none asg.Divide t = record { none = refl }
  combination_none asg.Remainder t = record { none = refl }
  combination_none asg.BitAnd t = record { none = refl }
  combination_none asg.BitOr t = record { none = refl }
  combination_none asg.BitXor t = record { none = refl }
  combination_none asg.ShiftLeft t = record { none = refl }
  combination_none asg.ShiftRight t = record { none = refl }
  combination_none asg.UnsignedShiftRight t = record { none = refl }

  called_none : (f : Callee) (count : ℕ) → NoLabels (call_line f count ∷ [])
  called_none (InUnit f) count = record { none = refl }
  called_none (Engine routine) count = record { none = refl }

  name_none : (l : Layout) (depth : ℕ) (t : Ty) (p : Place) → NoLabels (name_code l depth t p)
  name_none l depth t (Local n) = record { none = refl }
  name_none l depth t (Global n) = record { none = refl }
  name_none l depth t (IsConst k) = record { none = refl }

  test_none : (at : ℕ) (x : TypedStmt) → NoLabels (test_of at x)
  test_none at (block m xs) = record { none = refl }
  test_none at (empty m) = record { none = refl }
  test_none at (expression m e) = record { none = refl }
  test_none at (if_only m e a) = record { none = refl }
  test_none at (if_else m e a b) = record { none = refl }
  test_none at (while_loop m e a) = record { none = refl }
  test_none at (do_loop m a e) = record { none = refl }
  test_none at (for_loop m x y z a) = record { none = refl }
  test_none at (switch m e xs) = record { none = refl }
  test_none at (break_off m) = record { none = refl }
  test_none at (continue_on m) = record { none = refl }
  test_none at (return_from m e) = record { none = refl }
  test_none at (declaration m t xs) = record { none = refl }
  test_none at (case_label m k) = record { none = refl }
  test_none at (default_label m) = record { none = refl }

  tests_none : (at : ℕ) (xs : TypedStmts) → NoLabels (tests at xs)
  tests_none at no_stmt = record { none = refl }
  tests_none at (more_stmts x xs) = both_none (test_none at x) (tests_none (behind at x) xs)

  -- ---- nodes, by the code of their parts

  member_counts : (l : Layout) (n m depth total offset count : ℕ) (h : Option Home) (value : List Line) (a : ℕ) → m ≡ n + a
      → ((g : Home) → h ≡ Some g → a ≡ 0) → Counts value n (n + a) → Counts (member_code l depth total offset count h value) n m
  member_counts l n m depth total offset count None value a is none f =
      let e : up m ≡ up (n + a) = ap up is in
      record { count = simp add (omega arith) }
  member_counts l n m depth total offset count (Some g) value a is none f =
      let z : a ≡ 0 = none g refl in
      let e : up m ≡ up n = ap up (omega arith) in
      record { count = omega arith }

  prefix_counts : (l : Layout) (n m depth : ℕ) (o : PrefixOperator) (h : Option Home) (value : List Line) → Counts value n m → Counts (prefix_code l depth o h value) n m
  prefix_counts l n m depth pre.Minus h value f = before_none f (record { none = refl })
  prefix_counts l n m depth pre.Complement h value f = before_none f (record { none = refl })
  prefix_counts l n m depth pre.Not h value f = before_none f (record { none = refl })
  prefix_counts l n m depth pre.Increment h value f = behind_none (home_none (increment l depth) h) f
  prefix_counts l n m depth pre.Decrement h value f = behind_none (home_none (decrement l depth) h) f

  postfix_counts : (l : Layout) (n m depth : ℕ) (o : PostfixOperator) (h : Option Home) (value : List Line) → Counts value n m → Counts (postfix_code l depth o h value) n m
  postfix_counts l n m depth post.Increment h value f = before_none f (home_none (increment l (depth + 1)) h)
  postfix_counts l n m depth post.Decrement h value f = before_none f (home_none (decrement l (depth + 1)) h)

  binary_counts : (n m : ℕ) (s : Shortcut) (op : PlainOp) (left right : List Line) (a b : ℕ) → m ≡ n + (shortcut_labels s + a + b)
      → Counts left (n + shortcut_labels s) (n + shortcut_labels s + a)
      → Counts right (n + shortcut_labels s + a) (n + shortcut_labels s + a + b)
      → Counts (binary_code n s op left right) n m
  binary_counts n m WhereTrue op left right a b is f g =
      let e : up m ≡ up (n + 2 + a + b) = ap up (omega arith) in
      let k : up (n + 1 + 1) ≡ up (n + 2) = ap up (omega arith) in
      record { count = simp add (omega (arith, one n, one (n + 1))) }
  binary_counts n m WhereFalse op left right a b is f g =
      let e : up m ≡ up (n + 1 + a + b) = ap up (omega arith) in
      record { count = simp add (omega (arith, one n)) }
  binary_counts n m Never op left right a b is f g =
      let e : up m ≡ up (n + 0 + a + b) = ap up (omega arith) in
      let k : up (n + 0) ≡ up n = ap up (omega arith) in
      record { count = simp add (omega arith) }

  argument_counts : (l : Layout) (n m depth : ℕ) (b : Bool) (value : List Line) (a : ℕ) → m ≡ n + (argument_labels b + a)
      → Counts value (n + argument_labels b) (n + argument_labels b + a) → Counts (argument_code l n depth b value) n m
  argument_counts l n m depth true value a is f =
      let e : up m ≡ up (n + 1 + a) = ap up (omega arith) in
      record { count = simp add (omega (arith, one n)) }
  argument_counts l n m depth false value a is f =
      let e : up m ≡ up (n + 0 + a) = ap up (omega arith) in
      let k : up (n + 0) ≡ up n = ap up (omega arith) in
      record { count = omega arith }

  -- ---- expressions

  mutual
    emit_counts : (l : Layout) (n m depth : ℕ) (x : TypedExpr) → m ≡ n + labels x → Counts (emit l n depth x) n m
    emit_counts l n m depth (literal k) is = none_counts (record { none = refl }) is
    emit_counts l n m depth (name t p) is = none_counts (name_none l depth t p) is
    emit_counts l n m depth (call t f xs ks) is =
        behind_none (started_none (result_room l f t)) (behind_none (constants_none ks)
        (before_none (all_counts l n m (depth + length (result_room l f t) + length ks) xs is) (called_none f (count_arguments xs + length ks))))
    emit_counts l n m depth (member t x offset) is =
        member_counts l n m depth (cells l.structs (type_of x)) offset (cells l.structs t) (home l x) (emit l n depth x) (labels x) is (home_labels l x)
        (emit_counts l n (n + labels x) depth x refl)
    emit_counts l n m depth (prefix t o x) is = prefix_counts l n m depth o (home l x) (emit l n depth x) (emit_counts l n m depth x is)
    emit_counts l n m depth (postfix t o x) is = postfix_counts l n m depth o (home l x) (emit l n depth x) (emit_counts l n m depth x is)
    emit_counts l n m depth (binary t o x y) is =
        binary_counts n m (shortcut o) (operation o (type_of x) (cells l.structs (type_of x))) _ _ (labels x) (labels y) is
        (emit_counts l (n + shortcut_labels (shortcut o)) (n + shortcut_labels (shortcut o) + labels x) depth x refl)
        (emit_counts l (n + shortcut_labels (shortcut o) + labels x) (n + shortcut_labels (shortcut o) + labels x + labels y) (depth + cells l.structs (type_of x)) y refl)
    emit_counts l n m depth (assign t o x y) is =
        behind_none (first_none (is_set o) (read l depth (cells l.structs t)) (home l x))
        (before_none (emit_counts l n m (depth + cells_first (is_set o) (cells l.structs t)) y is)
        (both_none (combination_none o t) (home_none (write l (depth + cells l.structs t) (cells l.structs t)) (home l x))))

    all_counts : (l : Layout) (n m depth : ℕ) (xs : TypedExprs) → m ≡ n + all_labels xs → Counts (emit_all l n depth xs) n m
    all_counts l n m depth no_typed is = none_counts (record { none = refl }) is
    all_counts l n m depth (more_typed x xs) is =
        both_counts (all_counts l n (n + all_labels xs) depth xs refl)
        (argument_counts l (n + all_labels xs) m (depth + arguments_cells l xs) (is_captured x) _ (labels x) (omega arith)
        (emit_counts l (n + all_labels xs + argument_labels (is_captured x)) (n + all_labels xs + argument_labels (is_captured x) + labels x) (depth + arguments_cells l xs) x refl))

  -- ---- parts of statements

  evaluated_counts : (l : Layout) (n m depth : ℕ) (x : Option TypedExpr) → m ≡ n + some_labels x → Counts (evaluated l n depth x) n m
  evaluated_counts l n m depth None is = none_counts (record { none = refl }) is
  evaluated_counts l n m depth (Some x) is = before_none (emit_counts l n m depth x is) (dropped_none (cells l.structs (type_of x)))

  tested_counts : (l : Layout) (n m depth : ℕ) (x : Option TypedExpr) → m ≡ n + some_labels x → Counts (tested l n depth x) n m
  tested_counts l n m depth None is = none_counts (record { none = refl }) is
  tested_counts l n m depth (Some x) is = emit_counts l n m depth x is

  returned_counts : (l : Layout) (n m depth : ℕ) (x : Option TypedExpr) → m ≡ n + some_labels x → Counts (returned l n depth x) n m
  returned_counts l n m depth None is = none_counts (dropped_none depth) is
  returned_counts l n m depth (Some x) is =
      before_none (emit_counts l n m depth x is) (record { none = (dropped_none (depth + cells l.structs (type_of x))).none })

  initial_counts : (l : Layout) (n m depth : ℕ) (t : Ty) (x : Option TypedExpr) → m ≡ n + some_labels x → Counts (initial l n depth t x) n m
  initial_counts l n m depth t None is = none_counts (started_none (cell_types l.structs t)) is
  initial_counts l n m depth t (Some x) is = emit_counts l n m depth x is

  names_counts : (l : Layout) (n m depth : ℕ) (xs : List TypedName) → m ≡ n + names_labels xs → Counts (emit_names l n depth xs) n m
  names_counts l n m depth [] is = none_counts (record { none = refl }) is
  names_counts l n m depth (x ∷ xs) is =
      both_counts (initial_counts l n (n + some_labels x.value) depth x.name.ty x.value refl)
      (names_counts l (n + some_labels x.value) m (depth + cells l.structs x.name.ty) xs (omega arith))

  -- ---- the labels of a switch

  abbrev placed_sum : Option ℕ → TypedStmts → ℕ
  placed_sum at no_stmt = 0
  placed_sum at (more_stmts x xs) = placements (placed at x) label + placed_sum (placed_on at x) xs

  none_placed : (xs : TypedStmts) → placed_sum None xs ≡ 0
  none_placed no_stmt = refl
  none_placed (more_stmts x xs) = omega (arith, none_placed xs)

  label_step : (b : Bool) (k c : ℕ) (s : ℕ → ℕ) → ((j : ℕ) → s j + up (j + c) ≡ up j)
      → placements (cond b (Label k ∷ []) []) label + s (cond b (k + 1) k) + up (k + cond b (1 + c) c) ≡ up k
  label_step true k c s f =
      let e : up (k + (1 + c)) ≡ up (k + 1 + c) = ap up (omega arith) in
      omega (arith, one k, f (k + 1))
  label_step false k c s f = omega (arith, f k)

  some_placed : (k : ℕ) (xs : TypedStmts) → placed_sum (Some k) xs + up (k + count_labels xs) ≡ up k
  some_placed k no_stmt = let e : up (k + 0) ≡ up k = ap up (omega arith) in omega arith
  some_placed k (more_stmts x xs) = label_step (is_label x) k (count_labels xs) (λ j. placed_sum (Some j) xs) (λ j. some_placed j xs)

  -- ---- statements

  mutual
    stmt_counts : (l : Layout) (out : Exits) (n m depth : ℕ) (x : TypedStmt) → m ≡ n + stmt_labels x → Counts (emit_stmt l out n depth x) n m
    stmt_counts l out n m depth
        (block i xs) is = record {
          count = simp add
              (omega (
                arith,
                stmts_counts l out n m depth None xs is,
                none_placed xs,
                (dropped_none (all_declared_cells l.structs xs)).none,
              ));
        }
    stmt_counts l out n m depth (empty i) is = none_counts (record { none = refl }) is
    stmt_counts l out n m depth (expression i x) is = before_none (emit_counts l n m depth x is) (dropped_none (cells l.structs (type_of x)))
    stmt_counts l out n m depth (if_only i x a) is =
        let f = (emit_counts l (n + 1) (n + 1 + labels x) depth x refl).count in
        let g = (stmt_counts l out (n + 1 + labels x) (n + 1 + labels x + stmt_labels a) depth a refl).count in
        let e : up m ≡ up (n + 1 + labels x + stmt_labels a) = ap up (omega arith) in
        record { count = simp add (omega (arith, one n)) }
    stmt_counts l out n m depth (if_else i x a b) is =
        let f = (emit_counts l (n + 2) (n + 2 + labels x) depth x refl).count in
        let g = (stmt_counts l out (n + 2 + labels x) (n + 2 + labels x + stmt_labels a) depth a refl).count in
        let h = (stmt_counts l out (n + 2 + labels x + stmt_labels a) (n + 2 + labels x + stmt_labels a + stmt_labels b) depth b refl).count in
        let e : up m ≡ up (n + 2 + labels x + stmt_labels a + stmt_labels b) = ap up (omega arith) in
        let k : up (n + 1 + 1) ≡ up (n + 2) = ap up (omega arith) in
        record { count = simp add (omega (arith, one n, one (n + 1))) }
    stmt_counts l out n m depth (while_loop i x a) is =
        let f = (emit_counts l (n + 2) (n + 2 + labels x) depth x refl).count in
        let g = (stmt_counts l (in_loop n (n + 1) depth) (n + 2 + labels x) (n + 2 + labels x + stmt_labels a) depth a refl).count in
        let e : up m ≡ up (n + 2 + labels x + stmt_labels a) = ap up (omega arith) in
        let k : up (n + 1 + 1) ≡ up (n + 2) = ap up (omega arith) in
        record { count = simp add (omega (arith, one n, one (n + 1))) }
    stmt_counts l out n m depth (do_loop i a x) is =
        let f = (stmt_counts l (in_loop (n + 1) (n + 2) depth) (n + 3) (n + 3 + stmt_labels a) depth a refl).count in
        let g = (emit_counts l (n + 3 + stmt_labels a) (n + 3 + stmt_labels a + labels x) depth x refl).count in
        let e : up m ≡ up (n + 3 + stmt_labels a + labels x) = ap up (omega arith) in
        let j : up (n + 1 + 1) ≡ up (n + 2) = ap up (omega arith) in
        let k : up (n + 2 + 1) ≡ up (n + 3) = ap up (omega arith) in
        record { count = simp add (omega (arith, one n, one (n + 1), one (n + 2))) }
    stmt_counts l out n m depth (for_loop i x y z a) is =
        let f = (evaluated_counts l (n + 3) (n + 3 + some_labels x) depth x refl).count in
        let g = (tested_counts l (n + 3 + some_labels x) (n + 3 + some_labels x + some_labels y) depth y refl).count in
        let h = (stmt_counts l (in_loop (n + 1) (n + 2) depth) (n + 3 + some_labels x + some_labels y) (n + 3 + some_labels x + some_labels y + stmt_labels a) depth a refl).count in
        let w = (evaluated_counts l (n + 3 + some_labels x + some_labels y + stmt_labels a) (n + 3 + some_labels x + some_labels y + stmt_labels a + some_labels z) depth z refl).count in
        let e : up m ≡ up (n + 3 + some_labels x + some_labels y + stmt_labels a + some_labels z) = ap up (omega arith) in
        let j : up (n + 1 + 1) ≡ up (n + 2) = ap up (omega arith) in
        let k : up (n + 2 + 1) ≡ up (n + 3) = ap up (omega arith) in
        record { count = simp add (omega (arith, one n, one (n + 1), one (n + 2))) }
    stmt_counts l out n m depth (switch i x xs) is =
        let f = (emit_counts l (n + 1 + count_labels xs) (n + 1 + count_labels xs + labels x) depth x refl).count in
        let g = stmts_counts l (in_switch n (depth + 1) out) (n + 1 + count_labels xs + labels x) (n + 1 + count_labels xs + labels x + all_stmt_labels xs) (depth + 1) (Some (n + 1)) xs refl in
        let e : up m ≡ up (n + 1 + count_labels xs + labels x + all_stmt_labels xs) = ap up (omega arith) in
        record { count = simp add (omega (arith, one n, some_placed (n + 1) xs, (tests_none (n + 1) xs).none, (dropped_none (all_declared_cells l.structs xs)).none)) }
    stmt_counts l out n m depth (break_off i) is = none_counts (both_none (dropped_none (depth - out.break_depth)) (record { none = refl })) is
    stmt_counts l out n m depth (continue_on i) is = none_counts (both_none (dropped_none (depth - out.continue_depth)) (record { none = refl })) is
    stmt_counts l out n m depth (return_from i x) is = before_none (returned_counts l n m depth x is) (record { none = refl })
    stmt_counts l out n m depth (declaration i t xs) is = names_counts l n m depth xs is
    stmt_counts l out n m depth (case_label i k) is = none_counts (record { none = refl }) is
    stmt_counts l out n m depth (default_label i) is = none_counts (record { none = refl }) is

    stmts_counts : (l : Layout) (out : Exits) (n m depth : ℕ) (at : Option ℕ) (xs : TypedStmts) → m ≡ n + all_stmt_labels xs
        → placements (emit_stmts l out n depth at xs) label + up m ≡ up n + placed_sum at xs
    stmts_counts l out n m depth at no_stmt is = let e : up m ≡ up n = ap up (omega arith) in omega arith
    stmts_counts l out n m depth at (more_stmts x xs) is =
        let f = (stmt_counts l out n (n + stmt_labels x) depth x refl).count in
        let g = stmts_counts l out (n + stmt_labels x) m (depth + declared_cells l.structs x) (placed_on at x) xs (omega arith) in
        simp add (omega arith)

  -- ---- units

  function_counts : (l : Layout) (n f : ℕ) (ps : _) (body : TypedStmts) → placements (emit_function l n f ps body) label + up (n + all_stmt_labels body) + up (f + 1) ≡ up n + up f
  function_counts l n f ps body =
      let g = stmts_counts l no_exits n (n + all_stmt_labels body) (params_cells l.structs ps) None body refl in
      simp add (omega (arith, one f, none_placed body, (dropped_none (all_declared_cells l.structs body)).none, (dropped_none (params_cells l.structs ps)).none))

  functions_counts : (l : Layout) (n m f k : ℕ) (is : List TypedItem) → m ≡ n + functions_labels is → k ≡ f + body_count is
      → placements (emit_functions l n f is) label + up m + up k ≡ up n + up f
  functions_counts l n m f k [] e g =
      let a : up m ≡ up n = ap up (omega arith) in
      let b : up k ≡ up f = ap up (omega arith) in
      omega arith
  functions_counts l n m f k (structure i x ls ∷ is) e g = functions_counts l n m f k is e g
  functions_counts l n m f k (constant i t x v ∷ is) e g = functions_counts l n m f k is e g
  functions_counts l n m f k (global i t xs ∷ is) e g = functions_counts l n m f k is e g
  functions_counts l n m f k (function i t x ps None ∷ is) e g = functions_counts l n m f k is e g
  functions_counts l n m f k (function i t x ps (Some body) ∷ is) e g =
      let a = functions_counts l (n + all_stmt_labels body) m (f + 1) k is (omega arith) (omega arith) in
      omega (arith, function_counts l n f ps body, add (emit_function l n f ps body) (emit_functions l (n + all_stmt_labels body) (f + 1) is) label)

  globals_counts : (l : Layout) (n m depth : ℕ) (is : List TypedItem) → m ≡ n + globals_labels is → Counts (emit_globals l n depth is) n m
  globals_counts l n m depth [] e = none_counts (record { none = refl }) e
  globals_counts l n m depth (structure i x ls ∷ is) e = globals_counts l n m depth is e
  globals_counts l n m depth (constant i t x v ∷ is) e = globals_counts l n m depth is e
  globals_counts l n m depth (function i t x ps body ∷ is) e = globals_counts l n m depth is e
  globals_counts l n m depth (global i t xs ∷ is) e =
      both_counts (names_counts l n (n + names_labels xs) depth xs refl)
      (globals_counts l (n + names_labels xs) m (depth + item_cells l.structs (global i t xs)) is (omega arith))

  entry_none : (e : EntryPoint) → NoLabels (entry_call e)
  entry_none (Main f) = record { none = refl }
  entry_none (Conditional f) = record { none = refl }

  start_counts : (l : Layout) (n m : ℕ) (b : Bool) (is : List TypedItem) (entry : EntryPoint) → m ≡ n + start_labels b is → Counts (emit_start l n b is entry) n m
  start_counts l n m false is entry e = none_counts (both_none (entry_none entry) (record { none = refl })) e
  start_counts l n m true is entry e =
      let f = (globals_counts l (n + 1) (n + 1 + globals_labels is) 0 is refl).count in
      let g : up m ≡ up (n + 1 + globals_labels is) = ap up (omega arith) in
      record { count = simp add (omega (arith, one n, (entry_none entry).none, (dropped_none l.globals).none)) }

  pub unit_counts : (l : Layout) (b : Bool) (is : List TypedItem) (entry : EntryPoint)
      → placements (emit_start l (body_count is) b is entry ++ emit_functions l (body_count is + start_labels b is) 0 is) label
      + up (body_count is + start_labels b is + functions_labels is) ≡ up 0
  unit_counts l b is entry =
      let f = (start_counts l (body_count is) (body_count is + start_labels b is) b is entry refl).count in
      let g = functions_counts l (body_count is + start_labels b is) _ 0 (body_count is) is refl (omega arith) in
      simp add (omega arith)

-- ---- the count of each label

-- whether a number is at most the label
reached : ℕ → ℕ → ℕ
reached label n = cond (ltb label n) 0 1

reached_next : (label n : ℕ) → cond (eqb n label) 1 0 + reached label (n + 1) ≡ reached label n
unfolding reached
reached_next label n = grind (arith, nat_tests)

reached_zero : (label : ℕ) → reached label 0 ≡ 1
unfolding reached
reached_zero label = grind (arith, nat_tests)

turned : (b : Bool) (n : ℕ) → n + cond b 0 1 ≡ 1 → n ≡ cond b 1 0
turned true n is = omega arith
turned false n is = omega arith

pub unit_placed : (add : PlacementsAdd) (l : Layout) (b : Bool) (is : List TypedItem) (entry : EntryPoint) (label : ℕ)
    → placements (emit_start l (body_count is) b is entry ++ emit_functions l (body_count is + start_labels b is) 0 is) label
    ≡ cond (ltb label (body_count is + start_labels b is + functions_labels is)) 1 0
unfolding reached
unit_placed add l b is entry label =
    turned (ltb label (body_count is + start_labels b is + functions_labels is)) _
    (unit_counts add label (reached label) (reached_next label) l b is entry ∙ reached_zero label)

-- ---- no label below the next one is placed

reached_not : (label n : ℕ) → label < n → reached label n ≡ 0
unfolding reached
reached_not label n lt = grind (arith, nat_tests)

pub exprs_above : (add : PlacementsAdd) (l : Layout) (n depth : ℕ) (x : TypedExpr) (label : ℕ) → label < n → placements (emit l n depth x) label ≡ 0
exprs_above add l n depth x label lt =
    let f = (emit_counts add label (reached label) (reached_next label) l n (n + labels x) depth x refl).count in
    omega (arith, f, reached_not label n lt)

pub arguments_above : (add : PlacementsAdd) (l : Layout) (n depth : ℕ) (xs : TypedExprs) (label : ℕ) → label < n → placements (emit_all l n depth xs) label ≡ 0
arguments_above add l n depth xs label lt =
    let f = (all_counts add label (reached label) (reached_next label) l n (n + all_labels xs) depth xs refl).count in
    omega (arith, f, reached_not label n lt)

pub names_above : (add : PlacementsAdd) (l : Layout) (n depth : ℕ) (xs : List TypedName) (label : ℕ) → label < n → placements (emit_names l n depth xs) label ≡ 0
names_above add l n depth xs label lt =
    let f = (names_counts add label (reached label) (reached_next label) l n (n + names_labels xs) depth xs refl).count in
    omega (arith, f, reached_not label n lt)

pub stmt_above : (add : PlacementsAdd) (l : Layout) (out : Exits) (n depth : ℕ) (x : TypedStmt) (label : ℕ) → label < n → placements (emit_stmt l out n depth x) label ≡ 0
stmt_above add l out n depth x label lt =
    let f = (stmt_counts add label (reached label) (reached_next label) l out n (n + stmt_labels x) depth x refl).count in
    omega (arith, f, reached_not label n lt)

pub stmts_above : (add : PlacementsAdd) (l : Layout) (out : Exits) (n depth : ℕ) (xs : TypedStmts) (label : ℕ) → label < n → placements (emit_stmts l out n depth None xs) label ≡ 0
stmts_above add l out n depth xs label lt =
    let f = stmts_counts add label (reached label) (reached_next label) l out n (n + all_stmt_labels xs) depth None xs refl in
    omega (arith, f, reached_not label n lt, none_placed add label (reached label) (reached_next label) xs)
