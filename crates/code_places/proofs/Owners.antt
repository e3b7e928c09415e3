-- The code of each node has its marks.
use Rattle.std.proofs.Common.{◌≡◌, ◌∙◌, ◌<◌, ◌≤◌, ap, sym, refl, subst, ℕ, zero, suc, ◌+◌, ◌-◌, Bool, true, false, ltb, cond, ◌||◌, List, [], ◌∷◌, ◌++◌, length, drop, add-one, append_assoc}
use Rattle.std.proofs.Common.{slice_get, arith, Option, None, Some}
use Rattle.std.proofs.lemmas.List.{append-nil}
use Rattle.std.proofs.lemmas.Option.{same_Some}
use Rattle.std.specs.Option.{option_map}
use Rattle.nss_tree.specs.declared.operators.PrefixOperator.{PrefixOperator}
use Rattle.nss_tree.specs.declared.operators.PrefixOperator.TheVariants as pre
use Rattle.nss_tree.specs.declared.operators.PostfixOperator.{PostfixOperator}
use Rattle.nss_tree.specs.declared.operators.PostfixOperator.TheVariants as post
use Rattle.nss_tree.specs.declared.operators.AssignOperator.{AssignOperator}
use Rattle.nss_tree.specs.declared.operators.AssignOperator.TheVariants as asg
use Rattle.ncs_code.specs.Plain.{PlainOp}
use Rattle.ncs_code.specs.Spelling.{op_size}
use Rattle.nwq_value.specs.declared.engine.Const.{Const}
use Rattle.nwq_value.specs.declared.value.Ty.{Ty}
use Rattle.ncs_emit.specs.declared.jump.Jump.TheVariants.{Jmp, Jsr, Jz, Jnz}
use Rattle.ncs_emit.specs.Labelled.{Line, Instruction, Label}
use Rattle.typing_rules.specs.declared.places.Place.{Place}
use Rattle.typing_rules.specs.declared.places.Place.TheVariants.{Local, Global, Const as IsConst}
use Rattle.typing_rules.specs.declared.places.Callee.{Callee}
use Rattle.typing_rules.specs.declared.places.Callee.TheVariants.{Unit as InUnit, Engine}
use Rattle.typing_rules.specs.declared.places.EntryPoint.{EntryPoint}
use Rattle.typing_rules.specs.declared.places.EntryPoint.TheVariants.{Main, Conditional}
use Rattle.nss_tree.specs.declared.units.Identifier.{Identifier}
use Rattle.nss_tree.specs.Statements.{block, empty, expression, if_only, if_else, while_loop, do_loop, for_loop, switch, break_off, continue_on, return_from, declaration, case_label}
use Rattle.nss_tree.specs.Statements.{default_label, no_stmt, more_stmts}
use Rattle.nss_tree.specs.Units as item
use Rattle.typing_rules.specs.Typed.{TypedName, TypedStmt, TypedStmts, TypedLine, TypedParameter, TypedItem, TypedExpr, TypedExprs, literal, name, call, member, prefix, postfix, binary, assign}
use Rattle.typing_rules.specs.Typed.{no_typed, more_typed, type_of, is_place}
use Rattle.typing_rules.specs.Cells.{cell_types, cells, is_captured}
use Rattle.emission_rules.specs.Layout.{Layout, declared_cells, all_declared_cells, params_cells, item_cells}
use Rattle.emission_rules.specs.Statements.{Exits, no_exits, in_loop, in_switch, some_labels, evaluated, tested, stored, returned, initial, names_labels, emit_names, is_label, count_labels}
use Rattle.emission_rules.specs.Statements.{test_of, tests, placed, placed_on, stmt_labels, all_stmt_labels, otherwise, emit_stmt, emit_stmts}
use Rattle.emission_rules.specs.Statements as code
use Rattle.emission_rules.specs.Units.{emit_function, emit_functions, emit_globals, entry_call, emit_start}
use Rattle.emission_rules.specs.Operations.{started, dropped, constant, combination, operation}
use Rattle.emission_rules.specs.Expressions.{Home, InFrame, InGlobals, moved, home, at_home, read, write, increment, decrement, name_code, member_code, prefix_code, postfix_code, Shortcut}
use Rattle.emission_rules.specs.Expressions.{WhereTrue, WhereFalse, Never, shortcut, shortcut_labels, binary_code, is_set, read_first, cells_first, constants, result_room, call_line}
use Rattle.emission_rules.specs.Expressions.{argument_labels, argument_code, count_arguments, arguments_cells, labels, all_labels, emit, emit_all}
use Rattle.code_places.specs.Nodes.{Node, AnExpression, AStatement, AName, AnItem, nodes_expr, nodes_exprs, nodes_if, nodes_names, nodes_stmt, nodes_stmts, nodes_fields, nodes_lines}
use Rattle.code_places.specs.Nodes.{nodes_default, nodes_parameters, nodes_body, nodes_item, nodes_items}
use Rattle.code_places.specs.declared.frame.Frame.{Frame}
use Rattle.code_places.specs.Numbers.{Number, next, behind, behind_all, behind_if, behind_names, behind_stmt, behind_stmts, behind_fields, behind_lines, behind_default, behind_parameters}
use Rattle.code_places.specs.Numbers.{behind_body, behind_item}
use Rattle.code_places.specs.Marks.{Mark, mark, mark_if, some, dropped_marks, started_marks, constant_mark, constants_marks, name_mark, member_marks, before_prefix, behind_prefix, binary_marks}
use Rattle.code_places.specs.Marks.{assign_marks, call_mark, argument_marks, marks, marks_all, first_frame, deeper, loop_frame, switch_frame, evaluated_marks, tested_marks, returned_marks}
use Rattle.code_places.specs.Marks.{initial_marks, names_marks, test_marks, tests_marks, stmt_marks, stmts_marks, function_marks, functions_marks, globals_marks, entry_marks, start_marks}
use Rattle.code_places.specs.Laws.{HasCode, of_expression, of_statement, of_name, of_function}
use Rattle.code_places.proofs.Owned as owned
use Rattle.code_places.proofs.Owned.{Marked}

-- ---- numbers in a list of nodes

pub from_more : {A : Type 0} (all : List A) (j : ℕ) (x : A) (xs : List A) → drop j all ≡ x ∷ xs → drop (suc j) all ≡ xs
from_more [] zero x xs is = absurd cc
from_more (y ∷ all) zero x xs is = ap (drop 1) is
from_more [] (suc j) x xs is = absurd cc
from_more (y ∷ all) (suc j) x xs is = from_more all j x xs is

pub from_first : {A : Type 0} (all : List A) (j : ℕ) (x : A) (xs : List A) → drop j all ≡ x ∷ xs → slice_get all j ≡ Some x
from_first [] zero x xs is = absurd cc
from_first (y ∷ all) zero x xs is = ap (λ ys. slice_get ys 0) is
from_first [] (suc j) x xs is = absurd cc
from_first (y ∷ all) (suc j) x xs is = from_first all j x xs is

-- From the node of this number on the nodes are these.
pub record From (all : List Node) (k : Number) (xs : List Node) : Type 0 where
  pub is : (j : ℕ) → k ≡ Some j → drop j all ≡ xs

module _ (l : Layout) (all : List Node) where
  abbrev pub Code : ℕ → List Line → Type 0
  Code = HasCode l all

  pub from_next : {k : Number} {x : Node} {xs : List Node} → From all k (x ∷ xs) → From all (next k) xs
  from_next {k = k} {x = x} {xs = xs} f = record { is = on k f.is }
    where
      step : (n j : ℕ) (b : Bool) → ((i : ℕ) → Some n ≡ Some i → drop i all ≡ x ∷ xs) → cond b (Some (n + 1)) None ≡ Some j → drop j all ≡ xs
      step n j true is e = subst (λ m. drop m all ≡ xs) (sym (add-one n) ∙ same_Some (n + 1) j e) (from_more all n x xs (is n refl))
      step n j false is e = absurd cc

      on : (k : Number) → ((i : ℕ) → k ≡ Some i → drop i all ≡ x ∷ xs) → (j : ℕ) → next k ≡ Some j → drop j all ≡ xs
      on None is j e = absurd cc
      on (Some n) is j e = step n j (ltb n 4294967295) is e

  pub from_parts : {k : Number} (xs ys zs : List Node) → From all k ((xs ++ ys) ++ zs) → From all k (xs ++ (ys ++ zs))
  from_parts xs ys zs f = record { is = λ j e. f.is j e ∙ append_assoc xs ys zs }

  mutual
    pub from_expr : (k : Number) (x : TypedExpr) (rest : List Node) → From all k (nodes_expr x ++ rest) → From all (behind k x) rest
    from_expr k (literal c) rest f = from_next f
    from_expr k (name t p) rest f = from_next f
    from_expr k (call t g xs ks) rest f = from_exprs (next k) xs rest (from_next f)
    from_expr k (member t x n) rest f = from_expr (next k) x rest (from_next f)
    from_expr k (prefix t o x) rest f = from_expr (next k) x rest (from_next f)
    from_expr k (postfix t o x) rest f = from_expr (next k) x rest (from_next f)
    from_expr k (binary t o x y) rest f =
        from_expr (behind (next k) x) y rest (from_expr (next k) x (nodes_expr y ++ rest) (from_parts (nodes_expr x) (nodes_expr y) rest (from_next f)))
    from_expr k (assign t o x y) rest f =
        from_expr (behind (next k) x) y rest (from_expr (next k) x (nodes_expr y ++ rest) (from_parts (nodes_expr x) (nodes_expr y) rest (from_next f)))

    pub from_exprs : (k : Number) (xs : TypedExprs) (rest : List Node) → From all k (nodes_exprs xs ++ rest) → From all (behind_all k xs) rest
    from_exprs k no_typed rest f = f
    from_exprs k (more_typed x xs) rest f = from_exprs (behind k x) xs rest (from_expr k x (nodes_exprs xs ++ rest) (from_parts (nodes_expr x) (nodes_exprs xs) rest f))

  -- ---- lines of one node

  pub started_marked : {k : Number} (ts : List Ty) → Marked Code k (started ts) (started_marks k ts)
  started_marked [] = owned.none Code
  started_marked (t ∷ ts) = owned.both Code (owned.one Code _) (started_marked ts)

  pub constant_marked : {k : Number} (c : Const) → Marked Code k (constant c ∷ []) (constant_mark k c ∷ [])
  constant_marked c = owned.one Code _

  pub constants_marked : {k : Number} (ks : List Const) → Marked Code k (constants ks) (constants_marks k ks)
  constants_marked [] = owned.none Code
  constants_marked (c ∷ ks) = owned.both Code (constants_marked ks) (constant_marked c)

  pub dropped_marked : {k : Number} (n : ℕ) → Marked Code k (dropped n) (dropped_marks k (some n))
  dropped_marked zero = owned.none Code
  dropped_marked (suc n) = owned.one Code _

  is_home : Option Home → Bool
  is_home None = false
  is_home (Some h) = true

  place_home : (x : TypedExpr) → is_home (home l x) ≡ is_place x
  unfolding is_home
  place_home (literal c) = refl
  place_home (name t (Local n)) = refl
  place_home (name t (Global n)) = refl
  place_home (name t (IsConst c)) = refl
  place_home (call t f xs ks) = refl
  place_home (member t x n) = mapped (home l x) ∙ place_home x
    where
      mapped : (h : Option Home) → is_home (option_map (moved n) h) ≡ is_home h
      mapped None = refl
      mapped (Some h) = refl
  place_home (prefix t o x) = refl
  place_home (postfix t o x) = refl
  place_home (binary t o x y) = refl
  place_home (assign t o x y) = refl

  moved_by : {k : Number} (op : Home → PlainOp) (size : ℕ) (h : Option Home) → ((g : Home) → op_size (op g) ≡ size)
      → Marked Code k (at_home op h) (mark_if (is_home h) size k)
  unfolding is_home
  moved_by op size None is = owned.none Code
  moved_by {k = k} op size (Some h) is =
      subst (λ n. Marked Code k (Instruction (op h) ∷ []) (mark n k ∷ [])) (is h) (owned.one Code (op h))

  at_place : {k : Number} (op : Home → PlainOp) (size : ℕ) (x : TypedExpr) → ((g : Home) → op_size (op g) ≡ size)
      → Marked Code k (at_home op (home l x)) (mark_if (is_place x) size k)
  at_place {k = k} op size x is =
      subst (λ b. Marked Code k (at_home op (home l x)) (mark_if b size k)) (place_home x) (moved_by op size (home l x) is)

  read_size : (depth n : ℕ) (h : Home) → op_size (read l depth n h) ≡ 8
  read_size depth n (InFrame at) = refl
  read_size depth n (InGlobals at) = refl

  write_size : (depth n : ℕ) (h : Home) → op_size (write l depth n h) ≡ 8
  write_size depth n (InFrame at) = refl
  write_size depth n (InGlobals at) = refl

  up_size : (depth : ℕ) (h : Home) → op_size (increment l depth h) ≡ 6
  up_size depth (InFrame at) = refl
  up_size depth (InGlobals at) = refl

  down_size : (depth : ℕ) (h : Home) → op_size (decrement l depth h) ≡ 6
  down_size depth (InFrame at) = refl
  down_size depth (InGlobals at) = refl

  name_marked : {k : Number} (depth : ℕ) (t : Ty) (p : Place) → Marked Code k (name_code l depth t p) (name_mark k p ∷ [])
  name_marked depth t (Local n) = owned.one Code _
  name_marked depth t (Global n) = owned.one Code _
  name_marked depth t (IsConst c) = constant_marked c

  called_marked : {k : Number} (f : Callee) (n : ℕ) → Marked Code k (call_line f n ∷ []) (call_mark k f ∷ [])
  called_marked (InUnit f) n = owned.jump Code Jsr f
  called_marked (Engine routine) n = owned.one Code _

  -- ---- nodes, by the code of their parts

  member_home : {k : Number} (depth total offset n : ℕ) (h : Option Home) (lines : List Line) (ms : List Mark) → Marked Code k lines ms
      → Marked Code k (member_code l depth total offset n h lines) (member_marks k (is_home h) ms)
  unfolding is_home
  member_home depth total offset n None lines ms f = owned.both Code f (owned.one Code _)
  member_home depth total offset n (Some (InFrame at)) lines ms f = owned.one Code _
  member_home depth total offset n (Some (InGlobals at)) lines ms f = owned.one Code _

  member_marked : {k : Number} (depth total offset n : ℕ) (x : TypedExpr) (lines : List Line) (ms : List Mark) → Marked Code k lines ms
      → Marked Code k (member_code l depth total offset n (home l x) lines) (member_marks k (is_place x) ms)
  member_marked {k = k} depth total offset n x lines ms f =
      subst (λ b. Marked Code k (member_code l depth total offset n (home l x) lines) (member_marks k b ms)) (place_home x)
      (member_home depth total offset n (home l x) lines ms f)

  prefix_marked : {k : Number} (depth : ℕ) (o : PrefixOperator) (x : TypedExpr) (lines : List Line) (ms : List Mark) → Marked Code k lines ms
      → Marked Code k (prefix_code l depth o (home l x) lines) (before_prefix k o (is_place x) ++ (ms ++ behind_prefix k o))
  prefix_marked depth pre.Minus x lines ms f = owned.both Code f (owned.one Code _)
  prefix_marked depth pre.Complement x lines ms f = owned.both Code f (owned.one Code _)
  prefix_marked depth pre.Not x lines ms f = owned.both Code f (owned.one Code _)
  prefix_marked {k = k} depth pre.Increment x lines ms f =
      owned.both Code (at_place (increment l depth) 6 x (up_size depth)) (subst (λ ns. Marked Code k lines ns) (sym (append-nil ms)) f)
  prefix_marked {k = k} depth pre.Decrement x lines ms f =
      owned.both Code (at_place (decrement l depth) 6 x (down_size depth)) (subst (λ ns. Marked Code k lines ns) (sym (append-nil ms)) f)

  postfix_marked : {k : Number} (depth : ℕ) (o : PostfixOperator) (x : TypedExpr) (lines : List Line) (ms : List Mark) → Marked Code k lines ms
      → Marked Code k (postfix_code l depth o (home l x) lines) (ms ++ mark_if (is_place x) 6 k)
  postfix_marked depth post.Increment x lines ms f = owned.both Code f (at_place (increment l (depth + 1)) 6 x (up_size (depth + 1)))
  postfix_marked depth post.Decrement x lines ms f = owned.both Code f (at_place (decrement l (depth + 1)) 6 x (down_size (depth + 1)))

  binary_marked : {k : Number} (n : ℕ) (s : Shortcut) (op : PlainOp) (a b : List Line) (ma mb : List Mark) → Marked Code k a ma → Marked Code k b mb
      → Marked Code k (binary_code n s op a b) (binary_marks k s (op_size op) ma mb)
  binary_marked n WhereTrue op a b ma mb f g =
      owned.both Code f (owned.both Code (owned.one Code _) (owned.both Code (owned.jump Code Jz n) (owned.both Code (owned.one Code _)
      (owned.both Code (owned.one Code op) (owned.both Code (owned.jump Code Jmp (n + 1)) (owned.both Code (owned.label Code n)
      (owned.both Code g (owned.both Code (owned.one Code op) (owned.label Code (n + 1))))))))))
  binary_marked n WhereFalse op a b ma mb f g =
      owned.both Code f (owned.both Code (owned.one Code _) (owned.both Code (owned.jump Code Jz n)
      (owned.both Code g (owned.both Code (owned.one Code op) (owned.label Code n)))))
  binary_marked n Never op a b ma mb f g = owned.both Code f (owned.both Code g (owned.one Code op))

  first_marked : {k : Number} (o : AssignOperator) (t : Ty) (depth n : ℕ) (x : TypedExpr) (lines tail : List Line) (ms : List Mark) → Marked Code k lines ms
      → Marked Code k tail (mark_if (is_place x) 8 k)
      → Marked Code k (read_first (is_set o) (at_home (read l depth n) (home l x)) ++ (lines ++ (combination o t ++ tail))) (assign_marks k (is_set o) (is_place x) ms)
  first_marked asg.Set t depth n x lines tail ms f g = owned.both Code f g
  first_marked asg.Add t depth n x lines tail ms f g = owned.both Code (at_place _ 8 x (read_size depth n)) (owned.both Code f (owned.both Code (owned.one Code _) g))
  first_marked asg.Subtract t depth n x lines tail ms f g = owned.both Code (at_place _ 8 x (read_size depth n)) (owned.both Code f (owned.both Code (owned.one Code _) g))
  first_marked asg.Multiply t depth n x lines tail ms f g = owned.both Code (at_place _ 8 x (read_size depth n)) (owned.both Code f (owned.both Code (owned.one Code _) g))
  first_marked asg.Divide t depth n x lines tail ms f g = owned.both Code (at_place _ 8 x (read_size depth n)) (owned.both Code f (owned.both Code (owned.one Code _) g))
  first_marked asg.Remainder t depth n x lines tail ms f g = owned.both Code (at_place _ 8 x (read_size depth n)) (owned.both Code f (owned.both Code (owned.one Code _) g))
  first_marked asg.BitAnd t depth n x lines tail ms f g = owned.both Code (at_place _ 8 x (read_size depth n)) (owned.both Code f (owned.both Code (owned.one Code _) g))
  first_marked asg.BitOr t depth n x lines tail ms f g = owned.both Code (at_place _ 8 x (read_size depth n)) (owned.both Code f (owned.both Code (owned.one Code _) g))
  first_marked asg.BitXor t depth n x lines tail ms f g = owned.both Code (at_place _ 8 x (read_size depth n)) (owned.both Code f (owned.both Code (owned.one Code _) g))
  first_marked asg.ShiftLeft t depth n x lines tail ms f g = owned.both Code (at_place _ 8 x (read_size depth n)) (owned.both Code f (owned.both Code (owned.one Code _) g))
  first_marked asg.ShiftRight t depth n x lines tail ms f g = owned.both Code (at_place _ 8 x (read_size depth n)) (owned.both Code f (owned.both Code (owned.one Code _) g))
  first_marked asg.UnsignedShiftRight t depth n x lines tail ms f g = owned.both Code (at_place _ 8 x (read_size depth n)) (owned.both Code f (owned.both Code (owned.one Code _) g))

  argument_marked : {k : Number} (n depth : ℕ) (b : Bool) (lines : List Line) (ms : List Mark) → Marked Code None lines ms
      → Marked Code k (argument_code l n depth b lines) (argument_marks k b ms)
  argument_marked {k = k} n depth false lines ms f = subst (λ ns. Marked Code k lines ns) (sym (append-nil ms)) (owned.part Code f)
  argument_marked n depth true lines ms f =
      owned.both Code (owned.one Code _) (owned.both Code (owned.jump Code Jmp n)
      (owned.both Code (owned.part Code f) (owned.both Code (owned.one Code _) (owned.label Code n))))

  -- ---- expressions

  node_marked : {k : Number} {rest : List Node} {ms : List Mark} (n depth : ℕ) (e : TypedExpr) → From all k (AnExpression e ∷ rest)
      → Marked Code k (emit l n depth e) ms → Marked Code None (emit l n depth e) ms
  node_marked {rest = rest} n depth e f g = owned.node Code (λ j is. record {
    node = AnExpression e;
    numbered = from_first all j (AnExpression e) rest (f.is j is);
    is = of_expression n depth e refl refl;
  }) g

  mutual
    pub expr_marked : (n depth : ℕ) (k : Number) (e : TypedExpr) (rest : List Node) → From all k (nodes_expr e ++ rest)
        → Marked Code None (emit l n depth e) (marks l k e)
    expr_marked n depth k (literal c) rest f = node_marked n depth (literal c) f (constant_marked c)
    expr_marked n depth k (name t p) rest f = node_marked n depth (name t p) f (name_marked depth t p)
    expr_marked n depth k (call t g xs ks) rest f =
        node_marked n depth (call t g xs ks) f (owned.both Code (started_marked (result_room l g t)) (owned.both Code (constants_marked ks)
        (owned.both Code (all_marked n (depth + length (result_room l g t) + length ks) k (next k) xs rest (from_next f))
        (called_marked g (count_arguments xs + length ks)))))
    expr_marked n depth k (member t x offset) rest f =
        node_marked n depth (member t x offset) f (member_marked depth (cells l.structs (type_of x)) offset (cells l.structs t) x (emit l n depth x)
        (marks l (next k) x) (owned.part Code (expr_marked n depth (next k) x rest (from_next f))))
    expr_marked n depth k (prefix t o x) rest f =
        node_marked n depth (prefix t o x) f (prefix_marked depth o x (emit l n depth x) (marks l (next k) x)
        (owned.part Code (expr_marked n depth (next k) x rest (from_next f))))
    expr_marked n depth k (postfix t o x) rest f =
        node_marked n depth (postfix t o x) f (postfix_marked depth o x (emit l n depth x) (marks l (next k) x)
        (owned.part Code (expr_marked n depth (next k) x rest (from_next f))))
    expr_marked n depth k (binary t o x y) rest f =
        node_marked n depth (binary t o x y) f (binary_marked n (shortcut o) (operation o (type_of x) (cells l.structs (type_of x)))
        (emit l (n + shortcut_labels (shortcut o)) depth x)
        (emit l (n + shortcut_labels (shortcut o) + labels x) (depth + cells l.structs (type_of x)) y)
        (marks l (next k) x) (marks l (behind (next k) x) y)
        (owned.part Code (expr_marked (n + shortcut_labels (shortcut o)) depth (next k) x (nodes_expr y ++ rest) (from_parts (nodes_expr x) (nodes_expr y) rest (from_next f))))
        (owned.part Code (expr_marked (n + shortcut_labels (shortcut o) + labels x) (depth + cells l.structs (type_of x)) (behind (next k) x) y rest
        (from_expr (next k) x (nodes_expr y ++ rest) (from_parts (nodes_expr x) (nodes_expr y) rest (from_next f))))))
    expr_marked n depth k (assign t o x y) rest f =
        node_marked n depth (assign t o x y) f (first_marked o t depth (cells l.structs t) x (emit l n (depth + cells_first (is_set o) (cells l.structs t)) y)
        (at_home (write l (depth + cells l.structs t) (cells l.structs t)) (home l x)) (marks l (behind (next k) x) y)
        (owned.part Code (expr_marked n (depth + cells_first (is_set o) (cells l.structs t)) (behind (next k) x) y rest
        (from_expr (next k) x (nodes_expr y ++ rest) (from_parts (nodes_expr x) (nodes_expr y) rest (from_next f)))))
        (at_place (write l (depth + cells l.structs t) (cells l.structs t)) 8 x (write_size (depth + cells l.structs t) (cells l.structs t))))

    pub all_marked : (n depth : ℕ) (own k : Number) (xs : TypedExprs) (rest : List Node) → From all k (nodes_exprs xs ++ rest)
        → Marked Code own (emit_all l n depth xs) (marks_all l own k xs)
    all_marked n depth own k no_typed rest f = owned.none Code
    all_marked n depth own k (more_typed x xs) rest f =
        owned.both Code (all_marked n depth own (behind k x) xs rest (from_expr k x (nodes_exprs xs ++ rest) (from_parts (nodes_expr x) (nodes_exprs xs) rest f)))
        (argument_marked (n + all_labels xs) (depth + arguments_cells l xs) (is_captured x)
        (emit l (n + all_labels xs + argument_labels (is_captured x)) (depth + arguments_cells l xs) x) (marks l k x)
        (expr_marked (n + all_labels xs + argument_labels (is_captured x)) (depth + arguments_cells l xs) k x (nodes_exprs xs ++ rest) (from_parts (nodes_expr x) (nodes_exprs xs) rest f)))

  -- ---- names

  pub from_if : (k : Number) (v : Option TypedExpr) (rest : List Node) → From all k (nodes_if v ++ rest) → From all (behind_if k v) rest
  from_if k None rest f = f
  from_if k (Some e) rest f = from_expr k e rest f

  pub from_names : (k : Number) (ds : List TypedName) (rest : List Node) → From all k (nodes_names ds ++ rest) → From all (behind_names k ds) rest
  from_names k [] rest f = f
  from_names k (d ∷ ds) rest f =
      from_names (behind_if (next k) d.value) ds rest
      (from_if (next k) d.value (nodes_names ds ++ rest) (from_parts (nodes_if d.value) (nodes_names ds) rest (from_next f)))

  initial_marked : (n depth : ℕ) (k : Number) (t : Ty) (v : Option TypedExpr) (rest : List Node) → From all (next k) (nodes_if v ++ rest)
      → Marked Code k (initial l n depth t v) (initial_marks l k t v)
  initial_marked n depth k t None rest f = started_marked (cell_types l.structs t)
  initial_marked n depth k t (Some e) rest f = owned.part Code (expr_marked n depth (next k) e rest f)

  pub names_marked : (n depth : ℕ) (k : Number) (ds : List TypedName) (rest : List Node) → From all k (nodes_names ds ++ rest)
      → Marked Code None (emit_names l n depth ds) (names_marks l k ds)
  names_marked n depth k [] rest f = owned.none Code
  names_marked n depth k (d ∷ ds) rest f =
      let g = from_parts (nodes_if d.value) (nodes_names ds) rest (from_next f) in
      owned.both Code (owned.node Code (λ j is. record {
        node = AName d;
        numbered = from_first all j (AName d) ((nodes_if d.value ++ nodes_names ds) ++ rest) (f.is j is);
        is = of_name n depth d refl refl;
      }) (initial_marked n depth k d.name.ty d.value (nodes_names ds ++ rest) g))
      (names_marked (n + some_labels d.value) (depth + cells l.structs d.name.ty) (behind_if (next k) d.value) ds rest
      (from_if (next k) d.value (nodes_names ds ++ rest) g))

  -- ---- frames

  yes : (n : ℕ) → 0 < n → true ≡ some n
  yes zero h = absurd (omega (arith, h))
  yes (suc n) h = refl

  no : (n : ℕ) → n ≡ 0 → false ≡ some n
  no zero h = refl
  no (suc n) h = absurd (omega (arith, h))

  either : (a b : ℕ) → some a || some b ≡ some (a + b)
  either zero b = ap some (omega arith)
  either (suc a) b = yes (suc a + b) (omega arith)

  pub record FrameOf (out : Exits) (depth : ℕ) (f : Frame) : Type 0 where
    pub filled : f.filled ≡ some depth
    pub breaks : f.breaks ≡ some (depth - out.break_depth)
    pub continues : f.continues ≡ some (depth - out.continue_depth)
    pub break_below : out.break_depth ≤ depth
    pub continue_below : out.continue_depth ≤ depth

  frame_deeper : (out : Exits) (depth c : ℕ) (f : Frame) → FrameOf out depth f → FrameOf out (depth + c) (deeper f (some c))
  frame_deeper out depth zero f h =
      let e : depth ≡ depth + 0 = omega arith in
      subst (λ d. FrameOf out d f) e h
  frame_deeper out depth (suc c) f h =
      let b = h.break_below in
      let g = h.continue_below in
      record {
        filled = yes (depth + suc c) (omega arith);
        breaks = yes (depth + suc c - out.break_depth) (omega (arith, b));
        continues = yes (depth + suc c - out.continue_depth) (omega (arith, g));
        break_below = omega (arith, b);
        continue_below = omega (arith, g);
      }

  frame_loop : (out : Exits) (a b depth : ℕ) (f : Frame) → FrameOf out depth f → FrameOf (in_loop a b depth) depth (loop_frame f)
  frame_loop out a b depth f h = record {
    filled = h.filled;
    breaks = no (depth - depth) (omega arith);
    continues = no (depth - depth) (omega arith);
    break_below = omega arith;
    continue_below = omega arith;
  }

  frame_switch : (out : Exits) (end depth : ℕ) (f : Frame) → FrameOf out depth f → FrameOf (in_switch end (depth + 1) out) (depth + 1) switch_frame
  frame_switch out end depth f h =
      let g = h.continue_below in
      record {
        filled = yes (depth + 1) (omega arith);
        breaks = no (depth + 1 - (depth + 1)) (omega arith);
        continues = yes (depth + 1 - out.continue_depth) (omega (arith, g));
        break_below = omega arith;
        continue_below = omega (arith, g);
      }

  frame_first : (depth : ℕ) → FrameOf no_exits depth (first_frame (some depth))
  frame_first depth = record {
    filled = refl;
    breaks = ap some (omega arith);
    continues = ap some (omega arith);
    break_below = omega arith;
    continue_below = omega arith;
  }

  -- ---- parts of statements

  dropped_if : {k : Number} (b : Bool) (n : ℕ) → b ≡ some n → Marked Code k (dropped n) (dropped_marks k b)
  dropped_if {k = k} b n is = subst (λ c. Marked Code k (dropped n) (dropped_marks k c)) (sym is) (dropped_marked n)

  evaluated_marked : (n depth : ℕ) (of k : Number) (v : Option TypedExpr) (rest : List Node) → From all k (nodes_if v ++ rest)
      → Marked Code of (evaluated l n depth v) (evaluated_marks l of k v)
  evaluated_marked n depth of k None rest f = owned.none Code
  evaluated_marked n depth of k (Some e) rest f =
      owned.both Code (owned.part Code (expr_marked n depth k e rest f)) (dropped_marked (cells l.structs (type_of e)))

  tested_marked : (n depth : ℕ) (of k : Number) (v : Option TypedExpr) (rest : List Node) → From all k (nodes_if v ++ rest)
      → Marked Code of (tested l n depth v) (tested_marks l of k v)
  tested_marked n depth of k None rest f = owned.one Code _
  tested_marked n depth of k (Some e) rest f = owned.part Code (expr_marked n depth k e rest f)

  returned_marked : (n depth : ℕ) (filled : Bool) (k : Number) (v : Option TypedExpr) (rest : List Node) → filled ≡ some depth → From all (next k) (nodes_if v ++ rest)
      → Marked Code k (returned l n depth v) (returned_marks l filled k v)
  returned_marked n depth filled k None rest is f = dropped_if filled depth is
  returned_marked n depth filled k (Some e) rest is f =
      owned.both Code (owned.part Code (expr_marked n depth (next k) e rest f)) (owned.both Code (owned.one Code _)
      (dropped_if (filled || some (cells l.structs (type_of e))) (depth + cells l.structs (type_of e))
      (ap (λ b. b || some (cells l.structs (type_of e))) is ∙ either depth (cells l.structs (type_of e)))))

  test_marked : (of : Number) (at : ℕ) (x : TypedStmt) → Marked Code of (test_of at x) (test_marks of x)
  test_marked of at (block m xs) = owned.none Code
  test_marked of at (empty m) = owned.none Code
  test_marked of at (expression m e) = owned.none Code
  test_marked of at (if_only m e a) = owned.none Code
  test_marked of at (if_else m e a b) = owned.none Code
  test_marked of at (while_loop m e a) = owned.none Code
  test_marked of at (do_loop m a e) = owned.none Code
  test_marked of at (for_loop m x y z a) = owned.none Code
  test_marked of at (switch m e xs) = owned.none Code
  test_marked of at (break_off m) = owned.none Code
  test_marked of at (continue_on m) = owned.none Code
  test_marked of at (return_from m e) = owned.none Code
  test_marked of at (declaration m t xs) = owned.none Code
  test_marked of at (case_label m c) =
      owned.both Code (owned.one Code _) (owned.both Code (constant_marked c) (owned.both Code (owned.one Code _) (owned.jump Code Jnz at)))
  test_marked of at (default_label m) = owned.none Code

  tests_marked : (of : Number) (at : ℕ) (xs : TypedStmts) → Marked Code of (tests at xs) (tests_marks of xs)
  tests_marked of at no_stmt = owned.none Code
  tests_marked of at (more_stmts x xs) = owned.both Code (test_marked of at x) (tests_marked of (code.behind at x) xs)

  label_if : (b : Bool) (at : ℕ) → Marked Code None (cond b (Label at ∷ []) []) []
  label_if true at = owned.label Code at
  label_if false at = owned.none Code

  placed_marked : (at : Option ℕ) (x : TypedStmt) → Marked Code None (placed at x) []
  placed_marked None x = owned.none Code
  placed_marked (Some at) x = label_if (is_label x) at

  -- ---- statements

  -- the second, the third and the last part of a loop with three parts, behind the first one
  from_for : (k : Number) (m : ℕ) (x y z : Option TypedExpr) (a : TypedStmt) (rest : List Node) → From all k (nodes_stmt (for_loop m x y z a) ++ rest)
      → From all (behind_if (next k) x) (nodes_if y ++ ((nodes_if z ++ nodes_stmt a) ++ rest))
      × From all (behind_if (behind_if (next k) x) y) (nodes_if z ++ (nodes_stmt a ++ rest))
      × From all (behind_if (behind_if (behind_if (next k) x) y) z) (nodes_stmt a ++ rest)
  from_for k m x y z a rest f =
      let first = from_if (next k) x ((nodes_if y ++ (nodes_if z ++ nodes_stmt a)) ++ rest)
      (from_parts (nodes_if x) (nodes_if y ++ (nodes_if z ++ nodes_stmt a)) rest (from_next f)) in
      let second = from_parts (nodes_if y) (nodes_if z ++ nodes_stmt a) rest first in
      let third = from_parts (nodes_if z) (nodes_stmt a) rest
      (from_if (behind_if (next k) x) y ((nodes_if z ++ nodes_stmt a) ++ rest) second) in
      (second, third, from_if (behind_if (behind_if (next k) x) y) z (nodes_stmt a ++ rest) third)

  mutual
    pub from_stmt : (k : Number) (x : TypedStmt) (rest : List Node) → From all k (nodes_stmt x ++ rest) → From all (behind_stmt k x) rest
    from_stmt k (block m xs) rest f = from_stmts (next k) xs rest (from_next f)
    from_stmt k (empty m) rest f = from_next f
    from_stmt k (expression m e) rest f = from_expr (next k) e rest (from_next f)
    from_stmt k (if_only m e a) rest f =
        from_stmt (behind (next k) e) a rest
        (from_expr (next k) e (nodes_stmt a ++ rest) (from_parts (nodes_expr e) (nodes_stmt a) rest (from_next f)))
    from_stmt k (if_else m e a b) rest f =
        from_stmt (behind_stmt (behind (next k) e) a) b rest
        (from_stmt (behind (next k) e) a (nodes_stmt b ++ rest) (from_parts (nodes_stmt a) (nodes_stmt b) rest
        (from_expr (next k) e ((nodes_stmt a ++ nodes_stmt b) ++ rest) (from_parts (nodes_expr e) (nodes_stmt a ++ nodes_stmt b) rest (from_next f)))))
    from_stmt k (while_loop m e a) rest f =
        from_stmt (behind (next k) e) a rest
        (from_expr (next k) e (nodes_stmt a ++ rest) (from_parts (nodes_expr e) (nodes_stmt a) rest (from_next f)))
    from_stmt k (do_loop m a e) rest f =
        from_expr (behind_stmt (next k) a) e rest
        (from_stmt (next k) a (nodes_expr e ++ rest) (from_parts (nodes_stmt a) (nodes_expr e) rest (from_next f)))
    from_stmt k (for_loop m x y z a) rest f =
        from_stmt (behind_if (behind_if (behind_if (next k) x) y) z) a rest (from_for k m x y z a rest f).2
    from_stmt k (switch m e xs) rest f =
        from_stmts (behind (next k) e) xs rest
        (from_expr (next k) e (nodes_stmts xs ++ rest) (from_parts (nodes_expr e) (nodes_stmts xs) rest (from_next f)))
    from_stmt k (break_off m) rest f = from_next f
    from_stmt k (continue_on m) rest f = from_next f
    from_stmt k (return_from m e) rest f = from_if (next k) e rest (from_next f)
    from_stmt k (declaration m t ds) rest f = from_names (next k) ds rest (from_next f)
    from_stmt k (case_label m c) rest f = from_next (from_next f)
    from_stmt k (default_label m) rest f = from_next f

    pub from_stmts : (k : Number) (xs : TypedStmts) (rest : List Node) → From all k (nodes_stmts xs ++ rest) → From all (behind_stmts k xs) rest
    from_stmts k no_stmt rest f = f
    from_stmts k (more_stmts x xs) rest f =
        from_stmts (behind_stmt k x) xs rest (from_stmt k x (nodes_stmts xs ++ rest) (from_parts (nodes_stmt x) (nodes_stmts xs) rest f))

  stmt_node : {k : Number} {rest : List Node} {ms : List Mark} (out : Exits) (n depth : ℕ) (x : TypedStmt) → From all k (AStatement x ∷ rest)
      → Marked Code k (emit_stmt l out n depth x) ms → Marked Code None (emit_stmt l out n depth x) ms
  stmt_node {rest = rest} out n depth x f g = owned.node Code (λ j is. record {
    node = AStatement x;
    numbered = from_first all j (AStatement x) rest (f.is j is);
    is = of_statement out n depth x refl refl;
  }) g

  mutual
    pub stmt_marked : (out : Exits) (n depth : ℕ) (f : Frame) (k : Number) (x : TypedStmt) (rest : List Node) → FrameOf out depth f → From all k (nodes_stmt x ++ rest)
        → Marked Code None (emit_stmt l out n depth x) (stmt_marks l f k x)
    stmt_marked out n depth f k (block m xs) rest h g =
        stmt_node out n depth (block m xs) g (owned.both Code (owned.part Code (stmts_marked out n depth None f (next k) xs rest h (from_next g)))
        (dropped_marked (all_declared_cells l.structs xs)))
    stmt_marked out n depth f k (empty m) rest h g = owned.none Code
    stmt_marked out n depth f k (expression m e) rest h g =
        stmt_node out n depth (expression m e) g (owned.both Code (owned.part Code (expr_marked n depth (next k) e rest (from_next g)))
        (dropped_marked (cells l.structs (type_of e))))
    stmt_marked out n depth f k (if_only m e a) rest h g =
        let first = from_parts (nodes_expr e) (nodes_stmt a) rest (from_next g) in
        let second = from_expr (next k) e (nodes_stmt a ++ rest) first in
        stmt_node out n depth (if_only m e a) g
        (owned.both Code (owned.part Code (expr_marked (n + 1) depth (next k) e (nodes_stmt a ++ rest) first))
        (owned.both Code (owned.jump Code Jz n)
        (subst (λ ms. Marked Code k (emit_stmt l out (n + 1 + labels e) depth a ++ Label n ∷ []) ms) (append-nil (stmt_marks l f (behind (next k) e) a))
        (owned.both Code (owned.part Code (stmt_marked out (n + 1 + labels e) depth f (behind (next k) e) a rest h second)) (owned.label Code n)))))
    stmt_marked out n depth f k (if_else m e a b) rest h g =
        let first = from_parts (nodes_expr e) (nodes_stmt a ++ nodes_stmt b) rest (from_next g) in
        let second = from_parts (nodes_stmt a) (nodes_stmt b) rest (from_expr (next k) e ((nodes_stmt a ++ nodes_stmt b) ++ rest) first) in
        let third = from_stmt (behind (next k) e) a (nodes_stmt b ++ rest) second in
        stmt_node out n depth (if_else m e a b) g
        (owned.both Code (owned.part Code (expr_marked (n + 2) depth (next k) e ((nodes_stmt a ++ nodes_stmt b) ++ rest) first))
        (owned.both Code (owned.jump Code Jz n)
        (owned.both Code (owned.part Code (stmt_marked out (n + 2 + labels e) depth f (behind (next k) e) a (nodes_stmt b ++ rest) h second))
        (owned.both Code (owned.jump Code Jmp (n + 1)) (owned.both Code (owned.label Code n)
        (subst (λ ms. Marked Code k (emit_stmt l out (n + 2 + labels e + stmt_labels a) depth b ++ Label (n + 1) ∷ []) ms)
        (append-nil (stmt_marks l f (behind_stmt (behind (next k) e) a) b))
        (owned.both Code (owned.part Code (stmt_marked out (n + 2 + labels e + stmt_labels a) depth f (behind_stmt (behind (next k) e) a) b rest h third))
        (owned.label Code (n + 1)))))))))
    stmt_marked out n depth f k (while_loop m e a) rest h g =
        let first = from_parts (nodes_expr e) (nodes_stmt a) rest (from_next g) in
        let second = from_expr (next k) e (nodes_stmt a ++ rest) first in
        stmt_node out n depth (while_loop m e a) g
        (owned.both Code (owned.label Code n) (owned.both Code (owned.part Code (expr_marked (n + 2) depth (next k) e (nodes_stmt a ++ rest) first))
        (owned.both Code (owned.jump Code Jz (n + 1))
        (owned.both Code (owned.part Code (stmt_marked (in_loop n (n + 1) depth) (n + 2 + labels e) depth (loop_frame f) (behind (next k) e) a rest
        (frame_loop out n (n + 1) depth f h) second))
        (owned.both Code (owned.jump Code Jmp n) (owned.label Code (n + 1)))))))
    stmt_marked out n depth f k (do_loop m a e) rest h g =
        let first = from_parts (nodes_stmt a) (nodes_expr e) rest (from_next g) in
        let second = from_stmt (next k) a (nodes_expr e ++ rest) first in
        stmt_node out n depth (do_loop m a e) g
        (owned.both Code (owned.label Code n)
        (owned.both Code (owned.part Code (stmt_marked (in_loop (n + 1) (n + 2) depth) (n + 3) depth (loop_frame f) (next k) a (nodes_expr e ++ rest)
        (frame_loop out (n + 1) (n + 2) depth f h) first))
        (owned.both Code (owned.label Code (n + 1))
        (owned.both Code (owned.part Code (expr_marked (n + 3 + stmt_labels a) depth (behind_stmt (next k) a) e rest second))
        (owned.both Code (owned.jump Code Jnz n) (owned.label Code (n + 2)))))))
    stmt_marked out n depth f k (for_loop m x y z a) rest h g =
        let first = from_parts (nodes_if x) (nodes_if y ++ (nodes_if z ++ nodes_stmt a)) rest (from_next g) in
        let parts = from_for k m x y z a rest g in
        stmt_node out n depth (for_loop m x y z a) g
        (owned.both Code (evaluated_marked (n + 3) depth k (next k) x ((nodes_if y ++ (nodes_if z ++ nodes_stmt a)) ++ rest) first)
        (owned.both Code (owned.label Code n)
        (owned.both Code (tested_marked (n + 3 + some_labels x) depth k (behind_if (next k) x) y ((nodes_if z ++ nodes_stmt a) ++ rest) parts.0)
        (owned.both Code (owned.jump Code Jz (n + 2))
        (owned.both Code (owned.part Code (stmt_marked (in_loop (n + 1) (n + 2) depth) (n + 3 + some_labels x + some_labels y) depth (loop_frame f)
        (behind_if (behind_if (behind_if (next k) x) y) z) a rest (frame_loop out (n + 1) (n + 2) depth f h) parts.2))
        (owned.both Code (owned.label Code (n + 1))
        (owned.both Code (evaluated_marked (n + 3 + some_labels x + some_labels y + stmt_labels a) depth k (behind_if (behind_if (next k) x) y) z
        (nodes_stmt a ++ rest) parts.1)
        (owned.both Code (owned.jump Code Jmp n) (owned.label Code (n + 2))))))))))
    stmt_marked out n depth f k (switch m e xs) rest h g =
        let first = from_parts (nodes_expr e) (nodes_stmts xs) rest (from_next g) in
        let second = from_expr (next k) e (nodes_stmts xs ++ rest) first in
        stmt_node out n depth (switch m e xs) g
        (owned.both Code (owned.part Code (expr_marked (n + 1 + count_labels xs) depth (next k) e (nodes_stmts xs ++ rest) first))
        (owned.both Code (tests_marked k (n + 1) xs)
        (owned.both Code (owned.jump Code Jmp (otherwise n (n + 1) xs))
        (owned.both Code (owned.part Code (stmts_marked (in_switch n (depth + 1) out) (n + 1 + count_labels xs + labels e) (depth + 1) (Some (n + 1)) switch_frame
        (behind (next k) e) xs rest (frame_switch out n depth f h) second))
        (owned.both Code (dropped_marked (all_declared_cells l.structs xs)) (owned.both Code (owned.label Code n) (owned.one Code _)))))))
    stmt_marked out n depth f k (break_off m) rest h g =
        stmt_node out n depth (break_off m) g (owned.both Code (dropped_if f.breaks (depth - out.break_depth) h.breaks) (owned.jump Code Jmp out.break_to))
    stmt_marked out n depth f k (continue_on m) rest h g =
        stmt_node out n depth (continue_on m) g (owned.both Code (dropped_if f.continues (depth - out.continue_depth) h.continues) (owned.jump Code Jmp out.continue_to))
    stmt_marked out n depth f k (return_from m e) rest h g =
        stmt_node out n depth (return_from m e) g (owned.both Code (returned_marked n depth f.filled k e rest h.filled (from_next g)) (owned.one Code _))
    stmt_marked out n depth f k (declaration m t ds) rest h g = names_marked n depth (next k) ds rest (from_next g)
    stmt_marked out n depth f k (case_label m c) rest h g = owned.none Code
    stmt_marked out n depth f k (default_label m) rest h g = owned.none Code

    pub stmts_marked : (out : Exits) (n depth : ℕ) (at : Option ℕ) (f : Frame) (k : Number) (xs : TypedStmts) (rest : List Node) → FrameOf out depth f
        → From all k (nodes_stmts xs ++ rest) → Marked Code None (emit_stmts l out n depth at xs) (stmts_marks l f k xs)
    stmts_marked out n depth at f k no_stmt rest h g = owned.none Code
    stmts_marked out n depth at f k (more_stmts x xs) rest h g =
        let first = from_parts (nodes_stmt x) (nodes_stmts xs) rest g in
        owned.both Code (placed_marked at x) (owned.both Code (stmt_marked out n depth f k x (nodes_stmts xs ++ rest) h first)
        (stmts_marked out (n + stmt_labels x) (depth + declared_cells l.structs x) (placed_on at x) (deeper f (some (declared_cells l.structs x))) (behind_stmt k x) xs rest
        (frame_deeper out depth (declared_cells l.structs x) f h) (from_stmt k x (nodes_stmts xs ++ rest) first)))

  -- ---- units

  from_fields : (k : Number) (xs : List Identifier) (rest : List Node) → From all k (nodes_fields xs ++ rest) → From all (behind_fields k xs) rest
  from_fields k [] rest f = f
  from_fields k (x ∷ xs) rest f = from_fields (next k) xs rest (from_next f)

  from_lines : (k : Number) (xs : List TypedLine) (rest : List Node) → From all k (nodes_lines xs ++ rest) → From all (behind_lines k xs) rest
  from_lines k [] rest f = f
  from_lines k (x ∷ xs) rest f =
      from_lines (behind_fields (next k) x.names) xs rest
      (from_fields (next k) x.names (nodes_lines xs ++ rest) (from_parts (nodes_fields x.names) (nodes_lines xs) rest (from_next f)))

  from_default : (k : Number) (c : Option Const) (rest : List Node) → From all k (nodes_default c ++ rest) → From all (behind_default k c) rest
  from_default k None rest f = f
  from_default k (Some c) rest f = from_next f

  from_parameters : (k : Number) (ps : List TypedParameter) (rest : List Node) → From all k (nodes_parameters ps ++ rest) → From all (behind_parameters k ps) rest
  from_parameters k [] rest f = f
  from_parameters k (p ∷ ps) rest f =
      from_parameters (behind_default (next k) p.default) ps rest
      (from_default (next k) p.default (nodes_parameters ps ++ rest) (from_parts (nodes_default p.default) (nodes_parameters ps) rest (from_next f)))

  from_body : (k : Number) (body : Option TypedStmts) (rest : List Node) → From all k (nodes_body body ++ rest) → From all (behind_body k body) rest
  from_body k None rest f = f
  from_body k (Some xs) rest f = from_stmts k xs rest f

  from_function : (k : Number) (m : ℕ) (t : Ty) (x : List ℕ) (ps : List TypedParameter) (body : Option TypedStmts) (rest : List Node)
      → From all k (nodes_item (item.function m t x ps body) ++ rest) → From all (behind_parameters (next k) ps) (nodes_body body ++ rest)
  from_function k m t x ps body rest f =
      from_parameters (next k) ps (nodes_body body ++ rest) (from_parts (nodes_parameters ps) (nodes_body body) rest (from_next f))

  pub from_item : (k : Number) (i : TypedItem) (rest : List Node) → From all k (nodes_item i ++ rest) → From all (behind_item k i) rest
  from_item k (item.structure m x ls) rest f = from_lines (next k) ls rest (from_next f)
  from_item k (item.constant m t x c) rest f = from_next (from_next (from_next f))
  from_item k (item.global m t ds) rest f = from_names (next k) ds rest (from_next f)
  from_item k (item.function m t x ps body) rest f = from_body (behind_parameters (next k) ps) body rest (from_function k m t x ps body rest f)

  pub function_marked : (n f : ℕ) (k : Number) (m : ℕ) (t : Ty) (x : List ℕ) (ps : List TypedParameter) (body : TypedStmts) (rest : List Node)
      → From all k (nodes_item (item.function m t x ps (Some body)) ++ rest) → Marked Code None (emit_function l n f ps body) (function_marks l k ps body)
  function_marked n f k m t x ps body rest g =
      owned.node Code (λ j is. record {
        node = AnItem (item.function m t x ps (Some body));
        numbered = from_first all j (AnItem (item.function m t x ps (Some body))) ((nodes_parameters ps ++ nodes_stmts body) ++ rest) (g.is j is);
        is = of_function n f m t x ps body refl refl;
      })
      (owned.both Code (owned.label Code f)
      (owned.both Code (owned.part Code (stmts_marked no_exits n (params_cells l.structs ps) None (first_frame (some (params_cells l.structs ps)))
      (behind_parameters (next k) ps) body rest (frame_first (params_cells l.structs ps)) (from_function k m t x ps (Some body) rest g)))
      (owned.both Code (dropped_marked (all_declared_cells l.structs body)) (owned.both Code (dropped_marked (params_cells l.structs ps)) (owned.one Code _)))))

  pub functions_marked : (n f : ℕ) (k : Number) (is : List TypedItem) (rest : List Node) → From all k (nodes_items is ++ rest)
      → Marked Code None (emit_functions l n f is) (functions_marks l k is)
  functions_marked n f k [] rest g = owned.none Code
  functions_marked n f k (item.structure m x ls ∷ is) rest g =
      functions_marked n f (behind_item k (item.structure m x ls)) is rest
      (from_item k (item.structure m x ls) (nodes_items is ++ rest) (from_parts (nodes_item (item.structure m x ls)) (nodes_items is) rest g))
  functions_marked n f k (item.constant m t x c ∷ is) rest g =
      functions_marked n f (behind_item k (item.constant m t x c)) is rest
      (from_item k (item.constant m t x c) (nodes_items is ++ rest) (from_parts (nodes_item (item.constant m t x c)) (nodes_items is) rest g))
  functions_marked n f k (item.global m t ds ∷ is) rest g =
      functions_marked n f (behind_item k (item.global m t ds)) is rest
      (from_item k (item.global m t ds) (nodes_items is ++ rest) (from_parts (nodes_item (item.global m t ds)) (nodes_items is) rest g))
  functions_marked n f k (item.function m t x ps None ∷ is) rest g =
      functions_marked n f (behind_item k (item.function m t x ps None)) is rest
      (from_item k (item.function m t x ps None) (nodes_items is ++ rest) (from_parts (nodes_item (item.function m t x ps None)) (nodes_items is) rest g))
  functions_marked n f k (item.function m t x ps (Some body) ∷ is) rest g =
      let first = from_parts (nodes_item (item.function m t x ps (Some body))) (nodes_items is) rest g in
      owned.both Code (function_marked n f k m t x ps body (nodes_items is ++ rest) first)
      (functions_marked (n + all_stmt_labels body) (f + 1) (behind_item k (item.function m t x ps (Some body))) is rest
      (from_item k (item.function m t x ps (Some body)) (nodes_items is ++ rest) first))

  pub globals_marked : (n depth : ℕ) (k : Number) (is : List TypedItem) (rest : List Node) → From all k (nodes_items is ++ rest)
      → Marked Code None (emit_globals l n depth is) (globals_marks l k is)
  globals_marked n depth k [] rest g = owned.none Code
  globals_marked n depth k (item.structure m x ls ∷ is) rest g =
      globals_marked n depth (behind_item k (item.structure m x ls)) is rest
      (from_item k (item.structure m x ls) (nodes_items is ++ rest) (from_parts (nodes_item (item.structure m x ls)) (nodes_items is) rest g))
  globals_marked n depth k (item.constant m t x c ∷ is) rest g =
      globals_marked n depth (behind_item k (item.constant m t x c)) is rest
      (from_item k (item.constant m t x c) (nodes_items is ++ rest) (from_parts (nodes_item (item.constant m t x c)) (nodes_items is) rest g))
  globals_marked n depth k (item.function m t x ps body ∷ is) rest g =
      globals_marked n depth (behind_item k (item.function m t x ps body)) is rest
      (from_item k (item.function m t x ps body) (nodes_items is ++ rest) (from_parts (nodes_item (item.function m t x ps body)) (nodes_items is) rest g))
  globals_marked n depth k (item.global m t ds ∷ is) rest g =
      let first = from_parts (nodes_item (item.global m t ds)) (nodes_items is) rest g in
      owned.both Code (names_marked n depth (next k) ds (nodes_items is ++ rest) (from_next first))
      (globals_marked (n + names_labels ds) (depth + item_cells l.structs (item.global m t ds)) (behind_item k (item.global m t ds)) is rest
      (from_item k (item.global m t ds) (nodes_items is ++ rest) first))

  entry_marked : (e : EntryPoint) → Marked Code None (entry_call e) (entry_marks e)
  entry_marked (Main f) = owned.jump Code Jsr f
  entry_marked (Conditional f) = owned.both Code (owned.one Code _) (owned.both Code (owned.jump Code Jsr f) (owned.one Code _))

  pub start_marked : (n : ℕ) (any : Bool) (is : List TypedItem) (e : EntryPoint) (rest : List Node) → From all (Some 0) (nodes_items is ++ rest)
      → Marked Code None (emit_start l n any is e) (start_marks l any is e)
  start_marked n false is e rest g = owned.both Code (entry_marked e) (owned.one Code _)
  start_marked n true is e rest g =
      owned.both Code (owned.jump Code Jsr n) (owned.both Code (owned.one Code _) (owned.both Code (owned.label Code n)
      (owned.both Code (globals_marked (n + 1) 0 (Some 0) is rest g) (owned.both Code (owned.one Code _) (owned.both Code (entry_marked e)
      (owned.both Code (owned.one Code _) (owned.both Code (dropped_marked l.globals) (owned.one Code _))))))))
