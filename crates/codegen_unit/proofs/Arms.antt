-- From a statement that is known to its parts: that their code can be added, that they are smaller,
-- and that the statement's code is theirs.
use Rattle.std.proofs.Common.{◌≡◌, ◌<◌, ◌≤◌, ◌+◌, ◌^◌, ℕ, true, List, [], ◌++◌, Option, Some, None, Result, Ok, Err, arith, ap, sym, ◌∙◌, subst}
use Rattle.std.specs.Option.{option_map}
use Rattle.std.specs.Result.{OnOk}
use Rattle.nss_tree.specs.declared.statements.DeclaredName.{DeclaredName}
use Rattle.nss_tree.specs.declared.statements.Stmt.{Stmt}
use Rattle.nss_tree.specs.Reading.{tree_of_stmt, tree_of_stmts}
use Rattle.nss_tree.specs.Statements as s
use Rattle.nss_tree.specs.Statements.{map_stmt}
use Rattle.nwq_value.specs.declared.value.Ty.{Ty}
use Rattle.nwq_value.specs.declared.engine.Const.{Const}
use Rattle.ncs_emit.specs.Labelled.{LabelledCode}
use Rattle.typing_rules.specs.declared.expressions.Expression.{Expression}
use Rattle.typing_rules.specs.declared.places.Variable.{Variable}
use Rattle.typing_rules.specs.Reading.{plain}
use Rattle.typing_rules.specs.Typed.{TypedExpr, TypedName, TypedStmt, TypedStmts}
use Rattle.typing_rules.specs.UnitReading.{typed_names, typed_stmt, typed_stmts}
use Rattle.emission_rules.specs.Bounds.{frame_limit, weight, some_weight, stmt_weight, IsExpr, IsSome, IsStmt, AreStmts}
use Rattle.emission_rules.specs.Layout.{Layout}
use Rattle.emission_rules.specs.Expressions.{labels}
use Rattle.emission_rules.specs.Statements.{Exits, in_loop, in_switch, some_labels, count_labels, stmt_labels, emit_stmt}
use Rattle.codegen_expr.specs.Emitted.{CanBeEmitted, extended}
use Rattle.codegen_unit.specs.declared.exits.Target.{Target}
use Rattle.codegen_unit.specs.declared.exits.Exits as code
use Rattle.codegen_unit.specs.Ready.{IsMade, IsPartReady, LoopReady, NamesReady, StmtReady, StmtsReady, SwitchReady, depth_of, label_of, leads, plain_exits}
use Rattle.codegen_expr.specs.BoundLemmas.{grows}
use Rattle.codegen_unit.proofs.Bounded.{stmt_grows, stmts_grow, extended_none}

-- ---- sizes

abbrev mutual
  pub size : TypedStmt → ℕ
  size (s.block n xs) = 3 + all_size xs
  size (s.empty n) = 0
  size (s.expression n e) = 0
  size (s.if_only n e a) = 3 + size a
  size (s.if_else n e a b) = 3 + size a + size b
  size (s.while_loop n e a) = 3 + size a
  size (s.do_loop n a e) = 3 + size a
  size (s.for_loop n x y z a) = 3 + size a
  size (s.switch n e xs) = 3 + all_size xs
  size (s.break_off n) = 0
  size (s.continue_on n) = 0
  size (s.return_from n e) = 0
  size (s.declaration n t xs) = 0
  size (s.case_label n k) = 0
  size (s.default_label n) = 0

  pub all_size : TypedStmts → ℕ
  all_size s.no_stmt = 0
  all_size (s.more_stmts x xs) = 1 + size x + all_size xs

-- ---- parts at further labels

pub made_grows : (n m : ℕ) (t : Option Target) → n ≤ m → IsMade n t → IsMade m t
made_grows n m None le is = tt
made_grows n m (Some t) le is = omega arith

pub expr_ready : (n m : ℕ) (l : Layout) (d : ℕ) (x : TypedExpr) → n ≤ m → IsExpr n l x → d + weight x ≤ frame_limit → l.globals ≤ frame_limit → m + labels x < 2 ^ 32 → CanBeEmitted m l d x
expr_ready n m l d x le is deep globals few = record { bounded = grows n m l x le is; deep = deep; globals = globals; labelled = few }

pub part_ready : (n m : ℕ) (l : Layout) (d : ℕ) (x : Option TypedExpr) → n ≤ m → IsSome n l x
    → d + some_weight x ≤ frame_limit → l.globals ≤ frame_limit → m + some_labels x < 2 ^ 32 → IsPartReady m l d x
part_ready n m l d None le is deep globals few = globals
part_ready n m l d (Some x) le is deep globals few = expr_ready n m l d x le is deep globals few

stmt_ready : (n m : ℕ) (l : Layout) (d : ℕ) (ex : code.Exits) (x : TypedStmt) → n ≤ m
    → IsStmt n l (leads ex.break_to) (leads ex.continue_to) x → d + stmt_weight x ≤ frame_limit
    → l.globals ≤ frame_limit
    → m + stmt_labels x < 2 ^ 32 → IsMade n ex.break_to → IsMade n ex.continue_to → StmtReady m l d ex x
stmt_ready n m l d ex x le is deep globals few b k = record {
  bounded = stmt_grows n m l (leads ex.break_to) (leads ex.continue_to) x le is;
  deep = deep;
  globals = globals;
  labelled = few;
  break_made = made_grows n m ex.break_to le b;
  continue_made = made_grows n m ex.continue_to le k;
}

loop_ready : (n m : ℕ) (l : Layout) (d : ℕ) (x : TypedStmt) → n ≤ m → IsStmt n l true true x
    → d + stmt_weight x ≤ frame_limit → l.globals ≤ frame_limit → m + stmt_labels x < 2 ^ 32 → LoopReady m l d x
loop_ready n m l d x le is deep globals few = record { bounded = stmt_grows n m l true true x le is; deep = deep; globals = globals; labelled = few }

pub body_of_switch_ready : (n m : ℕ) (l : Layout) (d e : ℕ) (ex around : code.Exits) (xs : TypedStmts) (b : Target)
    → SwitchReady n l d around xs → n ≡ m → d ≡ e → ex.break_to ≡ Some b → ex.continue_to ≡ around.continue_to
    → b.label < m → StmtsReady m l e ex xs
body_of_switch_ready n m l d e ex around xs b r same same-depth eb ek lb =
    let h : AreStmts n l (leads ex.break_to) (leads ex.continue_to) xs =
    subst (λ t. AreStmts n l (leads t) (leads ex.continue_to) xs) (sym eb) (subst (λ t. AreStmts n l true (leads t) xs) (sym ek) r.bounded) in
    subst (λ z. StmtsReady z l e ex xs) same (subst (λ z. StmtsReady n l z ex xs) same-depth (record {
      bounded = h;
      deep = r.deep;
      globals = r.globals;
      labelled = r.labelled;
      break_made = subst (IsMade n) (sym eb) (omega arith);
      continue_made = subst (IsMade n) (sym ek) r.continue_made;
    }))

-- ---- statements that are known, with their parts as code reaches them

module _ (n : ℕ) (l : Layout) (d t : ℕ) (ex : code.Exits) (the : Stmt Expression Const Ty Variable) where
  known : (x : TypedStmt) → typed_stmt the ≡ x → StmtReady n l d ex (typed_stmt the) → StmtReady n l d ex x
  known x is = subst (StmtReady n l d ex) is

  pub block_parts : (i : ℕ) (xs : List (Stmt Expression Const Ty Variable)) → typed_stmt the ≡ s.block i (typed_stmts xs) → size (typed_stmt the) ≡ t → StmtReady n l d ex (typed_stmt the)
      → (all_size (typed_stmts xs) + 2 < t) × StmtsReady n l d ex (typed_stmts xs)
  block_parts i xs is falls ready =
      let r = known (s.block i (typed_stmts xs)) is ready in
      let w : size (typed_stmt the) ≡ 3 + all_size (typed_stmts xs) = ap size is in
      (omega arith, record { bounded = r.bounded; deep = r.deep; globals = r.globals; labelled = r.labelled; break_made = r.break_made; continue_made = r.continue_made })

  pub if_only_parts : (i : ℕ) (x : TypedExpr) (a : Stmt Expression Const Ty Variable) → typed_stmt the ≡ s.if_only i x (typed_stmt a) → size (typed_stmt the) ≡ t → StmtReady n l d ex (typed_stmt the)
      → (size (typed_stmt a) + 1 < t) × (CanBeEmitted (n + 1) l d x × StmtReady (n + 1 + labels x) l d ex (typed_stmt a))
  if_only_parts i x a is falls ready =
      let r = known (s.if_only i x (typed_stmt a)) is ready in
      let w : size (typed_stmt the) ≡ 3 + size (typed_stmt a) = ap size is in (
        omega arith,
        (
          expr_ready n (n + 1) l d x (omega arith) r.bounded.0 (omega (arith, r.deep)) r.globals (omega (arith, r.labelled)),
          stmt_ready n (n + 1 + labels x) l d ex (typed_stmt a) (omega arith) r.bounded.1 (omega (arith, r.deep)) r.globals (omega (arith, r.labelled)) r.break_made r.continue_made,
        ),
      )

  pub if_else_parts : (i : ℕ) (x : TypedExpr) (a b : Stmt Expression Const Ty Variable)
      → typed_stmt the ≡ s.if_else i x (typed_stmt a) (typed_stmt b) → size (typed_stmt the) ≡ t
      → StmtReady n l d ex (typed_stmt the)
      → (size (typed_stmt a) + size (typed_stmt b) + 1 < t) × (CanBeEmitted (n + 2) l d x × (StmtReady (n + 2 + labels x) l d ex (typed_stmt a)
      × StmtReady (n + 2 + labels x + stmt_labels (typed_stmt a)) l d ex (typed_stmt b)))
  if_else_parts i x a b is falls ready =
      let r = known (s.if_else i x (typed_stmt a) (typed_stmt b)) is ready in
      let w : size (typed_stmt the) ≡ 3 + size (typed_stmt a) + size (typed_stmt b) = ap size is in (
        omega arith,
        (
          expr_ready n (n + 2) l d x (omega arith) r.bounded.0 (omega (arith, r.deep)) r.globals (omega (arith, r.labelled)),
          (
            stmt_ready n (n + 2 + labels x) l d ex (typed_stmt a) (omega arith) r.bounded.1 (omega (arith, r.deep)) r.globals (omega (arith, r.labelled)) r.break_made r.continue_made,
            stmt_ready n (n + 2 + labels x + stmt_labels (typed_stmt a)) l d ex (typed_stmt b) (omega arith) r.bounded.2
                (omega (arith, r.deep)) r.globals (omega (arith, r.labelled)) r.break_made r.continue_made,
          ),
        ),
      )

  pub while_parts : (i : ℕ) (x : TypedExpr) (a : Stmt Expression Const Ty Variable) → typed_stmt the ≡ s.while_loop i x (typed_stmt a) → size (typed_stmt the) ≡ t → StmtReady n l d ex (typed_stmt the)
      → (size (typed_stmt a) + 1 < t) × (CanBeEmitted (n + 2) l d x × LoopReady (n + 2 + labels x) l d (typed_stmt a))
  while_parts i x a is falls ready =
      let r = known (s.while_loop i x (typed_stmt a)) is ready in
      let w : size (typed_stmt the) ≡ 3 + size (typed_stmt a) = ap size is in (
        omega arith,
        (
          expr_ready n (n + 2) l d x (omega arith) r.bounded.0 (omega (arith, r.deep)) r.globals (omega (arith, r.labelled)),
          loop_ready n (n + 2 + labels x) l d (typed_stmt a) (omega arith) r.bounded.1 (omega (arith, r.deep)) r.globals (omega (arith, r.labelled)),
        ),
      )

  pub do_parts : (i : ℕ) (x : TypedExpr) (a : Stmt Expression Const Ty Variable) → typed_stmt the ≡ s.do_loop i (typed_stmt a) x → size (typed_stmt the) ≡ t → StmtReady n l d ex (typed_stmt the)
      → (size (typed_stmt a) + 1 < t) × (LoopReady (n + 3) l d (typed_stmt a) × CanBeEmitted (n + 3 + stmt_labels (typed_stmt a)) l d x)
  do_parts i x a is falls ready =
      let r = known (s.do_loop i (typed_stmt a) x) is ready in
      let w : size (typed_stmt the) ≡ 3 + size (typed_stmt a) = ap size is in (
        omega arith,
        (
          loop_ready n (n + 3) l d (typed_stmt a) (omega arith) r.bounded.0 (omega (arith, r.deep)) r.globals (omega (arith, r.labelled)),
          expr_ready n (n + 3 + stmt_labels (typed_stmt a)) l d x (omega arith) r.bounded.1 (omega (arith, r.deep)) r.globals (omega (arith, r.labelled)),
        ),
      )

  pub for_parts : (i : ℕ) (x y z : Option TypedExpr) (a : Stmt Expression Const Ty Variable)
      → typed_stmt the ≡ s.for_loop i x y z (typed_stmt a) → size (typed_stmt the) ≡ t
      → StmtReady n l d ex (typed_stmt the)
      → (size (typed_stmt a) + 1 < t) × (IsPartReady (n + 3) l d x × (IsPartReady (n + 3 + some_labels x) l d y × (LoopReady (n + 3 + some_labels x + some_labels y) l d (typed_stmt a)
      × IsPartReady (n + 3 + some_labels x + some_labels y + stmt_labels (typed_stmt a)) l d z)))
  for_parts i x y z a is falls ready =
      let r = known (s.for_loop i x y z (typed_stmt a)) is ready in
      let w : size (typed_stmt the) ≡ 3 + size (typed_stmt a) = ap size is in (
        omega arith,
        (
          part_ready n (n + 3) l d x (omega arith) r.bounded.0 (omega (arith, r.deep)) r.globals (omega (arith, r.labelled)),
          (
            part_ready n (n + 3 + some_labels x) l d y (omega arith) r.bounded.1 (omega (arith, r.deep)) r.globals (omega (arith, r.labelled)),
            (
              loop_ready n (n + 3 + some_labels x + some_labels y) l d (typed_stmt a) (omega arith) r.bounded.3 (omega (arith, r.deep)) r.globals (omega (arith, r.labelled)),
              part_ready n (n + 3 + some_labels x + some_labels y + stmt_labels (typed_stmt a)) l d z (omega arith) r.bounded.2 (omega (arith, r.deep)) r.globals (omega (arith, r.labelled)),
            ),
          ),
        ),
      )

  pub switch_parts : (i : ℕ) (x : TypedExpr) (xs : List (Stmt Expression Const Ty Variable))
      → typed_stmt the ≡ s.switch i x (typed_stmts xs) → size (typed_stmt the) ≡ t → StmtReady n l d ex (typed_stmt the)
      → (all_size (typed_stmts xs) + 2 < t) × (CanBeEmitted (n + 1 + count_labels (typed_stmts xs)) l d x
      × SwitchReady (n + 1 + count_labels (typed_stmts xs) + labels x) l (d + 1) ex (typed_stmts xs))
  switch_parts i x xs is falls ready =
      let r = known (s.switch i x (typed_stmts xs)) is ready in
      let w : size (typed_stmt the) ≡ 3 + all_size (typed_stmts xs) = ap size is in
      let m = n + 1 + count_labels (typed_stmts xs) in (
        omega arith,
        (
          expr_ready n m l d x (omega arith) r.bounded.0 (omega (arith, r.deep)) r.globals (omega (arith, r.labelled)),
          record {
            bounded = stmts_grow n (m + labels x) l true (leads ex.continue_to) (typed_stmts xs) (omega arith) r.bounded.1;
            deep = omega (arith, r.deep);
            globals = r.globals;
            labelled = omega (arith, r.labelled);
            continue_made = made_grows n (m + labels x) ex.continue_to (omega arith) r.continue_made;
          },
        ),
      )

  pub effect_part : (i : ℕ) (x : TypedExpr) → typed_stmt the ≡ s.expression i x → StmtReady n l d ex (typed_stmt the) → CanBeEmitted n l d x
  effect_part i x is ready =
      let r = known (s.expression i x) is ready in
      record { bounded = r.bounded; deep = r.deep; globals = r.globals; labelled = r.labelled }

  pub return_part : (i : ℕ) (x : Option TypedExpr) → typed_stmt the ≡ s.return_from i x → StmtReady n l d ex (typed_stmt the) → IsPartReady n l d x
  return_part i x is ready =
      let r = known (s.return_from i x) is ready in
      part_ready n n l d x (omega arith) r.bounded r.deep r.globals r.labelled

  pub names_part : (i : ℕ) (y : Ty) (xs : List TypedName) → typed_stmt the ≡ s.declaration i y xs → StmtReady n l d ex (typed_stmt the) → NamesReady n l d xs
  names_part i y xs is ready =
      let r = known (s.declaration i y xs) is ready in
      record { bounded = r.bounded; deep = r.deep; globals = r.globals; labelled = r.labelled }

  pub break_leads : (i : ℕ) → typed_stmt the ≡ s.break_off i → StmtReady n l d ex (typed_stmt the) → leads ex.break_to ≡ true
  break_leads i is ready = (known (s.break_off i) is ready).bounded

  pub continue_leads : (i : ℕ) → typed_stmt the ≡ s.continue_on i → StmtReady n l d ex (typed_stmt the) → leads ex.continue_to ≡ true
  continue_leads i is ready = (known (s.continue_on i) is ready).bounded

  pub small : StmtReady n l d ex (typed_stmt the) → d ≤ frame_limit
  small ready = omega (arith, ready.deep)

-- ---- the code of a statement that is known

on_ok : {T E P Q : Type 0} (r : Result T E) → OnOk r P → (P → Q) → OnOk r Q
on_ok (Ok x) p f = f p
on_ok (Err e) p f = tt

module _ (before after : LabelledCode) (l : Layout) (ex : Exits) (d : ℕ) (the : Stmt Expression Const Ty Variable) (x : TypedStmt) (is : typed_stmt the ≡ x) where
  same_code : extended before (emit_stmt l ex before.labels d x) (stmt_labels x) ≡ extended before (emit_stmt l ex before.labels d (typed_stmt the)) (stmt_labels (typed_stmt the))
  same_code = ap (λ y. extended before (emit_stmt l ex before.labels d y) (stmt_labels y)) (sym is)

  pub known_code : {T E : Type 0} (r : Result T E) → OnOk r (after ≡ extended before (emit_stmt l ex before.labels d x) (stmt_labels x))
      → OnOk r (after ≡ extended before (emit_stmt l ex before.labels d (typed_stmt the)) (stmt_labels (typed_stmt the)))
  known_code r put = on_ok r put (λ e. e ∙ same_code)

  -- a statement that takes no label
  pub known_lines : {T E : Type 0} (r : Result T E) → stmt_labels x ≡ 0 → OnOk r (after ≡ record before { lines = before.lines ++ emit_stmt l ex before.labels d x })
      → OnOk r (after ≡ extended before (emit_stmt l ex before.labels d (typed_stmt the)) (stmt_labels (typed_stmt the)))
  known_lines r none put =
      on_ok r put (λ e. e ∙ (ap (λ (k : ℕ). record { lines = before.lines ++ emit_stmt l ex before.labels d x; labels = k }) (omega arith) ∙ same_code))

pub known_none : (c : LabelledCode) (l : Layout) (ex : Exits) (d : ℕ) (the : Stmt Expression Const Ty Variable)
    (x : TypedStmt) → typed_stmt the ≡ x → emit_stmt l ex c.labels d x ≡ [] → stmt_labels x ≡ 0
    → c ≡ extended c (emit_stmt l ex c.labels d (typed_stmt the)) (stmt_labels (typed_stmt the))
known_none c l ex d the x is none zero =
    extended_none c
    ∙ (ap (λ ys. extended c ys 0) (sym none) ∙ (ap (λ k. extended c (emit_stmt l ex c.labels d x) k) (sym zero)
    ∙ ap (λ y. extended c (emit_stmt l ex c.labels d y) (stmt_labels y)) (sym is)))

-- ---- what a statement is, by its parts

pub if_only_is : (the : Stmt Expression Const Ty Variable) (i : ℕ) (x : Expression)
    (a y : Stmt Expression Const Ty Variable) → tree_of_stmt the ≡ s.if_only i x (tree_of_stmt a) → y ≡ a
    → typed_stmt the ≡ s.if_only i (plain x) (typed_stmt y)
if_only_is the i x a y is same = ap (map_stmt plain) is ∙ ap (λ z. s.if_only i (plain x) (typed_stmt z)) (sym same)

pub if_else_is : (the : Stmt Expression Const Ty Variable) (i : ℕ) (x : Expression)
    (a b y z : Stmt Expression Const Ty Variable) → tree_of_stmt the ≡ s.if_else i x (tree_of_stmt a) (tree_of_stmt b)
    → y ≡ a → z ≡ b
    → typed_stmt the ≡ s.if_else i (plain x) (typed_stmt y) (typed_stmt z)
if_else_is the i x a b y z is e f =
    ap (map_stmt plain) is ∙ (ap (λ w. s.if_else i (plain x) (typed_stmt w) (typed_stmt b)) (sym e) ∙ ap (λ w. s.if_else i (plain x) (typed_stmt y) (typed_stmt w)) (sym f))

pub while_is : (the : Stmt Expression Const Ty Variable) (i : ℕ) (x : Expression)
    (a y : Stmt Expression Const Ty Variable) → tree_of_stmt the ≡ s.while_loop i x (tree_of_stmt a) → y ≡ a
    → typed_stmt the ≡ s.while_loop i (plain x) (typed_stmt y)
while_is the i x a y is same = ap (map_stmt plain) is ∙ ap (λ z. s.while_loop i (plain x) (typed_stmt z)) (sym same)

pub do_is : (the : Stmt Expression Const Ty Variable) (i : ℕ) (x : Expression) (a y : Stmt Expression Const Ty Variable)
    → tree_of_stmt the ≡ s.do_loop i (tree_of_stmt a) x → y ≡ a → typed_stmt the ≡ s.do_loop i (typed_stmt y) (plain x)
do_is the i x a y is same = ap (map_stmt plain) is ∙ ap (λ z. s.do_loop i (typed_stmt z) (plain x)) (sym same)

pub for_is : (the : Stmt Expression Const Ty Variable) (i : ℕ) (x y z : Option Expression) (a w : Stmt Expression Const Ty Variable) → tree_of_stmt the ≡ s.for_loop i x y z (tree_of_stmt a) → w ≡ a
    → typed_stmt the ≡ s.for_loop i (option_map plain x) (option_map plain y) (option_map plain z) (typed_stmt w)
for_is the i x y z a w is same = ap (map_stmt plain) is ∙ ap (λ v. s.for_loop i (option_map plain x) (option_map plain y) (option_map plain z) (typed_stmt v)) (sym same)

pub block_is : (the : Stmt Expression Const Ty Variable) (i : ℕ) (xs ys : List (Stmt Expression Const Ty Variable))
    → tree_of_stmt the ≡ s.block i (tree_of_stmts xs) → ys ≡ xs → typed_stmt the ≡ s.block i (typed_stmts ys)
block_is the i xs ys is same = ap (map_stmt plain) is ∙ ap (λ zs. s.block i (typed_stmts zs)) (sym same)

pub switch_is : (the : Stmt Expression Const Ty Variable) (i : ℕ) (x : Expression) (xs ys : List (Stmt Expression Const Ty Variable)) → tree_of_stmt the ≡ s.switch i x (tree_of_stmts xs) → ys ≡ xs
    → typed_stmt the ≡ s.switch i (plain x) (typed_stmts ys)
switch_is the i x xs ys is same = ap (map_stmt plain) is ∙ ap (λ zs. s.switch i (plain x) (typed_stmts zs)) (sym same)

pub declaration_is : (the : Stmt Expression Const Ty Variable) (i : ℕ) (y : Ty)
    (xs ys : List (DeclaredName Expression Variable)) → tree_of_stmt the ≡ s.declaration i y xs → ys ≡ xs
    → typed_stmt the ≡ s.declaration i y (typed_names ys)
declaration_is the i y xs ys is same = ap (map_stmt plain) is ∙ ap (λ zs. s.declaration i y (typed_names zs)) (sym same)

pub plain_in_loop : (e : code.Exits) (next end d : ℕ) → e.break_to ≡ Some (record { label = end; depth = d })
    → e.continue_to ≡ Some (record { label = next; depth = d }) → plain_exits e ≡ in_loop next end d
plain_in_loop e next end d breaks continues =
    ap (λ t. record { break_to = label_of t; break_depth = depth_of t; continue_to = label_of e.continue_to; continue_depth = depth_of e.continue_to }) breaks
    ∙ ap (λ t. record { break_to = end; break_depth = d; continue_to = label_of t; continue_depth = depth_of t }) continues

pub plain_in_switch : (e around : code.Exits) (label d : ℕ) → e.break_to ≡ Some (record { label = label; depth = d })
    → e.continue_to ≡ around.continue_to → plain_exits e ≡ in_switch label d (plain_exits around)
plain_in_switch e around label d breaks continues =
    ap (λ t. record { break_to = label_of t; break_depth = depth_of t; continue_to = label_of e.continue_to; continue_depth = depth_of e.continue_to }) breaks
    ∙ ap (λ t. record { break_to = label; break_depth = d; continue_to = label_of t; continue_depth = depth_of t }) continues

pub falls_row : (a t : ℕ) → a + 2 ≡ t → a + 1 < t
falls_row a t is = omega arith
