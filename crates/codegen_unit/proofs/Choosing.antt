-- The labels of a switch, and what is placed in loops and switches.
use Rattle.std.proofs.Common.{◌≡◌, ◌<◌, ◌≤◌, ◌+◌, ℕ, Bool, true, false, cond, eqb, List, [], ◌∷◌, ◌++◌, Option, Some, None, Result, Ok, Err, zero, suc, arith, refl, ap, ◌∙◌, append_assoc}
use Rattle.std.specs.Result.{OnOk}
use Rattle.std.proofs.lemmas.Bool.Decides.{nat_tests}
use Rattle.nss_tree.specs.Statements as s
use Rattle.ncs_emit.specs.declared.jump.Jump.TheVariants.{Jmp, Jz}
use Rattle.ncs_emit.specs.Labelled.{Line, JumpTo, Label, LabelledCode, placements}
use Rattle.ncs_emit.specs.Laws.{PlacementsAdd}
use Rattle.typing_rules.specs.Typed.{TypedExpr, TypedStmt, TypedStmts, type_of}
use Rattle.typing_rules.specs.Cells.{cells}
use Rattle.emission_rules.specs.Parts.{ExprsPlaceAbove, StmtPlacesAbove}
use Rattle.emission_rules.specs.Layout.{Layout, declared_cells, all_declared_cells}
use Rattle.emission_rules.specs.Operations.{dropped}
use Rattle.emission_rules.specs.Expressions.{emit, labels}
use Rattle.emission_rules.specs.Statements.{Exits, in_switch, is_label, is_default, count_labels, behind, placed, placed_on, test_of, tests, otherwise, evaluated, tested, some_labels, stmt_labels}
use Rattle.emission_rules.specs.Statements.{all_stmt_labels, emit_stmt, emit_stmts}
use Rattle.codegen_expr.specs.Emitted.{extended}

-- ---- where a switch goes on

default_is_label : (x : TypedStmt) → is_default x ≡ true → is_label x ≡ true
default_is_label (s.block i xs) is = absurd cc
default_is_label (s.empty i) is = absurd cc
default_is_label (s.expression i e) is = absurd cc
default_is_label (s.if_only i e a) is = absurd cc
default_is_label (s.if_else i e a b) is = absurd cc
default_is_label (s.while_loop i e a) is = absurd cc
default_is_label (s.do_loop i a e) is = absurd cc
default_is_label (s.for_loop i x y z a) is = absurd cc
default_is_label (s.switch i e xs) is = absurd cc
default_is_label (s.break_off i) is = absurd cc
default_is_label (s.continue_on i) is = absurd cc
default_is_label (s.return_from i e) is = absurd cc
default_is_label (s.declaration i t xs) is = absurd cc
default_is_label (s.case_label i k) is = absurd cc
default_is_label (s.default_label i) is = refl

counted_on : (b : Bool) (k c : ℕ) → cond b (k + 1) k + c ≡ k + cond b (1 + c) c
counted_on true k c = omega arith
counted_on false k c = refl

chosen : (b d : Bool) (at c made x : ℕ) → (d ≡ true → b ≡ true) → at + cond b (1 + c) c ≤ made → x < made → cond d at x < made
chosen true true at c made x f le lt = omega arith
chosen false true at c made x f le lt = let e : false ≡ true = f refl in absurd cc
chosen true false at c made x f le lt = lt
chosen false false at c made x f le lt = lt

pub otherwise_made : (end at made : ℕ) (xs : TypedStmts) → end < made → at + count_labels xs ≤ made → otherwise end at xs < made
otherwise_made end at made s.no_stmt lt le = lt
otherwise_made end at made (s.more_stmts x xs) lt le =
    chosen (is_label x) (is_default x) at (count_labels xs) made (otherwise end (behind at x) xs) (default_is_label x) le
    (otherwise_made end (behind at x) made xs lt (omega (arith, counted_on (is_label x) at (count_labels xs))))

-- ---- lines that place no label

none_both : (add : PlacementsAdd) (xs ys : List Line) (label : ℕ) → placements xs label ≡ 0 → placements ys label ≡ 0 → placements (xs ++ ys) label ≡ 0
none_both add xs ys label f g = omega (arith, add xs ys label)

dropped_none : (n label : ℕ) → placements (dropped n) label ≡ 0
dropped_none zero label = refl
dropped_none (suc n) label = refl

pub evaluated_none : (add : PlacementsAdd) (above : ExprsPlaceAbove) (l : Layout) (n d : ℕ) (x : Option TypedExpr) (label : ℕ) → label < n → placements (evaluated l n d x) label ≡ 0
evaluated_none add above l n d None label lt = refl
evaluated_none add above l n d (Some x) label lt = none_both add (emit l n d x)
    (dropped (cells l.structs (type_of x))) label (above l n d x label lt)
    (dropped_none (cells l.structs (type_of x)) label)

pub tested_none : (add : PlacementsAdd) (above : ExprsPlaceAbove) (l : Layout) (n d : ℕ) (x : Option TypedExpr) (label : ℕ) → label < n → placements (tested l n d x) label ≡ 0
tested_none add above l n d None label lt = refl
tested_none add above l n d (Some x) label lt = above l n d x label lt

other_label : (k label : ℕ) → k < label → ◌≡◌ {A = ℕ} (cond (eqb k label) 1 0) 0
other_label k label lt = grind (arith, nat_tests)

test_none : (at : ℕ) (x : TypedStmt) (label : ℕ) → placements (test_of at x) label ≡ 0
test_none at (s.block m xs) label = refl
test_none at (s.empty m) label = refl
test_none at (s.expression m e) label = refl
test_none at (s.if_only m e a) label = refl
test_none at (s.if_else m e a b) label = refl
test_none at (s.while_loop m e a) label = refl
test_none at (s.do_loop m a e) label = refl
test_none at (s.for_loop m x y z a) label = refl
test_none at (s.switch m e xs) label = refl
test_none at (s.break_off m) label = refl
test_none at (s.continue_on m) label = refl
test_none at (s.return_from m e) label = refl
test_none at (s.declaration m t xs) label = refl
test_none at (s.case_label m k) label = refl
test_none at (s.default_label m) label = refl

tests_none : (add : PlacementsAdd) (at : ℕ) (xs : TypedStmts) (label : ℕ) → placements (tests at xs) label ≡ 0
tests_none add at s.no_stmt label = refl
tests_none add at (s.more_stmts x xs) label = none_both add (test_of at x) (tests (behind at x) xs) label (test_none at x label) (tests_none add (behind at x) xs label)

-- ---- the end of a `for`

pub for_open : (add : PlacementsAdd) (exprs : ExprsPlaceAbove) (stmt : StmtPlacesAbove) (l : Layout) (ex : Exits)
    (d top next last end : ℕ) (x y z : Option TypedExpr) (a : TypedStmt) (c1 c2 c3 c4 c5 : LabelledCode)
    → c2 ≡ extended c1 (evaluated l c1.labels d x) (some_labels x)
    → c3 ≡ extended c2 (Label top ∷ (tested l c2.labels d y ++ JumpTo Jz last ∷ [])) (some_labels y)
    → c4 ≡ extended c3 (emit_stmt l ex c3.labels d a) (stmt_labels a)
    → c5 ≡ extended c4 (Label next ∷ (evaluated l c4.labels d z ++ JumpTo Jmp top ∷ [])) (some_labels z)
    → end < c1.labels → top < end → next < end → placements c1.lines end ≡ 0 → placements c5.lines end ≡ 0
for_open add exprs stmt l ex d top next last end x y z a c1 c2 c3 c4 c5 e2 e3 e4 e5 made lt-top lt-next unplaced =
    let n2 : c2.labels ≡ c1.labels + some_labels x = ap (λ (c : LabelledCode). c.labels) e2 in
    let n3 : c3.labels ≡ c2.labels + some_labels y = ap (λ (c : LabelledCode). c.labels) e3 in
    let n4 : c4.labels ≡ c3.labels + stmt_labels a = ap (λ (c : LabelledCode). c.labels) e4 in
    let p2 : placements c2.lines end
    ≡ 0 = ap (λ (c : LabelledCode). placements c.lines end) e2
    ∙ none_both add c1.lines (evaluated l c1.labels d x) end unplaced
    (evaluated_none add exprs l c1.labels d x end made) in
    let p3 : placements c3.lines end ≡ 0 = ap (λ (c : LabelledCode). placements c.lines end) e3
    ∙ none_both add c2.lines (Label top ∷ (tested l c2.labels d y ++ JumpTo Jz last ∷ [])) end p2
    (omega (arith, other_label top end lt-top, add (tested l c2.labels d y) (JumpTo Jz last ∷ []) end, tested_none add exprs l c2.labels d y end (omega arith))) in
    let p4 : placements c4.lines end
    ≡ 0 = ap (λ (c : LabelledCode). placements c.lines end) e4
    ∙ none_both add c3.lines (emit_stmt l ex c3.labels d a) end p3 (stmt l ex c3.labels d a end (omega arith)) in
    ap (λ (c : LabelledCode). placements c.lines end) e5
    ∙ none_both add c4.lines (Label next ∷ (evaluated l c4.labels d z ++ JumpTo Jmp top ∷ [])) end p4
    (omega (arith, other_label next end lt-next, add (evaluated l c4.labels d z) (JumpTo Jmp top ∷ []) end, evaluated_none add exprs l c4.labels d z end (omega arith)))

-- ---- a switch

-- its labels are open behind the choice
pub choice_open : (add : PlacementsAdd) (exprs : ExprsPlaceAbove) (l : Layout) (d end other : ℕ) (x : TypedExpr) (xs : TypedStmts) (c1 c2 : LabelledCode)
    → c2 ≡ extended c1 (emit l c1.labels d x ++ (tests (end + 1) xs ++ JumpTo Jmp other ∷ [])) (labels x) → (label : ℕ)
    → label < c1.labels → placements c1.lines label ≡ 0 → placements c2.lines label ≡ 0
choice_open add exprs l d end other x xs c1 c2 e label made unplaced =
    ap (λ (c : LabelledCode). placements c.lines label) e
    ∙ none_both add c1.lines (emit l c1.labels d x ++ (tests (end + 1) xs ++ JumpTo Jmp other ∷ [])) label unplaced
    (none_both add (emit l c1.labels d x) (tests (end + 1) xs ++ JumpTo Jmp other ∷ []) label (exprs l c1.labels d x label made)
    (none_both add (tests (end + 1) xs) (JumpTo Jmp other ∷ []) label (tests_none add (end + 1) xs label) refl))

placed_not : (b : Bool) (at label : ℕ) → label < at → placements (cond b (Label at ∷ []) []) label ≡ 0
placed_not true at label lt = grind (arith, nat_tests)
placed_not false at label lt = refl

below_behind : (b : Bool) (at label : ℕ) → label < at → label < cond b (at + 1) at
below_behind true at label lt = omega arith
below_behind false at label lt = lt

-- statements that stand directly in it place no label below their next ones
pub row_none : (add : PlacementsAdd) (stmt : StmtPlacesAbove) (l : Layout) (ex : Exits) (n d at : ℕ) (xs : TypedStmts)
    (label : ℕ) → label < n → label < at → placements (emit_stmts l ex n d (Some at) xs) label ≡ 0
row_none add stmt l ex n d at s.no_stmt label below-n below-at = refl
row_none add stmt l ex n d at (s.more_stmts x xs) label below-n below-at =
    none_both add (placed (Some at) x)
    (emit_stmt l ex n d x ++ emit_stmts l ex (n + stmt_labels x) (d + declared_cells l.structs x)
    (placed_on (Some at) x) xs) label (placed_not (is_label x) at label below-at)
    (none_both add (emit_stmt l ex n d x) (emit_stmts l ex (n + stmt_labels x) (d + declared_cells l.structs x) (placed_on (Some at) x) xs) label (stmt l ex n d x label below-n)
    (row_none add stmt l ex (n + stmt_labels x) (d + declared_cells l.structs x) (behind at x) xs label (omega arith) (below_behind (is_label x) at label below-at)))

pub close_open : (add : PlacementsAdd) (stmt : StmtPlacesAbove) (l : Layout) (ex : Exits) (d at end : ℕ)
    (xs : TypedStmts) (c2 c3 : LabelledCode)
    → c3 ≡ extended c2 (emit_stmts l ex c2.labels d (Some at) xs) (all_stmt_labels xs)
    → end < c2.labels → end < at → placements c2.lines end ≡ 0 → placements c3.lines end ≡ 0
close_open add stmt l ex d at end xs c2 c3 e made lt unplaced =
    ap (λ (c : LabelledCode). placements c.lines end) e
    ∙ none_both add c2.lines (emit_stmts l ex c2.labels d (Some at) xs) end unplaced (row_none add stmt l ex c2.labels d at xs end made lt)

on_ok : {T E P Q : Type 0} (r : Result T E) → OnOk r P → (P → Q) → OnOk r Q
on_ok (Ok x) p f = f p
on_ok (Err e) p f = tt

both_same : (xs ys : List Line) (n m : ℕ) → xs ≡ ys → n ≡ m → ◌≡◌ {A = LabelledCode} (record { lines = xs; labels = n }) (record { lines = ys; labels = m })
both_same xs ys n m e f = ap (λ zs. record { lines = zs; labels = n }) e ∙ ap (λ k. record { lines = ys; labels = k }) f

head_then : (a b : List Line) (j : Line) (c : List Line) → (a ++ (b ++ j ∷ [])) ++ c ≡ a ++ (b ++ (j ∷ c))
head_then a b j c = append_assoc a (b ++ j ∷ []) c ∙ ap (λ ys. a ++ ys) (append_assoc b (j ∷ []) c)

module _ (l : Layout) (around ex : Exits) (d cells : ℕ) (x : TypedExpr) (xs : TypedStmts) (c0 c1 c2 c3 : LabelledCode) (end : ℕ) where
  pub switch_code : {T E : Type 0} (r : Result T E) (c4 : LabelledCode) → end ≡ c0.labels → c1 ≡ record c0 { labels = c0.labels + (1 + count_labels xs) }
      → c2 ≡ extended c1 (emit l c1.labels d x ++ (tests (end + 1) xs ++ JumpTo Jmp (otherwise end (end + 1) xs) ∷ [])) (labels x)
      → ex ≡ in_switch end (d + 1) around
      → c3 ≡ extended c2 (emit_stmts l ex c2.labels (d + 1) (Some (end + 1)) xs) (all_stmt_labels xs)
      → cells ≡ all_declared_cells l.structs xs
      → OnOk r (c4 ≡ record c3 { lines = c3.lines ++ (dropped cells ++ Label end ∷ dropped 1) })
      → OnOk r (c4 ≡ extended c0 (emit_stmt l around c0.labels d (s.switch 0 x xs)) (1 + count_labels xs + labels x + all_stmt_labels xs))
  switch_code r c4 is-end e1 e2 is-ex e3 is-cells put =
      let n = c0.labels in
      let m : n + (1 + count_labels xs) ≡ n + 1 + count_labels xs = omega arith in
      let f1 : c1 ≡ record c0 { labels = n + 1 + count_labels xs } = e1 ∙ ap (λ (k : ℕ). record c0 { labels = k }) m in
      let head = emit l (n + 1 + count_labels xs) d x ++ (tests (n + 1) xs ++ JumpTo Jmp (otherwise n (n + 1) xs) ∷ []) in
      let f2 : c2 ≡ extended (record c0 { labels = n + 1 + count_labels xs }) head (labels x) =
      e2 ∙ (ap (λ c. extended c (emit l c.labels d x ++ (tests (end + 1) xs ++ JumpTo Jmp (otherwise end (end + 1) xs) ∷ [])) (labels x)) f1
      ∙ ap (λ k. extended (record c0 { labels = n + 1 + count_labels xs })
      (emit l (n + 1 + count_labels xs) d x ++ (tests (k + 1) xs ++ JumpTo Jmp (otherwise k (k + 1) xs) ∷ []))
      (labels x)) is-end) in
      let body = emit_stmts l (in_switch n (d + 1) around) (n + 1 + count_labels xs + labels x) (d + 1) (Some (n + 1)) xs in
      let f3 : c3 ≡ record { lines = (c0.lines ++ head) ++ body; labels = n + 1 + count_labels xs + labels x + all_stmt_labels xs } =
      e3 ∙ (ap (λ c. extended c (emit_stmts l ex c.labels (d + 1) (Some (end + 1)) xs) (all_stmt_labels xs)) f2
      ∙ (ap (λ z. record {
        lines = (c0.lines ++ head)
            ++ emit_stmts l z (n + 1 + count_labels xs + labels x) (d + 1) (Some (end + 1)) xs;
        labels = n + 1 + count_labels xs + labels x + all_stmt_labels xs;
      }) is-ex
      ∙ ap (λ k. record {
        lines = (c0.lines ++ head)
            ++ emit_stmts l (in_switch k (d + 1) around) (n + 1 + count_labels xs + labels x) (d + 1) (Some (k + 1)) xs;
        labels = n + 1 + count_labels xs + labels x + all_stmt_labels xs;
      }) is-end)) in
      on_ok r put (λ e. e
      ∙ (ap (λ (c : LabelledCode). record c { lines = c.lines ++ (dropped cells ++ Label end ∷ dropped 1) }) f3
      ∙ both_same _ _ _ _
      (ap (λ k. ((c0.lines ++ head) ++ body) ++ (dropped k ++ Label end ∷ dropped 1)) is-cells
      ∙ (ap (λ k. ((c0.lines ++ head) ++ body) ++ (dropped (all_declared_cells l.structs xs) ++ Label k ∷ dropped 1)) is-end
      ∙ (append_assoc (c0.lines ++ head) body _ ∙ (append_assoc c0.lines head _
      ∙ ap (λ ys. c0.lines ++ ys)
      (head_then (emit l (n + 1 + count_labels xs) d x) (tests (n + 1) xs) (JumpTo Jmp (otherwise n (n + 1) xs))
      (body ++ (dropped (all_declared_cells l.structs xs) ++ Label n ∷ dropped 1)))))))
      (omega arith)))
