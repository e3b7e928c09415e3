-- Statements in a row: what is left, behind what is done, gives what all give.
use Rattle.std.proofs.Common.{◌≡◌, ◌<◌, ◌≤◌, ◌+◌, ℕ, Bool, true, false, cond, List, [], ◌∷◌, ◌++◌, Option, Some, None, zero, suc, length, drop, get_or, arith, refl, ap, sym, ◌∙◌, append_assoc, subst}
use Rattle.std.specs.Prelude.{IsTrue}
use Rattle.std.proofs.lemmas.Bool.Decides.{nat_tests}
use Rattle.nss_tree.specs.declared.statements.Stmt.{Stmt}
use Rattle.nss_tree.specs.Reading.{tree_of_stmts}
use Rattle.nss_tree.specs.Statements as s
use Rattle.nwq_value.specs.declared.value.Ty.{Ty}
use Rattle.nwq_value.specs.declared.engine.Const.{Const}
use Rattle.ncs_emit.specs.Labelled.{Line, Label, LabelledCode, placements}
use Rattle.ncs_emit.specs.Laws.{PlacementsAdd}
use Rattle.typing_rules.specs.declared.expressions.Expression.{Expression}
use Rattle.typing_rules.specs.declared.places.Variable.{Variable}
use Rattle.typing_rules.specs.Typed.{TypedName, TypedStmt, TypedStmts}
use Rattle.typing_rules.specs.UnitReading.{typed_stmt, typed_stmts}
use Rattle.emission_rules.specs.Parts.{StmtPlacesAbove}
use Rattle.emission_rules.specs.Bounds.{frame_limit, names_weight, stmt_weight, all_stmt_weight, IsStmt, AreStmts, AreNames}
use Rattle.emission_rules.specs.Layout.{Layout, names_cells, declared_cells, all_declared_cells}
use Rattle.emission_rules.specs.Statements.{Exits, is_label, count_labels, placed, placed_on, stmt_labels, all_stmt_labels, emit_stmt, emit_stmts}
use Rattle.codegen_expr.specs.Emitted.{extended}
use Rattle.codegen_unit.specs.declared.exits.Exits as code
use Rattle.codegen_unit.specs.Ready.{AreOpenIn, IsOpenAt, StmtReady, StmtsReady, SwitchReady, leads}
use Rattle.codegen_unit.proofs.Arms.{size, all_size, made_grows}
use Rattle.codegen_unit.proofs.Bounded.{extended_none, extended_twice, stmts_grow}
use Rattle.codegen_unit.proofs.Known.{stmts_next, stmts_past}

-- ---- cells

pub names_few : (n : ℕ) (l : Layout) (xs : List TypedName) → AreNames n l xs → names_cells l.structs xs ≤ names_weight xs
names_few n l [] are = omega arith
names_few n l (x ∷ xs) are = omega (arith, are.0.few, names_few n l xs are.2)

pub declared_few : (n : ℕ) (l : Layout) (b k : Bool) (x : TypedStmt) → IsStmt n l b k x → declared_cells l.structs x ≤ stmt_weight x
declared_few n l b k (s.block i xs) is = omega arith
declared_few n l b k (s.empty i) is = omega arith
declared_few n l b k (s.expression i e) is = omega arith
declared_few n l b k (s.if_only i e a) is = omega arith
declared_few n l b k (s.if_else i e a c) is = omega arith
declared_few n l b k (s.while_loop i e a) is = omega arith
declared_few n l b k (s.do_loop i a e) is = omega arith
declared_few n l b k (s.for_loop i x y z a) is = omega arith
declared_few n l b k (s.switch i e xs) is = omega arith
declared_few n l b k (s.break_off i) is = omega arith
declared_few n l b k (s.continue_on i) is = omega arith
declared_few n l b k (s.return_from i e) is = omega arith
declared_few n l b k (s.declaration i t xs) is = names_few n l xs is
declared_few n l b k (s.case_label i c) is = omega arith
declared_few n l b k (s.default_label i) is = omega arith

-- ---- labels of a switch

placed_apart : (b : Bool) (k label : ℕ) → cond b (k + 1) k ≤ label → placements (cond b (Label k ∷ []) []) label ≡ 0
placed_apart true k label le = grind (arith, nat_tests)
placed_apart false k label le = refl

counted_on : (b : Bool) (k c : ℕ) → cond b (k + 1) k + c ≡ k + cond b (1 + c) c
counted_on true k c = omega arith
counted_on false k c = refl

first_open : (b : Bool) (made k c : ℕ) (lines : List Line) → k + cond b (1 + c) c ≤ made → ((label : ℕ) → k ≤ label → label < k + cond b (1 + c) c → placements lines label ≡ 0)
    → IsTrue b → (k < made) × (placements lines k ≡ 0)
first_open true made k c lines inside unplaced is = (omega arith, unplaced k (omega arith) (omega arith))
first_open false made k c lines inside unplaced is = absurd cc

pub open_at : (made : ℕ) (lines : List Line) (at : Option ℕ) (x : TypedStmt) (xs : TypedStmts) → AreOpenIn made lines at (s.more_stmts x xs) → IsOpenAt made lines at x
open_at made lines None x xs opened = tt
open_at made lines (Some k) x xs opened = first_open (is_label x) made k (count_labels xs) lines opened.inside opened.unplaced

behind_more : (b : Bool) (k : ℕ) → k ≤ cond b (k + 1) k
behind_more true k = omega arith
behind_more false k = omega arith

pub open_step : (add : PlacementsAdd) (made more : ℕ) (lines now emitted : List Line) (at : Option ℕ) (x : TypedStmt) (xs : TypedStmts) → made ≤ more → now ≡ (lines ++ placed at x) ++ emitted
    → ((label : ℕ) → label < made → placements emitted label ≡ 0) → AreOpenIn made lines at (s.more_stmts x xs) → AreOpenIn more now (placed_on at x) xs
open_step add made more lines now emitted None x xs le is none opened = tt
open_step add made more lines now emitted (Some k) x xs le is none opened =
    let on = counted_on (is_label x) k (count_labels xs) in
    record {
      inside = omega (arith, opened.inside);
      unplaced = λ label from to.
          ap (λ ls. placements ls label) is
          ∙ (add (lines ++ placed (Some k) x) emitted label
          ∙ omega (
            arith,
            add lines (placed (Some k) x) label,
            none label (omega (arith, opened.inside)),
            placed_apart (is_label x) k label from,
            opened.unplaced label (omega (arith, behind_more (is_label x) k)) (omega arith),
          ));
    }

drop_size : (ys : List (Stmt Expression Const Ty Variable)) (j : ℕ) → all_size (typed_stmts (drop j ys)) ≤ all_size (typed_stmts ys)
unfolding tree_of_stmts
drop_size ys zero = omega arith
drop_size [] (suc j) = omega arith
drop_size (y ∷ ys) (suc j) = omega (arith, drop_size ys j)

all_declared_few : (n : ℕ) (l : Layout) (b k : Bool) (xs : TypedStmts) → AreStmts n l b k xs → all_declared_cells l.structs xs ≤ all_stmt_weight xs
all_declared_few n l b k s.no_stmt are = omega arith
all_declared_few n l b k (s.more_stmts x xs) are = omega (arith, declared_few n l b k x are.0, all_declared_few n l b k xs are.1)

pub stmts_few : (n : ℕ) (l : Layout) (d : ℕ) (ex : code.Exits) (xs : TypedStmts) → StmtsReady n l d ex xs → all_declared_cells l.structs xs ≤ frame_limit
stmts_few n l d ex xs ready = omega (arith, ready.deep, all_declared_few n l (leads ex.break_to) (leads ex.continue_to) xs ready.bounded)

pub switch_few : (n : ℕ) (l : Layout) (d : ℕ) (ex : code.Exits) (xs : TypedStmts) → SwitchReady n l d ex xs → all_declared_cells l.structs xs ≤ frame_limit
switch_few n l d ex xs ready = omega (arith, ready.deep, all_declared_few n l true (leads ex.continue_to) xs ready.bounded)

-- ---- one statement more

module _ (l : Layout) (ex : code.Exits) (xs : List (Stmt Expression Const Ty Variable)) (i : ℕ) (x : Stmt Expression Const Ty Variable) (is : x ≡ get_or xs i x) (lt : i < length xs) where
  pub rest_known : (n d : ℕ) → StmtsReady n l d ex (typed_stmts (drop i xs)) → StmtsReady n l d ex (s.more_stmts (typed_stmt x) (typed_stmts (drop (i + 1) xs)))
  rest_known n d = subst (StmtsReady n l d ex) (stmts_next (λ ys. ys) xs i x is lt)

  pub open_known : (n : ℕ) (lines : List Line) (at : Option ℕ) → AreOpenIn n lines at (typed_stmts (drop i xs)) → AreOpenIn n lines at (s.more_stmts (typed_stmt x) (typed_stmts (drop (i + 1) xs)))
  open_known n lines at = subst (AreOpenIn n lines at) (stmts_next (λ ys. ys) xs i x is lt)

  pub next_ready : (n d : ℕ) → StmtsReady n l d ex (typed_stmts (drop i xs)) → StmtReady n l d ex (typed_stmt x)
  next_ready n d ready =
      let r = rest_known n d ready in
      record {
        bounded = r.bounded.0;
        deep = omega (arith, r.deep);
        globals = r.globals;
        labelled = omega (arith, r.labelled);
        break_made = r.break_made;
        continue_made = r.continue_made;
      }

  pub next_few : (n d : ℕ) → StmtsReady n l d ex (typed_stmts (drop i xs)) → declared_cells l.structs (typed_stmt x) ≤ stmt_weight (typed_stmt x)
  next_few n d ready = declared_few n l (leads ex.break_to) (leads ex.continue_to) (typed_stmt x) (rest_known n d ready).bounded.0

  pub rest_ready : (n m d e : ℕ) → StmtsReady n l d ex (typed_stmts (drop i xs)) → m ≡ n + stmt_labels (typed_stmt x) → e ≡ d + declared_cells l.structs (typed_stmt x)
      → StmtsReady m l e ex (typed_stmts (drop (i + 1) xs))
  rest_ready n m d e ready made deeper =
      let r = rest_known n d ready in
      record {
        bounded = stmts_grow n m l (leads ex.break_to) (leads ex.continue_to) (typed_stmts (drop (i + 1) xs)) (omega arith) r.bounded.1;
        deep = omega (arith, r.deep, next_few n d ready);
        globals = r.globals;
        labelled = omega (arith, r.labelled);
        break_made = made_grows n m ex.break_to (omega arith) r.break_made;
        continue_made = made_grows n m ex.continue_to (omega arith) r.continue_made;
      }

  pub cells_step : (d e all : ℕ) → e ≡ d + declared_cells l.structs (typed_stmt x) → d + all_declared_cells l.structs (typed_stmts (drop i xs)) ≡ all
      → e + all_declared_cells l.structs (typed_stmts (drop (i + 1) xs)) ≡ all
  cells_step d e all deeper before = omega (arith, stmts_next (all_declared_cells l.structs) xs i x is lt)

  pub code_step : (out : Exits) (now placing after end : LabelledCode) (d e : ℕ) (at on : Option ℕ) → placing ≡ record now { lines = now.lines ++ placed at (typed_stmt x) }
      → after ≡ extended placing (emit_stmt l out placing.labels d (typed_stmt x)) (stmt_labels (typed_stmt x)) → e ≡ d + declared_cells l.structs (typed_stmt x) → on ≡ placed_on at (typed_stmt x)
      → extended now (emit_stmts l out now.labels d at (typed_stmts (drop i xs))) (all_stmt_labels (typed_stmts (drop i xs))) ≡ end
      → extended after (emit_stmts l out after.labels e on (typed_stmts (drop (i + 1) xs))) (all_stmt_labels (typed_stmts (drop (i + 1) xs))) ≡ end
  code_step out now placing after end d e at on put added deeper next before =
      let ys = typed_stmts (drop (i + 1) xs) in
      let p = placed at (typed_stmt x) in
      let c = emit_stmt l out now.labels d (typed_stmt x) in
      let k = stmt_labels (typed_stmt x) in
      let mid : after ≡ extended now (p ++ c) k =
      added ∙ (ap (λ (b : LabelledCode). extended b (emit_stmt l out b.labels d (typed_stmt x)) k) put
      ∙ ap (λ (ls : List Line). record { lines = ls; labels = now.labels + k }) (append_assoc now.lines p c)) in
      ap (λ b. extended b (emit_stmts l out b.labels e on ys) (all_stmt_labels ys)) mid
      ∙ (ap (λ z. extended (extended now (p ++ c) k) (emit_stmts l out (now.labels + k) z on ys) (all_stmt_labels ys)) deeper
      ∙ (ap (λ z. extended (extended now (p ++ c) k) (emit_stmts l out (now.labels + k) (d + declared_cells l.structs (typed_stmt x)) z ys) (all_stmt_labels ys)) next
      ∙ (extended_twice now (p ++ c)
      (emit_stmts l out (now.labels + k) (d + declared_cells l.structs (typed_stmt x))
      (placed_on at (typed_stmt x)) ys) k (all_stmt_labels ys) (k + all_stmt_labels ys) refl
      ∙ (ap (λ ls. extended now ls (k + all_stmt_labels ys)) (append_assoc p c _)
      ∙ (sym (stmts_next (λ zs. extended now (emit_stmts l out now.labels d at zs) (all_stmt_labels zs)) xs i x is lt) ∙ before)))))

  pub open_after : (add : PlacementsAdd) (above : StmtPlacesAbove) (out : Exits) (now placing after : LabelledCode)
      (d : ℕ) (at on : Option ℕ) → placing ≡ record now { lines = now.lines ++ placed at (typed_stmt x) }
      → after ≡ extended placing (emit_stmt l out placing.labels d (typed_stmt x)) (stmt_labels (typed_stmt x)) → on ≡ placed_on at (typed_stmt x)
      → AreOpenIn now.labels now.lines at (typed_stmts (drop i xs)) → AreOpenIn after.labels after.lines on (typed_stmts (drop (i + 1) xs))
  open_after add above out now placing after d at on put added next opened =
      let mid : after ≡ extended (record now { lines = now.lines ++ placed at (typed_stmt x) }) (emit_stmt l out now.labels d (typed_stmt x)) (stmt_labels (typed_stmt x)) =
      added ∙ ap (λ (b : LabelledCode). extended b (emit_stmt l out b.labels d (typed_stmt x)) (stmt_labels (typed_stmt x))) put in
      let more : after.labels ≡ now.labels + stmt_labels (typed_stmt x) = ap (λ (b : LabelledCode). b.labels) mid in
      subst (λ z. AreOpenIn after.labels after.lines z (typed_stmts (drop (i + 1) xs))) (sym next)
      (open_step add now.labels after.labels now.lines after.lines (emit_stmt l out now.labels d (typed_stmt x)) at (typed_stmt x) (typed_stmts (drop (i + 1) xs)) (omega arith)
      (ap (λ (b : LabelledCode). b.lines) mid) (above l out now.labels d (typed_stmt x)) (open_known now.labels now.lines at opened))

  pub next_falls : (t : ℕ) → all_size (typed_stmts xs) + 1 ≡ t → size (typed_stmt x) < t
  next_falls t falls = omega (arith, stmts_next all_size xs i x is lt, drop_size xs i)

pub code_done : (l : Layout) (out : Exits) (now end : LabelledCode) (xs : List (Stmt Expression Const Ty Variable)) (i d : ℕ) (at : Option ℕ) → length xs ≤ i
    → extended now (emit_stmts l out now.labels d at (typed_stmts (drop i xs))) (all_stmt_labels (typed_stmts (drop i xs))) ≡ end → now ≡ end
code_done l out now end xs i d at le before =
    extended_none now ∙ (sym (stmts_past (λ zs. extended now (emit_stmts l out now.labels d at zs) (all_stmt_labels zs)) xs i le) ∙ before)

pub cells_done : (l : Layout) (xs : List (Stmt Expression Const Ty Variable)) (i d all : ℕ) → length xs ≤ i → d + all_declared_cells l.structs (typed_stmts (drop i xs)) ≡ all → d ≡ all
cells_done l xs i d all le before = omega (arith, stmts_past (all_declared_cells l.structs) xs i le)
