-- A statement that is known.
use Rattle.std.proofs.Common.{◌≡◌, ◌<◌, ◌≤◌, ◌+◌, ℕ, Bool, true, false, cond, List, [], ◌∷◌, ◌++◌, Result, Ok, Err, length, drop, get_or, arith, ap, sym, refl, ◌∙◌, append_assoc}
use Rattle.std.specs.Result.{OnOk}
use Rattle.std.proofs.lemmas.List.{append-nil, at_drop_more, drop_all}
use Rattle.nss_tree.specs.declared.statements.Stmt.{Stmt}
use Rattle.nss_tree.specs.Reading.{tree_of_stmt, tree_of_stmts}
use Rattle.nss_tree.specs.Readings.{stmts_more}
use Rattle.nss_tree.specs.Statements.{PlainStmt, case_label, no_stmt, more_stmts, map_stmt, map_stmts}
use Rattle.nwq_value.specs.declared.value.Ty.{Ty}
use Rattle.nwq_value.specs.declared.engine.Const.{Const}
use Rattle.ncs_emit.specs.Labelled.{Line, LabelledCode}
use Rattle.typing_rules.specs.declared.expressions.Expression.{Expression}
use Rattle.typing_rules.specs.declared.places.Variable.{Variable}
use Rattle.typing_rules.specs.Reading.{plain}
use Rattle.typing_rules.specs.UnitReading.{typed_stmt, typed_stmts}
use Rattle.typing_rules.specs.Typed.{TypedStmts}
use Rattle.typing_rules.specs.Cells.{Structs}
use Rattle.emission_rules.specs.Layout.{declared_cells}
use Rattle.emission_rules.specs.Statements.{is_label, is_default, count_labels, behind, test_of, tests, otherwise}

pub known_label : (the : Stmt Expression Const Ty Variable) (s : PlainStmt Expression Const Ty Variable) (v : Bool)
    → tree_of_stmt the ≡ s → is_label (map_stmt plain s) ≡ v → v ≡ is_label (typed_stmt the)
known_label the s v is e = sym (ap (λ t. is_label (map_stmt plain t)) is ∙ e)

pub known_default : (the : Stmt Expression Const Ty Variable) (s : PlainStmt Expression Const Ty Variable) (v : Bool)
    → tree_of_stmt the ≡ s → is_default (map_stmt plain s) ≡ v → v ≡ is_default (typed_stmt the)
known_default the s v is e = sym (ap (λ t. is_default (map_stmt plain t)) is ∙ e)

pub known_cells : (structs : Structs) (the : Stmt Expression Const Ty Variable) (s : PlainStmt Expression Const Ty Variable) (v : ℕ) → tree_of_stmt the ≡ s
    → declared_cells structs (map_stmt plain s) ≡ v → v ≡ declared_cells structs (typed_stmt the)
known_cells structs the s v is e = sym (ap (λ t. declared_cells structs (map_stmt plain t)) is ∙ e)

pub known_no_test : (c : LabelledCode) (at : ℕ) (the : Stmt Expression Const Ty Variable) (s : PlainStmt Expression Const Ty Variable) → tree_of_stmt the ≡ s
    → test_of at (map_stmt plain s) ≡ [] → c ≡ record c { lines = c.lines ++ test_of at (typed_stmt the) }
known_no_test c at the s is e =
    ap (λ (ls : List Line). record c { lines = ls })
    (sym (append-nil c.lines) ∙ ap (λ ys. c.lines ++ ys) (sym (ap (λ t. test_of at (map_stmt plain t)) is ∙ e)))

on_ok : {T E P Q : Type 0} (r : Result T E) → OnOk r P → (P → Q) → OnOk r Q
on_ok (Ok x) p f = f p
on_ok (Err e) p f = tt

pub known_test : {T E : Type 0} (r : Result T E) (c d : LabelledCode) (at n : ℕ) (k : Const) (the : Stmt Expression Const Ty Variable) → tree_of_stmt the ≡ case_label n k
    → OnOk r (d ≡ record c { lines = c.lines ++ test_of at (case_label n k) }) → OnOk r (d ≡ record c { lines = c.lines ++ test_of at (typed_stmt the) })
known_test r c d at n k the is put =
    on_ok r put (λ e. e ∙ ap (λ (ls : List Line). record c { lines = c.lines ++ ls }) (sym (ap (λ t. test_of at (map_stmt plain t)) is)))

pub case_made : (at made n : ℕ) (k : Const) (the : Stmt Expression Const Ty Variable) → tree_of_stmt the ≡ case_label n k → behind at (typed_stmt the) ≤ made → at < made
case_made at made n k the is le =
    let e : behind at (typed_stmt the) ≡ at + 1 = ap (λ t. behind at (map_stmt plain t)) is in
    omega arith

-- ---- statements in a row, a statement at a time

pub stmts_next : {A : Type 0} (F : TypedStmts → A) (xs : List (Stmt Expression Const Ty Variable)) (i : ℕ) (x : Stmt Expression Const Ty Variable) → x ≡ get_or xs i x → i < length xs
    → F (typed_stmts (drop i xs)) ≡ F (more_stmts (typed_stmt x) (typed_stmts (drop (i + 1) xs)))
stmts_next F xs i x is lt =
    at_drop_more (λ ys. F (typed_stmts ys)) xs i x lt
    ∙ (ap (λ y. F (typed_stmts (y ∷ drop (i + 1) xs))) (sym is)
    ∙ ap (λ ys. F (map_stmts plain ys)) (stmts_more x (drop (i + 1) xs)))

pub stmts_past : {A : Type 0} (F : TypedStmts → A) (xs : List (Stmt Expression Const Ty Variable)) (i : ℕ) → length xs ≤ i → F (typed_stmts (drop i xs)) ≡ F no_stmt
unfolding tree_of_stmts
stmts_past F xs i le = ap (λ ys. F (typed_stmts ys)) (drop_all i xs le)

behind_count : (b : Bool) (at c : ℕ) → cond b (at + 1) at + c ≡ at + cond b (1 + c) c
behind_count true at c = omega arith
behind_count false at c = refl

pub count_step : (xs : List (Stmt Expression Const Ty Variable)) (i at : ℕ) (x : Stmt Expression Const Ty Variable) → x ≡ get_or xs i x → i < length xs
    → behind at (typed_stmt x) + count_labels (typed_stmts (drop (i + 1) xs)) ≡ at + count_labels (typed_stmts (drop i xs))
count_step xs i at x is lt =
    behind_count (is_label (typed_stmt x)) at (count_labels (typed_stmts (drop (i + 1) xs))) ∙ ap (λ n. at + n) (sym (stmts_next count_labels xs i x is lt))

pub tests_step : (now after end : LabelledCode) (xs : List (Stmt Expression Const Ty Variable)) (i at next : ℕ) (x : Stmt Expression Const Ty Variable) → x ≡ get_or xs i x → i < length xs
    → after ≡ record now { lines = now.lines ++ test_of at (typed_stmt x) } → next ≡ behind at (typed_stmt x)
    → ◌≡◌ {A = LabelledCode} (record now { lines = now.lines ++ tests at (typed_stmts (drop i xs)) }) end
    → ◌≡◌ {A = LabelledCode} (record after { lines = after.lines ++ tests next (typed_stmts (drop (i + 1) xs)) }) end
tests_step now after end xs i at next x is lt put on before =
    ap (λ (c : LabelledCode). record c { lines = c.lines ++ tests next (typed_stmts (drop (i + 1) xs)) }) put
    ∙ (ap (λ (ls : List Line). record now { lines = ls })
    (append_assoc now.lines (test_of at (typed_stmt x)) (tests next (typed_stmts (drop (i + 1) xs)))
    ∙ (ap (λ n. now.lines ++ (test_of at (typed_stmt x) ++ tests n (typed_stmts (drop (i + 1) xs)))) on
    ∙ sym (stmts_next (λ ys. now.lines ++ tests at ys) xs i x is lt)))
    ∙ before)

pub tests_done : (now end : LabelledCode) (xs : List (Stmt Expression Const Ty Variable)) (i at : ℕ) → length xs ≤ i
    → ◌≡◌ {A = LabelledCode} (record now { lines = now.lines ++ tests at (typed_stmts (drop i xs)) }) end → now ≡ end
tests_done now end xs i at le before =
    ap (λ (ls : List Line). record now { lines = ls }) (sym (append-nil now.lines) ∙ sym (stmts_past (λ ys. now.lines ++ tests at ys) xs i le)) ∙ before

picks_first : (b : Bool) (x y : ℕ) → b ≡ true → cond b x y ≡ x
picks_first b x y is = ap (λ z. cond z x y) is

picks_second : (b : Bool) (x y : ℕ) → b ≡ false → cond b x y ≡ y
picks_second b x y is = ap (λ z. cond z x y) is

pub default_found : (xs : List (Stmt Expression Const Ty Variable)) (i end at all : ℕ) (x : Stmt Expression Const Ty Variable) → x ≡ get_or xs i x → i < length xs → is_default (typed_stmt x) ≡ true
    → otherwise end at (typed_stmts (drop i xs)) ≡ all → at ≡ all
default_found xs i end at all x is lt b before =
    sym (stmts_next (otherwise end at) xs i x is lt ∙ picks_first (is_default (typed_stmt x)) at (otherwise end (behind at (typed_stmt x)) (typed_stmts (drop (i + 1) xs))) b) ∙ before

pub default_passed : (xs : List (Stmt Expression Const Ty Variable)) (i end at next all : ℕ)
    (x : Stmt Expression Const Ty Variable) → x ≡ get_or xs i x → i < length xs → is_default (typed_stmt x) ≡ false
    → next ≡ behind at (typed_stmt x) → otherwise end at (typed_stmts (drop i xs)) ≡ all → otherwise end next (typed_stmts (drop (i + 1) xs)) ≡ all
default_passed xs i end at next all x is lt b on before =
    ap (λ n. otherwise end n (typed_stmts (drop (i + 1) xs))) on
    ∙ (sym (stmts_next (otherwise end at) xs i x is lt ∙ picks_second (is_default (typed_stmt x)) at (otherwise end (behind at (typed_stmt x)) (typed_stmts (drop (i + 1) xs))) b) ∙ before)

pub default_nowhere : (xs : List (Stmt Expression Const Ty Variable)) (i end at all : ℕ) → length xs ≤ i → otherwise end at (typed_stmts (drop i xs)) ≡ all → end ≡ all
default_nowhere xs i end at all le before = sym (stmts_past (otherwise end at) xs i le) ∙ before
