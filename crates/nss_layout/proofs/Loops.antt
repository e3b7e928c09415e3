-- The positions of statements in a row, a statement at a time, and of a statement that is known.
use Rattle.std.proofs.Common.{◌≡◌, ◌<◌, ◌≤◌, ◌+◌, ℕ, List, [], ◌∷◌, ◌++◌, Result, Ok, Err, length, drop, get_or, arith, ap, sym, ◌∙◌, append_assoc}
use Rattle.std.specs.Result.{OnOk}
use Rattle.std.proofs.lemmas.List.{append-nil, at_drop_more, drop_all}
use Rattle.nss_tree.specs.declared.statements.Stmt.{Stmt}
use Rattle.nss_tree.specs.declared.units.Item.{Item}
use Rattle.nss_tree.specs.Reading.{tree_of_stmt, tree_of_stmts}
use Rattle.nss_tree.specs.Readings.{stmts_more}
use Rattle.nss_tree.specs.Statements.{PlainStmt, map_stmt, map_stmts}
use Rattle.nwq_value.specs.declared.value.Ty.{Ty}
use Rattle.nwq_value.specs.declared.engine.Const.{Const}
use Rattle.typing_rules.specs.declared.expressions.Expression.{Expression}
use Rattle.typing_rules.specs.declared.places.Variable.{Variable}
use Rattle.typing_rules.specs.Reading.{plain}
use Rattle.typing_rules.specs.Typed.{TypedItem}
use Rattle.typing_rules.specs.UnitReading.{typed_item, typed_items, typed_stmt, typed_stmts}
use Rattle.typing_rules.specs.Cells.{Structs, structs_from}
use Rattle.emission_rules.specs.Layout.{declared_cells, positions, all_positions}

-- the next member
next : {X Y : Type 0} (F : List X → Y) (xs : List X) (i : ℕ) (x : X) → x ≡ get_or xs i x → i < length xs → F (drop i xs) ≡ F (x ∷ drop (i + 1) xs)
next F xs i x is lt = at_drop_more F xs i x lt ∙ ap (λ y. F (y ∷ drop (i + 1) xs)) (sym is)

-- ---- structs

pub structs_step : (xs : List (Item Expression Const Ty Variable)) (i : ℕ) (x : Item Expression Const Ty Variable) (now after end : Structs) → x ≡ get_or xs i x → i < length xs
    → ((rest : List TypedItem) → structs_from now (typed_item x ∷ rest) ≡ structs_from after rest)
    → structs_from now (typed_items (drop i xs)) ≡ end → structs_from after (typed_items (drop (i + 1) xs)) ≡ end
structs_step xs i x now after end is lt put before =
    sym (put (typed_items (drop (i + 1) xs))) ∙ (sym (next (λ ys. structs_from now (typed_items ys)) xs i x is lt) ∙ before)

-- ---- statements

pub stmts_step : (structs : Structs) (xs : List (Stmt Expression Const Ty Variable)) (i : ℕ) (x : Stmt Expression Const Ty Variable) (depth behind : ℕ) (now after end : List ℕ)
    → x ≡ get_or xs i x → i < length xs → after ≡ now ++ positions structs depth (typed_stmt x) → behind ≡ depth + declared_cells structs (typed_stmt x)
    → now ++ all_positions structs depth (typed_stmts (drop i xs)) ≡ end → after ++ all_positions structs behind (typed_stmts (drop (i + 1) xs)) ≡ end
stmts_step structs xs i x depth behind now after end is lt put deeper before =
    ap (λ ys. ys ++ all_positions structs behind (typed_stmts (drop (i + 1) xs))) put
    ∙ (append_assoc now (positions structs depth (typed_stmt x)) (all_positions structs behind (typed_stmts (drop (i + 1) xs)))
    ∙ (ap (λ d. now ++ (positions structs depth (typed_stmt x) ++ all_positions structs d (typed_stmts (drop (i + 1) xs)))) deeper
    ∙ (ap (λ ys. now ++ all_positions structs depth (map_stmts plain ys)) (sym (stmts_more x (drop (i + 1) xs)))
    ∙ (sym (next (λ ys. now ++ all_positions structs depth (typed_stmts ys)) xs i x is lt) ∙ before))))

pub stmts_done : (structs : Structs) (xs : List (Stmt Expression Const Ty Variable)) (i depth : ℕ) (now end : List ℕ) → length xs ≤ i
    → now ++ all_positions structs depth (typed_stmts (drop i xs)) ≡ end → now ≡ end
unfolding tree_of_stmts
stmts_done structs xs i depth now end le done =
    sym (append-nil now) ∙ (ap (λ ys. now ++ all_positions structs depth (typed_stmts ys)) (sym (drop_all i xs le)) ∙ done)

-- ---- a statement that is known

on_ok : {T E P Q : Type 0} (r : Result T E) → OnOk r P → (P → Q) → OnOk r Q
on_ok (Ok x) p f = f p
on_ok (Err e) p f = tt

pub known_behind : (structs : Structs) (the : Stmt Expression Const Ty Variable) (s : PlainStmt Expression Const Ty Variable) (depth : ℕ) → tree_of_stmt the ≡ s
    → declared_cells structs (map_stmt plain s) ≡ 0 → depth ≡ depth + declared_cells structs (typed_stmt the)
known_behind structs the s depth is none =
    let e : declared_cells structs (typed_stmt the) ≡ 0 = ap (λ t. declared_cells structs (map_stmt plain t)) is ∙ none in
    omega arith

pub none_put : (structs : Structs) (the : Stmt Expression Const Ty Variable) (s : PlainStmt Expression Const Ty Variable) (depth : ℕ) (now : List ℕ) → tree_of_stmt the ≡ s
    → positions structs depth (map_stmt plain s) ≡ [] → now ≡ now ++ positions structs depth (typed_stmt the)
none_put structs the s depth now is none =
    sym (append-nil now) ∙ ap (λ ys. now ++ ys) (sym (ap (λ t. positions structs depth (map_stmt plain t)) is ∙ none))

pub one_put : {T E : Type 0} (r : Result T E) (structs : Structs) (the : Stmt Expression Const Ty Variable) (s : PlainStmt Expression Const Ty Variable) (depth : ℕ) (now after part : List ℕ)
    → tree_of_stmt the ≡ s → positions structs depth (map_stmt plain s) ≡ part → OnOk r (after ≡ now ++ part)
    → OnOk r (after ≡ now ++ positions structs depth (typed_stmt the))
one_put r structs the s depth now after part is same put =
    on_ok r put (λ e. e ∙ ap (λ ys. now ++ ys) (sym (ap (λ t. positions structs depth (map_stmt plain t)) is ∙ same)))

pub two_put : {T E : Type 0} (r : Result T E) (structs : Structs) (the : Stmt Expression Const Ty Variable)
    (s : PlainStmt Expression Const Ty Variable) (depth : ℕ) (now mid after first second : List ℕ)
    → tree_of_stmt the ≡ s → positions structs depth (map_stmt plain s) ≡ first ++ second → mid ≡ now ++ first → OnOk r (after ≡ mid ++ second)
    → OnOk r (after ≡ now ++ positions structs depth (typed_stmt the))
two_put r structs the s depth now mid after first second is same before put =
    on_ok r put (λ e. e ∙ (ap (λ ys. ys ++ second) before ∙ (append_assoc now first second ∙ ap (λ ys. now ++ ys) (sym (ap (λ t. positions structs depth (map_stmt plain t)) is ∙ same)))))
