-- Items, one after another: their functions and their globals.
use Rattle.std.proofs.Common.{◌≡◌, ◌<◌, ◌≤◌, ◌+◌, ◌^◌, ℕ, Bool, true, false, cond, eqb, ltb, List, [], ◌∷◌, ◌++◌, Some, None, Result, Ok, Err, zero, suc, length, drop, get_or, arith, refl, ap, sym}
use Rattle.std.proofs.Common.{◌∙◌, append_assoc, subst}
use Rattle.std.specs.Result.{OnOk}
use Rattle.std.proofs.lemmas.Bool.Decides.{nat_tests}
use Rattle.std.proofs.lemmas.List.{at_drop_more}
use Rattle.nss_tree.specs.declared.units.Item.{Item}
use Rattle.nss_tree.specs.Units.{structure, constant, global, function}
use Rattle.nwq_value.specs.declared.value.Ty.{Ty}
use Rattle.nwq_value.specs.declared.engine.Const.{Const}
use Rattle.ncs_code.specs.Plain as ops
use Rattle.ncs_emit.specs.Labelled.{Line, Instruction, Label, LabelledCode, placements}
use Rattle.ncs_emit.specs.Laws.{PlacementsAdd}
use Rattle.typing_rules.specs.declared.expressions.Expression.{Expression}
use Rattle.typing_rules.specs.declared.places.Variable.{Variable}
use Rattle.typing_rules.specs.declared.places.EntryPoint.{EntryPoint}
use Rattle.typing_rules.specs.declared.places.EntryPoint.TheVariants.{Main, Conditional}
use Rattle.typing_rules.specs.Typed.{TypedItem, TypedName, TypedParameter, TypedStmts, TypedUnit}
use Rattle.typing_rules.specs.UnitReading.{typed_item, typed_items}
use Rattle.emission_rules.specs.Parts.{NamesPlaceAbove, StmtsPlaceAbove}
use Rattle.emission_rules.specs.Bounds.{frame_limit, globals_weight, AreItems, IsBounded}
use Rattle.emission_rules.specs.Layout.{Layout, layout_of, names_cells, item_cells, global_cells, params_cells, all_declared_cells}
use Rattle.emission_rules.specs.Operations.{dropped}
use Rattle.emission_rules.specs.Statements.{Exits, no_exits, names_labels, emit_names, all_stmt_labels, emit_stmts}
use Rattle.emission_rules.specs.Units.{body_count, functions_labels, emit_function, has_globals, globals_labels, emit_globals, entry_call, start_labels, emit_start, unit_code}
use Rattle.codegen_expr.specs.Emitted.{extended}
use Rattle.codegen_unit.specs.Ready.{AreFunctionsOpen, FunctionsReady, GlobalsReady}
use Rattle.codegen_unit.proofs.Bounded.{all_names_grow, stmts_grow}
use Rattle.codegen_unit.proofs.InRow.{names_few}

pub items_next : {A : Type 0} (F : List TypedItem → A) (xs : List (Item Expression Const Ty Variable)) (i : ℕ) (x : Item Expression Const Ty Variable) → x ≡ get_or xs i x → i < length xs
    → F (typed_items (drop i xs)) ≡ F (typed_item x ∷ typed_items (drop (i + 1) xs))
items_next F xs i x is lt = at_drop_more (λ ys. F (typed_items ys)) xs i x lt ∙ ap (λ y. F (typed_item y ∷ typed_items (drop (i + 1) xs))) (sym is)

-- ---- bounds of an item and of those behind it

tail_bounded : (n : ℕ) (l : Layout) (y : TypedItem) (ys : List TypedItem) → AreItems n l (y ∷ ys) → AreItems n l ys
tail_bounded n l (structure i x ls) ys are = are
tail_bounded n l (constant i t x k) ys are = are
tail_bounded n l (global i t xs) ys are = are.1
tail_bounded n l (function i t x ps None) ys are = are
tail_bounded n l (function i t x ps (Some body)) ys are = are.2

pub items_grow : (n m : ℕ) (l : Layout) (ys : List TypedItem) → n ≤ m → AreItems n l ys → AreItems m l ys
items_grow n m l [] le are = tt
items_grow n m l (structure i x ls ∷ ys) le are = items_grow n m l ys le are
items_grow n m l (constant i t x k ∷ ys) le are = items_grow n m l ys le are
items_grow n m l (global i t xs ∷ ys) le are = (all_names_grow n m l xs le are.0, items_grow n m l ys le are.1)
items_grow n m l (function i t x ps None ∷ ys) le are = items_grow n m l ys le are
items_grow n m l (function i t x ps (Some body) ∷ ys) le are = (stmts_grow n m l false false body le are.0, are.1, items_grow n m l ys le are.2)

functions_add : (y : TypedItem) (ys : List TypedItem) → functions_labels (y ∷ ys) ≡ functions_labels (y ∷ []) + functions_labels ys
functions_add (structure i x ls) ys = omega arith
functions_add (constant i t x k) ys = omega arith
functions_add (global i t xs) ys = omega arith
functions_add (function i t x ps None) ys = omega arith
functions_add (function i t x ps (Some body)) ys = omega arith

globals_add : (y : TypedItem) (ys : List TypedItem) → globals_labels (y ∷ ys) ≡ globals_labels (y ∷ []) + globals_labels ys
globals_add (structure i x ls) ys = omega arith
globals_add (constant i t x k) ys = omega arith
globals_add (global i t xs) ys = omega arith
globals_add (function i t x ps body) ys = omega arith

bodies_add : (y : TypedItem) (ys : List TypedItem) → body_count (y ∷ ys) ≡ body_count (y ∷ []) + body_count ys
bodies_add (structure i x ls) ys = omega arith
bodies_add (constant i t x k) ys = omega arith
bodies_add (global i t xs) ys = omega arith
bodies_add (function i t x ps None) ys = omega arith
bodies_add (function i t x ps (Some body)) ys = omega arith

item_few : (n : ℕ) (l : Layout) (y : TypedItem) (ys : List TypedItem) → AreItems n l (y ∷ ys) → item_cells l.structs y + globals_weight ys ≤ globals_weight (y ∷ ys)
item_few n l (structure i x ls) ys are = omega arith
item_few n l (constant i t x k) ys are = omega arith
item_few n l (global i t xs) ys are = omega (arith, names_few n l xs are.0)
item_few n l (function i t x ps body) ys are = omega arith

pub globals_few : (n : ℕ) (l : Layout) (ys : List TypedItem) → AreItems n l ys → global_cells l.structs ys ≤ globals_weight ys
globals_few n l [] are = omega arith
globals_few n l (y ∷ ys) are = omega (arith, item_few n l y ys are, globals_few n l ys (tail_bounded n l y ys are))

pub one_few : (n : ℕ) (l : Layout) (d : ℕ) (y : TypedItem) (i : ℕ) (t : Ty) (xs : List TypedName) → y ≡ global i t xs → GlobalsReady n l d (y ∷ []) → d + names_cells l.structs xs ≤ frame_limit
one_few n l d y i t xs is ready =
    let r = subst (λ z. GlobalsReady n l d (z ∷ [])) is ready in
    omega (arith, r.deep, names_few n l xs r.bounded.0)

-- ---- one item more

module _ (l : Layout) (xs : List (Item Expression Const Ty Variable)) (i : ℕ) (x : Item Expression Const Ty Variable) (is : x ≡ get_or xs i x) (lt : i < length xs) where
  pub functions_rest : (n m : ℕ) → FunctionsReady n l (typed_items (drop i xs)) → m ≡ n + functions_labels (typed_item x ∷ []) → FunctionsReady m l (typed_items (drop (i + 1) xs))
  functions_rest n m ready made =
      let r = subst (FunctionsReady n l) (items_next (λ ys. ys) xs i x is lt) ready in
      record {
        bounded = items_grow n m l (typed_items (drop (i + 1) xs)) (omega arith) (tail_bounded n l (typed_item x) (typed_items (drop (i + 1) xs)) r.bounded);
        globals = r.globals;
        labelled = omega (arith, r.labelled, functions_add (typed_item x) (typed_items (drop (i + 1) xs)));
      }

  pub functions_open : (n m at on : ℕ) (lines now : List Line) → AreFunctionsOpen n lines at (typed_items (drop i xs)) → n ≤ m → on ≡ at + body_count (typed_item x ∷ [])
      → ((label : ℕ) → on ≤ label → label < n → placements now label ≡ placements lines label) → AreFunctionsOpen m now on (typed_items (drop (i + 1) xs))
  functions_open n m at on lines now opened le next others =
      let r = subst (AreFunctionsOpen n lines at) (items_next (λ ys. ys) xs i x is lt) opened in
      let count = bodies_add (typed_item x) (typed_items (drop (i + 1) xs)) in
      record {
        inside = omega (arith, r.inside, count);
        unplaced = λ label from to. others label from (omega (arith, r.inside, count)) ∙ r.unplaced label (omega arith) (omega (arith, count));
      }

  pub globals_rest : (n m d e : ℕ) → GlobalsReady n l d (typed_items (drop i xs)) → m ≡ n + globals_labels (typed_item x ∷ []) → e ≡ d + item_cells l.structs (typed_item x)
      → GlobalsReady m l e (typed_items (drop (i + 1) xs))
  globals_rest n m d e ready made deeper =
      let r = subst (GlobalsReady n l d) (items_next (λ ys. ys) xs i x is lt) ready in
      record {
        bounded = items_grow n m l (typed_items (drop (i + 1) xs)) (omega arith) (tail_bounded n l (typed_item x) (typed_items (drop (i + 1) xs)) r.bounded);
        deep = omega (arith, r.deep, item_few n l (typed_item x) (typed_items (drop (i + 1) xs)) r.bounded);
        globals = r.globals;
        labelled = omega (arith, r.labelled, globals_add (typed_item x) (typed_items (drop (i + 1) xs)));
      }

-- ---- lines that place no label

none_both : (add : PlacementsAdd) (xs ys : List Line) (label : ℕ) → placements xs label ≡ 0 → placements ys label ≡ 0 → placements (xs ++ ys) label ≡ 0
none_both add xs ys label f g = omega (arith, add xs ys label)

dropped_none : (n label : ℕ) → placements (dropped n) label ≡ 0
dropped_none zero label = refl
dropped_none (suc n) label = refl

other_label : (k label : ℕ) → k < label → ◌≡◌ {A = ℕ} (cond (eqb k label) 1 0) 0
other_label k label lt = grind (arith, nat_tests)

globals_none : (add : PlacementsAdd) (names : NamesPlaceAbove) (l : Layout) (n d : ℕ) (ys : List TypedItem) (label : ℕ) → label < n → placements (emit_globals l n d ys) label ≡ 0
globals_none add names l n d [] label lt = refl
globals_none add names l n d (structure i x ls ∷ ys) label lt = globals_none add names l n d ys label lt
globals_none add names l n d (constant i t x k ∷ ys) label lt = globals_none add names l n d ys label lt
globals_none add names l n d (function i t x ps body ∷ ys) label lt = globals_none add names l n d ys label lt
globals_none add names l n d (global i t xs ∷ ys) label lt =
    none_both add (emit_names l n d xs) (emit_globals l (n + names_labels xs) (d + item_cells l.structs (global i t xs)) ys) label (names l n d xs label lt)
    (globals_none add names l (n + names_labels xs) (d + item_cells l.structs (global i t xs)) ys label (omega arith))

entry_none : (e : EntryPoint) (label : ℕ) → placements (entry_call e) label ≡ 0
entry_none (Main f) label = refl
entry_none (Conditional f) label = refl

later_label : (k label : ℕ) → label < k → ◌≡◌ {A = ℕ} (cond (eqb k label) 1 0) 0
later_label k label lt = grind (arith, nat_tests)

pub start_none : (add : PlacementsAdd) (names : NamesPlaceAbove) (l : Layout) (n : ℕ) (b : Bool) (ys : List TypedItem)
    (e : EntryPoint) (label : ℕ) → label < n → placements (emit_start l n b ys e) label ≡ 0
start_none add names l n false ys e label lt = none_both add (entry_call e) (Instruction ops.Retn ∷ []) label (entry_none e label) refl
start_none add names l n true ys e label lt =
    let last : placements (dropped l.globals ++ Instruction ops.Retn ∷ []) label ≡ 0 = none_both add (dropped l.globals) (Instruction ops.Retn ∷ []) label (dropped_none l.globals label) refl in
    let main : placements (entry_call e ++ (Instruction ops.RestoreBp ∷ (dropped l.globals ++ Instruction ops.Retn ∷ []))) label ≡ 0 =
    none_both add (entry_call e) (Instruction ops.RestoreBp ∷ (dropped l.globals ++ Instruction ops.Retn ∷ [])) label (entry_none e label) last in
    let all : placements (emit_globals l (n + 1) 0 ys ++ (Instruction ops.SaveBp ∷ (entry_call e ++ (Instruction ops.RestoreBp ∷ (dropped l.globals ++ Instruction ops.Retn ∷ []))))) label ≡ 0 =
    none_both add (emit_globals l (n + 1) 0 ys) (Instruction ops.SaveBp ∷ (entry_call e ++ (Instruction ops.RestoreBp ∷ (dropped l.globals ++ Instruction ops.Retn ∷ [])))) label
    (globals_none add names l (n + 1) 0 ys label (omega arith)) main in
    omega (arith, later_label n label lt)

-- ---- the code of a function

on_ok : {T E P Q : Type 0} (r : Result T E) → OnOk r P → (P → Q) → OnOk r Q
on_ok (Ok x) p f = f p
on_ok (Err e) p f = tt

pub function_code : {T E : Type 0} (r : Result T E) (l : Layout) (ex : Exits) (f depth cells : ℕ) (ps : List TypedParameter) (body : TypedStmts) (c0 c1 c2 c3 c4 c5 : LabelledCode)
    → c1 ≡ record c0 { lines = c0.lines ++ Label f ∷ [] } → depth ≡ params_cells l.structs ps → ex ≡ no_exits
    → c2 ≡ extended c1 (emit_stmts l ex c1.labels depth None body) (all_stmt_labels body) → cells ≡ all_declared_cells l.structs body
    → c3 ≡ record c2 { lines = c2.lines ++ dropped cells } → c4 ≡ record c3 { lines = c3.lines ++ dropped depth } → OnOk r (c5 ≡ record c4 { lines = c4.lines ++ Instruction ops.Retn ∷ [] })
    → OnOk r (c5 ≡ extended c0 (emit_function l c0.labels f ps body) (all_stmt_labels body))
function_code r l ex f depth cells ps body c0 c1 c2 c3 c4 c5 e1 is-depth is-ex e2 is-cells e3 e4 put =
    let retn = Instruction ops.Retn ∷ [] in
    let n = c0.labels in
    let p = params_cells l.structs ps in
    let inner = emit_stmts l no_exits n p None body in
    let gone = dropped (all_declared_cells l.structs body) in
    let f2 : c2 ≡ record { lines = (c0.lines ++ Label f ∷ []) ++ inner; labels = n + all_stmt_labels body } =
    e2 ∙ (ap (λ c. extended c (emit_stmts l ex c.labels depth None body) (all_stmt_labels body)) e1
    ∙ (ap (λ z. record { lines = (c0.lines ++ Label f ∷ []) ++ emit_stmts l z n depth None body; labels = n + all_stmt_labels body }) is-ex
    ∙ ap (λ z. record { lines = (c0.lines ++ Label f ∷ []) ++ emit_stmts l no_exits n z None body; labels = n + all_stmt_labels body }) is-depth)) in
    let f3 : c3 ≡ record { lines = ((c0.lines ++ Label f ∷ []) ++ inner) ++ gone; labels = n + all_stmt_labels body } =
    e3 ∙ (ap (λ (c : LabelledCode). record c { lines = c.lines ++ dropped cells }) f2
    ∙ ap (λ z. record { lines = ((c0.lines ++ Label f ∷ []) ++ inner) ++ dropped z; labels = n + all_stmt_labels body }) is-cells) in
    let f4 : c4 ≡ record { lines = (((c0.lines ++ Label f ∷ []) ++ inner) ++ gone) ++ dropped p; labels = n + all_stmt_labels body } =
    e4 ∙ (ap (λ (c : LabelledCode). record c { lines = c.lines ++ dropped depth }) f3
    ∙ ap (λ z. record { lines = (((c0.lines ++ Label f ∷ []) ++ inner) ++ gone) ++ dropped z; labels = n + all_stmt_labels body }) is-depth) in
    on_ok r put (λ e. e
    ∙ (ap (λ (c : LabelledCode). record c { lines = c.lines ++ retn }) f4
    ∙ ap (λ zs. record { lines = zs; labels = n + all_stmt_labels body })
    (append_assoc (((c0.lines ++ Label f ∷ []) ++ inner) ++ gone) (dropped p) retn
    ∙ (append_assoc ((c0.lines ++ Label f ∷ []) ++ inner) gone (dropped p ++ retn)
    ∙ (append_assoc (c0.lines ++ Label f ∷ []) inner (gone ++ (dropped p ++ retn))
    ∙ append_assoc c0.lines (Label f ∷ []) (inner ++ (gone ++ (dropped p ++ retn))))))))

-- ---- a unit

no_globals : (ys : List TypedItem) → has_globals ys ≡ false → globals_labels ys ≡ 0
no_globals [] is = refl
no_globals (structure i x ls ∷ ys) is = no_globals ys is
no_globals (constant i t x k ∷ ys) is = no_globals ys is
no_globals (global i t xs ∷ ys) is = absurd cc
no_globals (function i t x ps body ∷ ys) is = no_globals ys is

started_few : (b : Bool) (ys : List TypedItem) → (b ≡ false → globals_labels ys ≡ 0) → globals_labels ys ≤ start_labels b ys
started_few true ys f = omega arith
started_few false ys f = omega (arith, f refl)

module _ (u : TypedUnit) (l : Layout) (bounded : IsBounded u) (few : (unit_code u).labels < 2 ^ 32) (is : l ≡ layout_of u) where
  items_bounded : AreItems (body_count u.items) l u.items
  items_bounded = subst (λ z. AreItems (body_count u.items) z u.items) (sym is) bounded.items

  small_globals : l.globals ≤ frame_limit
  small_globals = omega (arith, ap (λ (z : Layout). z.globals) is, bounded.globals, globals_few (body_count u.items) (layout_of u) u.items bounded.items)

  pub unit_globals : (n : ℕ) → n ≡ body_count u.items → GlobalsReady n l 0 u.items
  unit_globals n same = record {
    bounded = items_grow (body_count u.items) n l u.items (omega arith) items_bounded;
    deep = omega (arith, bounded.globals);
    globals = small_globals;
    labelled = omega (arith, few, started_few (has_globals u.items) u.items (no_globals u.items));
  }

  pub unit_functions : (m : ℕ) → m ≡ body_count u.items + start_labels (has_globals u.items) u.items → FunctionsReady m l u.items
  unit_functions m same = record {
    bounded = items_grow (body_count u.items) m l u.items (omega arith) items_bounded;
    globals = small_globals;
    labelled = omega (arith, few);
  }

  pub unit_open : (add : PlacementsAdd) (names : NamesPlaceAbove) (n m : ℕ) (before lines : List Line) → n ≡ body_count u.items → n ≤ m → before ≡ []
      → lines ≡ before ++ emit_start l n (has_globals u.items) u.items u.entry → AreFunctionsOpen m lines 0 u.items
  unit_open add names n m before lines same le none put = record {
    inside = omega arith;
    unplaced = λ label from to.
        ap (λ ls. placements ls label) (put ∙ ap (λ ls. ls ++ emit_start l n (has_globals u.items) u.items u.entry) none)
        ∙ start_none add names l n (has_globals u.items) u.items u.entry label (omega arith);
  }

pub globals_ready : (n : ℕ) (l : Layout) (ys : List TypedItem) → GlobalsReady n l 0 ys → n + start_labels (has_globals ys) ys < 2 ^ 32 → has_globals ys ≡ true → GlobalsReady (n + 1) l 0 ys
globals_ready n l ys ready few has =
    let small : n + (1 + globals_labels ys) < 2 ^ 32 = subst (λ b. n + start_labels b ys < 2 ^ 32) has few in
    record { bounded = items_grow n (n + 1) l ys (omega arith) ready.bounded; deep = ready.deep; globals = ready.globals; labelled = omega arith }

pub placed_some : (lines : List Line) (label labels : ℕ) → placements lines label ≡ cond (ltb label labels) 1 0 → label < labels → 1 ≤ placements lines label
placed_some lines label labels is lt = grind (arith, nat_tests)
