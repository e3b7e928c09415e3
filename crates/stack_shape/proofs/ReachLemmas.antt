-- How deep an instruction looks.
use Rattle.std.proofs.Common.{arith, ◌≡◌, ◌≤◌, ◌<◌, ◌+◌, ◌-◌, ℕ, ℤ, zero, suc, List, [], ◌∷◌, ◌++◌, length, take, drop, Option, Some, None, Bool, true, false, slice_get, sym, subst, ◌∙◌, ap, refl}
use Rattle.std.specs.Prelude.{◌==◌, nat_le, if◌then◌else◌}
use Rattle.std.specs.Option.{option_map, option_and_then}
use Rattle.nwq_value.specs.declared.value.Ty.{Ty}
use Rattle.nwq_value.specs.declared.value.Ty.TheVariants.{Int, Text}
use Rattle.nwq_value.specs.declared.engine.Routine.{Routine}
use Rattle.nwq_value.specs.Engine.{EngineTable}
use Rattle.ncs_code.specs.Plain.{PlainOp}
use Rattle.ncs_code.specs.Plain as ops
use Rattle.stack_shape.specs.declared.shape.Slot.{Slot}
use Rattle.stack_shape.specs.declared.shape.Slot.TheVariants.{Of, Base}
use Rattle.stack_shape.specs.declared.range.CellRange.{CellRange}
use Rattle.stack_shape.specs.declared.effect.StackEffect.{StackEffect}
use Rattle.stack_shape.specs.declared.store.StoredTypes.{StoredTypes}
use Rattle.stack_shape.specs.Ranges.{cell_count, depth_of, range_at}
use Rattle.stack_shape.specs.TopFirst.{types_on, types_at}
use Rattle.stack_shape.specs.StackEffects.{where_alike, no_effect, exchange, copied, written, range_int_changed, removed, kept_of, kept, runs, one_int, two_ints, two_alike, type_of_both}
use Rattle.stack_shape.specs.StackEffects.{compared, added, reckoned, negated, stack_effect}
use Rattle.stack_shape.specs.Calls.{fits_call, call_effect, argument_types, result_types}
use Rattle.stack_shape.specs.Stored.{TopShape, found_types, stored_types}
use Rattle.stack_shape.specs.Rule.{affected, restored, stored, called_shape, rule}
use Rattle.stack_shape.specs.Reach.{reach, counted_cells, range_end, range_count, in_cells, call_reach, compared_reach}
use Rattle.stack_shape.specs.Laws.{beneath_under, deeper_saved, deeper, Reaches, RuleReaches, RuleLooksNoDeeper}
use Rattle.stack_shape.proofs.EffectLemmas.{on_map, values_are_there}
use Rattle.stack_shape.proofs.RangeLemmas.{numbers_of_range}

-- ---- ranges that are there

range_filled : (offset : ℤ) (size : ℕ) (r : CellRange) → range_at offset size ≡ Some r → 0 < r.count
range_filled offset size r h = (numbers_of_range offset size r h).2

-- ---- the same types with further slots beneath

types_far : (n : ℕ) (cells x : List Slot) → n ≤ length cells → types_on n (cells ++ x) ≡ types_on n cells
types_far zero cells x h = refl
types_far (suc n) [] x h = absurd (omega (arith, h))
types_far (suc n) (Base ∷ cells) x h = refl
types_far (suc n) (Of t ∷ cells) x h = ap (option_map (λ types. t ∷ types)) (types_far n cells x (omega (arith, h)))

range_far : (k n : ℕ) (slots x : List Slot) → k + n ≤ length slots → types_on n (drop k (slots ++ x)) ≡ types_on n (drop k slots)
range_far zero n slots x h = types_far n slots x (omega (arith, h))
range_far (suc k) n [] x h = absurd (omega (arith, h))
range_far (suc k) n (s ∷ slots) x h = range_far k n slots x (omega (arith, h))

exchange_far : (pops pushes : List Ty) (cells x : List Slot) → length pops ≤ length cells → exchange pops pushes (cells ++ x) ≡ exchange pops pushes cells
unfolding exchange
exchange_far pops pushes cells x h =
    ap (λ o. where_alike o (Some pops) (record { pops = length pops; pushes = pushes })) (types_far (length pops) cells x h)

copied_far : (range : Option CellRange) (slots x : List Slot) → range_end range ≤ length slots → copied range (slots ++ x) ≡ copied range slots
copied_far None slots x h = refl
copied_far (Some r) slots x h = ap (option_map (λ types. record { pops = 0; pushes = types })) (range_far r.above r.count slots x h)

written_far : (range : Option CellRange) (cells x slots y : List Slot) → range_count range ≤ length cells → range_end range ≤ length slots
    → written range (cells ++ x) (slots ++ y) ≡ written range cells slots
written_far None cells x slots y h i = refl
written_far (Some r) cells x slots y h i =
    ap (λ o. where_alike o (types_on r.count (drop r.above (slots ++ y))) no_effect) (types_far r.count cells x h)
    ∙ ap (λ o. where_alike (types_on r.count cells) o no_effect) (range_far r.above r.count slots y i)

counted_far : (range : Option CellRange) (slots x : List Slot) → range_end range ≤ length slots → range_int_changed range (slots ++ x) ≡ range_int_changed range slots
counted_far None slots x h = refl
counted_far (Some r) slots x h = ap (λ o. where_alike o (Some (Int ∷ [])) no_effect) (range_far r.above r.count slots x h)

removed_far : (count : Option ℕ) (cells x : List Slot) → counted_cells count ≤ length cells → removed count (cells ++ x) ≡ removed count cells
removed_far None cells x h = refl
removed_far (Some n) cells x h = ap (option_map (λ types. record { pops = n; pushes = [] })) (types_far n cells x h)

kept_from : (count : Option ℕ) (offset size : ℕ) (cells x : List Slot) → counted_cells count ≤ length cells
    → option_and_then (λ t. option_and_then (λ o. option_and_then (λ n. kept_of t o n (cells ++ x)) (cell_count size)) (cell_count offset)) count
    ≡ option_and_then (λ t. option_and_then (λ o. option_and_then (λ n. kept_of t o n cells) (cell_count size)) (cell_count offset)) count
kept_from None offset size cells x h = refl
kept_from (Some t) offset size cells x h =
    ap (λ (found : Option (List Ty)). option_and_then (λ o. option_and_then (λ n.
    if nat_le (o + n) t then option_map (λ types. record { pops = t; pushes = take n (drop (t - (o + n)) types) }) found else None)
    (cell_count size)) (cell_count offset)) (types_far t cells x h)

kept_far : (total offset size : ℕ) (cells x : List Slot) → counted_cells (cell_count total) ≤ length cells → kept total offset size (cells ++ x) ≡ kept total offset size cells
unfolding kept
kept_far total offset size cells x h = kept_from (cell_count total) offset size cells x h

runs_far : (count : Option ℕ) (cells x : List Slot) → counted_cells count + counted_cells count ≤ length cells → runs count (cells ++ x) ≡ runs count cells
runs_far None cells x h = refl
runs_far (Some n) cells x h =
    ap (λ o. where_alike o (types_on n (drop n (cells ++ x))) (record { pops = n + n; pushes = Int ∷ [] })) (types_far n cells x (omega (arith, h)))
    ∙ ap (λ o. where_alike (types_on n cells) o (record { pops = n + n; pushes = Int ∷ [] })) (range_far n n cells x h)

two_alike_far : (type : Option Ty) (cells x : List Slot) → 2 ≤ length cells → two_alike type (cells ++ x) ≡ two_alike type cells
two_alike_far None cells x h = refl
two_alike_far (Some t) cells x h = exchange_far (t ∷ t ∷ []) (Int ∷ []) cells x h

two_ints_far : (cells x : List Slot) → 2 ≤ length cells → two_ints (cells ++ x) ≡ two_ints cells
two_ints_far cells x h = exchange_far (Int ∷ Int ∷ []) (Int ∷ []) cells x h

one_int_far : (cells x : List Slot) → 1 ≤ length cells → one_int (cells ++ x) ≡ one_int cells
one_int_far cells x h = exchange_far (Int ∷ []) (Int ∷ []) cells x h

compared_if : (b : Bool) (kind size : ℕ) (cells x : List Slot)
    → (let r : Rattle.stack_shape.specs.declared.reach.Reach.Reach = if b then in_cells (counted_cells (cell_count size) + counted_cells (cell_count size)) else in_cells 2 in r.cells) ≤ length cells
    → (if b then runs (cell_count size) (cells ++ x) else two_alike (type_of_both kind) (cells ++ x))
    ≡ (if b then runs (cell_count size) cells else two_alike (type_of_both kind) cells)
compared_if true kind size cells x h = runs_far (cell_count size) cells x h
compared_if false kind size cells x h = two_alike_far (type_of_both kind) cells x h

compared_far : (kind size : ℕ) (cells x : List Slot) → (compared_reach kind size).cells ≤ length cells → compared kind size (cells ++ x) ≡ compared kind size cells
unfolding compared
compared_far kind size cells x h = compared_if (kind == 0x24) kind size cells x h

if_same : {A : Type 0} (b : Bool) (o p q r : A) → o ≡ p → q ≡ r → (if b then o else q) ≡ (if b then p else r)
if_same true o p q r h i = h
if_same false o p q r h i = i

added_far : (kind : ℕ) (cells x : List Slot) → 2 ≤ length cells → added kind (cells ++ x) ≡ added kind cells
unfolding added
added_far kind cells x h = if_same (kind == 0x20) _ _ _ _ (two_ints_far cells x h)
    (if_same (kind == 0x23) _ _ None None (exchange_far (Text ∷ Text ∷ []) (Text ∷ []) cells x h) refl)

reckoned_far : (kind : ℕ) (cells x : List Slot) → 2 ≤ length cells → reckoned kind (cells ++ x) ≡ reckoned kind cells
unfolding reckoned
reckoned_far kind cells x h = if_same (kind == 0x20) _ _ None None (two_ints_far cells x h) refl

negated_far : (kind : ℕ) (cells x : List Slot) → 1 ≤ length cells → negated kind (cells ++ x) ≡ negated kind cells
unfolding negated
negated_far kind cells x h = if_same (kind == 0x03) _ _ None None (one_int_far cells x h) refl

count_within : (range : Option CellRange) (cells : List Slot) → range_end range ≤ length cells → range_count range ≤ length cells
count_within None cells h = omega arith
count_within (Some r) cells h = omega (arith, h)

effect_far : (table : EngineTable) (op : PlainOp) (u c x y : List Slot) → (reach table op).cells ≤ length c → (reach table op).under ≤ length u
    → stack_effect op (u ++ y) (c ++ x) ≡ stack_effect op u c
unfolding stack_effect reach
effect_far table (ops.CpDownSp offset size) u c x y h i = written_far (range_at offset size) c x c x (count_within (range_at offset size) c h) h
effect_far table (ops.RsAdd kind) u c x y h i = refl
effect_far table (ops.CpTopSp offset size) u c x y h i = copied_far (range_at offset size) c x h
effect_far table (ops.Const lit) u c x y h i = refl
effect_far table (ops.Action routine count) u c x y h i = refl
effect_far table ops.LogAnd u c x y h i = two_ints_far c x h
effect_far table ops.LogOr u c x y h i = two_ints_far c x h
effect_far table ops.IncOr u c x y h i = two_ints_far c x h
effect_far table ops.ExcOr u c x y h i = two_ints_far c x h
effect_far table ops.BoolAnd u c x y h i = two_ints_far c x h
effect_far table (ops.Equal kind size) u c x y h i = compared_far kind size c x h
effect_far table (ops.Nequal kind size) u c x y h i = compared_far kind size c x h
effect_far table (ops.Geq kind) u c x y h i = reckoned_far kind c x h
effect_far table (ops.Gt kind) u c x y h i = reckoned_far kind c x h
effect_far table (ops.Lt kind) u c x y h i = reckoned_far kind c x h
effect_far table (ops.Leq kind) u c x y h i = reckoned_far kind c x h
effect_far table ops.ShLeft u c x y h i = two_ints_far c x h
effect_far table ops.ShRight u c x y h i = two_ints_far c x h
effect_far table ops.UshRight u c x y h i = two_ints_far c x h
effect_far table (ops.Add kind) u c x y h i = added_far kind c x h
effect_far table (ops.Sub kind) u c x y h i = reckoned_far kind c x h
effect_far table (ops.Mul kind) u c x y h i = reckoned_far kind c x h
effect_far table (ops.Div kind) u c x y h i = reckoned_far kind c x h
effect_far table ops.Mod u c x y h i = two_ints_far c x h
effect_far table (ops.Neg kind) u c x y h i = negated_far kind c x h
effect_far table ops.Comp u c x y h i = one_int_far c x h
effect_far table (ops.MovSp offset) u c x y h i = removed_far (depth_of offset) c x h
effect_far table (ops.Jmp offset) u c x y h i = refl
effect_far table (ops.Jsr offset) u c x y h i = refl
effect_far table (ops.Jz offset) u c x y h i = exchange_far (Int ∷ []) [] c x h
effect_far table ops.Retn u c x y h i = refl
effect_far table (ops.Destruct total offset size) u c x y h i = kept_far total offset size c x h
effect_far table ops.Not u c x y h i = one_int_far c x h
effect_far table (ops.DecISp offset) u c x y h i = counted_far (range_at offset 4) c x h
effect_far table (ops.IncISp offset) u c x y h i = counted_far (range_at offset 4) c x h
effect_far table (ops.Jnz offset) u c x y h i = exchange_far (Int ∷ []) [] c x h
effect_far table (ops.CpDownBp offset size) u c x y h i = written_far (range_at offset size) c x u y h i
effect_far table (ops.CpTopBp offset size) u c x y h i = copied_far (range_at offset size) u y i
effect_far table (ops.DecIBp offset) u c x y h i = counted_far (range_at offset 4) u y i
effect_far table (ops.IncIBp offset) u c x y h i = counted_far (range_at offset 4) u y i
effect_far table ops.SaveBp u c x y h i = refl
effect_far table ops.RestoreBp u c x y h i = refl
effect_far table (ops.StoreState globals locals) u c x y h i = refl
effect_far table ops.Nop u c x y h i = refl

call_far : (r : Routine) (count pending : ℕ) (cells x : List Slot) → length (argument_types r.params) ≤ length cells
    → call_effect r count pending (cells ++ x) ≡ call_effect r count pending cells
unfolding call_effect
call_far r count pending cells x h = if_same (fits_call r count pending) _ _ None None (exchange_far (argument_types r.params) (result_types r.result) cells x h) refl

found_far : (g l : ℕ) (under cells x y : List Slot) → g ≤ length under → l ≤ length cells → found_types g l (under ++ y) (cells ++ x) ≡ found_types g l under cells
found_far g l under cells x y h i =
    ap (λ o. option_and_then (λ g. option_map (λ l. record { globals = g; locals = l }) (types_on l (cells ++ x))) o) (types_far g under y h)
    ∙ ap (λ o. option_and_then (λ g. option_map (λ l. record { globals = g; locals = l }) o) (types_on g under)) (types_far l cells x i)

stored_from : (g l : Option ℕ) (under cells x y : List Slot) → counted_cells g ≤ length under → counted_cells l ≤ length cells
    → option_and_then (λ g. option_and_then (λ l. found_types g l (under ++ y) (cells ++ x)) l) g ≡ option_and_then (λ g. option_and_then (λ l. found_types g l under cells) l) g
stored_from None l under cells x y h i = refl
stored_from (Some g) None under cells x y h i = refl
stored_from (Some g) (Some l) under cells x y h i = found_far g l under cells x y h i

stored_far : (globals locals : ℕ) (under cells x y : List Slot) → counted_cells (cell_count globals) ≤ length under → counted_cells (cell_count locals) ≤ length cells
    → stored_types globals locals (under ++ y) (cells ++ x) ≡ stored_types globals locals under cells
unfolding stored_types
stored_far globals locals under cells x y h i = stored_from (cell_count globals) (cell_count locals) under cells x y h i

-- ---- no rule, and none with further cells beneath

none_map : {A B C : Type 0} (f : A → B) (g : A → C) (o p : Option A) → p ≡ o → option_map f o ≡ None → option_map g p ≡ None
none_map f g None p e h = ap (option_map g) e
none_map f g (Some a) p e h = absurd cc

cells_none : (table : EngineTable) (op : PlainOp) (s : TopShape) (x y : List Slot) → Reaches table op s → affected (stack_effect op s.under s.cells) s ≡ None
    → affected (stack_effect op (deeper x y s).under (deeper x y s).cells) (deeper x y s) ≡ None
cells_none table op s x y r h = none_map _ _ (stack_effect op s.under s.cells) _ (effect_far table op s.under s.cells x (beneath_under x y s.saved) r.cells r.under) h

called_none : (r : Option Routine) (count : ℕ) (s : TopShape) (x y : List Slot) → (call_reach r).cells ≤ length s.cells → called_shape r count s ≡ None
    → called_shape r count (deeper x y s) ≡ None
called_none None count s x y h e = refl
called_none (Some r) count s x y h e = none_map _ _ (call_effect r count s.pending s.cells) _ (call_far r count s.pending s.cells x h) e

restored_none : (cells under : List Slot) (saved : List (List Slot)) (pending : ℕ) (x y : List Slot) → 1 ≤ length cells → restored cells saved pending ≡ None
    → restored (cells ++ x) (deeper_saved x y saved) pending ≡ None
restored_none [] under saved pending x y h e = absurd (omega (arith, h))
restored_none (Of t ∷ cells) under saved pending x y h e = refl
restored_none (Base ∷ cells) under [] pending x y h e = refl
restored_none (Base ∷ cells) under (u ∷ us) pending x y h e = absurd cc

stored_none : (globals locals : ℕ) (s : TopShape) (x y : List Slot) → counted_cells (cell_count globals) ≤ length s.under → counted_cells (cell_count locals) ≤ length s.cells
    → stored globals locals s ≡ None → stored globals locals (deeper x y s) ≡ None
stored_none globals locals s x y h i e =
    none_map _ _ (stored_types globals locals s.under s.cells) _ (stored_far globals locals s.under s.cells x (beneath_under x y s.saved) h i) e

pub rule_looks_no_deeper : RuleLooksNoDeeper
unfolding rule reach
rule_looks_no_deeper table (ops.Action routine count) s x y r h = called_none (slice_get table.routines routine) count s x y r.cells h
rule_looks_no_deeper table ops.SaveBp s x y r h = absurd cc
rule_looks_no_deeper table ops.RestoreBp s x y r h = restored_none s.cells s.under s.saved s.pending x y r.cells h
rule_looks_no_deeper table (ops.StoreState globals locals) s x y r h = stored_none globals locals s x y r.under r.cells h
rule_looks_no_deeper table op s x y r h = cells_none table op s x y r h

-- ---- what is looked at is there

on_then : {A B : Type 0} (f : A → Option B) (o : Option A) (b : B) → option_and_then f o ≡ Some b → (a : A) × (o ≡ Some a) × (f a ≡ Some b)
on_then f None b h = absurd cc
on_then f (Some a) b h = (a, refl, h)

on_both : (a b : Option (List Ty)) (e f : StackEffect) → where_alike a b e ≡ Some f → (ts : List Ty) × (us : List Ty) × (a ≡ Some ts) × (b ≡ Some us)
on_both None b e f h = absurd cc
on_both (Some ts) None e f h = absurd cc
on_both (Some ts) (Some us) e f h = (ts, us, refl, refl)

on_if : {A : Type 0} (b : Bool) (o : Option A) (a : A) → (if b then o else None) ≡ Some a → o ≡ Some a
on_if true o a h = h
on_if false o a h = absurd cc

types_there : (n : ℕ) (cells : List Slot) (ts : List Ty) → types_on n cells ≡ Some ts → n ≤ length cells
types_there n cells ts h = (values_are_there n cells ts h).1

range_there : (k n : ℕ) (slots : List Slot) (ts : List Ty) → 0 < n → types_on n (drop k slots) ≡ Some ts → k + n ≤ length slots
range_there zero n slots ts p h = omega (arith, types_there n slots ts h)
range_there (suc k) zero [] ts p h = absurd (omega (arith, p))
range_there (suc k) (suc n) [] ts p h = absurd cc
range_there (suc k) n (s ∷ slots) ts p h = omega (arith, range_there k n slots ts p h)

runs_there : (n : ℕ) (cells : List Slot) (ts us : List Ty) → types_on n cells ≡ Some ts → types_on n (drop n cells) ≡ Some us → n + n ≤ length cells
runs_there zero cells ts us h i = omega arith
runs_there (suc n) cells ts us h i = range_there (suc n) (suc n) cells us (omega arith) i

-- so many cells and so many slots beneath BP are there
abbrev There : ℕ → ℕ → List Slot → List Slot → Type 0
There n m c u = (n ≤ length c) × (m ≤ length u)

none_under : (u : List Slot) → 0 ≤ length u
none_under u = omega arith

exchange_there : (pops pushes : List Ty) (c u : List Slot) (e : StackEffect) → exchange pops pushes c ≡ Some e → There (length pops) 0 c u
unfolding exchange
exchange_there pops pushes c u e h = let b = on_both _ _ _ e h in (types_there (length pops) c b.0 b.2, none_under u)

range_found : (offset : ℤ) (size : ℕ) (slots : List Slot) (range : Option CellRange) → range_at offset size ≡ range
    → ((r : CellRange) → range ≡ Some r → (ts : List Ty) × (types_on r.count (drop r.above slots) ≡ Some ts)) → range_end range ≤ length slots
range_found offset size slots None e f = omega arith
range_found offset size slots (Some r) e f = let t = f r refl in range_there r.above r.count slots t.0 (range_filled offset size r e) t.1

some_same : {A : Type 0} (a b : A) → Some a ≡ Some b → a ≡ b
some_same a b h = cc

copied_there : (offset : ℤ) (size : ℕ) (slots : List Slot) (e : StackEffect) → copied (range_at offset size) slots ≡ Some e → range_end (range_at offset size) ≤ length slots
copied_there offset size slots e h = range_found offset size slots (range_at offset size) refl (λ r is.
    let a = on_then _ (range_at offset size) e h in
    let m = on_map _ (types_at a.0 slots) e a.2 in
    let same = some_same a.0 r (sym a.1 ∙ is) in (m.0, ap (λ (r : CellRange). types_at r slots) (sym same) ∙ m.1))

counted_there : (offset : ℤ) (size : ℕ) (slots : List Slot) (e : StackEffect) → range_int_changed (range_at offset size) slots ≡ Some e → range_end (range_at offset size) ≤ length slots
counted_there offset size slots e h = range_found offset size slots (range_at offset size) refl (λ r is.
    let a = on_then _ (range_at offset size) e h in
    let b = on_both _ _ _ e a.2 in
    let same = some_same a.0 r (sym a.1 ∙ is) in (b.0, ap (λ (r : CellRange). types_at r slots) (sym same) ∙ b.2))

written_there : (offset : ℤ) (size : ℕ) (cells slots : List Slot) (e : StackEffect) → written (range_at offset size) cells slots ≡ Some e
    → There (range_count (range_at offset size)) (range_end (range_at offset size)) cells slots
written_there offset size cells slots e h =
    let a = on_then _ (range_at offset size) e h in
    let b = on_both _ _ _ e a.2 in (
      subst (λ o. range_count o ≤ length cells) (sym a.1) (types_there a.0.count cells b.0 b.2),
      range_found offset size slots (range_at offset size) refl (λ r is.
          let same = some_same a.0 r (sym a.1 ∙ is) in (b.1, ap (λ (r : CellRange). types_at r slots) (sym same) ∙ b.3)),
    )

removed_there : (count : Option ℕ) (c u : List Slot) (e : StackEffect) → removed count c ≡ Some e → There (counted_cells count) 0 c u
removed_there None c u e h = (omega arith, none_under u)
removed_there (Some n) c u e h = let m = on_map _ (types_on n c) e h in (types_there n c m.0 m.1, none_under u)

kept_there_of : (total : Option ℕ) (offset size : ℕ) (c u : List Slot) (e : StackEffect)
    → option_and_then (λ t. option_and_then (λ o. option_and_then (λ n. kept_of t o n c) (cell_count size)) (cell_count offset)) total ≡ Some e
    → There (counted_cells total) 0 c u
kept_there_of None offset size c u e h = (omega arith, none_under u)
kept_there_of (Some t) offset size c u e h =
    let a = on_then _ (cell_count offset) e h in
    let b = on_then _ (cell_count size) e a.2 in
    let m = on_map _ (types_on t c) e (on_if (nat_le (a.0 + b.0) t) _ e b.2) in (types_there t c m.0 m.1, none_under u)

kept_there : (total offset size : ℕ) (c u : List Slot) (e : StackEffect) → kept total offset size c ≡ Some e → There (counted_cells (cell_count total)) 0 c u
unfolding kept
kept_there total offset size c u e h = kept_there_of (cell_count total) offset size c u e h

runs_are_there : (count : Option ℕ) (c u : List Slot) (e : StackEffect) → runs count c ≡ Some e → There (counted_cells count + counted_cells count) 0 c u
runs_are_there None c u e h = (omega arith, none_under u)
runs_are_there (Some n) c u e h = let b = on_both _ _ _ e h in (runs_there n c b.0 b.1 b.2 b.3, none_under u)

two_alike_there : (type : Option Ty) (c u : List Slot) (e : StackEffect) → two_alike type c ≡ Some e → There 2 0 c u
two_alike_there None c u e h = absurd cc
two_alike_there (Some t) c u e h = exchange_there (t ∷ t ∷ []) (Int ∷ []) c u e h

compared_there_if : (b : Bool) (kind size : ℕ) (c u : List Slot) (e : StackEffect)
    → (if b then runs (cell_count size) c else two_alike (type_of_both kind) c) ≡ Some e
    → There (let r : Rattle.stack_shape.specs.declared.reach.Reach.Reach = if b then in_cells (counted_cells (cell_count size) + counted_cells (cell_count size)) else in_cells 2 in r.cells) 0 c u
compared_there_if true kind size c u e h = runs_are_there (cell_count size) c u e h
compared_there_if false kind size c u e h = two_alike_there (type_of_both kind) c u e h

compared_under : (b : Bool) (n : ℕ) (u : List Slot) → (let r : Rattle.stack_shape.specs.declared.reach.Reach.Reach = if b then in_cells n else in_cells 2 in r.under) ≤ length u
compared_under true n u = omega arith
compared_under false n u = omega arith

compared_there : (kind size : ℕ) (c u : List Slot) (e : StackEffect) → compared kind size c ≡ Some e → There (compared_reach kind size).cells (compared_reach kind size).under c u
unfolding compared
compared_there kind size c u e h = (
  (compared_there_if (kind == 0x24) kind size c u e h).0,
  compared_under (kind == 0x24) (counted_cells (cell_count size) + counted_cells (cell_count size)) u,
)

two_there : (c u : List Slot) (e : StackEffect) → two_ints c ≡ Some e → There 2 0 c u
two_there c u e h = exchange_there (Int ∷ Int ∷ []) (Int ∷ []) c u e h

one_there : (c u : List Slot) (e : StackEffect) → one_int c ≡ Some e → There 1 0 c u
one_there c u e h = exchange_there (Int ∷ []) (Int ∷ []) c u e h

either_there : (b : Bool) (o p : Option StackEffect) (n : ℕ) (c u : List Slot) (e : StackEffect) → ((e : StackEffect) → o ≡ Some e → There n 0 c u)
    → ((e : StackEffect) → p ≡ Some e → There n 0 c u) → (if b then o else p) ≡ Some e → There n 0 c u
either_there true o p n c u e f g h = f e h
either_there false o p n c u e f g h = g e h

never_there : (n : ℕ) (c u : List Slot) (e : StackEffect) → None ≡ Some e → There n 0 c u
never_there n c u e h = absurd cc

added_there : (kind : ℕ) (c u : List Slot) (e : StackEffect) → added kind c ≡ Some e → There 2 0 c u
unfolding added
added_there kind c u e h = either_there (kind == 0x20) _ _ 2 c u e (two_there c u)
    (λ e. either_there (kind == 0x23) _ None 2 c u e (exchange_there (Text ∷ Text ∷ []) (Text ∷ []) c u) (never_there 2 c u)) h

reckoned_there : (kind : ℕ) (c u : List Slot) (e : StackEffect) → reckoned kind c ≡ Some e → There 2 0 c u
unfolding reckoned
reckoned_there kind c u e h = either_there (kind == 0x20) _ None 2 c u e (two_there c u) (never_there 2 c u) h

negated_there : (kind : ℕ) (c u : List Slot) (e : StackEffect) → negated kind c ≡ Some e → There 1 0 c u
unfolding negated
negated_there kind c u e h = either_there (kind == 0x03) _ None 1 c u e (one_there c u) (never_there 1 c u) h

none_there : (c u : List Slot) → There 0 0 c u
none_there c u = (omega arith, omega arith)

effect_there : (table : EngineTable) (op : PlainOp) (u c : List Slot) (e : StackEffect) → stack_effect op u c ≡ Some e
    → There (reach table op).cells (reach table op).under c u
unfolding stack_effect reach
effect_there table (ops.CpDownSp offset size) u c e h = ((written_there offset size c c e h).1, none_under u)
effect_there table (ops.RsAdd kind) u c e h = none_there c u
effect_there table (ops.CpTopSp offset size) u c e h = (copied_there offset size c e h, none_under u)
effect_there table (ops.Const lit) u c e h = none_there c u
effect_there table (ops.Action routine count) u c e h = absurd cc
effect_there table ops.LogAnd u c e h = two_there c u e h
effect_there table ops.LogOr u c e h = two_there c u e h
effect_there table ops.IncOr u c e h = two_there c u e h
effect_there table ops.ExcOr u c e h = two_there c u e h
effect_there table ops.BoolAnd u c e h = two_there c u e h
effect_there table (ops.Equal kind size) u c e h = compared_there kind size c u e h
effect_there table (ops.Nequal kind size) u c e h = compared_there kind size c u e h
effect_there table (ops.Geq kind) u c e h = reckoned_there kind c u e h
effect_there table (ops.Gt kind) u c e h = reckoned_there kind c u e h
effect_there table (ops.Lt kind) u c e h = reckoned_there kind c u e h
effect_there table (ops.Leq kind) u c e h = reckoned_there kind c u e h
effect_there table ops.ShLeft u c e h = two_there c u e h
effect_there table ops.ShRight u c e h = two_there c u e h
effect_there table ops.UshRight u c e h = two_there c u e h
effect_there table (ops.Add kind) u c e h = added_there kind c u e h
effect_there table (ops.Sub kind) u c e h = reckoned_there kind c u e h
effect_there table (ops.Mul kind) u c e h = reckoned_there kind c u e h
effect_there table (ops.Div kind) u c e h = reckoned_there kind c u e h
effect_there table ops.Mod u c e h = two_there c u e h
effect_there table (ops.Neg kind) u c e h = negated_there kind c u e h
effect_there table ops.Comp u c e h = one_there c u e h
effect_there table (ops.MovSp offset) u c e h = removed_there (depth_of offset) c u e h
effect_there table (ops.Jmp offset) u c e h = none_there c u
effect_there table (ops.Jsr offset) u c e h = none_there c u
effect_there table (ops.Jz offset) u c e h = exchange_there (Int ∷ []) [] c u e h
effect_there table ops.Retn u c e h = none_there c u
effect_there table (ops.Destruct total offset size) u c e h = kept_there total offset size c u e h
effect_there table ops.Not u c e h = one_there c u e h
effect_there table (ops.DecISp offset) u c e h = (counted_there offset 4 c e h, none_under u)
effect_there table (ops.IncISp offset) u c e h = (counted_there offset 4 c e h, none_under u)
effect_there table (ops.Jnz offset) u c e h = exchange_there (Int ∷ []) [] c u e h
effect_there table (ops.CpDownBp offset size) u c e h = written_there offset size c u e h
effect_there table (ops.CpTopBp offset size) u c e h = (none_under c, copied_there offset size u e h)
effect_there table (ops.DecIBp offset) u c e h = (none_under c, counted_there offset 4 u e h)
effect_there table (ops.IncIBp offset) u c e h = (none_under c, counted_there offset 4 u e h)
effect_there table ops.SaveBp u c e h = none_there c u
effect_there table ops.RestoreBp u c e h = absurd cc
effect_there table (ops.StoreState globals locals) u c e h = absurd cc
effect_there table ops.Nop u c e h = none_there c u

cells_there : (table : EngineTable) (op : PlainOp) (s after : TopShape) → affected (stack_effect op s.under s.cells) s ≡ Some after → Reaches table op s
cells_there table op s after h =
    let m = on_map _ (stack_effect op s.under s.cells) after h in
    let t = effect_there table op s.under s.cells m.0 m.1 in record { cells = t.0; under = t.1 }

called_there : (r : Option Routine) (count : ℕ) (s after : TopShape) → called_shape r count s ≡ Some after → There (call_reach r).cells (call_reach r).under s.cells s.under
unfolding call_effect
called_there None count s after h = absurd cc
called_there (Some r) count s after h =
    let m = on_map _ (call_effect r count s.pending s.cells) after h in
    exchange_there (argument_types r.params) (result_types r.result) s.cells s.under m.0 (on_if (fits_call r count s.pending) _ m.0 m.1)

restored_there : (cells under : List Slot) (saved : List (List Slot)) (pending : ℕ) (after : TopShape) → restored cells saved pending ≡ Some after → There 1 0 cells under
restored_there [] under saved pending after h = absurd cc
restored_there (c ∷ cells) under saved pending after h = (omega arith, omega arith)

stored_there_of : (g l : Option ℕ) (under cells : List Slot) (t : StoredTypes) → option_and_then (λ g. option_and_then (λ l. found_types g l under cells) l) g ≡ Some t
    → There (counted_cells l) (counted_cells g) cells under
stored_there_of None l under cells t h = absurd cc
stored_there_of (Some g) None under cells t h = absurd cc
stored_there_of (Some g) (Some l) under cells t h =
    let a = on_then _ (types_on g under) t h in
    let m = on_map _ (types_on l cells) t a.2 in (types_there l cells m.0 m.1, types_there g under a.0 a.1)

stored_there : (globals locals : ℕ) (s after : TopShape) → stored globals locals s ≡ Some after
    → There (counted_cells (cell_count locals)) (counted_cells (cell_count globals)) s.cells s.under
unfolding stored_types
stored_there globals locals s after h =
    let m = on_map _ (stored_types globals locals s.under s.cells) after h in stored_there_of (cell_count globals) (cell_count locals) s.under s.cells m.0 m.1

pub rule_reaches : RuleReaches
unfolding rule reach
rule_reaches table (ops.Action routine count) s after h = let t = called_there (slice_get table.routines routine) count s after h in record { cells = t.0; under = t.1 }
rule_reaches table ops.SaveBp s after h = record { cells = omega arith; under = omega arith }
rule_reaches table ops.RestoreBp s after h = let t = restored_there s.cells s.under s.saved s.pending after h in record { cells = t.0; under = t.1 }
rule_reaches table (ops.StoreState globals locals) s after h = let t = stored_there globals locals s after h in record { cells = t.0; under = t.1 }
rule_reaches table op s after h = cells_there table op s after h
