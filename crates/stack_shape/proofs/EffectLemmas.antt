-- What effects pop is there, and effects look from the top.
use Rattle.std.proofs.Common.{arith, ◌≡◌, ◌≤◌, ◌+◌, ℕ, zero, suc, List, [], ◌∷◌, ◌++◌, length, drop, Option, Some, None, Bool, true, false, zero-add, sym, subst, ◌∙◌, ap, refl}
use Rattle.std.specs.Prelude.{◌==◌, nat_le, if◌then◌else◌}
use Rattle.std.specs.Option.{option_map, option_and_then}
use Rattle.nwq_value.specs.declared.value.Ty.{Ty}
use Rattle.nwq_value.specs.declared.value.Ty.TheVariants.{Int}
use Rattle.nwq_value.specs.declared.engine.Routine.{Routine}
use Rattle.nwq_value.specs.Roles.{tys_eq}
use Rattle.ncs_code.specs.Plain.{PlainOp}
use Rattle.ncs_code.specs.Plain as ops
use Rattle.stack_shape.specs.declared.shape.Slot.{Slot}
use Rattle.stack_shape.specs.declared.shape.Slot.TheVariants.{Of, Base}
use Rattle.stack_shape.specs.declared.range.CellRange.{CellRange}
use Rattle.stack_shape.specs.declared.effect.StackEffect.{StackEffect}
use Rattle.stack_shape.specs.Ranges.{cell_count, depth_of, range_at}
use Rattle.stack_shape.specs.TopFirst.{types_on}
use Rattle.stack_shape.specs.StackEffects.{where_alike, no_effect, exchange, pushed, copied, written, range_int_changed, removed, kept_of, kept, runs, one_int, two_ints, two_alike, type_of_one}
use Rattle.stack_shape.specs.StackEffects.{type_of_both, type_of_lit, compared, added, reckoned, negated, stack_effect}
use Rattle.stack_shape.specs.Calls.{fits_call, call_effect, argument_types, result_types}
use Rattle.stack_shape.specs.Stored.{stored_types}
use Rattle.stack_shape.specs.Laws.{AreValues, EffectsPopValues, CallsPopValues, ValuesAreThere, EffectsLookFromTop, CallsLookFromTop, StoresLookFromTop}

-- ---- more slots beneath

pub on_map : {A B : Type 0} (f : A → B) (o : Option A) (b : B) → option_map f o ≡ Some b → (a : A) × (o ≡ Some a) × (f a ≡ b)
on_map f None b h = absurd cc
on_map f (Some a) b h = (a, refl, cc)

-- the second has what the first has
record Keeps {A : Type 0} (first second : Option A) : Type 0 where
  has : (a : A) → first ≡ Some a → second ≡ Some a

keeps_same : {A : Type 0} (o : Option A) → Keeps o o
keeps_same o = record { has = λ a h. h }

keeps_none : {A : Type 0} (o : Option A) → Keeps None o
keeps_none o = record { has = λ a h. absurd cc }

keeps_map : {A B : Type 0} (f : A → B) (o p : Option A) → Keeps o p → Keeps (option_map f o) (option_map f p)
keeps_map f None p k = keeps_none (option_map f p)
keeps_map f (Some a) p k = record { has = λ b h. ap (option_map f) (k.has a refl) ∙ h }

keeps_then : {A B : Type 0} (f g : A → Option B) (o p : Option A) → Keeps o p → ((a : A) → Keeps (f a) (g a))
    → Keeps (option_and_then f o) (option_and_then g p)
keeps_then f g None p k l = keeps_none (option_and_then g p)
keeps_then f g (Some a) p k l = record { has = λ b h. ap (option_and_then g) (k.has a refl) ∙ (l a).has b h }

-- the same value on both sides
keeps_within : {A B : Type 0} (f g : A → Option B) (o : Option A) → ((a : A) → Keeps (f a) (g a)) → Keeps (option_and_then f o) (option_and_then g o)
keeps_within f g o l = keeps_then f g o o (keeps_same o) l

keeps_if : {A : Type 0} (b : Bool) (o p q r : Option A) → Keeps o p → Keeps q r → Keeps (if b then o else q) (if b then p else r)
keeps_if true o p q r k l = k
keeps_if false o p q r k l = l

keeps_alike : (a b c d : Option (List Ty)) (e : StackEffect) → Keeps a c → Keeps b d → Keeps (where_alike a b e) (where_alike c d e)
keeps_alike None b c d e k l = keeps_none (where_alike c d e)
keeps_alike (Some a) None c d e k l = keeps_none (where_alike c d e)
keeps_alike (Some a) (Some b) c d e k l = record {
  has = λ f h. ap (λ c. where_alike c d e) (k.has a refl) ∙ ap (λ d. where_alike (Some a) d e) (l.has b refl) ∙ h;
}

types_more : (n : ℕ) (cells x : List Slot) → Keeps (types_on n cells) (types_on n (cells ++ x))
types_more zero cells x = keeps_same (Some [])
types_more (suc n) [] x = keeps_none (types_on (suc n) x)
types_more (suc n) (Base ∷ cells) x = keeps_none None
types_more (suc n) (Of t ∷ cells) x = keeps_map (λ types. t ∷ types) (types_on n cells) (types_on n (cells ++ x)) (types_more n cells x)

no_types : (n : ℕ) (slots : List Slot) → Keeps (types_on n []) (types_on n slots)
no_types zero slots = keeps_same (Some [])
no_types (suc n) slots = keeps_none (types_on (suc n) slots)

below_more : (n k : ℕ) (slots x : List Slot) → Keeps (types_on n (drop k slots)) (types_on n (drop k (slots ++ x)))
below_more n zero slots x = types_more n slots x
below_more n (suc k) [] x = no_types n (drop (suc k) x)
below_more n (suc k) (s ∷ slots) x = below_more n k slots x

-- ---- each group

exchange_more : (pops pushes : List Ty) (cells x : List Slot) → Keeps (exchange pops pushes cells) (exchange pops pushes (cells ++ x))
unfolding exchange
exchange_more pops pushes cells x = keeps_alike _ _ _ _ _ (types_more (length pops) cells x) (keeps_same (Some pops))

copied_more : (range : Option CellRange) (slots x : List Slot) → Keeps (copied range slots) (copied range (slots ++ x))
copied_more range slots x = keeps_within _ _ range (λ r. keeps_map _ _ _ (below_more r.count r.above slots x))

written_more : (range : Option CellRange) (cells x slots y : List Slot) → Keeps (written range cells slots) (written range (cells ++ x) (slots ++ y))
written_more range cells x slots y =
    keeps_within _ _ range (λ r. keeps_alike _ _ _ _ _ (types_more r.count cells x) (below_more r.count r.above slots y))

counted_more : (range : Option CellRange) (slots x : List Slot) → Keeps (range_int_changed range slots) (range_int_changed range (slots ++ x))
counted_more range slots x = keeps_within _ _ range (λ r. keeps_alike _ _ _ _ _ (below_more r.count r.above slots x) (keeps_same (Some (Int ∷ []))))

removed_more : (count : Option ℕ) (cells x : List Slot) → Keeps (removed count cells) (removed count (cells ++ x))
removed_more count cells x = keeps_within _ _ count (λ n. keeps_map _ _ _ (types_more n cells x))

kept_of_more : (total offset count : ℕ) (cells x : List Slot) → Keeps (kept_of total offset count cells) (kept_of total offset count (cells ++ x))
kept_of_more total offset count cells x =
    keeps_if (nat_le (offset + count) total) _ _ None None (keeps_map _ _ _ (types_more total cells x)) (keeps_none None)

kept_more : (total offset size : ℕ) (cells x : List Slot) → Keeps (kept total offset size cells) (kept total offset size (cells ++ x))
unfolding kept
kept_more total offset size cells x = keeps_within _ _ (cell_count total) (λ t. keeps_within _ _ (cell_count offset) (λ o.
    keeps_within _ _ (cell_count size) (λ n. kept_of_more t o n cells x)))

runs_more : (count : Option ℕ) (cells x : List Slot) → Keeps (runs count cells) (runs count (cells ++ x))
runs_more count cells x = keeps_within _ _ count (λ n. keeps_alike _ _ _ _ _ (types_more n cells x) (below_more n n cells x))

two_alike_more : (type : Option Ty) (cells x : List Slot) → Keeps (two_alike type cells) (two_alike type (cells ++ x))
two_alike_more type cells x = keeps_within _ _ type (λ t. exchange_more (t ∷ t ∷ []) (Int ∷ []) cells x)

one_int_more : (cells x : List Slot) → Keeps (one_int cells) (one_int (cells ++ x))
one_int_more cells x = exchange_more _ _ cells x

two_ints_more : (cells x : List Slot) → Keeps (two_ints cells) (two_ints (cells ++ x))
two_ints_more cells x = exchange_more _ _ cells x

compared_more : (kind size : ℕ) (cells x : List Slot) → Keeps (compared kind size cells) (compared kind size (cells ++ x))
unfolding compared
compared_more kind size cells x = keeps_if (kind == 0x24) _ _ _ _ (runs_more (cell_count size) cells x) (two_alike_more (type_of_both kind) cells x)

added_more : (kind : ℕ) (cells x : List Slot) → Keeps (added kind cells) (added kind (cells ++ x))
unfolding added
added_more kind cells x = keeps_if (kind == 0x20) _ _ _ _ (two_ints_more cells x) (keeps_if (kind == 0x23) _ _ None None (exchange_more _ _ cells x) (keeps_none None))

reckoned_more : (kind : ℕ) (cells x : List Slot) → Keeps (reckoned kind cells) (reckoned kind (cells ++ x))
unfolding reckoned
reckoned_more kind cells x = keeps_if (kind == 0x20) _ _ None None (two_ints_more cells x) (keeps_none None)

negated_more : (kind : ℕ) (cells x : List Slot) → Keeps (negated kind cells) (negated kind (cells ++ x))
unfolding negated
negated_more kind cells x = keeps_if (kind == 0x03) _ _ None None (one_int_more cells x) (keeps_none None)

effect_more : (op : PlainOp) (under cells x y : List Slot) → Keeps (stack_effect op under cells) (stack_effect op (under ++ y) (cells ++ x))
unfolding stack_effect
effect_more (ops.CpDownSp offset size) u c x y = written_more (range_at offset size) c x c x
effect_more (ops.RsAdd kind) u c x y = keeps_same (pushed (type_of_one kind))
effect_more (ops.CpTopSp offset size) u c x y = copied_more (range_at offset size) c x
effect_more (ops.Const lit) u c x y = keeps_same (pushed (type_of_lit lit))
effect_more (ops.Action routine count) u c x y = keeps_none None
effect_more ops.LogAnd u c x y = two_ints_more c x
effect_more ops.LogOr u c x y = two_ints_more c x
effect_more ops.IncOr u c x y = two_ints_more c x
effect_more ops.ExcOr u c x y = two_ints_more c x
effect_more ops.BoolAnd u c x y = two_ints_more c x
effect_more (ops.Equal kind size) u c x y = compared_more kind size c x
effect_more (ops.Nequal kind size) u c x y = compared_more kind size c x
effect_more (ops.Geq kind) u c x y = reckoned_more kind c x
effect_more (ops.Gt kind) u c x y = reckoned_more kind c x
effect_more (ops.Lt kind) u c x y = reckoned_more kind c x
effect_more (ops.Leq kind) u c x y = reckoned_more kind c x
effect_more ops.ShLeft u c x y = two_ints_more c x
effect_more ops.ShRight u c x y = two_ints_more c x
effect_more ops.UshRight u c x y = two_ints_more c x
effect_more (ops.Add kind) u c x y = added_more kind c x
effect_more (ops.Sub kind) u c x y = reckoned_more kind c x
effect_more (ops.Mul kind) u c x y = reckoned_more kind c x
effect_more (ops.Div kind) u c x y = reckoned_more kind c x
effect_more ops.Mod u c x y = two_ints_more c x
effect_more (ops.Neg kind) u c x y = negated_more kind c x
effect_more ops.Comp u c x y = one_int_more c x
effect_more (ops.MovSp offset) u c x y = removed_more (depth_of offset) c x
effect_more (ops.Jmp offset) u c x y = keeps_same (Some no_effect)
effect_more (ops.Jsr offset) u c x y = keeps_none None
effect_more (ops.Jz offset) u c x y = exchange_more _ _ c x
effect_more ops.Retn u c x y = keeps_none None
effect_more (ops.Destruct total offset size) u c x y = kept_more total offset size c x
effect_more ops.Not u c x y = one_int_more c x
effect_more (ops.DecISp offset) u c x y = counted_more (range_at offset 4) c x
effect_more (ops.IncISp offset) u c x y = counted_more (range_at offset 4) c x
effect_more (ops.Jnz offset) u c x y = exchange_more _ _ c x
effect_more (ops.CpDownBp offset size) u c x y = written_more (range_at offset size) c x u y
effect_more (ops.CpTopBp offset size) u c x y = copied_more (range_at offset size) u y
effect_more (ops.DecIBp offset) u c x y = counted_more (range_at offset 4) u y
effect_more (ops.IncIBp offset) u c x y = counted_more (range_at offset 4) u y
effect_more ops.SaveBp u c x y = keeps_none None
effect_more ops.RestoreBp u c x y = keeps_none None
effect_more (ops.StoreState globals locals) u c x y = keeps_none None
effect_more ops.Nop u c x y = keeps_same (Some no_effect)

pub effects_look_from_top : EffectsLookFromTop
effects_look_from_top op under cells x y e h = (effect_more op under cells x y).has e h

call_more : (r : Routine) (count pending : ℕ) (cells x : List Slot) → Keeps (call_effect r count pending cells) (call_effect r count pending (cells ++ x))
unfolding call_effect
call_more r count pending cells x =
    keeps_if (fits_call r count pending) _ _ None None (exchange_more (argument_types r.params) (result_types r.result) cells x) (keeps_none None)

pub calls_look_from_top : CallsLookFromTop
calls_look_from_top r count pending cells x e h = (call_more r count pending cells x).has e h

stored_more : (globals locals : ℕ) (under cells x y : List Slot)
    → Keeps (stored_types globals locals under cells) (stored_types globals locals (under ++ y) (cells ++ x))
unfolding stored_types
stored_more globals locals under cells x y = keeps_within _ _ (cell_count globals) (λ g. keeps_within _ _ (cell_count locals) (λ l.
    keeps_then _ _ _ _ (types_more g under y) (λ ts. keeps_map _ _ _ (types_more l cells x))))

pub stores_look_from_top : StoresLookFromTop
stores_look_from_top globals locals under cells x y t h = (stored_more globals locals under cells x y).has t h

-- ---- what is popped is there

-- where there is an effect, what it pops is there
record Pops (o : Option StackEffect) (cells : List Slot) : Type 0 where
  values : (e : StackEffect) → o ≡ Some e → AreValues e.pops cells

no_values : (cells : List Slot) → AreValues 0 cells
no_values cells = ([], refl)

pops_none : (cells : List Slot) → Pops None cells
pops_none cells = record { values = λ e h. absurd cc }

effect_is : (e f : StackEffect) → Some e ≡ Some f → e ≡ f
effect_is e f h = cc

pops_some : (e : StackEffect) (cells : List Slot) → AreValues e.pops cells → Pops (Some e) cells
pops_some e cells v = record { values = λ f h. subst (λ (f : StackEffect). AreValues f.pops cells) (effect_is e f h) v }

pops_map : {A : Type 0} (f : A → StackEffect) (o : Option A) (cells : List Slot) → ((a : A) → o ≡ Some a → AreValues (f a).pops cells) → Pops (option_map f o) cells
pops_map f None cells v = pops_none cells
pops_map f (Some a) cells v = pops_some (f a) cells (v a refl)

pops_then : {A : Type 0} (f : A → Option StackEffect) (o : Option A) (cells : List Slot) → ((a : A) → Pops (f a) cells) → Pops (option_and_then f o) cells
pops_then f None cells v = pops_none cells
pops_then f (Some a) cells v = v a

pops_if : (b : Bool) (o p : Option StackEffect) (cells : List Slot) → Pops o cells → Pops p cells → Pops (if b then o else p) cells
pops_if true o p cells h k = h
pops_if false o p cells h k = k

pops_alike : (a b : Option (List Ty)) (e : StackEffect) (cells : List Slot)
    → ((ts us : List Ty) → a ≡ Some ts → b ≡ Some us → AreValues e.pops cells) → Pops (where_alike a b e) cells
pops_alike None b e cells v = pops_none cells
pops_alike (Some ts) None e cells v = pops_none cells
pops_alike (Some ts) (Some us) e cells v = pops_if (tys_eq ts us) (Some e) None cells (pops_some e cells (v ts us refl refl)) (pops_none cells)

exchange_pops : (pops pushes : List Ty) (cells : List Slot) → Pops (exchange pops pushes cells) cells
unfolding exchange
exchange_pops pops pushes cells = pops_alike _ _ _ cells (λ ts us h k. (ts, h))

copied_pops : (range : Option CellRange) (slots cells : List Slot) → Pops (copied range slots) cells
copied_pops range slots cells = pops_then _ range cells (λ r. pops_map _ _ cells (λ ts h. no_values cells))

written_pops : (range : Option CellRange) (slots cells : List Slot) → Pops (written range cells slots) cells
written_pops range slots cells = pops_then _ range cells (λ r. pops_alike _ _ _ cells (λ ts us h k. no_values cells))

counted_pops : (range : Option CellRange) (slots cells : List Slot) → Pops (range_int_changed range slots) cells
counted_pops range slots cells = pops_then _ range cells (λ r. pops_alike _ _ _ cells (λ ts us h k. no_values cells))

removed_pops : (count : Option ℕ) (cells : List Slot) → Pops (removed count cells) cells
removed_pops count cells = pops_then _ count cells (λ n. pops_map _ _ cells (λ ts h. (ts, h)))

kept_pops : (total offset size : ℕ) (cells : List Slot) → Pops (kept total offset size cells) cells
unfolding kept
kept_pops total offset size cells = pops_then _ (cell_count total) cells (λ t. pops_then _ (cell_count offset) cells (λ o.
    pops_then _ (cell_count size) cells (λ n. pops_if (nat_le (o + n) t) _ None cells (pops_map _ _ cells (λ ts h. (ts, h))) (pops_none cells))))

suc_add : (m n : ℕ) → suc m + n ≡ suc (m + n)
suc_add m n = omega arith

-- two runs in a row are one
one_more : (m : ℕ) (t : Ty) (cells : List Slot) → AreValues m cells → AreValues (suc m) (Of t ∷ cells)
one_more m t cells (ts, h) = (t ∷ ts, ap (option_map (λ types. t ∷ types)) h)

joined : (m n : ℕ) (cells : List Slot) (ts us : List Ty) → types_on m cells ≡ Some ts → types_on n (drop m cells) ≡ Some us → AreValues (m + n) cells
joined zero n cells ts us h k = (us, rw (zero-add n) k)
joined (suc m) n [] ts us h k = absurd cc
joined (suc m) n (Base ∷ cells) ts us h k = absurd cc
joined (suc m) n (Of t ∷ cells) ts us h k =
    let r = on_map (λ types. t ∷ types) (types_on m cells) ts h in
    subst (λ i. AreValues i (Of t ∷ cells)) (sym (suc_add m n)) (one_more (m + n) t cells (joined m n cells r.0 us r.1 k))

runs_pop : (count : Option ℕ) (cells : List Slot) → Pops (runs count cells) cells
runs_pop count cells = pops_then _ count cells (λ n. pops_alike _ _ _ cells (λ ts us h k. joined n n cells ts us h k))

two_alike_pop : (type : Option Ty) (cells : List Slot) → Pops (two_alike type cells) cells
two_alike_pop type cells = pops_then _ type cells (λ t. exchange_pops _ _ cells)

compared_pops : (kind size : ℕ) (cells : List Slot) → Pops (compared kind size cells) cells
unfolding compared
compared_pops kind size cells = pops_if (kind == 0x24) _ _ cells (runs_pop (cell_count size) cells) (two_alike_pop (type_of_both kind) cells)

added_pops : (kind : ℕ) (cells : List Slot) → Pops (added kind cells) cells
unfolding added
added_pops kind cells = pops_if (kind == 0x20) _ _ cells (exchange_pops _ _ cells) (pops_if (kind == 0x23) _ None cells (exchange_pops _ _ cells) (pops_none cells))

reckoned_pops : (kind : ℕ) (cells : List Slot) → Pops (reckoned kind cells) cells
unfolding reckoned
reckoned_pops kind cells = pops_if (kind == 0x20) _ None cells (exchange_pops _ _ cells) (pops_none cells)

negated_pops : (kind : ℕ) (cells : List Slot) → Pops (negated kind cells) cells
unfolding negated
negated_pops kind cells = pops_if (kind == 0x03) _ None cells (exchange_pops _ _ cells) (pops_none cells)

pushed_pops : (type : Option Ty) (cells : List Slot) → Pops (pushed type) cells
pushed_pops type cells = pops_map _ type cells (λ t h. no_values cells)

effect_pops : (op : PlainOp) (under cells : List Slot) → Pops (stack_effect op under cells) cells
unfolding stack_effect
effect_pops (ops.CpDownSp offset size) u c = written_pops (range_at offset size) c c
effect_pops (ops.RsAdd kind) u c = pushed_pops (type_of_one kind) c
effect_pops (ops.CpTopSp offset size) u c = copied_pops (range_at offset size) c c
effect_pops (ops.Const lit) u c = pushed_pops (type_of_lit lit) c
effect_pops (ops.Action routine count) u c = pops_none c
effect_pops ops.LogAnd u c = exchange_pops _ _ c
effect_pops ops.LogOr u c = exchange_pops _ _ c
effect_pops ops.IncOr u c = exchange_pops _ _ c
effect_pops ops.ExcOr u c = exchange_pops _ _ c
effect_pops ops.BoolAnd u c = exchange_pops _ _ c
effect_pops (ops.Equal kind size) u c = compared_pops kind size c
effect_pops (ops.Nequal kind size) u c = compared_pops kind size c
effect_pops (ops.Geq kind) u c = reckoned_pops kind c
effect_pops (ops.Gt kind) u c = reckoned_pops kind c
effect_pops (ops.Lt kind) u c = reckoned_pops kind c
effect_pops (ops.Leq kind) u c = reckoned_pops kind c
effect_pops ops.ShLeft u c = exchange_pops _ _ c
effect_pops ops.ShRight u c = exchange_pops _ _ c
effect_pops ops.UshRight u c = exchange_pops _ _ c
effect_pops (ops.Add kind) u c = added_pops kind c
effect_pops (ops.Sub kind) u c = reckoned_pops kind c
effect_pops (ops.Mul kind) u c = reckoned_pops kind c
effect_pops (ops.Div kind) u c = reckoned_pops kind c
effect_pops ops.Mod u c = exchange_pops _ _ c
effect_pops (ops.Neg kind) u c = negated_pops kind c
effect_pops ops.Comp u c = exchange_pops _ _ c
effect_pops (ops.MovSp offset) u c = removed_pops (depth_of offset) c
effect_pops (ops.Jmp offset) u c = pops_some no_effect c (no_values c)
effect_pops (ops.Jsr offset) u c = pops_none c
effect_pops (ops.Jz offset) u c = exchange_pops _ _ c
effect_pops ops.Retn u c = pops_none c
effect_pops (ops.Destruct total offset size) u c = kept_pops total offset size c
effect_pops ops.Not u c = exchange_pops _ _ c
effect_pops (ops.DecISp offset) u c = counted_pops (range_at offset 4) c c
effect_pops (ops.IncISp offset) u c = counted_pops (range_at offset 4) c c
effect_pops (ops.Jnz offset) u c = exchange_pops _ _ c
effect_pops (ops.CpDownBp offset size) u c = written_pops (range_at offset size) u c
effect_pops (ops.CpTopBp offset size) u c = copied_pops (range_at offset size) u c
effect_pops (ops.DecIBp offset) u c = counted_pops (range_at offset 4) u c
effect_pops (ops.IncIBp offset) u c = counted_pops (range_at offset 4) u c
effect_pops ops.SaveBp u c = pops_none c
effect_pops ops.RestoreBp u c = pops_none c
effect_pops (ops.StoreState globals locals) u c = pops_none c
effect_pops ops.Nop u c = pops_some no_effect c (no_values c)

pub effects_pop_values : EffectsPopValues
effects_pop_values op under cells e h = (effect_pops op under cells).values e h

call_pops : (r : Routine) (count pending : ℕ) (cells : List Slot) → Pops (call_effect r count pending cells) cells
unfolding call_effect
call_pops r count pending cells = pops_if (fits_call r count pending) _ None cells (exchange_pops _ _ cells) (pops_none cells)

pub calls_pop_values : CallsPopValues
calls_pop_values r count pending cells e h = (call_pops r count pending cells).values e h

more_there : (n : ℕ) (t : Ty) (cells : List Slot) (types rest : List Ty) → t ∷ rest ≡ types → (length rest ≡ n) × (n ≤ length cells)
    → (length types ≡ suc n) × (suc n ≤ length (Of t ∷ cells))
more_there n t cells types rest is h = (ap length (sym is) ∙ ap suc h.0, omega (arith, h.1))

none_there : (types : List Ty) (cells : List Slot) → [] ≡ types → (length types ≡ 0) × (0 ≤ length cells)
none_there types cells is = (ap length (sym is), omega arith)

pub values_are_there : ValuesAreThere
values_are_there zero cells types h = none_there types cells cc
values_are_there (suc n) [] types h = absurd cc
values_are_there (suc n) (Base ∷ cells) types h = absurd cc
values_are_there (suc n) (Of t ∷ cells) types h =
    let m = on_map (λ types. t ∷ types) (types_on n cells) types h in
    more_there n t cells types m.0 m.2 (values_are_there n cells m.0 m.1)
