-- The rule looks from the top.
use Rattle.std.proofs.Common.{arith, ◌≡◌, ◌≤◌, ◌+◌, ◌-◌, ℕ, zero, suc, List, [], ◌∷◌, ◌++◌, length, map, drop, reverse, Option, Some, None, slice_get, sym, ◌∙◌, ap, refl}
use Rattle.std.specs.Option.{option_map}
use Rattle.std.proofs.lemmas.List.{append_assoc, reverse-append}
use Rattle.nwq_value.specs.declared.value.Ty.{Ty}
use Rattle.nwq_value.specs.declared.engine.Routine.{Routine}
use Rattle.ncs_code.specs.Plain.{PlainOp}
use Rattle.ncs_code.specs.Plain as ops
use Rattle.stack_shape.specs.declared.shape.Slot.{Slot}
use Rattle.stack_shape.specs.declared.shape.Slot.TheVariants.{Of, Base}
use Rattle.stack_shape.specs.declared.shape.Shape.{Shape}
use Rattle.stack_shape.specs.declared.effect.StackEffect.{StackEffect}
use Rattle.stack_shape.specs.declared.store.StoredTypes.{StoredTypes}
use Rattle.stack_shape.specs.StackEffects.{after_effect, stack_effect}
use Rattle.stack_shape.specs.Calls.{action_count, call_effect}
use Rattle.stack_shape.specs.Stored.{TopShape, stored_types}
use Rattle.stack_shape.specs.Rule.{affected, based, restored, stored, called_shape, rule, top_first}
use Rattle.stack_shape.specs.Laws.{beneath_under, deeper_saved, deeper, RuleLooksFromTop}
use Rattle.stack_shape.proofs.EffectLemmas.{on_map, effects_look_from_top, effects_pop_values, calls_look_from_top, calls_pop_values, stores_look_from_top, values_are_there}

-- ---- RESTOREBP, where the lists grow at their end

last_first : {A : Type 0} (xs rest : List A) (x : A) → xs ≡ rest ++ x ∷ [] → reverse xs ≡ x ∷ reverse rest
last_first xs rest x e = ap reverse e ∙ reverse-append rest (x ∷ [])

empty : {A : Type 0} (xs : List A) → length xs ≡ 0 → xs ≡ []
empty [] e = refl
empty (x ∷ xs) e = absurd cc

pub restored_none : (cells : List Slot) (saved : List (List Slot)) (pending : ℕ) → length cells ≡ 0 → None ≡ restored (reverse cells) saved pending
restored_none cells saved pending e = ap (λ cells. restored (reverse cells) saved pending) (sym (empty cells e))

pub restored_value : (cells rest : List Slot) (top : Slot) (t : Ty) (saved : List (List Slot)) (pending : ℕ) → cells ≡ rest ++ top ∷ [] → top ≡ Of t
    → None ≡ restored (reverse cells) saved pending
restored_value cells rest top t saved pending e v =
    ap (λ cells. restored cells saved pending) (sym (last_first cells rest top e ∙ ap (λ top. top ∷ reverse rest) v))

pub restored_unsaved : (cells rest : List Slot) (top : Slot) (saved : List (List Slot)) (pending : ℕ) → cells ≡ rest ++ top ∷ [] → top ≡ Base
    → length saved ≡ 0 → None ≡ restored (reverse cells) (map reverse (reverse saved)) pending
restored_unsaved cells rest top saved pending e b n =
    ap (λ saved. restored (Base ∷ reverse rest) (map reverse (reverse saved)) pending) (sym (empty saved n))
    ∙ ap (λ cells. restored cells (map reverse (reverse saved)) pending) (sym (last_first cells rest top e ∙ ap (λ top. top ∷ reverse rest) b))

pub restored_both : (cells rest : List Slot) (top : Slot) (saved older : List (List Slot)) (under : List Slot) (pending : ℕ) (after : Shape)
    → cells ≡ rest ++ top ∷ [] → top ≡ Base → saved ≡ older ++ under ∷ []
    → after ≡ record { cells = rest; under = under; saved = older; pending = pending }
    → Some (top_first after) ≡ restored (reverse cells) (map reverse (reverse saved)) pending
restored_both cells rest top saved older under pending after e b f a =
    ap (λ after. Some (top_first after)) a
    ∙ ap (λ saved. restored (Base ∷ reverse rest) (map reverse saved) pending) (sym (last_first saved older under f))
    ∙ ap (λ cells. restored cells (map reverse (reverse saved)) pending) (sym (last_first cells rest top e ∙ ap (λ top. top ∷ reverse rest) b))

pub ruleset restoring = (restored_none, restored_value)

-- ---- further cells beneath

drop_more : (n : ℕ) (cells x : List Slot) → n ≤ length cells → drop n (cells ++ x) ≡ drop n cells ++ x
drop_more zero cells x h = refl
drop_more (suc n) [] x h = absurd (omega (arith, h))
drop_more (suc n) (c ∷ cells) x h = drop_more n cells x (omega (arith, h))

after_more : (e : StackEffect) (cells x : List Slot) → e.pops ≤ length cells → after_effect e (cells ++ x) ≡ after_effect e cells ++ x
after_more e cells x h = ap (λ rest. map Of e.pushes ++ rest) (drop_more e.pops cells x h) ∙ sym (append_assoc (map Of e.pushes) (drop e.pops cells) x)

-- the deeper shape after an effect, where the effect on the deeper cells is the same
affected_more : (o p : Option StackEffect) (s after : TopShape) (x y : List Slot)
    → ((e : StackEffect) → o ≡ Some e → p ≡ Some e) → ((e : StackEffect) → o ≡ Some e → e.pops ≤ length s.cells)
    → affected o s ≡ Some after → affected p (deeper x y s) ≡ Some (deeper x y after)
affected_more None p s after x y same there h = absurd cc
affected_more (Some e) p s after x y same there h =
    ap (λ p. affected p (deeper x y s)) (same e refl)
    ∙ ap (λ cells. Some (record (deeper x y s) { cells = cells })) (after_more e s.cells x (there e refl))
    ∙ ap (option_map (deeper x y)) h

effect_fits : (op : PlainOp) (under cells : List Slot) (e : StackEffect) → stack_effect op under cells ≡ Some e → e.pops ≤ length cells
effect_fits op under cells e h = let v = effects_pop_values op under cells e h in (values_are_there e.pops cells v.0 v.1).1

call_fits : (r : Routine) (count pending : ℕ) (cells : List Slot) (e : StackEffect) → call_effect r count pending cells ≡ Some e → e.pops ≤ length cells
call_fits r count pending cells e h = let v = calls_pop_values r count pending cells e h in (values_are_there e.pops cells v.0 v.1).1

-- an instruction that changes nothing but the cells
cells_more : (op : PlainOp) (s after : TopShape) (x y : List Slot) → affected (stack_effect op s.under s.cells) s ≡ Some after
    → affected (stack_effect op (deeper x y s).under (deeper x y s).cells) (deeper x y s) ≡ Some (deeper x y after)
cells_more op s after x y h = affected_more (stack_effect op s.under s.cells) _ s after x y
    (λ e. effects_look_from_top op s.under s.cells x (beneath_under x y s.saved) e) (λ e. effect_fits op s.under s.cells e) h

called_more : (r : Option Routine) (count : ℕ) (s after : TopShape) (x y : List Slot) → called_shape r count s ≡ Some after
    → called_shape r count (deeper x y s) ≡ Some (deeper x y after)
called_more None count s after x y h = absurd cc
called_more (Some r) count s after x y h = affected_more (call_effect r count s.pending s.cells) (call_effect r count s.pending (s.cells ++ x))
    (record s { pending = s.pending - action_count r.params }) after x y
    (λ e. calls_look_from_top r count s.pending s.cells x e) (λ e. call_fits r count s.pending s.cells e) h

based_more : (s after : TopShape) (x y : List Slot) → Some (based s) ≡ Some after → Some (based (deeper x y s)) ≡ Some (deeper x y after)
based_more s after x y h = ap (option_map (deeper x y)) h

restored_more : (cells under : List Slot) (saved : List (List Slot)) (pending : ℕ) (after : TopShape) (x y : List Slot) → restored cells saved pending ≡ Some after
    → restored (cells ++ x) (deeper_saved x y saved) pending ≡ Some (deeper x y after)
restored_more [] under saved pending after x y h = absurd cc
restored_more (Of t ∷ cells) under saved pending after x y h = absurd cc
restored_more (Base ∷ cells) under [] pending after x y h = absurd cc
restored_more (Base ∷ cells) under (u ∷ us) pending after x y h = ap (option_map (deeper x y)) h

stored_more : (globals locals : ℕ) (s after : TopShape) (x y : List Slot) → stored globals locals s ≡ Some after
    → stored globals locals (deeper x y s) ≡ Some (deeper x y after)
stored_more globals locals s after x y h =
    let m = on_map (λ (t : StoredTypes). record s { pending = s.pending + 1 }) (stored_types globals locals s.under s.cells) after h in
    ap (option_map (λ (t : StoredTypes). record (deeper x y s) { pending = s.pending + 1 }))
    (stores_look_from_top globals locals s.under s.cells x (beneath_under x y s.saved) m.0 m.1)
    ∙ ap (option_map (deeper x y)) (ap Some m.2)

pub rule_looks_from_top : RuleLooksFromTop
unfolding rule
rule_looks_from_top table (ops.Action routine count) s after x y h = called_more (slice_get table.routines routine) count s after x y h
rule_looks_from_top table ops.SaveBp s after x y h = based_more s after x y h
rule_looks_from_top table ops.RestoreBp s after x y h = restored_more s.cells s.under s.saved s.pending after x y h
rule_looks_from_top table (ops.StoreState globals locals) s after x y h = stored_more globals locals s after x y h
rule_looks_from_top table op s after x y h = cells_more op s after x y h
