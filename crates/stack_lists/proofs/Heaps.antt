-- Shapes that are held, and steps on them.
use Rattle.std.proofs.Common.{arith, ◌≡◌, ◌≤◌, ◌+◌, ℕ, zero, suc, List, [], ◌∷◌, ◌++◌, length, map, take, drop, true, Option, None, Some, sym, subst, ◌∙◌, ap, refl}
use Rattle.std.specs.Option.{option_and_then, option_map}
use Rattle.std.proofs.lemmas.List.{append-nil}
use Rattle.stack_shape.specs.declared.shape.Slot.{Slot}
use Rattle.stack_shape.specs.declared.shape.Slot.TheVariants.{Of, Base}
use Rattle.stack_shape.specs.declared.effect.StackEffect.{StackEffect}
use Rattle.stack_shape.specs.StackEffects.{after_effect, pushed, removed, stack_effect}
use Rattle.stack_shape.specs.TopFirst.{types_on}
use Rattle.stack_lists.specs.Stacks.{AreTyped}
use Rattle.nwq_value.specs.declared.value.Ty.{Ty}
use Rattle.stack_shape.specs.Ranges.{cell_count}
use Rattle.stack_shape.specs.Stored.{TopShape, found_types, stored_shape, stored_types}
use Rattle.nwq_value.specs.declared.engine.Routine.{Routine}
use Rattle.stack_shape.specs.Rule.{affected, called_shape, based, restored, rule, stored}
use Rattle.nwq_value.specs.Engine.{EngineTable}
use Rattle.ncs_code.specs.Plain.{PlainOp}
use Rattle.ncs_code.specs.Plain as ops
use Rattle.stack_lists.specs.declared.lists.Node.{Node}
use Rattle.stack_lists.specs.declared.held.Held.{Held}
use Rattle.stack_lists.specs.declared.held.Heap.{Heap}
use Rattle.stack_lists.specs.Shared.{read, Grows}
use Rattle.stack_lists.specs.Held.{shape_of, stored_of, AllAtMost, AreStored, IsIn, HeapGrows, AfterStep, Holds, is_still}
use Rattle.stack_lists.specs.Growth.{all_more, grows_none, grows_then, read_empty, heap_same, map_same, same_shape, still_in, still_shape}

-- ---- equal shapes

pub parts_same : (heap : Heap) (a b : Held) → a.pending ≡ b.pending → read heap.slots a.cells ≡ read heap.slots b.cells
    → read heap.slots a.under ≡ read heap.slots b.under
    → map (read heap.slots) (read heap.saved a.saved) ≡ map (read heap.slots) (read heap.saved b.saved) → shape_of heap a ≡ shape_of heap b
parts_same heap a b p c u s = same_shape _ _ _ _ _ _ _ _ c u s p

pub pending_same : (heap : Heap) (a b : Held) → shape_of heap a ≡ shape_of heap b → a.pending ≡ b.pending
pending_same heap a b e = ap (λ (s : TopShape). s.pending) e

pub cells_same : (heap : Heap) (a b : Held) → shape_of heap a ≡ shape_of heap b → read heap.slots a.cells ≡ read heap.slots b.cells
cells_same heap a b e = ap (λ (s : TopShape). s.cells) e

pub under_same : (heap : Heap) (a b : Held) → shape_of heap a ≡ shape_of heap b → read heap.slots a.under ≡ read heap.slots b.under
under_same heap a b e = ap (λ (s : TopShape). s.under) e

pub saved_same : (heap : Heap) (a b : Held) → shape_of heap a ≡ shape_of heap b
    → map (read heap.slots) (read heap.saved a.saved) ≡ map (read heap.slots) (read heap.saved b.saved)
saved_same heap a b e = ap (λ (s : TopShape). s.saved) e

pub ruleset same_parts = (parts_same, pending_same, cells_same, under_same, saved_same)

-- ---- other cells, and another number of pending states

pub cells_changed : (before after : Heap) (held now : Held) (cells : List Slot) (pending : ℕ) → IsIn before held → Grows before.slots after.slots
    → after.saved ≡ before.saved → now.under ≡ held.under → now.saved ≡ held.saved → now.pending ≡ pending → now.cells ≤ length after.slots
    → read after.slots now.cells ≡ cells → Holds before after now (record (shape_of before held) { cells = cells; pending = pending })
cells_changed before after held now cells pending h g s under saved p in_ r =
    let grown : HeapGrows before after = record { slots = g; saved = subst (λ ns. Grows before.saved ns) (sym s) (grows_none before.saved) } in
    let old = still_in before after held grown h in
    record {
      grows = grown;
      inside = record {
        cells = in_;
        under = subst (λ n. n ≤ length after.slots) (sym under) old.under;
        saved = subst (λ n. n ≤ length after.saved) (sym saved) old.saved;
        each = subst (λ n. AllAtMost (length after.slots) (read after.saved n)) (sym saved) old.each;
      };
      is = same_shape _ _ _ _ _ _ _ _ r (ap (read after.slots) under ∙ g.same held.under h.under)
          (ap (λ n. map (read after.slots) (read after.saved n)) saved ∙ ap TopShape.saved (still_shape before after held grown h)) p;
    }

pub effect_reads : (before after : List (Node Slot)) (cells below on : ℕ) (e : StackEffect) → read before below ≡ drop e.pops (read before cells)
    → read after on ≡ map Of e.pushes ++ read before below → read after on ≡ after_effect e (read before cells)
effect_reads before after cells below on e h i = i ∙ ap (λ rest. map Of e.pushes ++ rest) h

pub lower_in : (nodes : List (Node Slot)) (cells below : ℕ) → below ≤ cells → cells ≤ length nodes → below ≤ length nodes
lower_in nodes cells below h i = omega (arith, h, i)

pub ruleset changing = (cells_changed, effect_reads, lower_in)

-- ---- where there is a step

pub effect_none : (a : Heap) (s : TopShape) → AfterStep a a None (affected None s)
effect_none a s = (heap_same a, refl)

pub effect_some : (a b : Heap) (after : Held) (e : StackEffect) (s : TopShape) → Holds a b after (record s { cells = after_effect e s.cells })
    → AfterStep a b (Some after) (affected (Some e) s)
effect_some a b after e s h = (h.grows, h.inside, ap Some (sym h.is))

pub ruleset affecting = (effect_none, effect_some)

-- ---- a value more

pub push_none : (a : Heap) (o : Option Ty) (s : TopShape) → o ≡ None → AfterStep a a None (affected (pushed o) s)
push_none a o s e = (heap_same a, ap (λ o. affected (pushed o) s) e)

pub push_some : (a b : Heap) (after : Held) (o : Option Ty) (t : Ty) (s : TopShape) → o ≡ Some t → Holds a b after (record s { cells = Of t ∷ s.cells })
    → AfterStep a b (Some after) (affected (pushed o) s)
push_some a b after o t s e h = (h.grows, h.inside, ap (λ o. affected (pushed o) s) e ∙ ap Some (sym h.is))

pub ruleset pushing = (push_none, push_some)

-- ---- MOVSP

pub move_none : (a : Heap) (o : Option ℕ) (s : TopShape) → o ≡ None → AfterStep a a None (affected (removed o s.cells) s)
move_none a o s e = (heap_same a, ap (λ o. affected (removed o s.cells) s) e)

pub move_untyped : (a : Heap) (o : Option ℕ) (n : ℕ) (s : TopShape) → o ≡ Some n → types_on n s.cells ≡ None
    → AfterStep a a None (affected (removed o s.cells) s)
move_untyped a o n s e u = (
  heap_same a,
  ap (λ o. affected (removed o s.cells) s) e ∙ ap (λ t. affected (option_map (λ _. record { pops = n; pushes = [] }) t) s) u,
)

pub move_some : (a : Heap) (held now : Held) (o : Option ℕ) (n : ℕ) → IsIn a held → o ≡ Some n → AreTyped n (read a.slots held.cells)
    → read a.slots now.cells ≡ drop n (read a.slots held.cells) → now.cells ≤ held.cells → now.under ≡ held.under → now.saved ≡ held.saved
    → now.pending ≡ held.pending → AfterStep a a (Some now) (affected (removed o (shape_of a held).cells) (shape_of a held))
move_some a held now o n i e t r less under saved pending =
    let h = cells_changed a a held now (drop n (read a.slots held.cells)) held.pending i (grows_none a.slots) refl under saved pending
    (omega (arith, less, i.cells)) r in (
      h.grows,
      h.inside,
      ap (λ o. affected (removed o (shape_of a held).cells) (shape_of a held)) e
          ∙ ap (λ t. affected (option_map (λ _. record { pops = n; pushes = [] }) t) (shape_of a held)) t.1 ∙ ap Some (sym h.is),
    )

pub ruleset moving = (move_none, move_untyped, move_some)

-- ---- SAVEBP

pub base_set : (a b : Heap) (held now : Held) → IsIn a held → Grows a.slots b.slots → Grows a.saved b.saved → now.under ≡ held.cells → now.pending ≡ held.pending
    → now.cells ≤ length b.slots → now.saved ≤ length b.saved → read b.slots now.cells ≡ Base ∷ read a.slots held.cells
    → read b.saved now.saved ≡ held.under ∷ read a.saved held.saved → Holds a b now (based (shape_of a held))
base_set a b held now h g s under pending c_in s_in c r =
    let grown : HeapGrows a b = record { slots = g; saved = s } in
    let old = still_in a b held grown h in
    record {
      grows = grown;
      inside = record {
        cells = c_in;
        under = subst (λ n. n ≤ length b.slots) (sym under) old.cells;
        saved = s_in;
        each = subst (λ ns. AllAtMost (length b.slots) ns) (sym r)
            (old.under, all_more (length a.slots) (length b.slots) (read a.saved held.saved) g.longer h.each);
      };
      is = same_shape _ _ _ _ _ _ _ _ c (ap (read b.slots) under ∙ g.same held.cells h.cells)
          (ap (map (read b.slots)) r ∙ ap (λ xs. xs ∷ map (read b.slots) (read a.saved held.saved)) (g.same held.under h.under)
          ∙ ap (λ rest. read a.slots held.under ∷ rest) (map_same a.slots b.slots (read a.saved held.saved) g h.each)) pending;
    }

pub ruleset basing = (base_set)

-- ---- RESTOREBP

pub restore_empty : (a : Heap) (held : Held) → read a.slots held.cells ≡ [] → AfterStep a a None (restored (shape_of a held).cells (shape_of a held).saved (shape_of a held).pending)
restore_empty a held e = (heap_same a, ap (λ cells. restored cells (shape_of a held).saved held.pending) e)

pub restore_value : (a : Heap) (held : Held) (slot : Slot) (t : Ty) (rest : List Slot) → read a.slots held.cells ≡ slot ∷ rest → slot ≡ Of t
    → AfterStep a a None (restored (shape_of a held).cells (shape_of a held).saved (shape_of a held).pending)
restore_value a held slot t rest e i =
    (heap_same a, ap (λ cells. restored cells (shape_of a held).saved held.pending) (e ∙ ap (λ s. s ∷ rest) i))

pub restore_unsaved : (a : Heap) (held : Held) (slot : Slot) (rest : List Slot) → read a.slots held.cells ≡ slot ∷ rest → slot ≡ Base
    → read a.saved held.saved ≡ [] → AfterStep a a None (restored (shape_of a held).cells (shape_of a held).saved (shape_of a held).pending)
restore_unsaved a held slot rest e i s = (
  heap_same a,
  ap (λ cells. restored cells (shape_of a held).saved held.pending) (e ∙ ap (λ s. s ∷ rest) i)
      ∙ ap (λ saved. restored (Base ∷ rest) (map (read a.slots) saved) held.pending) s,
)

pub restore_base : (a : Heap) (held now : Held) (slot : Slot) → IsIn a held → read a.slots held.cells ≡ slot ∷ read a.slots now.cells → slot ≡ Base
    → read a.saved held.saved ≡ now.under ∷ read a.saved now.saved → now.pending ≡ held.pending → now.cells ≤ length a.slots → now.saved ≤ length a.saved
    → AfterStep a a (Some now) (restored (shape_of a held).cells (shape_of a held).saved (shape_of a held).pending)
restore_base a held now slot h e i s p c_in s_in =
    let all = subst (λ ns. AllAtMost (length a.slots) ns) s h.each in (
      heap_same a,
      record { cells = c_in; under = all.0; saved = s_in; each = all.1 },
      ap (λ cells. restored cells (shape_of a held).saved held.pending) (e ∙ ap (λ s. s ∷ read a.slots now.cells) i)
          ∙ ap (λ saved. restored (Base ∷ read a.slots now.cells) (map (read a.slots) saved) held.pending) s
          ∙ ap (λ p. Some (record (shape_of a now) { pending = p })) (sym p),
    )

pub ruleset restoring = (restore_empty, restore_value, restore_unsaved, restore_base)

-- ---- STORE_STATE

pub counts_some : (globals locals g l : ℕ) (s : TopShape) → cell_count globals ≡ Some g → cell_count locals ≡ Some l → AreTyped g s.under → AreTyped l s.cells
    → AreStored globals locals s g l
unfolding stored_types
counts_some globals locals g l s e f t u = record {
  types = record { globals = t.0; locals = u.0 };
  found = ap (option_and_then (λ g. option_and_then (λ l. found_types g l s.under s.cells) (cell_count locals))) e
      ∙ ap (option_and_then (λ l. found_types g l s.under s.cells)) f
      ∙ ap (option_and_then (λ g. option_map (λ l. record { globals = g; locals = l }) (types_on l s.cells))) t.1
      ∙ ap (option_map (λ l. record { globals = t.0; locals = l })) u.1;
  globals_are = t.1;
  locals_are = u.1;
}

no_more : {A B : Type 0} (o : Option A) → option_and_then (λ a. let n : Option B = None in n) o ≡ None
no_more None = refl
no_more (Some a) = refl

pub counts_no_globals : (globals locals : ℕ) (s : TopShape) → cell_count globals ≡ None → stored_of globals locals s ≡ None
unfolding stored_types
counts_no_globals globals locals s e = ap (option_and_then (λ g. option_and_then (λ l. found_types g l s.under s.cells) (cell_count locals))) e

pub counts_no_locals : (globals locals : ℕ) (s : TopShape) → cell_count locals ≡ None → stored_of globals locals s ≡ None
unfolding stored_types
counts_no_locals globals locals s e =
    ap (λ o. option_and_then (λ g. option_and_then (λ l. found_types g l s.under s.cells) o) (cell_count globals)) e ∙ no_more (cell_count globals)

pub counts_no_under : (globals locals g : ℕ) (s : TopShape) → cell_count globals ≡ Some g → types_on g s.under ≡ None → stored_of globals locals s ≡ None
unfolding stored_types
counts_no_under globals locals g s e t =
    ap (option_and_then (λ g. option_and_then (λ l. found_types g l s.under s.cells) (cell_count locals))) e
    ∙ ap (λ o. option_and_then (λ l. option_and_then (λ g. option_map (λ l. record { globals = g; locals = l }) (types_on l s.cells)) o) (cell_count locals)) t
    ∙ no_more (cell_count locals)

pub counts_no_cells : (globals locals g l : ℕ) (s : TopShape) → cell_count globals ≡ Some g → cell_count locals ≡ Some l → types_on l s.cells ≡ None
    → stored_of globals locals s ≡ None
unfolding stored_types
counts_no_cells globals locals g l s e f t =
    ap (option_and_then (λ g. option_and_then (λ l. found_types g l s.under s.cells) (cell_count locals))) e
    ∙ ap (option_and_then (λ l. found_types g l s.under s.cells)) f
    ∙ ap (λ o. option_and_then (λ g. option_map (λ l. record { globals = g; locals = l }) o) (types_on g s.under)) t ∙ no_more (types_on g s.under)

pub ruleset counting = (counts_some)

pub store_none : (a : Heap) (held : Held) (globals locals : ℕ) → stored_of globals locals (shape_of a held) ≡ None
    → AfterStep a a None (stored globals locals (shape_of a held))
store_none a held globals locals e = (heap_same a, ap (option_map (λ t. record (shape_of a held) { pending = held.pending + 1 })) e)

pub store_some : (a : Heap) (held now : Held) (globals locals m n : ℕ) → IsIn a held → AreStored globals locals (shape_of a held) m n
    → now ≡ record held { pending = held.pending + 1 } → AfterStep a a (Some now) (stored globals locals (shape_of a held))
store_some a held now globals locals m n h s e = subst (λ now. AfterStep a a (Some now) (stored globals locals (shape_of a held))) (sym e) (
  heap_same a,
  record { cells = h.cells; under = h.under; saved = h.saved; each = h.each },
  ap (option_map (λ t. record (shape_of a held) { pending = held.pending + 1 })) s.found,
)

pub ruleset storing = (store_none, store_some)

pub resume_none : (a : Heap) (held : Held) (globals locals : ℕ) → stored_of globals locals (shape_of a held) ≡ None
    → AfterStep a a None (option_map stored_shape (stored_of globals locals (shape_of a held)))
resume_none a held globals locals e = (heap_same a, ap (option_map stored_shape) e)

some_types : (a b : List Ty) → Some a ≡ Some b → a ≡ b
some_types a b h = cc

types_more : (t : Ty) (n : ℕ) (slots : List Slot) (types : List Ty) (o : Option (List Ty)) → types_on n slots ≡ o → option_map (λ types. t ∷ types) o ≡ Some types
    → ((rest : List Ty) → types_on n slots ≡ Some rest → take n slots ≡ map Of rest) → Of t ∷ take n slots ≡ map Of types
types_more t n slots types None h i more = absurd cc
types_more t n slots types (Some rest) h i more = ap (λ z. Of t ∷ z) (more rest h) ∙ ap (map Of) (some_types (t ∷ rest) types i)

take_types : (n : ℕ) (slots : List Slot) (types : List Ty) → types_on n slots ≡ Some types → take n slots ≡ map Of types
take_types zero slots types e = ap (map Of) (some_types [] types e)
take_types (suc n) [] types e = absurd cc
take_types (suc n) (Base ∷ slots) types e = absurd cc
take_types (suc n) (Of t ∷ slots) types e = types_more t n slots types (types_on n slots) refl e (take_types n slots)

pub resume_some : (a : Heap) (b c d : List (Node Slot)) (globals locals m n under base cells : ℕ) (held now : Held) → IsIn a held
    → AreStored globals locals (shape_of a held) m n → Grows a.slots b → Grows b c → Grows c d
    → under ≤ length b → base ≤ length c → cells ≤ length d → read b under ≡ take m (read a.slots held.under) ++ read a.slots 0
    → read c base ≡ Base ∷ read b under → read d cells ≡ take n (read c held.cells) ++ read c base
    → now ≡ record { cells = cells; under = under; saved = 0; pending = 0 }
    → AfterStep a (record { slots = d; saved = a.saved }) (Some now) (option_map stored_shape (stored_of globals locals (shape_of a held)))
resume_some a b c d globals locals m n under base cells held now k s g h i gi bi ci gr br cr e =
    subst (λ now. AfterStep a (record { slots = d; saved = a.saved }) (Some now) (option_map stored_shape (stored_of globals locals (shape_of a held)))) (sym e) (
      record { slots = grows_then a.slots b d g (grows_then b c d h i); saved = grows_none a.saved },
      record {
        cells = ci;
        under = let l = h.longer in let m = i.longer in omega (arith, gi, l, m);
        saved = omega arith;
        each = subst (λ ns. AllAtMost (length d) ns) (sym (read_empty a.saved)) tt;
      },
      ap (option_map stored_shape) s.found ∙ ap Some (sym (same_shape _ _ _ _ _ _ _ _ cells_are
          ((grows_then b c d h i).same under gi ∙ under_is) (ap (map (read d)) (read_empty a.saved)) refl)),
    )
  where
    under_is : read b under ≡ map Of s.types.globals
    under_is = gr ∙ ap (λ z. take m (read a.slots held.under) ++ z) (read_empty a.slots) ∙ append-nil (take m (read a.slots held.under))
        ∙ take_types m (read a.slots held.under) s.types.globals s.globals_are

    cells_are : read d cells ≡ map Of s.types.locals ++ Base ∷ map Of s.types.globals
    cells_are = cr ∙ ap (λ z. take n z ++ read c base) ((grows_then a.slots b c g h).same held.cells k.cells)
        ∙ ap (λ z. z ++ read c base) (take_types n (read a.slots held.cells) s.types.locals s.locals_are)
        ∙ ap (λ z. map Of s.types.locals ++ z) (br ∙ ap (λ z. Base ∷ z) under_is)

pub ruleset resuming = (resume_none)

-- ---- ACTION

pub called_none : (a : Heap) (o : Option Routine) (count : ℕ) (s : TopShape) → o ≡ None → AfterStep a a None (called_shape o count s)
called_none a o count s e = (heap_same a, ap (λ o. called_shape o count s) e)

pub ruleset calling = (called_none)

-- ---- any step

pub step_holds : (a b : Heap) (after : Held) (s : TopShape) → Holds a b after s → AfterStep a b (Some after) (Some s)
step_holds a b after s h = (h.grows, h.inside, ap Some (sym h.is))

-- where it changes nothing
pub still_rule : (table : EngineTable) (op : PlainOp) (s : TopShape) → is_still op ≡ true → rule table op s ≡ Some s
unfolding is_still rule stack_effect
still_rule table (ops.Jmp offset) s h = refl
still_rule table ops.Nop s h = refl
still_rule table op s h = absurd cc

pub ruleset stepping = (step_holds, heap_same, still_rule)
