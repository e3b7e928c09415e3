-- Lists and shapes stay as they were where nodes are only added. No contract speaks of these
-- lemmas: they serve the proofs of the crates above.
use Rattle.std.proofs.Common.{◌≡◌, ◌≤◌, ℕ, List, [], ◌∷◌, length, map, sym, subst, ◌∙◌, ap, refl, le_refl, le_trans}
use Rattle.stack_shape.specs.declared.shape.Slot.{Slot}
use Rattle.stack_shape.specs.Stored.{TopShape}
use Rattle.stack_lists.specs.declared.lists.Node.{Node}
use Rattle.stack_lists.specs.declared.held.Held.{Held}
use Rattle.stack_lists.specs.declared.held.Heap.{Heap}
use Rattle.stack_lists.specs.Shared.{read, Grows}
use Rattle.stack_lists.specs.Held.{shape_of, AllAtMost, IsIn, HeapGrows}

-- ---- lists

pub read_empty : {A : Type 0} (nodes : List (Node A)) → read nodes 0 ≡ []
unfolding read
read_empty nodes = refl

pub grows_none : {A : Type 0} (nodes : List (Node A)) → Grows nodes nodes
grows_none nodes = record { longer = le_refl (length nodes); same = λ number h. refl }

pub grows_then : {A : Type 0} (a b c : List (Node A)) → Grows a b → Grows b c → Grows a c
grows_then a b c g h = record {
  longer = le_trans g.longer h.longer;
  same = λ number i. h.same number (le_trans i g.longer) ∙ g.same number i;
}

-- the same lists, read where there are more nodes
pub map_same : (before after : List (Node Slot)) (ns : List ℕ) → Grows before after
    → AllAtMost (length before) ns → map (read after) ns ≡ map (read before) ns
map_same before after [] g all = refl
map_same before after (n ∷ ns) g all =
    ap (λ xs. xs ∷ map (read after) ns) (g.same n all.0)
    ∙ ap (λ rest. read before n ∷ rest) (map_same before after ns g all.1)

pub all_more : (a b : ℕ) (ns : List ℕ) → a ≤ b → AllAtMost a ns → AllAtMost b ns
all_more a b [] h all = tt
all_more a b (n ∷ ns) h all = (le_trans all.0 h, all_more a b ns h all.1)

-- ---- shapes

pub heap_same : (h : Heap) → HeapGrows h h
heap_same h = record { slots = grows_none h.slots; saved = grows_none h.saved }

pub heap_then : (a b c : Heap) → HeapGrows a b → HeapGrows b c → HeapGrows a c
heap_then a b c g h = record {
  slots = grows_then a.slots b.slots c.slots g.slots h.slots;
  saved = grows_then a.saved b.saved c.saved g.saved h.saved;
}

pub still_in : (a b : Heap) (held : Held) → HeapGrows a b → IsIn a held → IsIn b held
still_in a b held g h = record {
  cells = le_trans h.cells g.slots.longer;
  under = le_trans h.under g.slots.longer;
  saved = le_trans h.saved g.saved.longer;
  each = subst (λ ns. AllAtMost (length b.slots) ns) (sym (g.saved.same held.saved h.saved))
      (all_more (length a.slots) (length b.slots) (read a.saved held.saved) g.slots.longer h.each);
}

-- equal parts make equal shapes
pub same_shape : (cells under : List Slot) (saved : List (List Slot)) (pending : ℕ)
    (cells' under' : List Slot) (saved' : List (List Slot)) (pending' : ℕ)
    → cells ≡ cells' → under ≡ under' → saved ≡ saved' → pending ≡ pending'
    → (let a : TopShape = record {
      cells = cells;
      under = under;
      saved = saved;
      pending = pending;
    } in a)
    ≡ record { cells = cells'; under = under'; saved = saved'; pending = pending' }
same_shape cells under saved pending cells' under' saved' pending' c u s p =
    ap (λ c. record { cells = c; under = under; saved = saved; pending = pending }) c
    ∙ ap (λ u. record { cells = cells'; under = u; saved = saved; pending = pending }) u
    ∙ ap (λ s. record { cells = cells'; under = under'; saved = s; pending = pending }) s
    ∙ ap (λ p. record { cells = cells'; under = under'; saved = saved'; pending = p }) p

pub still_shape : (a b : Heap) (held : Held) → HeapGrows a b → IsIn a held
    → shape_of b held ≡ shape_of a held
still_shape a b held g h =
    same_shape _ _ _ _ _ _ _ _ (g.slots.same held.cells h.cells) (g.slots.same held.under h.under)
    (ap (map (read b.slots)) (g.saved.same held.saved h.saved)
    ∙ map_same a.slots b.slots (read a.saved held.saved) g.slots h.each) refl
