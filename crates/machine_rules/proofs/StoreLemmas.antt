-- What STORE_STATE captures.
use Rattle.std.proofs.Common.{arith, ◌≡◌, ◌≤◌, ◌+◌, ◌-◌, ℕ, zero, suc, List, [], ◌∷◌, ◌++◌, length, map, take, drop, reverse, Some, subst, ◌∙◌, ap, refl, length-append}
use Rattle.std.specs.Option.{option_map, option_and_then}
use Rattle.std.proofs.lemmas.List.{reverse-reverse, length-reverse}
use Rattle.nwq_value.specs.declared.value.Ty.{Ty}
use Rattle.nwq_value.specs.declared.value.Value.{Value}
use Rattle.nwq_value.specs.Values.{type_of}
use Rattle.ncs_code.specs.Plain.{StoreState}
use Rattle.ncs_code.specs.File.{resume_place}
use Rattle.saved_state.specs.declared.cell.Cell.{Cell}
use Rattle.saved_state.specs.declared.cell.Cell.TheVariants.{Value as Holds, Base}
use Rattle.saved_state.specs.declared.saved.Saved.{Saved}
use Rattle.saved_state.specs.Cells.{StackView, cells_beneath, captured, resumed}
use Rattle.stack_shape.specs.declared.store.StoredTypes.{StoredTypes}
use Rattle.stack_shape.specs.Ranges.{cell_count}
use Rattle.stack_shape.specs.TopFirst.{types_on}
use Rattle.stack_shape.specs.Stored.{found_types, stored_types}
use Rattle.machine_rules.specs.Cells.{values_on, value_types}
use Rattle.machine_rules.specs.Frames.{Frame}
use Rattle.machine_rules.specs.Act.{Act, Moves, next_place, stored_cells}
use Rattle.machine_rules.specs.Outlines.{Outline, Typed, Keeps, outline, outlines, slots, slots_under}
use Rattle.machine_rules.specs.Laws.{CapturesTypes, StoresAreFollowed}
use Rattle.machine_rules.proofs.FollowLemmas.{AreValues, on_map, on_then, typed, le_is}

outlines_append : (a b : List Cell) → outlines (a ++ b) ≡ outlines a ++ outlines b
outlines_append [] b = refl
outlines_append (c ∷ a) b = ap (λ (os : List Outline). outline c ∷ os) (outlines_append a b)

-- the cells on top of which these are the values
values_outlines : (n : ℕ) (cells : List Cell) (vs : List Value) → values_on n cells ≡ Some vs → outlines (take n cells) ≡ map Typed (value_types vs)
values_outlines zero cells vs h = none vs cc
  where
    none : (vs : List Value) → [] ≡ vs → [] ≡ map Typed (value_types vs)
    none vs h = ap (λ (vs : List Value). map Typed (value_types vs)) h
values_outlines (suc n) [] vs h = absurd cc
values_outlines (suc n) (Base bp ∷ cells) vs h = absurd cc
values_outlines (suc n) (Holds v ∷ cells) vs h = let m = on_map (λ (vs : List Value). v ∷ vs) (values_on n cells) vs h in
    subst (λ (vs : List Value). outlines (take (suc n) (Holds v ∷ cells)) ≡ map Typed (value_types vs)) m.2
    (ap (λ (os : List Outline). Typed (type_of v) ∷ os) (values_outlines n cells m.0 m.1))

typed_outlines : (n : ℕ) (cells : List Cell) (types : List Ty) → AreValues n cells types → outlines (take n cells) ≡ map Typed types
typed_outlines n cells types a = values_outlines n cells a.values a.are ∙ ap (map Typed) a.types_are

drop_past : (upper lower : List Cell) (c : Cell) → drop (suc (length upper)) (upper ++ c ∷ lower) ≡ lower
drop_past [] lower c = refl
drop_past (x ∷ upper) lower c = drop_past upper lower c

beneath_base : (upper lower : List Cell) (c : Cell) (n : ℕ) → n ≡ length lower → cells_beneath n (upper ++ c ∷ lower) ≡ lower
beneath_base upper lower c n h = ap (λ (k : ℕ). drop k (upper ++ c ∷ lower)) (count (length-append upper (c ∷ lower))) ∙ drop_past upper lower c
  where
    count : length (upper ++ c ∷ lower) ≡ length upper + suc (length lower) → length (upper ++ c ∷ lower) - n ≡ suc (length upper)
    count e = omega (arith, h, e)

-- the stack on which these cells resume
resumed_cells : (script place globals locals : ℕ) (s : StackView)
    → (resumed (captured script place globals locals s)).cells ≡ take locals s.cells ++ Base 0 ∷ take globals (cells_beneath s.bp s.cells)
resumed_cells script place globals locals s =
    ap (λ (l : List Cell). l ++ Base 0 ∷ reverse (reverse (take globals (cells_beneath s.bp s.cells)))) (reverse-reverse (take locals s.cells))
    ∙ ap (λ (g : List Cell). take locals s.cells ++ Base 0 ∷ g) (reverse-reverse (take globals (cells_beneath s.bp s.cells)))

resumed_under : (script place globals locals : ℕ) (s : StackView)
    → cells_beneath (resumed (captured script place globals locals s)).bp (resumed (captured script place globals locals s)).cells ≡ take globals (cells_beneath s.bp s.cells)
resumed_under script place globals locals s =
    ap (cells_beneath (resumed (captured script place globals locals s)).bp) (resumed_cells script place globals locals s)
    ∙ beneath_base (take locals s.cells) (take globals (cells_beneath s.bp s.cells)) (Base 0) _ (length-reverse (take globals (cells_beneath s.bp s.cells)))

-- so many globals and locals of these types
record Found (g l : ℕ) (f : Frame) (t : StoredTypes) : Type 0 where
  globals : AreValues g (cells_beneath f.stack.bp f.stack.cells) t.globals
  locals : AreValues l f.stack.cells t.locals

found : (g l : ℕ) (f : Frame) (t : StoredTypes) → found_types g l (slots_under f.stack) (slots f.stack.cells) ≡ Some t → Found g l f t
found g l f t h =
    let m = on_then (λ (gs : List Ty). option_map (λ (ls : List Ty). record { globals = gs; locals = ls }) (types_on l (slots f.stack.cells))) (types_on g (slots_under f.stack)) t h in
    let n = on_map (λ (ls : List Ty). record { globals = m.0; locals = ls }) (types_on l (slots f.stack.cells)) t m.2 in
    subst (Found g l f) n.2 (record {
      globals = typed g (cells_beneath f.stack.bp f.stack.cells) m.0 m.1;
      locals = typed l f.stack.cells n.0 n.1;
    })

captured_by : (g l : ℕ) (f : Frame) (t : StoredTypes) → Found g l f t → f.stack.bp ≤ length f.stack.cells
    → stored_cells g l f ≡ Some (captured f.script (resume_place f.place) g l f.stack)
captured_by g l f t h inside =
    rw (le_is f.stack.bp (length f.stack.cells) inside)
    (ap (option_and_then (λ (_ : List Value). option_map (λ (_ : List Value). captured f.script (resume_place f.place) g l f.stack) (values_on l f.stack.cells))) h.globals.are
    ∙ ap (option_map (λ (_ : List Value). captured f.script (resume_place f.place) g l f.stack)) h.locals.are)

-- the frame behind STORE_STATE
abbrev moved_on : ℕ → ℕ → Frame → Saved → Act
moved_on globals locals f saved = Moves (record f { place = next_place f.place (StoreState globals locals); pending = saved ∷ f.pending })

stored_by : (globals locals g l : ℕ) (f : Frame) (t : StoredTypes) → cell_count globals ≡ Some g → cell_count locals ≡ Some l → Found g l f t → f.stack.bp ≤ length f.stack.cells
    → CapturesTypes globals locals f t
stored_by globals locals g l f t eg el h inside = record {
  saved = captured f.script (resume_place f.place) g l f.stack;
  is = ap (option_and_then (λ (g : ℕ). option_and_then (λ (l : ℕ). option_map (moved_on globals locals f) (stored_cells g l f)) (cell_count locals))) eg
      ∙ ap (option_and_then (λ (l : ℕ). option_map (moved_on globals locals f) (stored_cells g l f))) el
      ∙ ap (option_map (moved_on globals locals f)) (captured_by g l f t h inside);
  script = refl;
  place = refl;
  cells = ap outlines (resumed_cells f.script (resume_place f.place) g l f.stack)
      ∙ outlines_append (take l f.stack.cells) (Base 0 ∷ take g (cells_beneath f.stack.bp f.stack.cells))
      ∙ ap (λ (os : List Outline). os ++ Keeps 0 ∷ outlines (take g (cells_beneath f.stack.bp f.stack.cells))) (typed_outlines l f.stack.cells t.locals h.locals)
      ∙ ap (λ (os : List Outline). map Typed t.locals ++ Keeps 0 ∷ os) (typed_outlines g (cells_beneath f.stack.bp f.stack.cells) t.globals h.globals);
  under = ap outlines (resumed_under f.script (resume_place f.place) g l f.stack)
      ∙ typed_outlines g (cells_beneath f.stack.bp f.stack.cells) t.globals h.globals;
}

pub stores_are_followed : StoresAreFollowed
unfolding stored_types
stores_are_followed globals locals f t inside h =
    let m = on_then (λ (g : ℕ). option_and_then (λ (l : ℕ). found_types g l (slots_under f.stack) (slots f.stack.cells)) (cell_count locals)) (cell_count globals) t h in
    let n = on_then (λ (l : ℕ). found_types m.0 l (slots_under f.stack) (slots f.stack.cells)) (cell_count locals) t m.2 in
    stored_by globals locals m.0 n.0 f t m.1 n.1 (found m.0 n.0 f t n.2) inside
