-- Shapes on stacks: what instructions do to the outlines of cells.
use Rattle.std.proofs.Common.{arith, ◌≡◌, ◌≤◌, ◌-◌, ℕ, zero, suc, List, [], ◌∷◌, ◌++◌, length, map, drop, Option, Some, None, sym, subst, ◌∙◌, ap, refl}
use Rattle.std.specs.Option.{option_map, option_and_then}
use Rattle.std.proofs.lemmas.List.{append_assoc, drop-append-le, drop-map, length-map}
use Rattle.nwq_value.specs.declared.value.Ty.{Ty}
use Rattle.nwq_value.specs.Values.{type_of}
use Rattle.saved_state.specs.declared.cell.Cell.{Cell}
use Rattle.saved_state.specs.declared.cell.Cell.TheVariants.{Value as Holds, Base}
use Rattle.saved_state.specs.Cells.{StackView, cells_beneath}
use Rattle.stack_shape.specs.declared.shape.Slot.{Slot}
use Rattle.stack_shape.specs.declared.shape.Slot.TheVariants.{Of, Base as BaseSlot}
use Rattle.stack_shape.specs.declared.effect.StackEffect.{StackEffect}
use Rattle.stack_shape.specs.TopFirst.{types_on}
use Rattle.stack_shape.specs.StackEffects.{after_effect}
use Rattle.stack_shape.specs.Stored.{TopShape}
use Rattle.stack_shape.specs.Rule.{based, restored}
use Rattle.machine_rules.specs.Outlines.{Outline, Typed, Keeps, outline, outlines, slots, slots_under, outlines_after}
use Rattle.stack_rules.specs.Safe.{outline_slot, outline_slots, from_base, outlines_beneath, IsUnder, AreSaved, ShapeLiesOn}

pub on_map : {A B : Type 0} (f : A → B) (o : Option A) (b : B) → option_map f o ≡ Some b → (a : A) × (o ≡ Some a) × (f a ≡ b)
on_map f None b h = absurd cc
on_map f (Some a) b h = (a, refl, cc)

pub on_then : {A B : Type 0} (f : A → Option B) (o : Option A) (b : B) → option_and_then f o ≡ Some b → (a : A) × (o ≡ Some a) × (f a ≡ Some b)
on_then f None b h = absurd cc
on_then f (Some a) b h = (a, refl, h)

pub some_is : {A : Type 0} (x y : A) → Some x ≡ Some y → x ≡ y
some_is x y h = cc

-- ---- slots of cells

pub slots_are : (cells : List Cell) → slots cells ≡ outline_slots (outlines cells)
slots_are [] = refl
slots_are (Holds v ∷ cells) = ap (λ (ss : List Slot). Of (type_of v) ∷ ss) (slots_are cells)
slots_are (Base bp ∷ cells) = ap (λ (ss : List Slot). BaseSlot ∷ ss) (slots_are cells)

pub base_length : (os : List Outline) → length (from_base os) ≤ length os
base_length [] = omega arith
base_length (Typed t ∷ os) = let h = base_length os in omega (arith, h)
base_length (Keeps bp ∷ os) = omega arith

one_more : (n bp : ℕ) → bp ≤ n → suc n - bp ≡ suc (n - bp)
one_more n bp h = omega (arith, h)

beneath_base : (bp : ℕ) (os : List Outline) → bp ≤ length (from_base os) → outlines_beneath bp os ≡ outlines_beneath bp (from_base os)
beneath_base bp [] h = refl
beneath_base bp (Typed t ∷ os) h =
    ap (λ (k : ℕ). drop k (Typed t ∷ os)) (one_more (length os) bp (omega (arith, h, base_length os))) ∙ beneath_base bp os h
beneath_base bp (Keeps n ∷ os) h = refl

outlines_drop : (n : ℕ) (cells : List Cell) → outlines (drop n cells) ≡ drop n (outlines cells)
outlines_drop n cells = sym (drop-map outline n cells)

pub slots_drop : (n : ℕ) (os : List Outline) → outline_slots (drop n os) ≡ drop n (outline_slots os)
slots_drop n os = sym (drop-map outline_slot n os)

pub deep_is : (s : StackView) (under : List Slot) → IsUnder (from_base (outlines s.cells)) s.bp under → s.bp ≤ length s.cells
deep_is s under u = omega (arith, u.deep, base_length (outlines s.cells), length-map s.cells outline)

beneath_outlines : (s : StackView) → outlines (cells_beneath s.bp s.cells) ≡ outlines_beneath s.bp (outlines s.cells)
beneath_outlines s = outlines_drop (length s.cells - s.bp) s.cells
    ∙ ap (λ (n : ℕ). drop (n - s.bp) (outlines s.cells)) (sym (length-map s.cells outline))

pub under_is : (s : StackView) (under : List Slot) (u : IsUnder (from_base (outlines s.cells)) s.bp under) → slots_under s ≡ under ++ u.rest
under_is s under u = slots_are (cells_beneath s.bp s.cells) ∙ ap outline_slots (beneath_outlines s ∙ beneath_base s.bp (outlines s.cells) u.deep) ∙ u.are

-- ---- effects

pub base_push : (ts : List Ty) (os : List Outline) → from_base (map Typed ts ++ os) ≡ from_base os
base_push [] os = refl
base_push (t ∷ ts) os = base_push ts os

pub slots_push : (ts : List Ty) (os : List Outline) → outline_slots (map Typed ts ++ os) ≡ map Of ts ++ outline_slots os
slots_push [] os = refl
slots_push (t ∷ ts) os = ap (λ (ss : List Slot). Of t ∷ ss) (slots_push ts os)

base_drop : (n : ℕ) (os : List Outline) (types : List Ty) → types_on n (outline_slots os) ≡ Some types → from_base (drop n os) ≡ from_base os
base_drop zero os types h = refl
base_drop (suc n) [] types h = absurd cc
base_drop (suc n) (Keeps bp ∷ os) types h = absurd cc
base_drop (suc n) (Typed t ∷ os) types h = let m = on_map (λ (ts : List Ty). t ∷ ts) (types_on n (outline_slots os)) types h in base_drop n os m.0 m.1

-- the shape's cells after an effect, over the same cells beneath
slots_after : (e : StackEffect) (os : List Outline) (cells below : List Slot) → outline_slots os ≡ cells ++ below → e.pops ≤ length cells
    → outline_slots (outlines_after e os) ≡ after_effect e cells ++ below
slots_after e os cells below h fits = slots_push e.pushes (drop e.pops os)
    ∙ ap (λ (ss : List Slot). map Of e.pushes ++ ss) (slots_drop e.pops os ∙ ap (drop e.pops) h ∙ drop-append-le e.pops cells below fits)
    ∙ sym (append_assoc (map Of e.pushes) (drop e.pops cells) below)

base_after : (e : StackEffect) (os : List Outline) (types : List Ty) → types_on e.pops (outline_slots os) ≡ Some types → from_base (outlines_after e os) ≡ from_base os
base_after e os types h = base_push e.pushes (drop e.pops os) ∙ base_drop e.pops os types h

pub carries_on : (e : StackEffect) (shape : TopShape) (os after : List Outline) (bp : ℕ) (below : List Slot) (floor : List Outline) (found_bp : ℕ) (types : List Ty)
    → ShapeLiesOn shape (outline_slots os) (from_base os) bp below floor found_bp → e.pops ≤ length shape.cells → types_on e.pops (outline_slots os) ≡ Some types
    → after ≡ outlines_after e os
    → ShapeLiesOn (record shape { cells = after_effect e shape.cells }) (outline_slots after) (from_base after) bp below floor found_bp
carries_on e shape os after bp below floor found_bp types c fits popped is =
    let bases : from_base os ≡ from_base after = sym (ap from_base is ∙ base_after e os types popped) in
    record {
      cells = ap outline_slots is ∙ slots_after e os shape.cells below c.cells fits;
      under = subst (λ (b : List Outline). IsUnder b bp shape.under) bases c.under;
      saved = subst (λ (b : List Outline). AreSaved shape.saved b bp floor found_bp) bases c.saved;
    }

-- ---- bases

all_beneath : (n : ℕ) → suc n - n ≡ suc zero
all_beneath n = omega arith

pub base_carries : (shape : TopShape) (cells : List Cell) (bp : ℕ) (below : List Slot) (floor : List Outline) (found_bp : ℕ)
    → ShapeLiesOn shape (outline_slots (outlines cells)) (from_base (outlines cells)) bp below floor found_bp
    → ShapeLiesOn (based shape) (outline_slots (outlines (Base bp ∷ cells))) (from_base (outlines (Base bp ∷ cells))) (length cells) below floor found_bp
base_carries shape cells bp below floor found_bp c = record {
  cells = ap (λ (ss : List Slot). BaseSlot ∷ ss) c.cells;
  under = record {
    deep = omega (arith, length-map cells outline);
    rest = below;
    are = ap (λ (n : ℕ). outline_slots (drop n (Keeps bp ∷ outlines cells))) (ap (λ (n : ℕ). suc n - length cells) (length-map cells outline) ∙ all_beneath (length cells)) ∙ c.cells;
  };
  saved = (c.under, c.saved);
}

-- a base that is taken off
pub record Restores (cells : List Cell) (pending : ℕ) (after : TopShape) (below : List Slot) (floor : List Outline) (found_bp : ℕ) : Type 0 where
  pub kept : ℕ
  pub rest : List Cell
  pub is : cells ≡ Base kept ∷ rest
  pub carries : ShapeLiesOn after (outline_slots (outlines rest)) (from_base (outlines rest)) kept below floor found_bp
  pub same : after.pending ≡ pending

tail_is : (x y : Slot) (xs ys : List Slot) → x ∷ xs ≡ y ∷ ys → xs ≡ ys
tail_is x y xs ys h = cc

pub restores : (cells : List Cell) (on_shape : List Slot) (saved : List (List Slot)) (pending : ℕ) (after : TopShape) (bp : ℕ) (below : List Slot) (floor : List Outline) (found_bp : ℕ)
    → outline_slots (outlines cells) ≡ on_shape ++ below → AreSaved saved (from_base (outlines cells)) bp floor found_bp
    → restored on_shape saved pending ≡ Some after → Restores cells pending after below floor found_bp
restores cells [] saved pending after bp below floor found_bp h s r = absurd cc
restores cells (Of t ∷ c) saved pending after bp below floor found_bp h s r = absurd cc
restores cells (BaseSlot ∷ c) [] pending after bp below floor found_bp h s r = absurd cc
restores [] (BaseSlot ∷ c) (u ∷ us) pending after bp below floor found_bp h s r = absurd cc
restores (Holds v ∷ cells) (BaseSlot ∷ c) (u ∷ us) pending after bp below floor found_bp h s r = absurd cc
restores (Base kept ∷ rest) (BaseSlot ∷ c) (u ∷ us) pending after bp below floor found_bp h s r =
    subst (λ (a : TopShape). Restores (Base kept ∷ rest) pending a below floor found_bp) (some_is _ after r) (record {
      kept = kept;
      rest = rest;
      is = refl;
      carries = record { cells = tail_is _ _ _ _ h; under = s.0; saved = s.1 };
      same = refl;
    })
