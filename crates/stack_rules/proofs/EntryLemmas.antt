-- How entries begin.
use Rattle.std.proofs.Common.{arith, ◌≡◌, ◌-◌, ℕ, zero, suc, List, [], ◌∷◌, ◌++◌, length, map, drop, reverse, sym, subst, ◌∙◌, ap, refl, append-nil}
use Rattle.std.proofs.lemmas.List.{length-map, length-reverse}
use Rattle.nwq_value.specs.declared.value.Ty.{Ty}
use Rattle.saved_state.specs.declared.cell.Cell.{Cell}
use Rattle.saved_state.specs.declared.cell.Cell.TheVariants.{Value as Holds, Base}
use Rattle.saved_state.specs.declared.saved.Saved.{Saved}
use Rattle.saved_state.specs.Cells.{resumed}
use Rattle.stack_shape.specs.declared.shape.Slot.{Slot}
use Rattle.stack_shape.specs.declared.shape.Slot.TheVariants.{Of, Base as BaseSlot}
use Rattle.stack_shape.specs.declared.shape.Entry.TheVariants.{Stored}
use Rattle.stack_shape.specs.Stored.{stored_shape}
use Rattle.machine_rules.specs.Outlines.{Outline, Keeps, outline, outlines, slots}
use Rattle.stack_rules.specs.Safe.{outline_slots, from_base, IsUnder, ShapeLiesOn}
use Rattle.stack_rules.specs.Laws.{ContinuesSafely}
use Rattle.stack_rules.proofs.StackLemmas.{slots_are}

typed_base : (cells lower : List Cell) (types : List Ty) → slots cells ≡ map Of types → from_base (outlines (cells ++ lower)) ≡ from_base (outlines lower)
typed_base [] lower types h = refl
typed_base (Holds v ∷ cells) lower [] h = absurd cc
typed_base (Holds v ∷ cells) lower (t ∷ types) h = typed_base cells lower types cc
typed_base (Base bp ∷ cells) lower [] h = absurd cc
typed_base (Base bp ∷ cells) lower (t ∷ types) h = absurd cc

slots_append : (a b : List Cell) → slots (a ++ b) ≡ slots a ++ slots b
slots_append [] b = refl
slots_append (Holds v ∷ a) b = ap (λ (ss : List Slot). slots (Holds v ∷ []) ++ ss) (slots_append a b)
slots_append (Base bp ∷ a) b = ap (λ (ss : List Slot). BaseSlot ∷ ss) (slots_append a b)

one_above : (n m : ℕ) → m ≡ n → suc m - n ≡ suc zero
one_above n m h = omega (arith, h)

pub resumes : (saved : Saved) (globals locals : List Ty) → slots (reverse saved.globals) ≡ map Of globals → slots (reverse saved.locals) ≡ map Of locals
    → ShapeLiesOn (stored_shape (record { globals = globals; locals = locals })) (outline_slots (outlines (resumed saved).cells)) (from_base (outlines (resumed saved).cells))
    (resumed saved).bp [] (Keeps 0 ∷ outlines (reverse saved.globals)) (length saved.globals)
resumes saved globals locals gs ls =
    let upper = reverse saved.locals in
    let lower = reverse saved.globals in
    let base : from_base (outlines (upper ++ Base 0 ∷ lower)) ≡ Keeps 0 ∷ outlines lower = typed_base upper (Base 0 ∷ lower) locals ls in
    let count : length (outlines lower) ≡ length saved.globals = length-map lower outline ∙ length-reverse saved.globals in
    record {
      cells = sym (slots_are (upper ++ Base 0 ∷ lower)) ∙ slots_append upper (Base 0 ∷ lower)
          ∙ ap (λ (ss : List Slot). ss ++ BaseSlot ∷ slots lower) ls ∙ ap (λ (ss : List Slot). map Of locals ++ BaseSlot ∷ ss) gs
          ∙ sym (append-nil (map Of locals ++ BaseSlot ∷ map Of globals));
      under = subst (λ (b : List Outline). IsUnder b (length saved.globals) (map Of globals)) (sym base) (record {
        deep = omega (arith, count);
        rest = [];
        are = ap (λ (n : ℕ). outline_slots (drop n (Keeps 0 ∷ outlines lower))) (one_above (length saved.globals) (length (outlines lower)) count)
            ∙ sym (slots_are lower) ∙ gs ∙ sym (append-nil (map Of globals));
      });
      saved = (base, refl);
    }

pub continues_safely : ContinuesSafely
continues_safely scripts tables saved self h =
    record {
      listed = h.listed;
      entry = Stored h.fits.site;
      shape = stored_shape h.fits.types;
      known = h.fits.known;
      below = [];
      floor = Keeps 0 ∷ outlines (reverse saved.globals);
      found_bp = length saved.globals;
      others = 0;
      carries = resumes saved h.fits.types.globals h.fits.types.locals h.fits.globals h.fits.locals;
      count = refl;
      callers = tt;
      fit = tt;
    }
