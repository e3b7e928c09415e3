-- Whether a captured state fits what was found.
use Rattle.std.proofs.Common.{arith, ◌≡◌, ◌≤◌, ◌<◌, ◌-◌, ℕ, zero, suc, List, [], ◌∷◌, ◌++◌, length, map, take, reverse, Option, None, Some, slice_get, sym, subst, ◌∙◌, ap, refl}
use Rattle.std.specs.Option.{option_map}
use Rattle.std.proofs.Math.Seq.{take-suc}
use Rattle.std.proofs.lemmas.List.{append-nil, append_cancel_left, reverse-append, take_all}
use Rattle.std.proofs.lemmas.Option.{slice_get_within, get_or_from_slice_get}
use Rattle.nwq_value.specs.declared.value.Ty.{Ty}
use Rattle.nwq_value.specs.Values.{type_of}
use Rattle.ncs_code.specs.File.{resume_place}
use Rattle.saved_state.specs.declared.cell.Cell.{Cell}
use Rattle.saved_state.specs.declared.cell.Cell.TheVariants.{Value as Holds, Base as BaseCell}
use Rattle.saved_state.specs.declared.saved.Saved.{Saved}
use Rattle.stack_shape.specs.declared.shape.Slot.{Slot}
use Rattle.stack_shape.specs.declared.shape.Slot.TheVariants.{Of, Base}
use Rattle.stack_shape.specs.Stored.{TopShape, stored_shape}
use Rattle.machine_rules.specs.Outlines.{slot, slots}
use Rattle.stack_rules.specs.Fits.{Fits}
use Rattle.stack_lists.specs.declared.held.Held.{Held}
use Rattle.stack_lists.specs.declared.held.Heap.{Heap}
use Rattle.stack_check.specs.declared.facts.Facts.{Facts}
use Rattle.stack_lists.specs.Shared.{read}
use Rattle.stack_lists.specs.Held.{shape_of}
use Rattle.stack_check.specs.Facts.{trial_table}
use Rattle.stack_check.specs.Fitting.{IsValueOf, BeginsWith, BeginsOtherwise, IsFrame, Resumes, IsResumedAt, stored_at}
use Rattle.stack_lists.specs.Growth.{same_shape}

-- ---- a cell more

more_begins : (t : Ty) (c : Cell) (cells : List Cell) (below rest : List Slot) → IsValueOf (Of t) c → BeginsWith cells below rest
    → BeginsWith (c ∷ cells) (Of t ∷ below) rest
more_begins t (Holds v) cells below rest e h = record {
  types = t ∷ h.types;
  hold = ap (λ u. Of u ∷ slots cells) e ∙ ap (λ s. Of t ∷ s) h.hold;
  begins = ap (λ s. Of t ∷ s) h.begins;
}
more_begins t (BaseCell bp) cells below rest e h = absurd e

one_more : (s : Slot) (c : Cell) (cells : List Cell) (below rest : List Slot) → IsValueOf s c → BeginsWith cells below rest
    → BeginsWith (c ∷ cells) (s ∷ below) rest
one_more (Of t) c cells below rest e h = more_begins t c cells below rest e h
one_more Base c cells below rest e h = absurd e

first_is : (s : Slot) (c : Cell) (t : Ty) → slot c ≡ Of t → s ≡ Of t → IsValueOf s c
first_is (Of u) (Holds v) t h e = types_are (type_of v) u t h e
  where
    types_are : (a b c : Ty) → Of a ≡ Of c → Of b ≡ Of c → a ≡ b
    types_are a b c h e = cc
first_is (Of u) (BaseCell bp) t h e = absurd cc
first_is Base c t h e = absurd cc

head_is : {A : Type 0} (a b : A) (s t : List A) → (Rattle.std.proofs.Common.◌∷◌ a s) ≡ b ∷ t → a ≡ b
head_is a b s t h = cc

tail_is : {A : Type 0} (a b : A) (s t : List A) → (Rattle.std.proofs.Common.◌∷◌ a s) ≡ b ∷ t → s ≡ t
tail_is a b s t h = cc

nil_is : {A : Type 0} (P : Type 0) (a : A) (s : List A) → [] ≡ a ∷ s → P
nil_is P a s h = absurd cc

first_fits : (s : Slot) (c : Cell) (cells : List Cell) (below rest : List Slot) (types : List Ty) → slots (c ∷ cells) ≡ map Of types
    → s ∷ below ≡ map Of types ++ rest → IsValueOf s c
first_fits s c cells below rest [] h b = nil_is (IsValueOf s c) (slot c) (slots cells) (sym h)
first_fits s c cells below rest (t ∷ types) h b =
    first_is s c t (head_is (slot c) (Of t) (slots cells) (map Of types) h) (head_is s (Of t) below (map Of types ++ rest) b)

others_fit : (s : Slot) (c : Cell) (cells : List Cell) (below rest : List Slot) (types : List Ty) → slots (c ∷ cells) ≡ map Of types
    → s ∷ below ≡ map Of types ++ rest → BeginsWith cells below rest
others_fit s c cells below rest [] h b = nil_is (BeginsWith cells below rest) (slot c) (slots cells) (sym h)
others_fit s c cells below rest (t ∷ types) h b = record {
  types = types;
  hold = tail_is (slot c) (Of t) (slots cells) (map Of types) h;
  begins = tail_is s (Of t) below (map Of types ++ rest) b;
}

none_left : (c : Cell) (cells : List Cell) (rest : List Slot) (types : List Ty) → slots (c ∷ cells) ≡ map Of types → [] ≡ map Of types ++ rest → ⊥
none_left c cells rest [] h b = nil_is ⊥ (slot c) (slots cells) (sym h)
none_left c cells rest (t ∷ types) h b = nil_is ⊥ (Of t) (map Of types ++ rest) b

-- what lies beneath is one list
same_rest : (cells : List Cell) (list a b : List Slot) → BeginsWith cells list a → BeginsWith cells list b → a ≡ b
same_rest cells list a b h k =
    append_cancel_left (slots cells) a b
    (ap (λ s. s ++ a) h.hold ∙ sym h.begins ∙ k.begins ∙ ap (λ s. s ++ b) (sym k.hold))

-- ---- the walk

-- What all cells ask of the list is what those that are left ask of the list at which the walk is.
pub record FitsSoFar (all left : List Cell) (list at : List Slot) : Type 0 where
  pub forth : (rest : List Slot) → BeginsWith left at rest → BeginsWith all list rest
  pub back : (rest : List Slot) → BeginsWith all list rest → BeginsWith left at rest

pub values_begin : (cells : List Cell) (list : List Slot) (n : ℕ) → n ≡ length cells → FitsSoFar (reverse cells) (reverse (take n cells)) list list
values_begin cells list n e =
    subst (λ left. FitsSoFar (reverse cells) left list list) (ap reverse (sym (take_all n cells (omega (arith, e)))))
    (record { forth = λ rest h. h; back = λ rest h. h })

top_is : (cells : List Cell) (n : ℕ) (c : Cell) → slice_get cells n ≡ Some c → reverse (take (suc n) cells) ≡ c ∷ reverse (take n cells)
top_is cells n c h =
    ap reverse (take-suc cells n c (slice_get_within cells n c h) ∙ ap (λ d. take n cells ++ d ∷ []) (get_or_from_slice_get cells n c c h))
    ∙ reverse-append (take n cells) (c ∷ [])

left_is : (cells : List Cell) (left next : ℕ) (c : Cell) → Some c ≡ slice_get cells next → 0 < left → next ≡ left - 1
    → reverse (take left cells) ≡ c ∷ reverse (take next cells)
left_is cells left next c h p e = ap (λ n. reverse (take n cells)) (let f : left ≡ suc next = omega (arith, p, e) in f) ∙ top_is cells next c (sym h)

goes_on : (all cells : List Cell) (list below : List Slot) (s : Slot) (c : Cell) → FitsSoFar all (c ∷ cells) list (s ∷ below) → IsValueOf s c
    → FitsSoFar all cells list below
goes_on all cells list below s c h v = record {
  forth = λ rest k. h.forth rest (one_more s c cells below rest v k);
  back = λ rest k. let b = h.back rest k in others_fit s c cells below rest b.types b.hold b.begins;
}

at_top : (all cells : List Cell) (list at below : List Slot) (left next : ℕ) (s : Slot) (c : Cell) → FitsSoFar all (reverse (take left cells)) list at
    → at ≡ s ∷ below → Some c ≡ slice_get cells next → 0 < left → next ≡ left - 1 → FitsSoFar all (c ∷ reverse (take next cells)) list (s ∷ below)
at_top all cells list at below left next s c h e g p n =
    subst (λ cs. FitsSoFar all cs list (s ∷ below)) (left_is cells left next c g p n) (subst (λ a. FitsSoFar all (reverse (take left cells)) list a) e h)

pub values_step : (all cells : List Cell) (list at below : List Slot) (left next : ℕ) (s : Slot) (c : Cell) → FitsSoFar all (reverse (take left cells)) list at
    → at ≡ s ∷ below → Some c ≡ slice_get cells next → IsValueOf s c → 0 < left → next ≡ left - 1 → FitsSoFar all (reverse (take next cells)) list below
values_step all cells list at below left next s c h e g v p n =
    goes_on all (reverse (take next cells)) list below s c (at_top all cells list at below left next s c h e g p n) v

pub values_differ : (all cells : List Cell) (list at below : List Slot) (left next : ℕ) (s : Slot) (c : Cell) → FitsSoFar all (reverse (take left cells)) list at
    → at ≡ s ∷ below → Some c ≡ slice_get cells next → (IsValueOf s c → ⊥) → 0 < left → next ≡ left - 1 → BeginsOtherwise all list
values_differ all cells list at below left next s c h e g v p n = record {
  by = λ rest k.
      let b = (at_top all cells list at below left next s c h e g p n).back rest k in
      v (first_fits s c (reverse (take next cells)) below rest b.types b.hold b.begins);
}

pub values_end : (all cells : List Cell) (list at : List Slot) (left next : ℕ) (c : Cell) → FitsSoFar all (reverse (take left cells)) list at
    → at ≡ [] → Some c ≡ slice_get cells next → 0 < left → next ≡ left - 1 → BeginsOtherwise all list
values_end all cells list at left next c h e g p n = record {
  by = λ rest k.
      let here : FitsSoFar all (c ∷ reverse (take next cells)) list [] =
      subst (λ cs. FitsSoFar all cs list []) (left_is cells left next c g p n) (subst (λ a. FitsSoFar all (reverse (take left cells)) list a) e h)
      in
      let b = here.back rest k in
      none_left c (reverse (take next cells)) rest b.types b.hold b.begins;
}

pub values_done : (all cells : List Cell) (list at : List Slot) (left : ℕ) → FitsSoFar all (reverse (take left cells)) list at → left ≤ 0
    → BeginsWith all list at
values_done all cells list at zero h e = h.forth at (record { types = []; hold = refl; begins = refl })
values_done all cells list at (suc left) h e = absurd (omega (arith, e))

pub ruleset beginning = (values_begin, values_step, values_differ, values_end, values_done)

-- ---- a whole list

pub all_if : (cells : List Cell) (list rest : List Slot) → BeginsWith cells list rest → rest ≡ [] → BeginsWith cells list []
all_if cells list rest h e = subst (λ r. BeginsWith cells list r) e h

pub all_then : (cells : List Cell) (list rest : List Slot) → BeginsWith cells list rest → BeginsWith cells list [] → rest ≡ []
all_then cells list rest h k = same_rest cells list rest [] h k

pub all_otherwise : (cells : List Cell) (list : List Slot) → BeginsOtherwise cells list → BeginsWith cells list [] → ⊥
all_otherwise cells list h k = h.by [] k

pub ruleset ending = (all_if, all_then, all_otherwise)

-- ---- locals, a base and globals

pub frame_if : (saved : Saved) (list rest lower : List Slot) → BeginsWith (reverse saved.locals) list rest → rest ≡ Base ∷ lower
    → BeginsWith (reverse saved.globals) lower [] → IsFrame list saved
frame_if saved list rest lower h e g =
    record { lower = lower; locals = subst (λ r. BeginsWith (reverse saved.locals) list r) e h; globals = g }

pub frame_then : (saved : Saved) (list rest lower : List Slot) → BeginsWith (reverse saved.locals) list rest → rest ≡ Base ∷ lower → IsFrame list saved
    → BeginsWith (reverse saved.globals) lower []
frame_then saved list rest lower h e f =
    subst (λ r. BeginsWith (reverse saved.globals) r [])
    (tail_is Base Base f.lower lower (same_rest (reverse saved.locals) list (Base ∷ f.lower) rest f.locals h ∙ e)) f.globals

pub frame_ends : (saved : Saved) (list rest : List Slot) → BeginsWith (reverse saved.locals) list rest → rest ≡ [] → IsFrame list saved → ⊥
frame_ends saved list rest h e f =
    nil_is ⊥ Base f.lower (sym (same_rest (reverse saved.locals) list (Base ∷ f.lower) rest f.locals h ∙ e))

pub frame_value : (saved : Saved) (list rest lower : List Slot) (s : Slot) (t : Ty) → BeginsWith (reverse saved.locals) list rest → rest ≡ s ∷ lower → s ≡ Of t
    → IsFrame list saved → ⊥
frame_value saved list rest lower s t h e i f = clash (head_is Base s f.lower lower (same_rest (reverse saved.locals) list (Base ∷ f.lower) rest f.locals h ∙ e) ∙ i)
  where
    clash : Base ≡ Of t → ⊥
    clash h = absurd cc

pub frame_otherwise : (saved : Saved) (list : List Slot) → BeginsOtherwise (reverse saved.locals) list → IsFrame list saved → ⊥
frame_otherwise saved list h f = h.by (Base ∷ f.lower) f.locals

pub ruleset framing = (frame_if, frame_then, frame_ends, frame_value, frame_otherwise)

-- ---- the shape

globals_are : (saved : Saved) (list : List Slot) → (b : BeginsWith (reverse saved.globals) list []) → list ≡ map Of b.types
globals_are saved list b = b.begins ∙ append-nil (map Of b.types)

pub shape_resumes : (heap : Heap) (held : Held) (saved : Saved) → held.pending ≡ 0 → read heap.saved held.saved ≡ []
    → BeginsWith (reverse saved.globals) (read heap.slots held.under) [] → IsFrame (read heap.slots held.cells) saved → Resumes (shape_of heap held) saved
shape_resumes heap held saved p s u f = record {
  types = record { globals = u.types; locals = f.locals.types };
  is =
      same_shape _ _ _ _ _ _ _ _
      (f.locals.begins
      ∙ ap (λ r. map Of f.locals.types ++ Base ∷ r) (globals_are saved f.lower f.globals ∙ sym f.globals.hold ∙ u.hold))
      (globals_are saved (read heap.slots held.under) u) (ap (map (read heap.slots)) s) p;
  globals = u.hold;
  locals = f.locals.hold;
}

map_nil : {A B : Type 0} (f : A → B) (xs : List A) → map f xs ≡ [] → xs ≡ []
map_nil f [] h = refl
map_nil f (x ∷ xs) h = nil_is ((x ∷ xs) ≡ []) (f x) (map f xs) (sym h)

pub resumes_pending : (heap : Heap) (held : Held) (saved : Saved) → Resumes (shape_of heap held) saved → held.pending ≡ 0
resumes_pending heap held saved h = ap (λ (s : TopShape). s.pending) h.is

pub resumes_saved : (heap : Heap) (held : Held) (saved : Saved) → Resumes (shape_of heap held) saved → read heap.saved held.saved ≡ []
resumes_saved heap held saved h = map_nil (read heap.slots) (read heap.saved held.saved) (ap (λ (s : TopShape). s.saved) h.is)

pub resumes_under : (heap : Heap) (held : Held) (saved : Saved) → Resumes (shape_of heap held) saved
    → BeginsWith (reverse saved.globals) (read heap.slots held.under) []
resumes_under heap held saved h = record {
  types = h.types.globals;
  hold = h.globals;
  begins = ap (λ (s : TopShape). s.under) h.is ∙ sym (append-nil (map Of h.types.globals));
}

pub resumes_frame : (heap : Heap) (held : Held) (saved : Saved) → Resumes (shape_of heap held) saved → IsFrame (read heap.slots held.cells) saved
resumes_frame heap held saved h = record {
  lower = map Of h.types.globals;
  locals = record { types = h.types.locals; hold = h.locals; begins = ap (λ (s : TopShape). s.cells) h.is };
  globals = record { types = h.types.globals; hold = h.globals; begins = sym (append-nil (map Of h.types.globals)) };
}

pub ruleset resuming = (shape_resumes, resumes_pending, resumes_saved, resumes_under, resumes_frame)

-- ---- the table

site_is : (place : ℕ) → resume_place 0 ≤ place → (site : ℕ) × (place ≡ resume_place site)
site_is place h = (place - 16, omega (arith, h))

some_is : {A : Type 0} (a b : A) → Some a ≡ Some b → a ≡ b
some_is a b h = cc

none_some : {A : Type 0} (P : Type 0) (a : A) → None ≡ Some a → P
none_some P a h = absurd cc

mapped_none : {A B : Type 0} (P : Type 0) (f : A → B) (b : B) (o : Option A) → None ≡ o → option_map f o ≡ Some b → P
mapped_none P f b o e h = none_some P b (ap (option_map f) e ∙ h)

pub fits_if : (heap : Heap) (facts : Facts) (saved : Saved) (held : Held) → IsResumedAt facts saved.place (Some held) → Resumes (shape_of heap held) saved
    → Fits (trial_table heap facts) saved
fits_if heap facts saved held r h = on (site_is saved.place r.after)
  where
    on : (site : ℕ) × (saved.place ≡ resume_place site) → Fits (trial_table heap facts) saved
    on found = record {
      site = found.0;
      place = found.1;
      types = h.types;
      known = ap (option_map (shape_of heap)) (sym (r.by found.0 found.1)) ∙ ap Some h.is;
      globals = h.globals;
      locals = h.locals;
    }

pub fits_then : (heap : Heap) (facts : Facts) (saved : Saved) (held : Held) → IsResumedAt facts saved.place (Some held) → Fits (trial_table heap facts) saved
    → Resumes (shape_of heap held) saved
fits_then heap facts saved held r f = record {
  types = f.types;
  is = some_is (shape_of heap held) (stored_shape f.types) (ap (option_map (shape_of heap)) (r.by f.site f.place) ∙ f.known);
  globals = f.globals;
  locals = f.locals;
}

pub fits_not : (heap : Heap) (facts : Facts) (saved : Saved) → IsResumedAt facts saved.place None → Fits (trial_table heap facts) saved → ⊥
fits_not heap facts saved r f =
    mapped_none ⊥ (shape_of heap) (stored_shape f.types) (stored_at facts f.site saved.place) (r.by f.site f.place) f.known

pub ruleset fitting = (fits_if, fits_then, fits_not)
