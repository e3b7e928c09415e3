-- Ranges of cells, as instructions read and write them.
use Rattle.std.proofs.Common.{arith, ◌≡◌, ◌≢◌, ◌<◌, ◌≤◌, ◌+◌, ◌-◌, ℕ, zero, suc, List, [], ◌∷◌, ◌++◌, length, take, drop, Option, Some, None, Bool, true, false, sym, ap, ◌∙◌, refl, subst}
use Rattle.std.proofs.Common.{length-append}
use Rattle.std.specs.Prelude.{ℤ, slice_get, slice_set, IfSome, IsTrue, ◌↔◌, ◌&&◌, nat_le, nat_lt, if◌then◌else◌}
use Rattle.std.specs.Option.{option_map, option_and_then}
use Rattle.std.proofs.lemmas.Option.{slice_get_within}
use Rattle.std.proofs.lemmas.List.{length-take-le, length-drop, drop_at, set_split}
use Rattle.std.proofs.lemmas.Bool.Decides.{nat_tests}
use Rattle.nwq_value.specs.declared.value.Ty.{Ty}
use Rattle.nwq_value.specs.declared.value.Value.{Value}
use Rattle.nwq_value.specs.declared.value.Value.TheVariants.{Int, Text, Object, Effect, Event}
use Rattle.nwq_value.specs.Roles.{tys_eq}
use Rattle.nwq_value.specs.Operators.{as_int, value_eq, values_eq}
use Rattle.saved_state.specs.declared.cell.Cell.{Cell}
use Rattle.saved_state.specs.declared.cell.Cell.TheVariants.{Value as Holds, Base}
use Rattle.saved_state.specs.Cells.{StackView}
use Rattle.stack_shape.specs.declared.range.CellRange.{CellRange}
use Rattle.stack_shape.specs.Ranges.{cell_count, depth_of, range_of, range_at}
use Rattle.stack_shape.specs.Laws.{DepthOfOffset, RangeOfNumbers, offset_to}
use Rattle.machine_rules.specs.Cells.{values_on, values_at, value_types, with_values, overwritten, from_bp, range_pushed, values_written, range_written, int_written, int_changed, values_dropped}
use Rattle.machine_rules.specs.Cells.{values_kept, runs_eq, runs_compared, pair_eq, pair_compared}
use Rattle.machine_rules.specs.Act.{bp_range}
use Rattle.machine_rules.specs.Laws.{EqualityIsTested}
use Rattle.machine_frames.specs.Tops.{HasValue, HasInt, AreValues, answer_of, int_at, reached}
use Rattle.machine_frames.proofs.Popped.{on_int_has, on_int_is}
use Rattle.machine_frames.proofs.RunLemmas.{There, there, Got, got, length_is, get_dropped}

-- ---- options that are something

then_some : {A B : Type 0} (f : A → Option B) (o : Option A) → option_and_then f o ≢ None → (a : A) × (o ≡ Some a) × (f a ≢ None)
then_some f None h = absurd (h refl)
then_some f (Some a) h = (a, refl, h)

map_some : {A B : Type 0} (f : A → B) (o : Option A) → option_map f o ≢ None → (a : A) × (o ≡ Some a)
map_some f None h = absurd (h refl)
map_some f (Some a) h = (a, refl)

some_not : {A : Type 0} (o : Option A) (a : A) → o ≡ Some a → o ≢ None
some_not o a e h = absurd cc

if_some : {A : Type 0} (b : Bool) (x : Option A) → (if b then x else None) ≢ None → (b ≡ true) × (x ≢ None)
if_some true x h = (refl, h)
if_some false x h = absurd (h refl)

from_some : {A : Type 0} (o : Option A) (P : A → Type 0) (a : A) → o ≡ Some a → IfSome o P → P a
from_some o P a e h = subst (λ o. IfSome o P) e h

-- ---- by numbers of cells

pub one_is : RangeOfNumbers → (above : ℕ) → Some (record { above = above; count = 1 }) ≡ range_at (offset_to (above + 1)) 4
one_is law above =
    let over : (above + 1) - 1 ≡ above = omega arith in
    sym (law (above + 1) 1 (omega arith) (omega arith) ∙ ap (λ (n : ℕ). Some (record { above = n; count = 1 })) over)

pub count_is : DepthOfOffset → (count : ℕ) → Some count ≡ depth_of (offset_to count)
count_is law count = sym (law count)

pub ruleset one_lemmas = (one_is, count_is)

-- ---- pushed

pub pushed_has : (above count : ℕ) (cells : List Cell) → range_pushed (Some (record { above = above; count = count })) cells ≢ None → AreValues count (drop above cells)
pushed_has above count cells h = let m = map_some (λ vs. with_values vs cells) (values_on count (drop above cells)) h in some_not (values_on count (drop above cells)) m.0 m.1

pub pushed_is : (above count : ℕ) (first now : StackView) → range_pushed (Some (record { above = above; count = count })) first.cells ≢ None
    → IfSome (values_on count (drop above first.cells)) (λ vs. now ≡ record first { cells = with_values vs first.cells })
    → (range_pushed (Some (record { above = above; count = count })) first.cells ≡ Some now.cells) × (now.bp ≡ first.bp)
pushed_is above count first now h is =
    let m = map_some (λ vs. with_values vs first.cells) (values_on count (drop above first.cells)) h in
    let e = from_some (values_on count (drop above first.cells)) (λ vs. now ≡ record first { cells = with_values vs first.cells }) m.0 m.1 is in
    (ap (option_map (λ vs. with_values vs first.cells)) m.1 ∙ sym (ap (λ (s : StackView). Some s.cells) e), ap (λ (s : StackView). s.bp) e)

pub ruleset pushed_lemmas = (pushed_has, pushed_is)

-- ---- written

written_parts : (above count : ℕ) (cells : List Cell) → range_written (Some (record { above = above; count = count })) cells ≢ None
    → (new : List Value) × (values_on count cells ≡ Some new) × (old : List Value) × (values_on count (drop above cells) ≡ Some old) × (tys_eq (value_types new) (value_types old) ≡ true)
written_parts above count cells h =
    let n = then_some (λ new. option_and_then (λ old. values_written (record { above = above; count = count }) new old cells) (values_on count (drop above cells))) (values_on count cells) h in
    let o = then_some (λ old. values_written (record { above = above; count = count }) n.0 old cells) (values_on count (drop above cells)) n.2 in
    let t = if_some (tys_eq (value_types n.0) (value_types o.0)) (Some (overwritten above n.0 cells)) o.2 in
    (n.0, n.1, o.0, o.1, t.0)

pub written_source : (above count : ℕ) (cells : List Cell) → range_written (Some (record { above = above; count = count })) cells ≢ None → AreValues count (drop 0 cells)
written_source above count cells h = let p = written_parts above count cells h in some_not (values_on count cells) p.0 p.1

pub written_target : (above count : ℕ) (cells : List Cell) → range_written (Some (record { above = above; count = count })) cells ≢ None → AreValues count (drop above cells)
written_target above count cells h = let p = written_parts above count cells h in some_not (values_on count (drop above cells)) p.2 p.3

pub written_is : (above count : ℕ) (first now : StackView) → range_written (Some (record { above = above; count = count })) first.cells ≢ None
    → IfSome (values_on count (drop 0 first.cells)) (λ vs. now ≡ record first { cells = overwritten above vs first.cells })
    → (range_written (Some (record { above = above; count = count })) first.cells ≡ Some now.cells) × (now.bp ≡ first.bp)
written_is above count first now h is =
    let p = written_parts above count first.cells h in
    let r : CellRange = record { above = above; count = count } in
    let e = from_some (values_on count first.cells) (λ vs. now ≡ record first { cells = overwritten above vs first.cells }) p.0 p.1 is in
    let written : range_written (Some r) first.cells ≡ Some (overwritten above p.0 first.cells) =
    ap (option_and_then (λ new. option_and_then (λ old. values_written r new old first.cells) (values_on count (drop above first.cells)))) p.1
    ∙ ap (option_and_then (λ old. values_written r p.0 old first.cells)) p.3
    ∙ ap (λ (b : Bool). if b then Some (overwritten above p.0 first.cells) else None) p.4 in
    (written ∙ sym (ap (λ (s : StackView). Some s.cells) e), ap (λ (s : StackView). s.bp) e)

pub ruleset written_lemmas = (written_source, written_target, written_is)

-- ---- an int that changes

two_are_none : (f : ℤ → ℤ) (above : ℕ) (v w : Value) (vs : List Value) (cells : List Cell) → int_written f above (v ∷ w ∷ vs) cells ≡ None
two_are_none f above (Int n) w vs cells = refl
two_are_none f above (Text t) w vs cells = refl
two_are_none f above (Object o) w vs cells = refl
two_are_none f above (Effect e) w vs cells = refl
two_are_none f above (Event n) w vs cells = refl

one_int : (f : ℤ → ℤ) (above : ℕ) (vs : List Value) (cells : List Cell) → int_written f above vs cells ≢ None → (n : ℤ) × (vs ≡ Int n ∷ [])
one_int f above [] cells h = absurd (h refl)
one_int f above (Int n ∷ []) cells h = (n, refl)
one_int f above (Text t ∷ []) cells h = absurd (h refl)
one_int f above (Object o ∷ []) cells h = absurd (h refl)
one_int f above (Effect e ∷ []) cells h = absurd (h refl)
one_int f above (Event n ∷ []) cells h = absurd (h refl)
one_int f above (v ∷ w ∷ vs) cells h = absurd (h (two_are_none f above v w vs cells))

record Changed (f : ℤ → ℤ) (above count : ℕ) (cells : List Cell) : Type 0 where
  int : ℤ
  value : values_on count (drop above cells) ≡ Some (Int int ∷ [])
  here : slice_get cells above ≡ Some (Holds (Int int))

changed_parts : (f : ℤ → ℤ) (above count : ℕ) (cells : List Cell) → int_changed f (Some (record { above = above; count = count })) cells ≢ None → Changed f above count cells
changed_parts f above count cells h =
    let o = then_some (λ old. int_written f above old cells) (values_on count (drop above cells)) h in
    let i = one_int f above o.0 cells o.2 in
    let value : values_on count (drop above cells) ≡ Some (Int i.0 ∷ []) = o.1 ∙ ap Some i.1 in
    let size = (length_is count (drop above cells) (Int i.0 ∷ []) value).0 in
    let g = got count (drop above cells) (Int i.0 ∷ []) value 0 (omega (arith, size)) in
    record { int = i.0; value = value; here = at_top (sym (get_dropped above cells 0)) g }
  where
    zero_more : above + 0 ≡ above
    zero_more = omega arith

    at_top : {n : ℤ} → slice_get cells (above + 0) ≡ slice_get (drop above cells) 0 → (g : Got (Int n ∷ []) (drop above cells) 0) → slice_get cells above ≡ Some (Holds (Int n))
    at_top e g = let v = g.in_values in let c = g.in_cells in let z = ap (slice_get cells) zero_more in cc

changed_in : (f : ℤ → ℤ) (range : Option CellRange) (r : CellRange) (cells : List Cell) → range ≡ Some r → int_changed f range cells ≢ None → Changed f r.above r.count cells
changed_in f range r cells e h = changed_parts f r.above r.count cells (λ none. h (ap (λ o. int_changed f o cells) e ∙ none))

changed_is : (f : ℤ → ℤ) (range : Option CellRange) (r : CellRange) (cells : List Cell) (n : ℤ) → range ≡ Some r → int_changed f range cells ≢ None
    → slice_get cells r.above ≡ Some (Holds (Int n)) → int_changed f range cells ≡ Some (slice_set cells r.above (Holds (Int (f n))))
changed_is f range r cells n is h e =
    let c = changed_in f range r cells is h in
    let inside = slice_get_within cells r.above (Holds (Int n)) e in
    ap (λ o. int_changed f o cells) is
    ∙ ap (option_and_then (λ old. int_written f r.above old cells)) c.value
    ∙ ap (λ m. Some (overwritten r.above (Int (f m) ∷ []) cells)) (same c.here)
    ∙ ap (λ k. Some (take r.above cells ++ Holds (Int (f n)) ∷ drop k cells)) next
    ∙ ap Some (sym (set_split cells r.above (Holds (Int (f n))) inside))
  where
    next : r.above + 1 ≡ suc r.above
    next = omega arith

    same : {m : ℤ} → slice_get cells r.above ≡ Some (Holds (Int m)) → m ≡ n
    same d = cc

-- the int there, by the cell alone
pub at_has : (f : ℤ → ℤ) (depth : ℕ) (cells : List Cell) → int_at f depth cells ≢ None → HasInt depth cells
at_has f depth cells h =
    let top = on_int_has (drop depth cells) (λ n rest. Some (slice_set cells depth (Holds (Int (f n))))) h in
    record { int = top.int; is = ap (slice_get cells) zero_more ∙ sym (get_dropped depth cells 0) ∙ top.is }
  where
    zero_more : depth ≡ depth + 0
    zero_more = omega arith

pub at_is : (f : ℤ → ℤ) (depth : ℕ) (cells : List Cell) (n : ℤ) → slice_get cells depth ≡ Some (Holds (Int n))
    → int_at f depth cells ≡ Some (slice_set cells depth (Holds (Int (f n))))
at_is f depth cells n e =
    on_int_is (drop depth cells) (λ n rest. Some (slice_set cells depth (Holds (Int (f n))))) n (get_dropped depth cells 0 ∙ ap (slice_get cells) zero_more ∙ e)
  where
    zero_more : depth + 0 ≡ depth
    zero_more = omega arith

pub at_end : (f : ℤ → ℤ) (depth : ℕ) (first now : StackView) (n k m p : ℤ) → slice_get first.cells depth ≡ Some (Holds (Int n)) → k ≡ n → m ≡ f k → p ≡ m
    → now ≡ record first { cells = slice_set first.cells depth (Holds (Int p)) } → int_at f depth first.cells ≡ Some now.cells
at_end f depth first now n k m p e read is write put =
    at_is f depth first.cells n e
    ∙ ap (λ n. Some (slice_set first.cells depth (Holds (Int (f n))))) (sym read)
    ∙ ap (λ m. Some (slice_set first.cells depth (Holds (Int m)))) (sym is)
    ∙ ap (λ m. Some (slice_set first.cells depth (Holds (Int m)))) (sym write)
    ∙ sym (ap (λ (s : StackView). Some s.cells) put)

-- an int is a value
pub int_value : (depth : ℕ) (cells : List Cell) (n : ℤ) → slice_get cells depth ≡ Some (Holds (Int n)) → HasValue depth cells
int_value depth cells n h = record { value = Int n; is = h }

pub changed_at : (f : ℤ → ℤ) (range : Option CellRange) (r : CellRange) (cells : List Cell) → range ≡ Some r → int_changed f range cells ≢ None
    → int_changed f range cells ≡ int_at f r.above cells
changed_at f range r cells e h =
    let c = changed_in f range r cells e h in
    changed_is f range r cells c.int e h c.here ∙ sym (at_is f r.above cells c.int c.here)

pub changed_case : (f : ℤ → ℤ) (range : Option CellRange) (r : CellRange) (cells : List Cell) → range ≡ Some r → int_changed f range cells ≢ None → int_at f r.above cells ≢ None
changed_case f range r cells e h none = h (changed_at f range r cells e h ∙ none)

pub ruleset changed_lemmas = (changed_at, changed_case)

-- ---- from BP

record BpFits (s : StackView) (r : CellRange) : Type 0 where
  deep : s.bp ≤ length s.cells
  inside : (length s.cells - s.bp) + r.above < length s.cells

range_some : (depth count : ℕ) (r : CellRange) → range_of depth count ≡ Some r → 0 < r.count
unfolding range_of
range_some depth count r h = on (nat_lt 0 count && nat_le count depth) refl h
  where
    on : (b : Bool) → (nat_lt 0 count && nat_le count depth) ≡ b → (if b then Some (record { above = depth - count; count = count }) else None) ≡ Some r → 0 < r.count
    on false e h = absurd cc
    on true e h = let some : 0 < count = grind (arith, nat_tests) in let c : (record { above = depth - count; count = count }) ≡ r = cc in subst (λ (r : CellRange). 0 < r.count) c some

range_at_some : (offset : ℤ) (size : ℕ) (r : CellRange) → range_at offset size ≡ Some r → 0 < r.count
unfolding range_at
range_at_some offset size r h =
    let d = then_is (λ depth. option_and_then (range_of depth) (cell_count size)) (depth_of offset) r h in
    let c = then_is (range_of d.0) (cell_count size) r d.2 in
    range_some d.0 c.0 r c.2
  where
    then_is : {A B : Type 0} (f : A → Option B) (o : Option A) (b : B) → option_and_then f o ≡ Some b → (a : A) × (o ≡ Some a) × (f a ≡ Some b)
    then_is f None b h = absurd cc
    then_is f (Some a) b h = (a, refl, h)

bp_fits_as : (s : StackView) (r : CellRange) → 0 < r.count → (b : Bool) → nat_le s.bp (length s.cells) ≡ b
    → reached (if b then Some (record r { above = (length s.cells - s.bp) + r.above }) else None) s.cells ≢ None → BpFits s r
bp_fits_as s r some false e h = absurd (h refl)
bp_fits_as s r some true e h =
    let above = (length s.cells - s.bp) + r.above in
    let t = there r.count (drop above s.cells) h in
    let g = got r.count (drop above s.cells) t.vs t.are 0 some in
    let inside = slice_get_within (drop above s.cells) 0 (Holds g.v) g.in_cells in
    let size = length-drop above s.cells in
    record { deep = grind (arith, nat_tests); inside = omega (arith, inside, size) }

bp_fits : (s : StackView) (offset : ℤ) (size : ℕ) (r : CellRange) → reached (bp_range s offset size) s.cells ≢ None → range_at offset size ≡ Some r → BpFits s r
bp_fits s offset size r h e = bp_fits_as s r (range_at_some offset size r e) (nat_le s.bp (length s.cells)) refl
    (λ none. h (ap (λ o. reached (option_and_then (from_bp s) o) s.cells) e ∙ none))

pub bp_deep : (s : StackView) (offset : ℤ) (size : ℕ) (r : CellRange) → reached (bp_range s offset size) s.cells ≢ None → range_at offset size ≡ Some r → s.bp ≤ length s.cells
bp_deep s offset size r h e = (bp_fits s offset size r h e).deep

pub bp_inside : (s : StackView) (offset : ℤ) (size : ℕ) (r : CellRange) → reached (bp_range s offset size) s.cells ≢ None → range_at offset size ≡ Some r
    → (length s.cells - s.bp) + r.above < length s.cells
bp_inside s offset size r h e = (bp_fits s offset size r h e).inside

pub bp_is : (s : StackView) (offset : ℤ) (size : ℕ) (r : CellRange) → reached (bp_range s offset size) s.cells ≢ None → range_at offset size ≡ Some r
    → bp_range s offset size ≡ Some (record { above = (length s.cells - s.bp) + r.above; count = r.count })
bp_is s offset size r h e =
    let deep = bp_deep s offset size r h e in
    let test : nat_le s.bp (length s.cells) ≡ true = grind (arith, nat_tests) in
    ap (option_and_then (from_bp s)) e ∙ ap (λ (b : Bool). if b then Some (record r { above = (length s.cells - s.bp) + r.above }) else None) test

pub ruleset bp_lemmas = (bp_deep, bp_inside, bp_is)

-- what instructions reach from BP
pub pushed_reaches : (range : Option CellRange) (cells : List Cell) → range_pushed range cells ≢ None → reached range cells ≢ None
pushed_reaches None cells h = absurd (h refl)
pushed_reaches (Some r) cells h = let m = map_some (λ vs. with_values vs cells) (values_at r cells) h in some_not (values_at r cells) m.0 m.1

pub written_reaches : (range : Option CellRange) (cells : List Cell) → range_written range cells ≢ None → reached range cells ≢ None
written_reaches None cells h = absurd (h refl)
written_reaches (Some r) cells h = written_target r.above r.count cells h

pub changed_reaches : (f : ℤ → ℤ) (range : Option CellRange) (cells : List Cell) → int_changed f range cells ≢ None → reached range cells ≢ None
changed_reaches f None cells h = absurd (h refl)
changed_reaches f (Some r) cells h = let c = changed_parts f r.above r.count cells h in some_not (values_at r cells) (Int c.int ∷ []) c.value

pub ruleset reach_lemmas = (pushed_reaches, written_reaches, changed_reaches)

-- ---- popped

pub dropped_fit : (n : ℕ) (cells : List Cell) → values_dropped (Some n) cells ≢ None → n ≤ length cells
dropped_fit n cells h = let m = map_some (λ _. drop n cells) (values_on n cells) h in (length_is n cells m.0 m.1).1

pub dropped_are : (n : ℕ) (cells : List Cell) → values_dropped (Some n) cells ≢ None → values_dropped (Some n) cells ≡ Some (drop n cells)
dropped_are n cells h = let m = map_some (λ _. drop n cells) (values_on n cells) h in ap (option_map (λ _. drop n cells)) m.1

pub ruleset dropped_lemmas = (dropped_fit, dropped_are)

-- ---- kept

-- values among values
sub : (t k n : ℕ) (cells : List Cell) (vs : List Value) → values_on t cells ≡ Some vs → k + n ≤ t → values_on n (drop k cells) ≡ Some (take n (drop k vs))
sub zero zero zero cells vs h less = refl
sub zero zero (suc n) cells vs h less = absurd (omega arith)
sub zero (suc k) n cells vs h less = absurd (omega arith)
sub (suc t) k n [] vs h less = absurd cc
sub (suc t) k n (Base bp ∷ cells) vs h less = absurd cc
sub (suc t) zero zero (Holds v ∷ cells) vs h less = refl
sub (suc t) zero (suc n) (Holds v ∷ cells) vs h less =
    let m = map_is (λ vs. v ∷ vs) (values_on t cells) vs h in
    ap (option_map (λ vs. v ∷ vs)) (sub t zero n cells m.0 m.1 (omega arith)) ∙ ap (λ vs. Some (take (suc n) vs)) m.2
  where
    map_is : {A B : Type 0} (f : A → B) (o : Option A) (b : B) → option_map f o ≡ Some b → (a : A) × (o ≡ Some a) × (f a ≡ b)
    map_is f None b h = absurd cc
    map_is f (Some a) b h = (a, refl, cc)
sub (suc t) (suc k) n (Holds v ∷ cells) vs h less =
    let m = map_is (λ vs. v ∷ vs) (values_on t cells) vs h in
    sub t k n cells m.0 m.1 (omega arith) ∙ ap (λ vs. Some (take n (drop (suc k) vs))) m.2
  where
    map_is : {A B : Type 0} (f : A → B) (o : Option A) (b : B) → option_map f o ≡ Some b → (a : A) × (o ≡ Some a) × (f a ≡ b)
    map_is f None b h = absurd cc
    map_is f (Some a) b h = (a, refl, cc)

record Kept (total offset count : ℕ) (cells : List Cell) : Type 0 where
  vs : List Value
  are : values_on total cells ≡ Some vs
  fits : offset + count ≤ total
  test : nat_le (offset + count) total ≡ true

kept_parts : (total offset count : ℕ) (cells : List Cell) → values_kept total offset count cells ≢ None → Kept total offset count cells
kept_parts total offset count cells h =
    let i = if_some (nat_le (offset + count) total) (option_map (λ vs. with_values (take count (drop (total - (offset + count)) vs)) (drop total cells)) (values_on total cells)) h in
    let m = map_some (λ vs. with_values (take count (drop (total - (offset + count)) vs)) (drop total cells)) (values_on total cells) i.1 in
    let test = i.0 in
    record { vs = m.0; are = m.1; fits = grind (arith, nat_tests); test = test }

pub kept_fits : (total offset count : ℕ) (cells : List Cell) → values_kept total offset count cells ≢ None → offset + count ≤ total
kept_fits total offset count cells h = (kept_parts total offset count cells h).fits

pub kept_source : (total offset count : ℕ) (cells : List Cell) → values_kept total offset count cells ≢ None → AreValues count (drop (total - (offset + count)) cells)
kept_source total offset count cells h = let k = kept_parts total offset count cells h in let fits = k.fits in
    some_not (values_on count (drop (total - (offset + count)) cells)) (take count (drop (total - (offset + count)) k.vs))
    (sub total (total - (offset + count)) count cells k.vs k.are (omega arith))

pub kept_target : (total offset count : ℕ) (cells : List Cell) → values_kept total offset count cells ≢ None → AreValues count (drop (total - count) cells)
kept_target total offset count cells h = let k = kept_parts total offset count cells h in let fits = k.fits in
    some_not (values_on count (drop (total - count) cells)) (take count (drop (total - count) k.vs)) (sub total (total - count) count cells k.vs k.are (omega arith))

kept_written : (total offset count : ℕ) (first now : StackView) → values_kept total offset count first.cells ≢ None
    → IfSome (values_on count (drop (total - (offset + count)) first.cells)) (λ vs. now ≡ record first { cells = overwritten (total - count) vs first.cells })
    → (vs : List Value) × (values_kept total offset count first.cells ≡ Some (with_values vs (drop total first.cells))) × (length vs ≡ count)
    × (now ≡ record first { cells = overwritten (total - count) vs first.cells }) × (total ≤ length first.cells) × (count ≤ total)
kept_written total offset count first now h is =
    let k = kept_parts total offset count first.cells h in
    let fits = k.fits in
    let vs = take count (drop (total - (offset + count)) k.vs) in
    let part = sub total (total - (offset + count)) count first.cells k.vs k.are (omega arith) in (
      vs,
      ap (λ (b : Bool). if b then option_map (λ vs. with_values (take count (drop (total - (offset + count)) vs)) (drop total first.cells)) (values_on total first.cells) else None) k.test
          ∙ ap (option_map (λ vs. with_values (take count (drop (total - (offset + count)) vs)) (drop total first.cells))) k.are,
      (length_is count (drop (total - (offset + count)) first.cells) vs part).0,
      from_some (values_on count (drop (total - (offset + count)) first.cells)) (λ vs. now ≡ record first { cells = overwritten (total - count) vs first.cells }) vs part is,
      (length_is total first.cells k.vs k.are).1,
      omega arith,
    )

pub kept_lies : (total offset count : ℕ) (first now : StackView) → values_kept total offset count first.cells ≢ None
    → IfSome (values_on count (drop (total - (offset + count)) first.cells)) (λ vs. now ≡ record first { cells = overwritten (total - count) vs first.cells })
    → total - count ≤ length now.cells
kept_lies total offset count first now h is =
    let k = kept_written total offset count first now h is in
    let inside = k.4 in
    let front : length (take (total - count) first.cells) ≡ total - count = length-take-le (total - count) first.cells (omega arith) in
    let size = length-append (take (total - count) first.cells) (with_values k.0 (drop ((total - count) + length k.0) first.cells)) in
    subst (λ n. total - count ≤ n) (sym (ap (λ (s : StackView). length s.cells) k.3)) (omega (arith, front, size))

pub kept_is : (total offset count : ℕ) (first now : StackView) → values_kept total offset count first.cells ≢ None
    → IfSome (values_on count (drop (total - (offset + count)) first.cells)) (λ vs. now ≡ record first { cells = overwritten (total - count) vs first.cells })
    → (values_kept total offset count first.cells ≡ Some (drop (total - count) now.cells)) × (now.bp ≡ first.bp)
kept_is total offset count first now h is =
    let k = kept_written total offset count first now h is in
    let inside = k.4 in
    let less = k.5 in
    let size = k.2 in
    let front : length (take (total - count) first.cells) ≡ total - count = length-take-le (total - count) first.cells (omega arith) in
    let behind : (total - count) + length k.0 ≡ total = omega (arith, size) in (
      k.1 ∙ ap (λ n. Some (with_values k.0 (drop n first.cells))) (sym behind)
          ∙ ap Some (sym (drop_at (take (total - count) first.cells) (with_values k.0 (drop ((total - count) + length k.0) first.cells)) (total - count) front))
          ∙ sym (ap (λ (s : StackView). Some (drop (total - count) s.cells)) k.3),
      ap (λ (s : StackView). s.bp) k.3,
    )

pub ruleset kept_lemmas = (kept_fits, kept_source, kept_target, kept_lies, kept_is)

-- ---- compared

-- two tests of one thing
one_test : {P : Type 0} (x y : Bool) → IsTrue x ↔ P → IsTrue y ↔ P → x ≡ y
one_test true true a b = refl
one_test true false a b = absurd (off (b.1 (a.0 refl)))
  where
    off : false ≡ true → ⊥
    off e = absurd cc
one_test false true a b = absurd (off (a.1 (b.0 refl)))
  where
    off : false ≡ true → ⊥
    off e = absurd cc
one_test false false a b = refl

pub same_is : EqualityIsTested → (v w : Value) (test : Bool) → IsTrue test ↔ (v ≡ w) → value_eq v w ≡ test
same_is law v w test h = one_test (value_eq v w) test (law v w) h

-- as far as two runs were compared they are equal
pub record AreSameSoFar (count i : ℕ) (cells : List Cell) : Type 0 where
  pub upper : There count cells
  pub lower : There count (drop count cells)
  pub rest : values_eq upper.vs lower.vs ≡ values_eq (drop i upper.vs) (drop i lower.vs)

pub same_begins : (count : ℕ) (cells : List Cell) → AreValues count cells → AreValues count (drop count cells) → AreSameSoFar count 0 cells
same_begins count cells u l = record { upper = there count cells u; lower = there count (drop count cells) l; rest = refl }

pub upper_has : (count i : ℕ) (cells : List Cell) → AreSameSoFar count i cells → i < count → HasValue i cells
upper_has count i cells s less = let g = got count cells s.upper.vs s.upper.are i less in record { value = g.v; is = g.in_cells }

pub lower_has : (count i : ℕ) (cells : List Cell) → AreSameSoFar count i cells → i < count → HasValue (count + i) cells
lower_has count i cells s less = let g = got count (drop count cells) s.lower.vs s.lower.are i less in
    record { value = g.v; is = sym (get_dropped count cells i) ∙ g.in_cells }

pub lower_lies : (count i : ℕ) (cells : List Cell) → AreSameSoFar count i cells → i < count → count + i < length cells
lower_lies count i cells s less = let h = lower_has count i cells s less in slice_get_within cells (count + i) (Holds h.value) h.is

drop_is : {A : Type 0} (xs : List A) (i : ℕ) (x : A) → slice_get xs i ≡ Some x → drop i xs ≡ x ∷ drop (suc i) xs
drop_is [] i x h = absurd cc
drop_is (y ∷ ys) zero x h = cc
drop_is (y ∷ ys) (suc i) x h = drop_is ys i x h

-- one pair more
pub pair_of : (count i : ℕ) (cells : List Cell) (v w : Value) (s : AreSameSoFar count i cells) → i < count → slice_get cells i ≡ Some (Holds v) → slice_get cells (count + i) ≡ Some (Holds w)
    → values_eq s.upper.vs s.lower.vs ≡ (value_eq v w && values_eq (drop (suc i) s.upper.vs) (drop (suc i) s.lower.vs))
pair_of count i cells v w s less a b =
    let u = got count cells s.upper.vs s.upper.are i less in
    let l = got count (drop count cells) s.lower.vs s.lower.are i less in
    s.rest ∙ pair (drop_is s.upper.vs i v (upper a u.in_cells u.in_values)) (drop_is s.lower.vs i w (lower b (sym (get_dropped count cells i)) l.in_cells l.in_values))
  where
    upper : {x : Value} → slice_get cells i ≡ Some (Holds v) → slice_get cells i ≡ Some (Holds x) → slice_get s.upper.vs i ≡ Some x → slice_get s.upper.vs i ≡ Some v
    upper a e f = cc

    lower : {x : Value} → slice_get cells (count + i) ≡ Some (Holds w) → slice_get cells (count + i) ≡ slice_get (drop count cells) i → slice_get (drop count cells) i ≡ Some (Holds x)
        → slice_get s.lower.vs i ≡ Some x → slice_get s.lower.vs i ≡ Some w
    lower b d e f = cc

    pair : {p q : List Value} → drop i s.upper.vs ≡ v ∷ p → drop i s.lower.vs ≡ w ∷ q → values_eq (drop i s.upper.vs) (drop i s.lower.vs) ≡ (value_eq v w && values_eq p q)
    pair {p} {q} e f = ap (λ t. values_eq t (drop i s.lower.vs)) e ∙ ap (values_eq (v ∷ p)) f

pub same_goes_on : (count i : ℕ) (cells : List Cell) (v w : Value) → AreSameSoFar count i cells → i < count → slice_get cells i ≡ Some (Holds v) → slice_get cells (count + i) ≡ Some (Holds w)
    → value_eq v w ≡ true → AreSameSoFar count (i + 1) cells
same_goes_on count i cells v w s less a b e = record {
  upper = s.upper;
  lower = s.lower;
  rest = pair_of count i cells v w s less a b ∙ ap (λ t. t && values_eq (drop (suc i) s.upper.vs) (drop (suc i) s.lower.vs)) e
      ∙ ap (λ n. values_eq (drop n s.upper.vs) (drop n s.lower.vs)) next;
}
  where
    next : suc i ≡ i + 1
    next = omega arith

both_runs : (count i : ℕ) (cells : List Cell) (s : AreSameSoFar count i cells) (r : Bool) → r ≡ values_eq s.upper.vs s.lower.vs
    → IfSome (values_on count cells) (λ upper. IfSome (values_on count (drop count cells)) (λ lower. r ≡ values_eq upper lower))
both_runs count i cells s r e =
    subst (λ o. IfSome o (λ upper. IfSome (values_on count (drop count cells)) (λ lower. r ≡ values_eq upper lower))) (sym s.upper.are)
    (subst (λ o. IfSome o (λ lower. r ≡ values_eq s.upper.vs lower)) (sym s.lower.are) e)

pub differ_end : (count i : ℕ) (cells : List Cell) (v w : Value) → AreSameSoFar count i cells → i < count → slice_get cells i ≡ Some (Holds v) → slice_get cells (count + i) ≡ Some (Holds w)
    → value_eq v w ≡ false → IfSome (values_on count cells) (λ upper. IfSome (values_on count (drop count cells)) (λ lower. false ≡ values_eq upper lower))
differ_end count i cells v w s less a b e =
    both_runs count i cells s false (sym (pair_of count i cells v w s less a b ∙ ap (λ t. t && values_eq (drop (suc i) s.upper.vs) (drop (suc i) s.lower.vs)) e))

none_left : {A : Type 0} (xs : List A) (n : ℕ) → n ≡ length xs → drop n xs ≡ []
none_left [] zero e = refl
none_left [] (suc n) e = refl
none_left (x ∷ xs) zero e = absurd (omega arith)
none_left (x ∷ xs) (suc n) e = none_left xs n (omega arith)

pub same_ends : (count i : ℕ) (cells : List Cell) → AreSameSoFar count i cells → i ≡ count
    → IfSome (values_on count cells) (λ upper. IfSome (values_on count (drop count cells)) (λ lower. true ≡ values_eq upper lower))
same_ends count i cells s e =
    let u = (length_is count cells s.upper.vs s.upper.are).0 in
    let l = (length_is count (drop count cells) s.lower.vs s.lower.are).0 in
    let upper = none_left s.upper.vs i (omega (arith, u, e)) in
    let lower = none_left s.lower.vs i (omega (arith, l, e)) in
    both_runs count i cells s true (sym (s.rest ∙ ap (λ t. values_eq t (drop i s.lower.vs)) upper ∙ ap (values_eq []) lower))

pub ruleset same_lemmas = (same_is, same_begins, upper_has, lower_has, lower_lies, same_goes_on, differ_end, same_ends)

-- ---- the answer

record Runs (answer : Bool → Bool) (count : ℕ) (cells : List Cell) : Type 0 where
  upper : List Value
  lower : List Value
  upper_is : values_on count cells ≡ Some upper
  lower_is : values_on count (drop count cells) ≡ Some lower
  is : runs_compared answer (Some count) cells ≡ Some (Holds (Int (as_int (answer (values_eq upper lower)))) ∷ drop (count + count) cells)

runs_parts : (answer : Bool → Bool) (count : ℕ) (cells : List Cell) → runs_compared answer (Some count) cells ≢ None → Runs answer count cells
runs_parts answer count cells h =
    let u = then_some (λ upper. option_and_then (λ lower. runs_eq answer upper lower (drop (count + count) cells)) (values_on count (drop count cells))) (values_on count cells) h in
    let l = then_some (λ lower. runs_eq answer u.0 lower (drop (count + count) cells)) (values_on count (drop count cells)) u.2 in
    let t = if_some (tys_eq (value_types u.0) (value_types l.0)) (Some (Holds (Int (as_int (answer (values_eq u.0 l.0)))) ∷ drop (count + count) cells)) l.2 in
    record {
      upper = u.0;
      lower = l.0;
      upper_is = u.1;
      lower_is = l.1;
      is = ap (option_and_then (λ upper. option_and_then (λ lower. runs_eq answer upper lower (drop (count + count) cells)) (values_on count (drop count cells)))) u.1
          ∙ ap (option_and_then (λ lower. runs_eq answer u.0 lower (drop (count + count) cells))) l.1
          ∙ ap (λ (b : Bool). if b then Some (Holds (Int (as_int (answer (values_eq u.0 l.0)))) ∷ drop (count + count) cells) else None) t.0;
    }

pub runs_upper : (answer : Bool → Bool) (count : ℕ) (cells : List Cell) → runs_compared answer (Some count) cells ≢ None → AreValues count cells
runs_upper answer count cells h = let r = runs_parts answer count cells h in some_not (values_on count cells) r.upper r.upper_is

pub runs_lower : (answer : Bool → Bool) (count : ℕ) (cells : List Cell) → runs_compared answer (Some count) cells ≢ None → AreValues count (drop count cells)
runs_lower answer count cells h = let r = runs_parts answer count cells h in some_not (values_on count (drop count cells)) r.lower r.lower_is

pub runs_lie : (answer : Bool → Bool) (count : ℕ) (cells : List Cell) → runs_compared answer (Some count) cells ≢ None → count + count ≤ length cells
runs_lie answer count cells h =
    let r = runs_parts answer count cells h in
    let u = (length_is count cells r.upper r.upper_is).1 in
    let l = (length_is count (drop count cells) r.lower r.lower_is).1 in
    let d = length-drop count cells in omega (arith, u, l, d)

pub runs_are : (negated : Bool) (count : ℕ) (cells : List Cell) (same : Bool) → runs_compared (answer_of negated) (Some count) cells ≢ None
    → IfSome (values_on count cells) (λ upper. IfSome (values_on count (drop count cells)) (λ lower. same ≡ values_eq upper lower))
    → runs_compared (answer_of negated) (Some count) cells ≡ Some (Holds (Int (as_int (answer_of negated same))) ∷ drop (count + count) cells)
runs_are negated count cells same h is =
    let r = runs_parts (answer_of negated) count cells h in
    let lower = from_some (values_on count cells) (λ upper. IfSome (values_on count (drop count cells)) (λ lower. same ≡ values_eq upper lower)) r.upper r.upper_is is in
    let e = from_some (values_on count (drop count cells)) (λ lower. same ≡ values_eq r.upper lower) r.lower r.lower_is lower in
    r.is ∙ ap (λ (b : Bool). Some (Holds (Int (as_int (answer_of negated b))) ∷ drop (count + count) cells)) (sym e)

pub ruleset runs_lemmas = (runs_upper, runs_lower, runs_lie, runs_are)

-- a pair is two runs of one value
pair_parts : (answer : Bool → Bool) (t : Ty) (vs : List Value) (cells : List Cell) → values_on 2 cells ≡ Some vs → pair_eq answer t vs (drop 2 cells) ≢ None
    → runs_compared answer (Some 1) cells ≡ pair_eq answer t vs (drop 2 cells)
pair_parts answer t vs [] e h = absurd cc
pair_parts answer t vs (Base bp ∷ cells) e h = absurd cc
pair_parts answer t vs (Holds v ∷ []) e h = absurd cc
pair_parts answer t vs (Holds v ∷ (Base bp ∷ cells)) e h = absurd cc
pair_parts answer t vs (Holds v ∷ (Holds w ∷ cells)) e h = of_two (sym (two e))
  where
    two : Some (v ∷ w ∷ []) ≡ Some vs → (v ∷ w ∷ []) ≡ vs
    two e = cc

    of_two : vs ≡ v ∷ w ∷ [] → runs_compared answer (Some 1) (Holds v ∷ (Holds w ∷ cells)) ≡ pair_eq answer t vs (drop 2 (Holds v ∷ (Holds w ∷ cells)))
    of_two e =
        let i = if_some (tys_eq (value_types vs) (t ∷ t ∷ [])) (runs_eq answer (take 1 vs) (drop 1 vs) cells) h in
        sym (ap (λ (b : Bool). if b then runs_eq answer (take 1 vs) (drop 1 vs) cells else None) i.0 ∙ ap (λ (vs : List Value). runs_eq answer (take 1 vs) (drop 1 vs) cells) e)

pub pair_is : (answer : Bool → Bool) (type : Option Ty) (cells : List Cell) → pair_compared answer type cells ≢ None → runs_compared answer (Some 1) cells ≡ pair_compared answer type cells
pair_is answer None cells h = absurd (h refl)
pair_is answer (Some t) cells h =
    let v = then_some (λ vs. pair_eq answer t vs (drop 2 cells)) (values_on 2 cells) h in
    pair_parts answer t v.0 cells v.1 v.2 ∙ sym (ap (option_and_then (λ vs. pair_eq answer t vs (drop 2 cells))) v.1)

pub pair_case : (answer : Bool → Bool) (type : Option Ty) (cells : List Cell) → pair_compared answer type cells ≢ None → runs_compared answer (Some 1) cells ≢ None
pair_case answer type cells h none = h (sym (pair_is answer type cells h) ∙ none)

pub ruleset pair_lemmas = (pair_is, pair_case)
