-- Acts of frames.
use Rattle.std.proofs.Common.{arith, ◌≡◌, ◌≢◌, ◌<◌, ◌≤◌, ◌-◌, ℕ, List, [], ◌∷◌, ◌++◌, length, drop, get_or, reverse, Option, Some, None, Bool, true, false, sym, ap, ◌∙◌, refl, subst}
use Rattle.std.specs.Prelude.{slice_get, ◌&&◌, nat_le, if◌then◌else◌}
use Rattle.std.specs.Option.{option_map, option_and_then}
use Rattle.std.proofs.lemmas.List.{reverse-append, length-drop, length-reverse, get_or-reverse}
use Rattle.std.proofs.lemmas.Option.{slice_get-get_or, slice_get_past}
use Rattle.std.proofs.lemmas.Bool.Decides.{nat_tests}
use Rattle.nwq_value.specs.declared.value.Value.{Value}
use Rattle.saved_state.specs.declared.cell.Cell.{Cell}
use Rattle.saved_state.specs.declared.cell.Cell.TheVariants.{Value as Holds, Base}
use Rattle.saved_state.specs.declared.saved.Saved.{Saved}
use Rattle.saved_state.specs.Cells.{cells_beneath, captured}
use Rattle.ncs_code.specs.Plain.{PlainOp, RestoreBp, StoreState}
use Rattle.ncs_code.specs.File.{resume_place}
use Rattle.stack_shape.specs.Ranges.{cell_count}
use Rattle.machine_rules.specs.Frames.{Frame}
use Rattle.machine_rules.specs.Cells.{values_on, zero_on_top}
use Rattle.machine_rules.specs.Act.{Moves, Divides, cells_after, is_division, moved, next_place, place_after, restored, stored, stored_cells}
use Rattle.machine_frames.specs.Tops.{bp_on_top}
use Rattle.machine_frames.proofs.RunLemmas.{length_is}

-- ---- lists whose last element was put on last

pub pushed_last : {A : Type 0} (xs : List A) (x : A) → reverse (xs ++ x ∷ []) ≡ x ∷ reverse xs
pushed_last xs x = reverse-append xs (x ∷ [])

-- ---- the calls under way, innermost first

pub return_lies : (xs : List ℕ) (i d : ℕ) → i < length xs → slice_get (reverse xs) i ≡ Some (get_or xs (length xs - 1 - i) d)
return_lies xs i d less =
    slice_get-get_or (reverse xs) i d (subst (λ n. i < n) (sym (length-reverse xs)) less) ∙ ap Some (get_or-reverse xs i d less)

pub no_return : (xs : List ℕ) (i : ℕ) → length xs ≤ i → slice_get (reverse xs) i ≡ None
no_return xs i most = slice_get_past (reverse xs) i (subst (λ n. n ≤ i) (sym (length-reverse xs)) most)

pub ruleset return_lemmas = (return_lies, no_return)

-- ---- instructions that change the cells

pub moved_case : (op : PlainOp) (f : Frame) → moved op f ≢ None → cells_after op f.self f.stack ≢ None
moved_case op f h none = h (ap (option_map (λ cells. if is_division op && zero_on_top f.stack.cells then Divides
    else Moves (record f { place = place_after op f.place f.stack.cells; stack = record f.stack { cells = cells } }))) none)

divided_in : (op : PlainOp) (f : Frame) (o : Option (List Cell)) → o ≢ None → (is_division op && zero_on_top f.stack.cells) ≡ true
    → option_map (λ cells. if is_division op && zero_on_top f.stack.cells then Divides
    else Moves (record f { place = place_after op f.place f.stack.cells; stack = record f.stack { cells = cells } })) o ≡ Some Divides
divided_in op f None h e = absurd (h refl)
divided_in op f (Some cells) h e = ap (λ (b : Bool). Some (if b then Divides else Moves (record f { place = place_after op f.place f.stack.cells; stack = record f.stack { cells = cells } }))) e

pub moved_divides : (op : PlainOp) (f : Frame) → moved op f ≢ None → is_division op ≡ true → zero_on_top f.stack.cells ≡ true → moved op f ≡ Some Divides
moved_divides op f h division zero =
    divided_in op f (cells_after op f.self f.stack) (moved_case op f h)
    (ap (λ (b : Bool). b && zero_on_top f.stack.cells) division ∙ zero)

moved_as : (op : PlainOp) (f : Frame) (cells : List Cell) → (is_division op && zero_on_top f.stack.cells) ≡ false → cells_after op f.self f.stack ≡ Some cells
    → moved op f ≡ Some (Moves (record f { place = place_after op f.place f.stack.cells; stack = record f.stack { cells = cells } }))
moved_as op f cells e h =
    ap (option_map (λ cells. if is_division op && zero_on_top f.stack.cells then Divides
    else Moves (record f { place = place_after op f.place f.stack.cells; stack = record f.stack { cells = cells } }))) h
    ∙ ap (λ (b : Bool). Some (if b then Divides else Moves (record f { place = place_after op f.place f.stack.cells; stack = record f.stack { cells = cells } }))) e

pub moved_is : (op : PlainOp) (f : Frame) (cells : List Cell) → is_division op ≡ false → cells_after op f.self f.stack ≡ Some cells
    → moved op f ≡ Some (Moves (record f { place = place_after op f.place f.stack.cells; stack = record f.stack { cells = cells } }))
moved_is op f cells whole h = moved_as op f cells (ap (λ (b : Bool). b && zero_on_top f.stack.cells) whole) h

pub divided_is : (op : PlainOp) (f : Frame) (cells : List Cell) → is_division op ≡ true → zero_on_top f.stack.cells ≡ false → cells_after op f.self f.stack ≡ Some cells
    → moved op f ≡ Some (Moves (record f { place = place_after op f.place f.stack.cells; stack = record f.stack { cells = cells } }))
divided_is op f cells division some h = moved_as op f cells (ap (λ (b : Bool). b && zero_on_top f.stack.cells) division ∙ some) h

pub ruleset division_lemmas = (moved_case, moved_divides, divided_is)

pub ruleset moved_lemmas = (moved_case, moved_is)

-- ---- RETN

pub ruleset popped_lemmas = (pushed_last)

-- ---- RESTOREBP

record HasBase (cells : List Cell) : Type 0 where
  bp : ℕ
  rest : List Cell
  is : cells ≡ Base bp ∷ rest

base_on_top : (cells : List Cell) (f : Frame) → restored cells f ≢ None → HasBase cells
base_on_top [] f h = absurd (h refl)
base_on_top (Holds v ∷ cells) f h = absurd (h refl)
base_on_top (Base bp ∷ cells) f h = record { bp = bp; rest = cells; is = refl }

pub restored_lies : (cells : List Cell) (f : Frame) → restored cells f ≢ None → 1 ≤ length cells
restored_lies cells f h = let b = base_on_top cells f h in subst (λ cells. 1 ≤ length cells) (sym b.is) (omega arith)

pub base_inside : (cells : List Cell) (f : Frame) → restored cells f ≢ None → 0 < length cells
base_inside cells f h = let l = restored_lies cells f h in omega arith

pub base_held : (cells : List Cell) (f : Frame) (v : Value) → restored cells f ≢ None → slice_get cells 0 ≢ Some (Holds v)
base_held cells f v h e = let b = base_on_top cells f h in off (sym (ap (λ cells. slice_get cells 0) b.is) ∙ e)
  where
    off : {bp : ℕ} → Some (Base bp) ≡ Some (Holds v) → ⊥
    off e = absurd cc

pub kept_is : (cells : List Cell) (bp : ℕ) → slice_get cells 0 ≡ Some (Base bp) → bp_on_top cells ≡ Some bp
kept_is [] bp h = absurd cc
kept_is (c ∷ cells) bp h = ap (λ (c : Cell). bp_on_top (c ∷ cells)) (same h)
  where
    same : slice_get (c ∷ cells) 0 ≡ Some (Base bp) → c ≡ Base bp
    same h = cc

pub ruleset kept_lemmas = (base_inside, base_held, kept_is)

pub restored_is : (cells : List Cell) (f : Frame) (bp : ℕ) → bp_on_top cells ≡ Some bp
    → restored cells f ≡ Some (Moves (record f { place = next_place f.place RestoreBp; stack = record { cells = drop 1 cells; bp = bp } }))
restored_is [] f bp h = absurd cc
restored_is (Holds v ∷ cells) f bp h = absurd cc
restored_is (Base kept ∷ cells) f bp h = ap (λ bp. Some (Moves (record f { place = next_place f.place RestoreBp; stack = record { cells = cells; bp = bp } }))) (same h)
  where
    same : bp_on_top (Base kept ∷ cells) ≡ Some bp → kept ≡ bp
    same h = cc

pub restored_deep : (cells : List Cell) (f : Frame) (bp : ℕ) → bp_on_top cells ≡ Some bp
    → ((g : Frame) → restored cells f ≡ Some (Moves g) → g.stack.bp ≤ length g.stack.cells) → bp ≤ length (drop 1 cells)
restored_deep cells f bp h deep = deep (record f { place = next_place f.place RestoreBp; stack = record { cells = drop 1 cells; bp = bp } }) (restored_is cells f bp h)

pub ruleset restored_lemmas = (restored_lies, restored_is, restored_deep)

-- ---- STORE_STATE

then_some : {A B : Type 0} (f : A → Option B) (o : Option A) → option_and_then f o ≢ None → (a : A) × (o ≡ Some a) × (f a ≢ None)
then_some f None h = absurd (h refl)
then_some f (Some a) h = (a, refl, h)

map_some : {A B : Type 0} (f : A → B) (o : Option A) → option_map f o ≢ None → (a : A) × (o ≡ Some a)
map_some f None h = absurd (h refl)
map_some f (Some a) h = (a, refl)

record Captures (globals locals : ℕ) (f : Frame) : Type 0 where
  deep : f.stack.bp ≤ length f.stack.cells
  globals_fit : globals ≤ f.stack.bp
  locals_fit : locals ≤ length f.stack.cells
  is : stored_cells globals locals f ≡ Some (captured f.script (resume_place f.place) globals locals f.stack)

captures_as : (globals locals : ℕ) (f : Frame) (b : Bool) → nat_le f.stack.bp (length f.stack.cells) ≡ b → stored_cells globals locals f ≢ None → Captures globals locals f
captures_as globals locals f false e h = absurd (h (ap (λ (b : Bool). if b then option_and_then (λ _. option_map (λ _. captured f.script (resume_place f.place) globals locals f.stack)
    (values_on locals f.stack.cells)) (values_on globals (cells_beneath f.stack.bp f.stack.cells)) else None) e))
captures_as globals locals f true e h =
    let open_test : stored_cells globals locals f ≡ option_and_then (λ _. option_map (λ _. captured f.script (resume_place f.place) globals locals f.stack)
    (values_on locals f.stack.cells)) (values_on globals (cells_beneath f.stack.bp f.stack.cells)) =
    ap (λ (b : Bool). if b then option_and_then (λ _. option_map (λ _. captured f.script (resume_place f.place) globals locals f.stack)
    (values_on locals f.stack.cells)) (values_on globals (cells_beneath f.stack.bp f.stack.cells)) else None) e in
    let g = then_some (λ _. option_map (λ _. captured f.script (resume_place f.place) globals locals f.stack)
    (values_on locals f.stack.cells)) (values_on globals (cells_beneath f.stack.bp f.stack.cells))
    (λ none. h (open_test ∙ none)) in
    let l = map_some (λ _. captured f.script (resume_place f.place) globals locals f.stack) (values_on locals f.stack.cells) g.2 in
    let deep : f.stack.bp ≤ length f.stack.cells = grind (arith, nat_tests) in
    let beneath = length-drop (length f.stack.cells - f.stack.bp) f.stack.cells in
    let some = (length_is globals (cells_beneath f.stack.bp f.stack.cells) g.0 g.1).1 in
    record {
      deep = deep;
      globals_fit = omega (arith, deep, beneath, some);
      locals_fit = (length_is locals f.stack.cells l.0 l.1).1;
      is = open_test ∙ ap (option_and_then (λ _. option_map (λ _. captured f.script (resume_place f.place) globals locals f.stack) (values_on locals f.stack.cells))) g.1
          ∙ ap (option_map (λ _. captured f.script (resume_place f.place) globals locals f.stack)) l.1;
    }

captures : (globals locals : ℕ) (f : Frame) → stored_cells globals locals f ≢ None → Captures globals locals f
captures globals locals f h = captures_as globals locals f (nat_le f.stack.bp (length f.stack.cells)) refl h

pub capture_deep : (globals locals : ℕ) (f : Frame) → stored_cells globals locals f ≢ None → f.stack.bp ≤ length f.stack.cells
capture_deep globals locals f h = (captures globals locals f h).deep

pub capture_globals : (globals locals : ℕ) (f : Frame) → stored_cells globals locals f ≢ None → globals ≤ f.stack.bp
capture_globals globals locals f h = (captures globals locals f h).globals_fit

pub capture_locals : (globals locals : ℕ) (f : Frame) → stored_cells globals locals f ≢ None → locals ≤ length f.stack.cells
capture_locals globals locals f h = (captures globals locals f h).locals_fit

pub capture_is : (globals locals : ℕ) (f : Frame) → stored_cells globals locals f ≢ None
    → stored_cells globals locals f ≡ Some (captured f.script (resume_place f.place) globals locals f.stack)
capture_is globals locals f h = (captures globals locals f h).is

pub ruleset captured_lemmas = (capture_deep, capture_globals, capture_locals, capture_is, pushed_last)

record Stores (globals locals : ℕ) (f : Frame) : Type 0 where
  g : ℕ
  l : ℕ
  g_is : cell_count globals ≡ Some g
  l_is : cell_count locals ≡ Some l
  case : stored_cells g l f ≢ None

stores : (globals locals : ℕ) (f : Frame) → stored globals locals f ≢ None → Stores globals locals f
stores globals locals f h =
    let g = then_some (λ g. option_and_then (λ l. option_map (λ saved.
    Moves (record f { place = next_place f.place (StoreState globals locals); pending = saved ∷ f.pending })) (stored_cells g l f)) (cell_count locals)) (cell_count globals) h in
    let l = then_some (λ l. option_map
    (λ saved. Moves (record f {
      place = next_place f.place (StoreState globals locals);
      pending = saved ∷ f.pending;
    })) (stored_cells g.0 l f)) (cell_count locals) g.2 in
    let c = map_some (λ saved. Moves (record f { place = next_place f.place (StoreState globals locals); pending = saved ∷ f.pending })) (stored_cells g.0 l.0 f) l.2 in
    record { g = g.0; l = l.0; g_is = g.1; l_is = l.1; case = not_none (stored_cells g.0 l.0 f) c.0 c.1 }
  where
    not_none : {A : Type 0} (o : Option A) (a : A) → o ≡ Some a → o ≢ None
    not_none o a e h = absurd cc

pub stored_case : (globals locals g l : ℕ) (f : Frame) → stored globals locals f ≢ None → cell_count globals ≡ Some g → cell_count locals ≡ Some l → stored_cells g l f ≢ None
stored_case globals locals g l f h a b =
    let s = stores globals locals f h in
    subst (λ g. stored_cells g l f ≢ None) (same s.g_is a) (subst (λ l. stored_cells s.g l f ≢ None) (same s.l_is b) s.case)
  where
    same : {o : Option ℕ} {x y : ℕ} → o ≡ Some x → o ≡ Some y → x ≡ y
    same p q = cc

pub stored_counts : (globals locals : ℕ) (f : Frame) → stored globals locals f ≢ None → (cell_count globals ≢ None) × (cell_count locals ≢ None)
stored_counts globals locals f h = let s = stores globals locals f h in (not_none (cell_count globals) s.g s.g_is, not_none (cell_count locals) s.l s.l_is)
  where
    not_none : {A : Type 0} (o : Option A) (a : A) → o ≡ Some a → o ≢ None
    not_none o a e h = absurd cc

pub stored_is : (globals locals g l : ℕ) (f now : Frame) → stored globals locals f ≢ None → cell_count globals ≡ Some g → cell_count locals ≡ Some l
    → option_map (λ saved. record f { place = next_place f.place (StoreState globals locals); pending = saved ∷ f.pending }) (stored_cells g l f) ≡ Some now
    → stored globals locals f ≡ Some (Moves now)
stored_is globals locals g l f now h a b e =
    ap (option_and_then (λ g. option_and_then (λ l. option_map (λ saved.
    Moves (record f { place = next_place f.place (StoreState globals locals); pending = saved ∷ f.pending })) (stored_cells g l f)) (cell_count locals))) a
    ∙ ap (option_and_then (λ l. option_map (λ saved. Moves (record f { place = next_place f.place (StoreState globals locals); pending = saved ∷ f.pending })) (stored_cells g l f))) b
    ∙ joined (stored_cells g l f) e
  where
    joined : (o : Option Saved) → option_map (λ saved. record f { place = next_place f.place (StoreState globals locals); pending = saved ∷ f.pending }) o ≡ Some now
        → option_map (λ saved. Moves (record f { place = next_place f.place (StoreState globals locals); pending = saved ∷ f.pending })) o ≡ Some (Moves now)
    joined None e = absurd cc
    joined (Some saved) e = on cc
      where
        on : record f { place = next_place f.place (StoreState globals locals); pending = saved ∷ f.pending } ≡ now
            → Some (Moves (record f { place = next_place f.place (StoreState globals locals); pending = saved ∷ f.pending })) ≡ Some (Moves now)
        on e = ap (λ f. Some (Moves f)) e

pub ruleset stored_lemmas = (stored_case, stored_counts, stored_is)
