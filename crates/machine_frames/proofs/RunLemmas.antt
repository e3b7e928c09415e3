-- Runs of values among cells.
use Rattle.std.proofs.Common.{arith, ◌≡◌, ◌≢◌, ◌<◌, ◌≤◌, ◌+◌, ◌-◌, ℕ, zero, suc, List, [], ◌∷◌, ◌++◌, length, map, take, drop, Option, Some, None, sym, ap, ◌∙◌, refl, subst, append_assoc}
use Rattle.std.specs.Prelude.{slice_get, slice_set, IfSome}
use Rattle.std.specs.Option.{option_map}
use Rattle.std.proofs.lemmas.Option.{slice_get_within}
use Rattle.std.proofs.lemmas.List.{take-append-drop, length-take-le, length-drop}
use Rattle.nwq_value.specs.declared.value.Value.{Value}
use Rattle.saved_state.specs.declared.cell.Cell.{Cell}
use Rattle.saved_state.specs.declared.cell.Cell.TheVariants.{Value as Holds, Base}
use Rattle.saved_state.specs.Cells.{StackView, run_written}
use Rattle.machine_rules.specs.Cells.{values_on, with_values, overwritten}
use Rattle.machine_frames.specs.Tops.{HasValue, AreValues}

-- ---- lists

pub get_dropped : {A : Type 0} (n : ℕ) (xs : List A) (i : ℕ) → slice_get (drop n xs) i ≡ slice_get xs (n + i)
get_dropped zero xs i = ap (slice_get xs) (omega arith)
get_dropped (suc n) [] i = refl
get_dropped (suc n) (x ∷ xs) i = let next : suc (n + i) ≡ suc n + i = omega arith in get_dropped n xs i ∙ ap (slice_get (x ∷ xs)) next

get_front : {A : Type 0} (xs ys : List A) (i : ℕ) → i < length xs → slice_get (xs ++ ys) i ≡ slice_get xs i
get_front [] ys i less = absurd (omega arith)
get_front (x ∷ xs) ys zero less = refl
get_front (x ∷ xs) ys (suc i) less = get_front xs ys i (omega arith)

get_behind : {A : Type 0} (xs ys : List A) (i : ℕ) → slice_get (xs ++ ys) (length xs + i) ≡ slice_get ys i
get_behind [] ys i = ap (slice_get ys) (omega arith)
get_behind (x ∷ xs) ys i = let next : suc (length xs) + i ≡ suc (length xs + i) = omega arith in ap (slice_get (x ∷ (xs ++ ys))) next ∙ get_behind xs ys i

get_taken : {A : Type 0} (n : ℕ) (xs : List A) (i : ℕ) → i < n → slice_get (take n xs) i ≡ slice_get xs i
get_taken zero xs i less = absurd (omega arith)
get_taken (suc n) [] i less = refl
get_taken (suc n) (x ∷ xs) zero less = refl
get_taken (suc n) (x ∷ xs) (suc i) less = get_taken n xs i (omega arith)

drop_is : {A : Type 0} (xs : List A) (i : ℕ) (x : A) → slice_get xs i ≡ Some x → drop i xs ≡ x ∷ drop (suc i) xs
drop_is [] i x h = absurd cc
drop_is (y ∷ ys) zero x h = cc
drop_is (y ∷ ys) (suc i) x h = drop_is ys i x h

take_is : {A : Type 0} (xs : List A) (i : ℕ) (x : A) → slice_get xs i ≡ Some x → take (suc i) xs ≡ take i xs ++ x ∷ []
take_is [] i x h = absurd cc
take_is (y ∷ ys) zero x h = cc
take_is (y ∷ ys) (suc i) x h = ap (λ t. y ∷ t) (take_is ys i x h)

set_seam : {A : Type 0} (xs : List A) (y : A) (ys : List A) (new : A) → slice_set (xs ++ y ∷ ys) (length xs) new ≡ xs ++ new ∷ ys
set_seam [] y ys new = refl
set_seam (x ∷ xs) y ys new = ap (λ t. x ∷ t) (set_seam xs y ys new)

drop_all : {A : Type 0} (xs : List A) (n : ℕ) → n ≡ length xs → drop n xs ≡ []
drop_all [] zero e = refl
drop_all [] (suc n) e = refl
drop_all (x ∷ xs) zero e = absurd (omega arith)
drop_all (x ∷ xs) (suc n) e = drop_all xs n (omega arith)

some_in : {A : Type 0} (xs : List A) (i : ℕ) → i < length xs → (x : A) × (slice_get xs i ≡ Some x)
some_in [] i less = absurd (omega arith)
some_in (x ∷ xs) zero less = (x, refl)
some_in (x ∷ xs) (suc i) less = some_in xs i (omega arith)

-- ---- values on cells

on_map : {A B : Type 0} (f : A → B) (o : Option A) (b : B) → option_map f o ≡ Some b → (a : A) × (o ≡ Some a) × (f a ≡ b)
on_map f None b h = absurd cc
on_map f (Some a) b h = (a, refl, cc)

pub length_is : (n : ℕ) (cells : List Cell) (vs : List Value) → values_on n cells ≡ Some vs → (length vs ≡ n) × (n ≤ length cells)
length_is zero cells vs h = let e : [] ≡ vs = cc in (sym (ap length e), omega arith)
length_is (suc n) [] vs h = absurd cc
length_is (suc n) (Base bp ∷ cells) vs h = absurd cc
length_is (suc n) (Holds v ∷ cells) vs h =
    let m = on_map (λ (vs : List Value). v ∷ vs) (values_on n cells) vs h in
    let rest = length_is n cells m.0 m.1 in
    (sym (ap length m.2) ∙ ap suc rest.0, let less = rest.1 in omega arith)

-- the value of that number is in the cell so far down
pub record Got (vs : List Value) (cells : List Cell) (i : ℕ) : Type 0 where
  pub v : Value
  pub in_values : slice_get vs i ≡ Some v
  pub in_cells : slice_get cells i ≡ Some (Holds v)

pub got : (n : ℕ) (cells : List Cell) (vs : List Value) → values_on n cells ≡ Some vs → (i : ℕ) → i < n → Got vs cells i
got zero cells vs h i less = absurd (omega arith)
got (suc n) [] vs h i less = absurd cc
got (suc n) (Base bp ∷ cells) vs h i less = absurd cc
got (suc n) (Holds v ∷ cells) vs h zero less =
    let m = on_map (λ (vs : List Value). v ∷ vs) (values_on n cells) vs h in
    record { v = v; in_values = sym (ap (λ vs. slice_get vs 0) m.2); in_cells = refl }
got (suc n) (Holds v ∷ cells) vs h (suc i) less =
    let m = on_map (λ (vs : List Value). v ∷ vs) (values_on n cells) vs h in
    let g = got n cells m.0 m.1 i (omega arith) in
    record { v = g.v; in_values = sym (ap (λ vs. slice_get vs (suc i)) m.2) ∙ g.in_values; in_cells = g.in_cells }

-- so many values are there
pub record There (n : ℕ) (cells : List Cell) : Type 0 where
  pub vs : List Value
  pub are : values_on n cells ≡ Some vs

there_in : (n : ℕ) (cells : List Cell) (o : Option (List Value)) → values_on n cells ≡ o → o ≢ None → There n cells
there_in n cells None e h = absurd (h refl)
there_in n cells (Some vs) e h = record { vs = vs; are = e }

pub there : (n : ℕ) (cells : List Cell) → AreValues n cells → There n cells
there n cells h = there_in n cells (values_on n cells) refl h

got_below : (n from : ℕ) (cells : List Cell) (vs : List Value) → values_on n (drop from cells) ≡ Some vs → (i : ℕ)
    → i < n → (v : Value) × (slice_get vs i ≡ Some v) × (slice_get cells (from + i) ≡ Some (Holds v))
got_below n from cells vs h i less = let g = got n (drop from cells) vs h i less in (g.v, g.in_values, sym (get_dropped from cells i) ∙ g.in_cells)

-- ---- values that are written onto others, the lowest first

pub record CopiedDown (from onto count left : ℕ) (first now : StackView) : Type 0 where
  pub source : There count (drop from first.cells)
  pub target : AreValues count (drop onto first.cells)
  pub order : from ≤ onto
  pub few : left ≤ count
  pub bp : now.bp ≡ first.bp
  pub cells : now.cells ≡ take (onto + left) first.cells ++ with_values (drop left source.vs) (drop (onto + count) first.cells)

target_inside : (onto count k : ℕ) (cells : List Cell) → AreValues count (drop onto cells) → k < count → onto + k < length cells
target_inside onto count k cells h less =
    let t = there count (drop onto cells) h in
    let g = got_below count onto cells t.vs t.are k less in
    slice_get_within cells (onto + k) (Holds g.0) g.2

-- a place in the part that isn't written yet
unwritten : (from onto count left : ℕ) (first now : StackView) → CopiedDown from onto count left first now → (k depth : ℕ) → left ≡ suc k → depth < onto + left
    → slice_get now.cells depth ≡ slice_get first.cells depth
unwritten from onto count left first now c k depth e less =
    let few = c.few in
    let inside = target_inside onto count k first.cells c.target (omega arith) in
    let size : length (take (onto + left) first.cells) ≡ onto + left = length-take-le (onto + left) first.cells (omega arith) in
    ap (λ t. slice_get t depth) c.cells
    ∙ get_front (take (onto + left) first.cells) (with_values (drop left c.source.vs) (drop (onto + count) first.cells)) depth (omega (arith, size, less))
    ∙ get_taken (onto + left) first.cells depth less

pub reads : (from onto count left : ℕ) (first now : StackView) (k : ℕ) → CopiedDown from onto count left first now → left ≡ suc k → HasValue (from + k) now.cells
reads from onto count left first now k c e =
    let few = c.few in
    let order = c.order in
    let g = got_below count from first.cells c.source.vs c.source.are k (omega arith) in
    record { value = g.0; is = unwritten from onto count left first now c k (from + k) e (omega arith) ∙ g.2 }

pub writes : (from onto count left : ℕ) (first now : StackView) (k : ℕ) → CopiedDown from onto count left first now → left ≡ suc k → HasValue (onto + k) now.cells
writes from onto count left first now k c e =
    let few = c.few in
    let t = there count (drop onto first.cells) c.target in
    let g = got_below count onto first.cells t.vs t.are k (omega arith) in
    record { value = g.0; is = unwritten from onto count left first now c k (onto + k) e (omega arith) ∙ g.2 }

pub copied : (from onto count left : ℕ) (first now : StackView) (k : ℕ) (v : Value) → CopiedDown from onto count left first now → left ≡ suc k
    → slice_get now.cells (from + k) ≡ Some (Holds v)
    → CopiedDown from onto count k first (record now { cells = slice_set now.cells (onto + k) (Holds v) })
copied from onto count left first now k v c e read =
    let few = c.few in
    let order = c.order in
    let g = got_below count from first.cells c.source.vs c.source.are k (omega arith) in
    let seen = sym (unwritten from onto count left first now c k (from + k) e (omega arith)) in
    let t = there count (drop onto first.cells) c.target in
    let old = got_below count onto first.cells t.vs t.are k (omega arith) in
    let inside = target_inside onto count k first.cells c.target (omega arith) in
    record {
      source = c.source;
      target = c.target;
      order = c.order;
      few = omega arith;
      bp = c.bp;
      cells = step (same (seen ∙ read) g.2 g.1) old.0 old.2 (omega arith);
    }
  where
    behind : List Cell
    behind = drop (onto + count) first.cells

    same : {w : Value} → slice_get first.cells (from + k) ≡ Some (Holds v) → slice_get first.cells (from + k) ≡ Some (Holds w) → slice_get c.source.vs k ≡ Some w → slice_get c.source.vs k ≡ Some v
    same a b d = cc

    step : slice_get c.source.vs k ≡ Some v → (w : Value) → slice_get first.cells (onto + k) ≡ Some (Holds w) → onto + k ≤ length first.cells
        → slice_set now.cells (onto + k) (Holds v) ≡ take (onto + k) first.cells ++ with_values (drop k c.source.vs) (drop (onto + count) first.cells)
    step is w old less =
        let more : onto + left ≡ suc (onto + k) = omega arith in
        let size : length (take (onto + k) first.cells) ≡ onto + k = length-take-le (onto + k) first.cells less in
        let rest = with_values (drop left c.source.vs) (drop (onto + count) first.cells) in
        let split : take (onto + left) first.cells ≡ take (onto + k) first.cells ++ Holds w ∷ [] = ap (λ n. take n first.cells) more ∙ take_is first.cells (onto + k) (Holds w) old in
        let whole : now.cells ≡ take (onto + k) first.cells ++ Holds w ∷ rest =
        c.cells ∙ ap (λ t. t ++ rest) split ∙ append_assoc (take (onto + k) first.cells) (Holds w ∷ []) rest in
        let values : drop k c.source.vs ≡ v ∷ drop left c.source.vs = drop_is c.source.vs k v is ∙ ap (λ n. v ∷ drop n c.source.vs) (sym e) in
        ap (λ t. slice_set t (onto + k) (Holds v)) whole
        ∙ ap (λ n. slice_set (take (onto + k) first.cells ++ Holds w ∷ rest) n (Holds v)) (sym size)
        ∙ set_seam (take (onto + k) first.cells) (Holds w) rest (Holds v)
        ∙ ap (λ vs. take (onto + k) first.cells ++ with_values vs (drop (onto + count) first.cells)) (sym values)

-- one value is written onto another
pub put_read : (from onto : ℕ) (first now : StackView) (v : Value) → slice_get first.cells from ≡ Some (Holds v)
    → now ≡ record first { cells = slice_set first.cells onto (Holds v) }
    → IfSome (slice_get first.cells from) (λ cell. now ≡ record first { cells = slice_set first.cells onto cell })
put_read from onto first now v read put = subst (λ o. IfSome o (λ cell. now ≡ record first { cells = slice_set first.cells onto cell })) (sym read) put

pub copied_one : (from onto count left : ℕ) (first now after : StackView) → CopiedDown from onto count left first now → 0 < left
    → IfSome (slice_get now.cells (from + (left - 1))) (λ cell. after ≡ record now { cells = slice_set now.cells (onto + (left - 1)) cell })
    → CopiedDown from onto count (left - 1) first after
copied_one from onto count left first now after c some step =
    let last : left ≡ suc (left - 1) = omega (arith, some) in
    let read = reads from onto count left first now (left - 1) c last in
    let put : after ≡ record now { cells = slice_set now.cells (onto + (left - 1)) (Holds read.value) } =
    subst (λ o. IfSome o (λ cell. after ≡ record now { cells = slice_set now.cells (onto + (left - 1)) cell })) read.is step in
    subst (λ s. CopiedDown from onto count (left - 1) first s) (sym put) (copied from onto count left first now (left - 1) read.value c last read.is)

-- nothing is written yet
begun_in : (from onto count : ℕ) (first : StackView) (s : There count (drop from first.cells)) → AreValues count (drop onto first.cells) → from ≤ onto
    → CopiedDown from onto count count first first
begun_in from onto count first s target order = record {
  source = s;
  target = target;
  order = order;
  few = omega arith;
  bp = refl;
  cells =
      let none = drop_all s.vs count (sym (length_is count (drop from first.cells) s.vs s.are).0) in
      sym (ap (λ vs. take (onto + count) first.cells ++ with_values vs (drop (onto + count) first.cells)) none ∙ take-append-drop (onto + count) first.cells);
}

pub copy_begins : (from onto count : ℕ) (first : StackView) → AreValues count (drop from first.cells) → AreValues count (drop onto first.cells) → from ≤ onto
    → CopiedDown from onto count count first first
copy_begins from onto count first source target order = begun_in from onto count first (there count (drop from first.cells) source) target order

pub copy_ends : (from onto count left : ℕ) (first now : StackView) → CopiedDown from onto count left first now → left ≡ 0
    → IfSome (values_on count (drop from first.cells)) (λ vs. now ≡ record first { cells = overwritten onto vs first.cells })
copy_ends from onto count left first now c e =
    let size = (length_is count (drop from first.cells) c.source.vs c.source.are).0 in
    let upto : onto + left ≡ onto = omega arith in
    let cells : now.cells ≡ overwritten onto c.source.vs first.cells =
    c.cells ∙ ap (λ n. take n first.cells ++ with_values (drop left c.source.vs) (drop (onto + count) first.cells)) upto
    ∙ ap (λ n. take onto first.cells ++ with_values (drop n c.source.vs) (drop (onto + count) first.cells)) e
    ∙ ap (λ n. take onto first.cells ++ with_values c.source.vs (drop (onto + n) first.cells)) (sym size) in
    subst (λ o. IfSome o (λ vs. now ≡ record first { cells = overwritten onto vs first.cells })) (sym c.source.are) (both cells c.bp)
  where
    both : now.cells ≡ overwritten onto c.source.vs first.cells → now.bp ≡ first.bp → now ≡ record first { cells = overwritten onto c.source.vs first.cells }
    both a b = ap (λ (cells : List Cell). record now { cells = cells }) a ∙ ap (λ (bp : ℕ). record first { cells = overwritten onto c.source.vs first.cells; bp = bp }) b

-- the depths fit as the stack's length does
pub from_fits : (from onto count left len k : ℕ) (first now : StackView) → CopiedDown from onto count left first now → left ≡ suc k → len ≡ length first.cells → from + k < len
from_fits from onto count left len k first now c e size =
    let few = c.few in
    let order = c.order in
    let inside = target_inside onto count k first.cells c.target (omega arith) in omega arith

pub onto_fits : (from onto count left len k : ℕ) (first now : StackView) → CopiedDown from onto count left first now → left ≡ suc k → len ≡ length first.cells → onto + k < len
onto_fits from onto count left len k first now c e size =
    let few = c.few in
    let inside = target_inside onto count k first.cells c.target (omega arith) in omega arith

pub ruleset copy_lemmas = (reads, writes, copied_one, copy_begins, copy_ends, from_fits, onto_fits)

-- ---- copies that are pushed

values_taken : (n : ℕ) (cells : List Cell) (vs : List Value) → values_on n cells ≡ Some vs → take n cells ≡ map Holds vs
values_taken zero cells vs h = let e : [] ≡ vs = cc in ap (map Holds) e
values_taken (suc n) [] vs h = absurd cc
values_taken (suc n) (Base bp ∷ cells) vs h = absurd cc
values_taken (suc n) (Holds v ∷ cells) vs h =
    let m = on_map (λ (vs : List Value). v ∷ vs) (values_on n cells) vs h in
    ap (λ (t : List Cell). Holds v ∷ t) (values_taken n cells m.0 m.1) ∙ ap (map Holds) m.2

pub none_pushed : (above count : ℕ) (first : StackView) → count ≤ 0
    → IfSome (values_on count (drop above first.cells)) (λ vs. first ≡ record first { cells = with_values vs first.cells })
none_pushed above count first none =
    let e : count ≡ 0 = omega (arith, none) in
    subst (λ (n : ℕ). IfSome (values_on n (drop above first.cells)) (λ vs. first ≡ record first { cells = with_values vs first.cells })) (sym e) refl

pub one_has : (above count : ℕ) (cells : List Cell) → AreValues count (drop above cells) → 0 < count → HasValue above cells
one_has above count cells h some =
    let t = there count (drop above cells) h in
    let g = got_below count above cells t.vs t.are 0 some in
    record { value = g.0; is = ap (slice_get cells) here ∙ g.2 }
  where
    here : above ≡ above + 0
    here = omega arith

pub one_pushed : (above count : ℕ) (first now : StackView) (v w : Value) → 0 < count → count ≤ 1 → slice_get first.cells above ≡ Some (Holds v) → w ≡ v
    → now ≡ record first { cells = Holds w ∷ first.cells }
    → IfSome (values_on count (drop above first.cells)) (λ vs. now ≡ record first { cells = with_values vs first.cells })
one_pushed above count first now v w some most is same put =
    let e : count ≡ 1 = omega (arith, some, most) in
    let whole : values_on 1 (drop above first.cells) ≡ Some (v ∷ []) = ap (values_on 1) (drop_is first.cells above (Holds v) is) in
    let after : now ≡ record first { cells = Holds v ∷ first.cells } = put ∙ ap (λ (u : Value). record first { cells = Holds u ∷ first.cells }) same in
    subst (λ (n : ℕ). IfSome (values_on n (drop above first.cells)) (λ vs. now ≡ record first { cells = with_values vs first.cells })) (sym e)
    (subst (λ o. IfSome o (λ vs. now ≡ record first { cells = with_values vs first.cells })) (sym whole) after)

pub pushed_read : (above : ℕ) (first now : StackView) (v : Value) → slice_get first.cells above ≡ Some (Holds v)
    → now ≡ record first { cells = Holds v ∷ first.cells }
    → IfSome (slice_get first.cells above) (λ cell. now ≡ record first { cells = cell ∷ first.cells })
pushed_read above first now v read put = subst (λ o. IfSome o (λ cell. now ≡ record first { cells = cell ∷ first.cells })) (sym read) put

pub copy_pushed : (above count : ℕ) (first now : StackView) → AreValues count (drop above first.cells) → 0 < count → count ≤ 1
    → IfSome (slice_get first.cells above) (λ cell. now ≡ record first { cells = cell ∷ first.cells })
    → IfSome (values_on count (drop above first.cells)) (λ vs. now ≡ record first { cells = with_values vs first.cells })
copy_pushed above count first now h some most step =
    let read = one_has above count first.cells h some in
    one_pushed above count first now read.value read.value some most read.is refl
    (subst (λ o. IfSome o (λ cell. now ≡ record first { cells = cell ∷ first.cells })) read.is step)

pub many_fit : (above count : ℕ) (cells : List Cell) → AreValues count (drop above cells) → 1 < count → above + count ≤ length cells
many_fit above count cells h some =
    let t = there count (drop above cells) h in
    let less = (length_is count (drop above cells) t.vs t.are).1 in
    let size = length-drop above cells in
    omega (arith, less, size, some)

pub many_pushed : (above count : ℕ) (first now : StackView) → AreValues count (drop above first.cells)
    → now ≡ record first { cells = take count (drop above first.cells) ++ first.cells }
    → IfSome (values_on count (drop above first.cells)) (λ vs. now ≡ record first { cells = with_values vs first.cells })
many_pushed above count first now h put =
    let t = there count (drop above first.cells) h in
    let after : now ≡ record first { cells = with_values t.vs first.cells } =
    put ∙ ap (λ (c : List Cell). record first { cells = c ++ first.cells }) (values_taken count (drop above first.cells) t.vs t.are) in
    subst (λ o. IfSome o (λ vs. now ≡ record first { cells = with_values vs first.cells })) (sym t.are) after

pub run_copied : (from onto count : ℕ) (first now : StackView) → AreValues count (drop from first.cells)
    → now ≡ record first { cells = run_written onto from count first.cells }
    → IfSome (values_on count (drop from first.cells)) (λ vs. now ≡ record first { cells = overwritten onto vs first.cells })
run_copied from onto count first now h put =
    let t = there count (drop from first.cells) h in
    let size = (length_is count (drop from first.cells) t.vs t.are).0 in
    let after : now ≡ record first { cells = overwritten onto t.vs first.cells } =
    put
    ∙ ap (λ (c : List Cell). record first { cells = take onto first.cells ++ (c ++ drop (onto + count) first.cells) }) (values_taken count (drop from first.cells) t.vs t.are)
    ∙ ap (λ (n : ℕ). record first { cells = take onto first.cells ++ with_values t.vs (drop (onto + n) first.cells) }) (sym size) in
    subst (λ o. IfSome o (λ vs. now ≡ record first { cells = overwritten onto vs first.cells })) (sym t.are) after

pub ruleset run_lemmas = (run_copied, many_fit)

pub ruleset push_lemmas = (none_pushed, one_has, copy_pushed, many_fit, many_pushed)
