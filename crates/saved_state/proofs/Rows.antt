-- Pieces in a row: the list that they stand for, and where its cells are.
use Rattle.std.proofs.Common.{◌≡◌, ◌<◌, ◌≤◌, ◌+◌, ◌-◌, ◌++◌, ◌∷◌, [], ℕ, zero, suc, List, length, take, drop, set, get_or, slice_get, min, Some, Result, Ok, Err, refl, sym, ap, subst, ◌∙◌, arith}
use Rattle.std.proofs.Common.{append_assoc}
use Rattle.std.proofs.lemmas.List.{length-append, append-nil, take_more, length-set, get_or_default, set-append_left, set-append_right, drop_all, length_push, take-append-le, take-append-drop}
use Rattle.std.proofs.lemmas.List.{take-take, take_all, length-take, length-take-le, get_or-take, take_min, set-get_or}
use Rattle.std.proofs.lemmas.Option.{slice_get-get_or}
use Rattle.std.proofs.Math.Seq.{take-append-add}
use Rattle.std.specs.Prelude.{OnOk, OnErr}
use Rattle.saved_state.proofs.Lists.{get_front, get_behind}
use Rattle.saved_state.specs.declared.cell.Cell.{Cell}
use Rattle.saved_state.specs.Pages.{Part, flat, page_limit, AreStacked, IsFull, IsInPiece, IsPlace, IsRow}

-- ---- rows in a row

pub flat_joined : (ps qs : List Part) → flat (ps ++ qs) ≡ flat ps ++ flat qs
flat_joined [] qs = refl
flat_joined (p ∷ ps) qs = ap (λ (t : List Cell). p.cells ++ t) (flat_joined ps qs) ∙ sym (append_assoc p.cells (flat ps) (flat qs))

pub flat_more : (ps : List Part) (p : Part) → flat (ps ++ p ∷ []) ≡ flat ps ++ p.cells
flat_more ps p = flat_joined ps (p ∷ []) ∙ ap (λ (t : List Cell). flat ps ++ t) (append-nil p.cells)

-- the list around one piece
pub flat_split : (ps : List Part) (k : ℕ) (d : Part) → k < length ps
    → flat ps ≡ flat (take k ps) ++ ((get_or ps k d).cells ++ flat (drop (suc k) ps))
flat_split [] k d less = absurd (omega arith)
flat_split (p ∷ ps) zero d less = refl
flat_split (p ∷ ps) (suc k) d less =
    ap (λ (t : List Cell). p.cells ++ t) (flat_split ps k d (omega arith))
    ∙ sym (append_assoc p.cells (flat (take k ps)) ((get_or ps k d).cells ++ flat (drop (suc k) ps)))

pub flat_set : (ps : List Part) (k : ℕ) (q : Part) → k < length ps
    → flat (set ps k q) ≡ flat (take k ps) ++ (q.cells ++ flat (drop (suc k) ps))
flat_set [] k q less = absurd (omega arith)
flat_set (p ∷ ps) zero q less = refl
flat_set (p ∷ ps) (suc k) q less =
    ap (λ (t : List Cell). p.cells ++ t) (flat_set ps k q (omega arith))
    ∙ sym (append_assoc p.cells (flat (take k ps)) (q.cells ++ flat (drop (suc k) ps)))

pub start_is : (beneath : ℕ) (ps : List Part) (k : ℕ) (d : Part) → AreStacked beneath ps → k < length ps
    → (get_or ps k d).start ≡ beneath + length (flat (take k ps))
start_is beneath [] k d stacked less = absurd (omega arith)
start_is beneath (p ∷ ps) zero d stacked less = stacked.0 ∙ omega arith
start_is beneath (p ∷ ps) (suc k) d stacked less =
    let size = length-append p.cells (flat (take k ps)) in
    start_is (beneath + length p.cells) ps k d stacked.1 (omega arith) ∙ omega (arith, size)

pub stacked_more : (beneath : ℕ) (ps : List Part) (p : Part) → AreStacked beneath ps → p.start ≡ beneath + length (flat ps)
    → AreStacked beneath (ps ++ p ∷ [])
stacked_more beneath [] p stacked is = (is ∙ omega arith, tt)
stacked_more beneath (q ∷ qs) p stacked is =
    let size = length-append q.cells (flat qs) in
    (stacked.0, stacked_more (beneath + length q.cells) qs p stacked.1 (is ∙ omega (arith, size)))

pub stacked_take : (beneath : ℕ) (ps : List Part) (k : ℕ) → AreStacked beneath ps → AreStacked beneath (take k ps)
stacked_take beneath ps zero stacked = tt
stacked_take beneath [] (suc k) stacked = tt
stacked_take beneath (p ∷ ps) (suc k) stacked = (stacked.0, stacked_take (beneath + length p.cells) ps k stacked.1)

-- where each piece keeps its number of cells, or is the last one, those above it stay where they
-- are
stacked_same : (beneath : ℕ) (ps : List Part) (k : ℕ) (q : Part) → AreStacked beneath ps → k < length ps
    → q.start ≡ (get_or ps k q).start → length q.cells ≡ length (get_or ps k q).cells → AreStacked beneath (set ps k q)
stacked_same beneath [] k q stacked less start size = absurd (omega arith)
stacked_same beneath (p ∷ ps) zero q stacked less start size =
    (start ∙ stacked.0, subst (λ n. AreStacked (beneath + n) ps) (sym size) stacked.1)
stacked_same beneath (p ∷ ps) (suc k) q stacked less start size =
    (stacked.0, stacked_same (beneath + length p.cells) ps k q stacked.1 (omega arith) start size)

stacked_last : (beneath : ℕ) (ps : List Part) (k : ℕ) (q : Part) → AreStacked beneath ps → suc k ≡ length ps
    → q.start ≡ (get_or ps k q).start → AreStacked beneath (set ps k q)
stacked_last beneath [] k q stacked last start = absurd (omega (arith, last))
stacked_last beneath (p ∷ []) zero q stacked last start = (start ∙ stacked.0, tt)
stacked_last beneath (p ∷ o ∷ ps) zero q stacked last start = absurd (omega (arith, last))
stacked_last beneath (p ∷ ps) (suc k) q stacked last start =
    (stacked.0, stacked_last (beneath + length p.cells) ps k q stacked.1 (omega (arith, last)) start)

-- ---- one cell

-- the cells beneath a piece, and it
pub taken_more : (ps : List Part) (k : ℕ) (d : Part) → k < length ps → flat (take (k + 1) ps) ≡ flat (take k ps) ++ (get_or ps k d).cells
taken_more ps k d less = ap flat (take_more ps k d less) ∙ flat_more (take k ps) (get_or ps k d)

-- from the piece of a place to the place in the piece
pub place_is : (place k : ℕ) (ps : List Part) (p : Part) → AreStacked 0 ps → IsInPiece place k ps → p ≡ get_or ps k p
    → (p.start ≤ place) × IsPlace place k (place - p.start) ps
place_is place k ps p stacked found is =
    let start = start_is 0 ps k p stacked found.inside in
    let same : p.start ≡ (get_or ps k p).start = ap (λ (q : Part). q.start) is in
    let beneath = found.beneath in
    let above = found.above in (
      omega (arith, start, same, beneath),
      record {
        inside = found.inside;
        beneath = omega (arith, start, same, beneath);
        above = λ q is_q.
            let count : length q.cells ≡ length (get_or ps k q).cells = ap (λ (r : Part). length r.cells) is_q in
            let size = ap length (taken_more ps k q found.inside) ∙ length-append (flat (take k ps)) (get_or ps k q).cells in
            omega (arith, start, same, beneath, above, count, size);
      },
    )

pub got_is : (place k i : ℕ) (ps : List Part) (p : Part) → IsPlace place k i ps → p ≡ get_or ps k p
    → slice_get (flat ps) place ≡ slice_get p.cells i
got_is place k i ps p found is =
    let cells = (get_or ps k p).cells in
    let rest = flat (drop (suc k) ps) in
    let count : length p.cells ≡ length cells = ap (λ (q : Part). length q.cells) is in
    let less = found.above p is in
    ap (λ (t : List Cell). slice_get t place) (flat_split ps k p found.inside)
    ∙ ap (slice_get (flat (take k ps) ++ (cells ++ rest))) (sym found.beneath)
    ∙ get_behind (flat (take k ps)) (cells ++ rest) i
    ∙ get_front cells rest i (omega (arith, less, count))
    ∙ ap (λ (q : Part). slice_get q.cells i) (sym is)

pub written_is : (place k i : ℕ) (ps : List Part) (p q : Part) (new : Cell) → IsPlace place k i ps → p ≡ get_or ps k p
    → q.cells ≡ set p.cells i new → flat (set ps k q) ≡ set (flat ps) place new
written_is place k i ps p q new found is written =
    let low = flat (take k ps) in
    let cells = (get_or ps k p).cells in
    let rest = flat (drop (suc k) ps) in
    let count : length p.cells ≡ length cells = ap (λ (q : Part). length q.cells) is in
    let less = found.above p is in
    let beneath = found.beneath in
    let same : set cells i new ≡ q.cells = ap (λ (q : Part). set q.cells i new) (sym is) ∙ sym written in
    let at : place - length low ≡ i = omega (arith, beneath) in
    flat_set ps k q found.inside
    ∙ ap (λ (t : List Cell). low ++ (t ++ rest)) (sym same)
    ∙ ap (λ (t : List Cell). low ++ t) (sym (set-append_left cells rest i new (omega (arith, less, count))))
    ∙ ap (λ n. low ++ set (cells ++ rest) n new) (sym at)
    ∙ sym (set-append_right low (cells ++ rest) (length low) place new refl (omega (arith, beneath)))
    ∙ ap (λ (t : List Cell). set t place new) (sym (flat_split ps k p found.inside))

pub row_written : (len place k i : ℕ) (ps : List Part) (p q : Part) (new : Cell) → IsRow len ps → IsPlace place k i ps → p ≡ get_or ps k p
    → q.cells ≡ set p.cells i new → q.start ≡ p.start → IsRow len (set ps k q)
row_written len place k i ps p q new row found is written start =
    let same : get_or ps k p ≡ get_or ps k q = get_or_default ps k p q found.inside in
    let size : length q.cells ≡ length p.cells = ap length written ∙ length-set p.cells i new in
    record {
      stacked =
          stacked_same 0 ps k q row.stacked found.inside (start ∙ ap (λ (r : Part). r.start) (is ∙ same))
          (size ∙ ap (λ (r : Part). length r.cells) (is ∙ same));
      count = ap length (written_is place k i ps p q new found is written) ∙ length-set (flat ps) place new ∙ row.count;
    }

-- ---- the top

nothing_above : (ps : List Part) (k : ℕ) → suc k ≡ length ps → flat (drop (suc k) ps) ≡ []
nothing_above ps k last = ap flat (drop_all (suc k) ps (omega (arith, last)))

top_is : (ps : List Part) (k : ℕ) (q : Part) → suc k ≡ length ps → flat (set ps k q) ≡ flat (take k ps) ++ q.cells
top_is ps k q last =
    flat_set ps k q (omega (arith, last))
    ∙ ap (λ (t : List Cell). flat (take k ps) ++ (q.cells ++ t)) (nothing_above ps k last)
    ∙ ap (λ (t : List Cell). flat (take k ps) ++ t) (append-nil q.cells)

whole_is : (ps : List Part) (k : ℕ) (d : Part) → suc k ≡ length ps → flat ps ≡ flat (take k ps) ++ (get_or ps k d).cells
whole_is ps k d last =
    flat_split ps k d (omega (arith, last))
    ∙ ap (λ (t : List Cell). flat (take k ps) ++ ((get_or ps k d).cells ++ t)) (nothing_above ps k last)
    ∙ ap (λ (t : List Cell). flat (take k ps) ++ t) (append-nil (get_or ps k d).cells)

pub pushed_is : (ps : List Part) (k : ℕ) (p q : Part) (new : Cell) → suc k ≡ length ps → p ≡ get_or ps k p
    → q.cells ≡ p.cells ++ new ∷ [] → flat (set ps k q) ≡ flat ps ++ new ∷ []
pushed_is ps k p q new last is pushed =
    top_is ps k q last
    ∙ ap (λ (t : List Cell). flat (take k ps) ++ t) (pushed ∙ ap (λ (r : Part). r.cells ++ new ∷ []) is)
    ∙ sym (append_assoc (flat (take k ps)) (get_or ps k p).cells (new ∷ []))
    ∙ ap (λ (t : List Cell). t ++ new ∷ []) (sym (whole_is ps k p last))

pub row_pushed : (len k : ℕ) (ps : List Part) (p q : Part) (new : Cell) → IsRow len ps → suc k ≡ length ps → p ≡ get_or ps k p
    → q.cells ≡ p.cells ++ new ∷ [] → q.start ≡ p.start → IsRow (len + 1) (set ps k q)
row_pushed len k ps p q new row last is pushed start =
    let same : get_or ps k p ≡ get_or ps k q = get_or_default ps k p q (omega (arith, last)) in
    let size = length_push (flat ps) new in
    let held = row.count in
    record {
      stacked = stacked_last 0 ps k q row.stacked last (start ∙ ap (λ (r : Part). r.start) (is ∙ same));
      count = ap length (pushed_is ps k p q new last is pushed) ∙ omega (arith, size, held);
    }

pub row_more : (len : ℕ) (ps : List Part) (p : Part) → IsRow len ps → p.start ≡ len → IsRow (len + length p.cells) (ps ++ p ∷ [])
row_more len ps p row start =
    let size = length-append (flat ps) p.cells in
    let held = row.count in
    record {
      stacked = stacked_more 0 ps p row.stacked (start ∙ omega (arith, held));
      count = ap length (flat_more ps p) ∙ omega (arith, size, held);
    }

-- ---- cut over a place

cut_is : (place k i : ℕ) (ps : List Part) (p q : Part) → IsPlace place k i ps → p ≡ get_or ps k p
    → q.cells ≡ take (i + 1) p.cells → flat (take k ps) ++ q.cells ≡ take (place + 1) (flat ps)
cut_is place k i ps p q found is kept =
    let low = flat (take k ps) in
    let cells = (get_or ps k p).cells in
    let rest = flat (drop (suc k) ps) in
    let count : length p.cells ≡ length cells = ap (λ (q : Part). length q.cells) is in
    let less = found.above p is in
    let beneath = found.beneath in
    let at : length low + (i + 1) ≡ place + 1 = omega (arith, beneath) in
    ap (λ (t : List Cell). low ++ t) (kept ∙ ap (λ (r : Part). take (i + 1) r.cells) is)
    ∙ ap (λ (t : List Cell). low ++ t) (sym (take-append-le (i + 1) cells rest (omega (arith, less, count))))
    ∙ sym (take-append-add low (cells ++ rest) (i + 1))
    ∙ ap (λ n. take n (low ++ (cells ++ rest))) at
    ∙ ap (take (place + 1)) (sym (flat_split ps k p found.inside))

-- the pieces up to one of them, and that one changed
kept_is : (ps : List Part) (k : ℕ) (q : Part) → k < length ps → flat (set (take (k + 1) ps) k q) ≡ flat (take k ps) ++ q.cells
kept_is ps k q less =
    let count = length-take-le (k + 1) ps (omega arith) in
    top_is (take (k + 1) ps) k q (omega (arith, count))
    ∙ ap (λ (t : List Part). flat t ++ q.cells) (take-take k (k + 1) ps (omega arith))

pub kept_view : (place k i n : ℕ) (ps : List Part) (p q : Part) → IsPlace place k i ps → p ≡ get_or ps k p
    → q.cells ≡ take (i + 1) p.cells → n ≡ place + 1 → flat (set (take (k + 1) ps) k q) ≡ take n (flat ps)
kept_view place k i n ps p q found is kept next =
    kept_is ps k q found.inside ∙ cut_is place k i ps p q found is kept ∙ ap (λ m. take m (flat ps)) (sym next)

pub row_kept : (len place k i n : ℕ) (ps : List Part) (p q : Part) → IsRow len ps → IsPlace place k i ps → p ≡ get_or ps k p
    → q.cells ≡ take (i + 1) p.cells → q.start ≡ p.start → n ≡ place + 1 → n ≤ len → IsRow n (set (take (k + 1) ps) k q)
row_kept len place k i n ps p q row found is kept start next fits =
    let inside = found.inside in
    let count = length-take-le (k + 1) ps (omega (arith, inside)) in
    let held = row.count in
    let same : get_or ps k p ≡ get_or (take (k + 1) ps) k q =
    get_or_default ps k p q inside ∙ sym (get_or-take (k + 1) ps k q (omega arith)) in
    record {
      stacked =
          stacked_last 0 (take (k + 1) ps) k q (stacked_take 0 ps (k + 1) row.stacked) (omega (arith, count))
          (start ∙ ap (λ (r : Part). r.start) (is ∙ same));
      count = ap length (kept_view place k i n ps p q found is kept next) ∙ length-take-le n (flat ps) (omega (arith, fits, held));
    }

-- ---- cells from one place up to another

drop_joined : {A : Type 0} (n : ℕ) (xs ys : List A) → drop n (xs ++ ys) ≡ drop n xs ++ drop (n - length xs) ys
drop_joined zero xs ys = ap (λ (k : ℕ). xs ++ drop k ys) (sym (is_zero (length xs)))
  where
    is_zero : (n : ℕ) → 0 - n ≡ 0
    is_zero n = omega arith
drop_joined (suc n) [] ys = let all : suc n ≡ suc n - 0 = omega arith in ap (λ (k : ℕ). drop k ys) all
drop_joined (suc n) (x ∷ xs) ys =
    let less : n - length xs ≡ suc n - suc (length xs) = omega arith in
    drop_joined n xs ys ∙ ap (λ (k : ℕ). drop n xs ++ drop k ys) less

take_joined : {A : Type 0} (n : ℕ) (xs ys : List A) → length xs ≤ n → take n (xs ++ ys) ≡ xs ++ take (n - length xs) ys
take_joined n xs ys less =
    let whole : n ≡ length xs + (n - length xs) = omega (arith, less) in
    ap (λ (k : ℕ). take k (xs ++ ys)) whole ∙ take-append-add xs ys (n - length xs)

-- the part of a list between two places, with the part of one piece more
pub between_more : (from to k : ℕ) (ps : List Part) (p : Part) → AreStacked 0 ps → k < length ps → p ≡ get_or ps k p → p.start < to
    → drop from (take to (flat (take (k + 1) ps))) ≡ drop from (take to (flat (take k ps))) ++ drop (from - p.start) (take (to - p.start) p.cells)
between_more from to k ps p stacked less is inside =
    let low = flat (take k ps) in
    let start = start_is 0 ps k p stacked less in
    let same : p.start ≡ (get_or ps k p).start = ap (λ (q : Part). q.start) is in
    let size : length low ≡ p.start = omega (arith, start, same) in
    let all : take to low ≡ low = take_all to low (omega (arith, size, inside)) in
    ap (λ (t : List Cell). drop from (take to t)) (taken_more ps k p less ∙ ap (λ (r : Part). low ++ r.cells) (sym is))
    ∙ ap (drop from) (take_joined to low p.cells (omega (arith, size, inside)))
    ∙ drop_joined from low (take (to - length low) p.cells)
    ∙ ap (λ (n : ℕ). drop from low ++ drop (from - n) (take (to - n) p.cells)) size
    ∙ ap (λ (t : List Cell). drop from t ++ drop (from - p.start) (take (to - p.start) p.cells)) (sym all)

-- of one piece, within its cells or not at all
pub part_some : (first end to : ℕ) (cells : List Cell) → end ≡ min to (length cells) → drop first (take end cells) ≡ drop first (take to cells)
part_some first end to cells is = ap (λ (n : ℕ). drop first (take n cells)) is ∙ ap (drop first) (take_min to cells)

pub part_none : (first end to : ℕ) (cells : List Cell) → end ≡ min to (length cells) → end ≤ first → drop first (take to cells) ≡ []
part_none first end to cells is less =
    let size = length-take to cells in
    drop_all first (take to cells) (omega (arith, size, is, less))

-- nothing comes before the piece of the first place
pub between_none : (from to k : ℕ) (ps : List Part) → length (flat (take k ps)) ≤ from → drop from (take to (flat (take k ps))) ≡ []
between_none from to k ps beneath =
    let size = length-take to (flat (take k ps)) in
    drop_all from (take to (flat (take k ps))) (omega (arith, size, beneath))

-- and nothing from a piece over the last place on
pub between_all : (from to k : ℕ) (ps : List Part) → to ≤ length (flat (take k ps)) → drop from (take to (flat (take k ps))) ≡ drop from (take to (flat ps))
between_all from to k ps above =
    ap (drop from)
    (sym (take-append-le to (flat (take k ps)) (flat (drop k ps)) above)
    ∙ ap (take to) (sym (flat_joined (take k ps) (drop k ps)) ∙ ap flat (take-append-drop k ps)))

-- ---- the search for a place

-- the cell at a place is in one of the pieces from low up to, and without, high
pub record IsBetween (place low high : ℕ) (ps : List Part) : Type 0 where
  pub order : low < high
  pub inside : high ≤ length ps
  pub beneath : length (flat (take low ps)) ≤ place
  pub above : place < length (flat (take high ps))

pub between_whole : (place high : ℕ) (ps : List Part) → place < length (flat ps) → high ≡ length ps → IsBetween place 0 high ps
between_whole place high [] less all = absurd (omega arith)
between_whole place high (p ∷ ps) less all = record {
  order = omega (arith, all);
  inside = omega (arith, all);
  beneath = omega arith;
  above = let whole = ap length (ap flat (take_all high (p ∷ ps) (omega (arith, all)))) in omega (arith, whole, less);
}

pub between_upper : (place low middle high : ℕ) (ps : List Part) (p : Part) → AreStacked 0 ps → IsBetween place low high ps
    → low < middle → middle < high → p ≡ get_or ps middle p → p.start ≤ place → IsBetween place middle high ps
between_upper place low middle high ps p stacked found over under is beneath =
    let inside = found.inside in
    let start = start_is 0 ps middle p stacked (omega (arith, inside)) in
    let same : p.start ≡ (get_or ps middle p).start = ap (λ (q : Part). q.start) is in
    record { order = under; inside = found.inside; beneath = omega (arith, start, same, beneath); above = found.above }

pub between_lower : (place low middle high : ℕ) (ps : List Part) (p : Part) → AreStacked 0 ps → IsBetween place low high ps
    → low < middle → middle < high → p ≡ get_or ps middle p → place < p.start → IsBetween place low middle ps
between_lower place low middle high ps p stacked found over under is above =
    let inside = found.inside in
    let start = start_is 0 ps middle p stacked (omega (arith, inside)) in
    let same : p.start ≡ (get_or ps middle p).start = ap (λ (q : Part). q.start) is in
    record { order = over; inside = omega (arith, inside); beneath = found.beneath; above = omega (arith, start, same, above) }

pub between_one : (place low high : ℕ) (ps : List Part) → IsBetween place low high ps → high ≤ low + 1 → IsInPiece place low ps
between_one place low high ps found close =
    let order = found.order in
    let same : high ≡ low + 1 = omega (arith, order) in
    let inside = found.inside in
    record { inside = omega (arith, inside); beneath = found.beneath; above = subst (λ n. place < length (flat (take n ps))) same found.above }

-- ---- one list behind another

pub appended : (before after : List Cell) (ps : List Part) (k : ℕ) (p q : Part) → k < length ps → p ≡ get_or ps k p
    → q.cells ≡ drop 0 (take (length p.cells) p.cells) → after ≡ (before ++ flat (take k ps)) ++ q.cells → after ≡ before ++ flat (take (k + 1) ps)
appended before after ps k p q less is all now =
    let same : q.cells ≡ (get_or ps k p).cells =
    all ∙ take_all (length p.cells) p.cells (omega arith) ∙ ap (λ (r : Part). r.cells) is in
    now
    ∙ ap (λ (t : List Cell). (before ++ flat (take k ps)) ++ t) same
    ∙ append_assoc before (flat (take k ps)) (get_or ps k p).cells
    ∙ ap (λ (t : List Cell). before ++ t) (sym (taken_more ps k p less))

-- ---- a call that changes one piece, or leaves it for want of memory

same_row : (len k : ℕ) (ps : List Part) (p q : Part) → IsRow len ps → p ≡ get_or ps k p → k < length ps → q ≡ p → IsRow len (set ps k q)
same_row len k ps p q row is less same =
    subst (λ (t : List Part). IsRow len t)
    (sym (ap (set ps k) (same ∙ is) ∙ set-get_or ps k p)) row

pub row_set : {E : Type 0} (result : Result (Unit {0}) E) (len place k i : ℕ) (ps : List Part) (p q : Part) (new : Cell)
    → OnOk result (q ≡ record p { cells = set p.cells i new }) → OnErr result (q ≡ p)
    → IsRow len ps → IsPlace place k i ps → p ≡ get_or ps k p → IsRow len (set ps k q)
row_set (Ok x) len place k i ps p q new ok err row found is =
    row_written len place k i ps p q new row found is (ap (λ (r : Part). r.cells) ok) (ap (λ (r : Part). r.start) ok)
row_set (Err e) len place k i ps p q new ok err row found is = same_row len k ps p q row is found.inside err

-- what the search for a place needs, and a part of a row
pub ruleset search_steps = (between_whole, between_upper, between_lower, between_one)

pub ruleset part_steps = (between_none, between_more, between_all)

-- the last page
pub none_full : (parts : List Part) → 0 ≡ length parts → IsFull parts
none_full parts empty k part last is = absurd (omega (arith, empty, last))

pub last_full : (parts : List Part) (n : ℕ) (p : Part) → n ≡ length parts → 0 < n → p ≡ get_or parts (n - 1) p → page_limit ≤ length p.cells → IsFull parts
last_full parts n p size some here long k part last is =
    let at : n - 1 ≡ k = omega (arith, size, last) in
    let less : k < length parts = omega (arith, last) in
    let same : Some p ≡ Some part =
    ap Some here ∙ ap (λ (i : ℕ). Some (get_or parts i p)) at ∙ sym (slice_get-get_or parts k p less)
    ∙ slice_get-get_or parts k part less ∙ ap Some (sym is) in
    subst (λ (q : Part). page_limit ≤ length q.cells) (inner same) long
  where
    inner : {p q : Part} → Some p ≡ Some q → p ≡ q
    inner e = cc

pub ruleset full_lemmas = (none_full, last_full)
