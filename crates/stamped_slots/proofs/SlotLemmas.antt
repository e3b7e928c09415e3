-- What is found among slots, put into them and taken out of them.
use Rattle.std.proofs.Common.{◌≡◌, ◌≢◌, ◌<◌, ◌≤◌, ◌+◌, ◌*◌, ◌==◌, ◌∷◌, ◌++◌, [], ℕ, zero, suc, Bool, true, false, not, List, length, filter, drop, insert, slice_get, get_or, Option, None, Some}
use Rattle.std.proofs.Common.{is_some, refl, sym, ap, subst, ◌∙◌, arith}
use Rattle.std.specs.Prelude.{if◌then◌else◌, nat_lt, slice_set}
use Rattle.std.proofs.lemmas.Bool.Decides.{nat_tests}
use Rattle.std.proofs.lemmas.Bool.{eqb-true, eq-eqb, ltb-true, ltb-false}
use Rattle.stamped_slots.specs.declared.slots.Slot.{Slot}
use Rattle.stamped_slots.specs.Stamps.{at, put, replaced, without, Rise}
use Rattle.stamped_slots.specs.Kept.{seen_before, seen, Ascend, below, has_stamp, item_at, written, is_full, front_is_empty, IsKept}

not_eq : (n g : ℕ) → n ≢ g → (n == g) ≡ false
not_eq n g other = by_test (n == g) refl
  where
    by_test : (b : Bool) → (n == g) ≡ b → b ≡ false
    by_test true e = absurd (other (eqb-true n g e))
    by_test false e = refl

same_eq : (n : ℕ) → (n == n) ≡ true
same_eq n = eq-eqb n n refl

lower : {T : Type 0} (low high : ℕ) (slots : List (Slot T)) → low ≤ high → Ascend high slots → Ascend low slots
lower low high [] le up = tt
lower low high (s ∷ slots) le up = (omega (arith, le, up.0), up.1)

lower_items : {T : Type 0} (low high : ℕ) (es : List (ℕ × T)) → low ≤ high → Rise high es → Rise low es
lower_items low high [] le up = tt
lower_items low high (e ∷ es) le up = (omega (arith, le, up.0), up.1)

pub seen_rise : {T : Type 0} (low : ℕ) (slots : List (Slot T)) → Ascend low slots → Rise low (seen slots)
seen_rise low [] up = tt
seen_rise low (s ∷ slots) up = by s.item (seen_rise (s.stamp + 1) slots up.1)
  where
    by : (item : Option _) → Rise (s.stamp + 1) (seen slots) → Rise low (seen_before s.stamp item (seen slots))
    by None more = lower_items low (s.stamp + 1) (seen slots) (omega (arith, up.0)) more
    by (Some x) more = (up.0, more)

-- ---- the place of a stamp

pub below_inside : {T : Type 0} (stamp : ℕ) (slots : List (Slot T)) → below stamp slots ≤ length slots
below_inside stamp [] = omega arith
below_inside stamp (s ∷ slots) = by (nat_lt s.stamp stamp) (below_inside stamp slots)
  where
    by : (b : Bool) → below stamp slots ≤ length slots → (if b then suc (below stamp slots) else 0) ≤ suc (length slots)
    by true more = omega (arith, more)
    by false more = omega arith

stamp_above : {T : Type 0} (low : ℕ) (slots : List (Slot T)) (i : ℕ) (d : Slot T) → Ascend low slots → i < length slots → low ≤ (get_or slots i d).stamp
stamp_above low [] i d up lt = absurd (omega (arith, lt))
stamp_above low (s ∷ slots) zero d up lt = up.0
stamp_above low (s ∷ slots) (suc i) d up lt = omega (arith, up.0, stamp_above (s.stamp + 1) slots i d up.1 (omega (arith, lt)))

-- a slot of a lesser stamp stands before the place
pub passed : {T : Type 0} (low stamp : ℕ) (slots : List (Slot T)) (i : ℕ) (d : Slot T) → Ascend low slots → i < length slots → (get_or slots i d).stamp < stamp → i + 1 ≤ below stamp slots
passed low stamp [] i d up lt less = absurd (omega (arith, lt))
passed low stamp (s ∷ slots) zero d up lt less = by (nat_lt s.stamp stamp) refl
  where
    by : (b : Bool) → nat_lt s.stamp stamp ≡ b → 1 ≤ (if b then suc (below stamp slots) else 0)
    by true e = omega arith
    by false e = absurd (omega (arith, less, ltb-false s.stamp stamp e))
passed low stamp (s ∷ slots) (suc i) d up lt less = by (nat_lt s.stamp stamp) refl (passed (s.stamp + 1) stamp slots i d up.1 (omega (arith, lt)) less)
  where
    by : (b : Bool) → nat_lt s.stamp stamp ≡ b → i + 1 ≤ below stamp slots → suc i + 1 ≤ (if b then suc (below stamp slots) else 0)
    by true e more = omega (arith, more)
    by false e more = absurd (omega (arith, less, ltb-false s.stamp stamp e, stamp_above (s.stamp + 1) slots i d up.1 (omega (arith, lt))))

-- one of no lesser stamp doesn't
pub stopped : {T : Type 0} (stamp : ℕ) (slots : List (Slot T)) (i : ℕ) (d : Slot T) → i < length slots → stamp ≤ (get_or slots i d).stamp → below stamp slots ≤ i
stopped stamp [] i d lt least = absurd (omega (arith, lt))
stopped stamp (s ∷ slots) zero d lt least = by (nat_lt s.stamp stamp) refl
  where
    by : (b : Bool) → nat_lt s.stamp stamp ≡ b → (if b then suc (below stamp slots) else 0) ≤ 0
    by true e = absurd (omega (arith, least, ltb-true s.stamp stamp e))
    by false e = omega arith
stopped stamp (s ∷ slots) (suc i) d lt least = by (nat_lt s.stamp stamp) (stopped stamp slots i d (omega (arith, lt)) least)
  where
    by : (b : Bool) → below stamp slots ≤ i → (if b then suc (below stamp slots) else 0) ≤ suc i
    by true more = omega (arith, more)
    by false more = omega arith

-- ---- what is found

above_none : {T : Type 0} (stamp : ℕ) (es : List (ℕ × T)) → Rise (stamp + 1) es → at stamp es ≡ None
above_none stamp [] up = refl
above_none stamp (e ∷ es) up = rw (not_eq e.0 stamp (λ same. omega (arith, same, up.0))) (above_none stamp es (lower_items (stamp + 1) (e.0 + 1) es (omega (arith, up.0)) up.1))

passes_by : {T : Type 0} (stamp own : ℕ) (item : Option T) (es : List (ℕ × T)) → own ≢ stamp → at stamp (seen_before own item es) ≡ at stamp es
passes_by stamp own None es other = refl
passes_by stamp own (Some x) es other = rw (not_eq own stamp other) refl

stands_here : {T : Type 0} (stamp : ℕ) (item : Option T) (es : List (ℕ × T)) → Rise (stamp + 1) es → at stamp (seen_before stamp item es) ≡ item
stands_here stamp None es up = above_none stamp es up
stands_here stamp (Some x) es up = rw (same_eq stamp) refl

pub found : {T : Type 0} (low stamp : ℕ) (slots : List (Slot T)) → Ascend low slots → has_stamp stamp (below stamp slots) slots ≡ true → item_at (below stamp slots) slots ≡ at stamp (seen slots)
found low stamp [] up is = absurd cc
found low stamp (s ∷ slots) up is = by (nat_lt s.stamp stamp) refl is (found (s.stamp + 1) stamp slots up.1)
  where
    by : (b : Bool) → nat_lt s.stamp stamp ≡ b → has_stamp stamp (if b then suc (below stamp slots) else 0) (s ∷ slots) ≡ true
        → (has_stamp stamp (below stamp slots) slots ≡ true → item_at (below stamp slots) slots ≡ at stamp (seen slots))
        → item_at (if b then suc (below stamp slots) else 0) (s ∷ slots) ≡ at stamp (seen (s ∷ slots))
    by true e here more = let lt = ltb-true s.stamp stamp e in more here ∙ sym (passes_by stamp s.stamp s.item (seen slots) (λ same. omega (arith, lt, same)))
    by false e here more =
        let same = eqb-true s.stamp stamp here in
        sym (subst (λ n. at n (seen_before s.stamp s.item (seen slots)) ≡ s.item) same (stands_here s.stamp s.item (seen slots) (seen_rise (s.stamp + 1) slots up.1)))

pub lacks : {T : Type 0} (low stamp : ℕ) (slots : List (Slot T)) → Ascend low slots → has_stamp stamp (below stamp slots) slots ≡ false → at stamp (seen slots) ≡ None
lacks low stamp [] up is = refl
lacks low stamp (s ∷ slots) up is = by (nat_lt s.stamp stamp) refl is (lacks (s.stamp + 1) stamp slots up.1)
  where
    by : (b : Bool) → nat_lt s.stamp stamp ≡ b → has_stamp stamp (if b then suc (below stamp slots) else 0) (s ∷ slots) ≡ false
        → (has_stamp stamp (below stamp slots) slots ≡ false → at stamp (seen slots) ≡ None) → at stamp (seen (s ∷ slots)) ≡ None
    by true e here more = let lt = ltb-true s.stamp stamp e in passes_by stamp s.stamp s.item (seen slots) (λ same. omega (arith, lt, same)) ∙ more here
    by false e here more =
        let least = ltb-false s.stamp stamp e in
        let other : s.stamp ≢ stamp = (λ same. (let equal : (s.stamp == stamp) ≡ true = eq-eqb s.stamp stamp same in cc)) in
        passes_by stamp s.stamp s.item (seen slots) other
        ∙ above_none stamp (seen slots) (lower_items (stamp + 1) (s.stamp + 1) (seen slots) (omega (arith, least)) (seen_rise (s.stamp + 1) slots up.1))

-- ---- what is put

put_first : {T : Type 0} (stamp : ℕ) (x : T) (es : List (ℕ × T)) → Rise stamp es → put stamp x es ≡ (stamp, x) ∷ es
put_first stamp x [] up = refl
put_first stamp x (e ∷ es) up = let over : nat_lt e.0 stamp ≡ false = (let least = up.0 in grind (arith, nat_tests)) in rw over refl

put_later : {T : Type 0} (stamp own : ℕ) (x : T) (item : Option T) (es : List (ℕ × T)) → own < stamp → put stamp x (seen_before own item es) ≡ seen_before own item (put stamp x es)
put_later stamp own x None es lt = refl
put_later stamp own x (Some y) es lt = let under : nat_lt own stamp ≡ true = grind (arith, nat_tests) in rw under refl

pub put_written : {T : Type 0} (low stamp : ℕ) (x : T) (slots : List (Slot T)) → Ascend low slots → has_stamp stamp (below stamp slots) slots ≡ true → item_at (below stamp slots) slots ≡ None
    → seen (written (below stamp slots) (Some x) slots) ≡ put stamp x (seen slots)
put_written low stamp x [] up is none = absurd cc
put_written low stamp x (s ∷ slots) up is none = by (nat_lt s.stamp stamp) refl is none (put_written (s.stamp + 1) stamp x slots up.1)
  where
    by : (b : Bool) → nat_lt s.stamp stamp ≡ b → has_stamp stamp (if b then suc (below stamp slots) else 0) (s ∷ slots) ≡ true
        → item_at (if b then suc (below stamp slots) else 0) (s ∷ slots) ≡ None
        → (has_stamp stamp (below stamp slots) slots ≡ true → item_at (below stamp slots) slots ≡ None → seen (written (below stamp slots) (Some x) slots) ≡ put stamp x (seen slots))
        → seen (written (if b then suc (below stamp slots) else 0) (Some x) (s ∷ slots)) ≡ put stamp x (seen (s ∷ slots))
    by true e here lack more = ap (seen_before s.stamp s.item) (more here lack) ∙ sym (put_later stamp s.stamp x s.item (seen slots) (ltb-true s.stamp stamp e))
    by false e here lack more =
        let same = eqb-true s.stamp stamp here in
        let up_rest = seen_rise (s.stamp + 1) slots up.1 in
        ap (λ n. (n, x) ∷ seen slots) same
        ∙ sym (ap (λ o. put stamp x (seen_before s.stamp o (seen slots))) lack ∙ put_first stamp x (seen slots) (lower_items stamp (s.stamp + 1) (seen slots) (omega (arith, same)) up_rest))

pub put_inserted : {T : Type 0} (low stamp : ℕ) (x : T) (slots : List (Slot T)) → Ascend low slots → has_stamp stamp (below stamp slots) slots ≡ false
    → seen (insert slots (below stamp slots) (record { stamp = stamp; item = Some x })) ≡ put stamp x (seen slots)
put_inserted low stamp x [] up is = refl
put_inserted low stamp x (s ∷ slots) up is = by (nat_lt s.stamp stamp) refl is (put_inserted (s.stamp + 1) stamp x slots up.1)
  where
    by : (b : Bool) → nat_lt s.stamp stamp ≡ b → has_stamp stamp (if b then suc (below stamp slots) else 0) (s ∷ slots) ≡ false
        → (has_stamp stamp (below stamp slots) slots ≡ false → seen (insert slots (below stamp slots) (record { stamp = stamp; item = Some x })) ≡ put stamp x (seen slots))
        → seen (insert (s ∷ slots) (if b then suc (below stamp slots) else 0) (record { stamp = stamp; item = Some x })) ≡ put stamp x (seen (s ∷ slots))
    by true e here more = ap (seen_before s.stamp s.item) (more here) ∙ sym (put_later stamp s.stamp x s.item (seen slots) (ltb-true s.stamp stamp e))
    by false e here more =
        let least = ltb-false s.stamp stamp e in
        sym (put_first stamp x (seen (s ∷ slots)) (lower_items stamp s.stamp (seen (s ∷ slots)) (omega (arith, least)) (seen_rise s.stamp (s ∷ slots) (omega arith, up.1))))

pub ascend_inserted : {T : Type 0} (low stamp : ℕ) (x : T) (slots : List (Slot T)) → low ≤ stamp → Ascend low slots → has_stamp stamp (below stamp slots) slots ≡ false
    → Ascend low (insert slots (below stamp slots) (record { stamp = stamp; item = Some x }))
ascend_inserted low stamp x [] le up is = (le, tt)
ascend_inserted low stamp x (s ∷ slots) le up is = by (nat_lt s.stamp stamp) refl is (λ under. ascend_inserted (s.stamp + 1) stamp x slots under up.1)
  where
    by : (b : Bool) → nat_lt s.stamp stamp ≡ b → has_stamp stamp (if b then suc (below stamp slots) else 0) (s ∷ slots) ≡ false
        → (s.stamp + 1 ≤ stamp → has_stamp stamp (below stamp slots) slots ≡ false → Ascend (s.stamp + 1) (insert slots (below stamp slots) (record { stamp = stamp; item = Some x })))
        → Ascend low (insert (s ∷ slots) (if b then suc (below stamp slots) else 0) (record { stamp = stamp; item = Some x }))
    by true e here more = (up.0, more (let lt = ltb-true s.stamp stamp e in omega (arith, lt)) here)
    by false e here more =
        let least = ltb-false s.stamp stamp e in
        let other : s.stamp ≢ stamp = (λ same. (let equal : (s.stamp == stamp) ≡ true = eq-eqb s.stamp stamp same in cc)) in
        (le, (omega (arith, least, other), up.1))

pub ascend_written : {T : Type 0} (low i : ℕ) (item : Option T) (slots : List (Slot T)) → Ascend low slots → Ascend low (written i item slots)
ascend_written low i item [] up = tt
ascend_written low zero item (s ∷ slots) up = up
ascend_written low (suc i) item (s ∷ slots) up = (up.0, ascend_written (s.stamp + 1) i item slots up.1)

pub long_written : {T : Type 0} (i : ℕ) (item : Option T) (slots : List (Slot T)) → length (written i item slots) ≡ length slots
long_written i item [] = refl
long_written zero item (s ∷ slots) = refl
long_written (suc i) item (s ∷ slots) = ap suc (long_written i item slots)

pub long_put : {T : Type 0} (stamp : ℕ) (x : T) (es : List (ℕ × T)) → length (put stamp x es) ≡ length es + 1
long_put stamp x [] = refl
long_put stamp x (e ∷ es) = by (nat_lt e.0 stamp) (long_put stamp x es)
  where
    by : (b : Bool) → length (put stamp x es) ≡ length es + 1 → length (if b then e ∷ put stamp x es else (stamp, x) ∷ e ∷ es) ≡ suc (length es) + 1
    by true more = omega (arith, more)
    by false more = omega arith

-- ---- what is put in the place of another

stays_by : {T : Type 0} (stamp own : ℕ) (x : T) (item : Option T) (es : List (ℕ × T)) → own ≢ stamp → replaced stamp x (seen_before own item es) ≡ seen_before own item (replaced stamp x es)
stays_by stamp own x None es other = refl
stays_by stamp own x (Some y) es other = rw (not_eq own stamp other) refl

full_written : {T : Type 0} (low stamp : ℕ) (x y : T) (slots : List (Slot T)) → Ascend low slots → has_stamp stamp (below stamp slots) slots ≡ true → item_at (below stamp slots) slots ≡ Some y
    → seen (written (below stamp slots) (Some x) slots) ≡ replaced stamp x (seen slots)
full_written low stamp x y [] up is there = absurd cc
full_written low stamp x y (s ∷ slots) up is there = by (nat_lt s.stamp stamp) refl is there (full_written (s.stamp + 1) stamp x y slots up.1)
  where
    by : (b : Bool) → nat_lt s.stamp stamp ≡ b → has_stamp stamp (if b then suc (below stamp slots) else 0) (s ∷ slots) ≡ true
        → item_at (if b then suc (below stamp slots) else 0) (s ∷ slots) ≡ Some y
        → (has_stamp stamp (below stamp slots) slots ≡ true → item_at (below stamp slots) slots ≡ Some y → seen (written (below stamp slots) (Some x) slots) ≡ replaced stamp x (seen slots))
        → seen (written (if b then suc (below stamp slots) else 0) (Some x) (s ∷ slots)) ≡ replaced stamp x (seen (s ∷ slots))
    by true e here full more =
        let lt = ltb-true s.stamp stamp e in
        ap (seen_before s.stamp s.item) (more here full) ∙ sym (stays_by stamp s.stamp x s.item (seen slots) (λ same. omega (arith, lt, same)))
    by false e here full more = sym (ap (λ o. replaced stamp x (seen_before s.stamp o (seen slots))) full ∙ rw here refl)

-- ---- what is taken out

leaves_by : {T : Type 0} (stamp own : ℕ) (item : Option T) (es : List (ℕ × T)) → own ≢ stamp → without stamp (seen_before own item es) ≡ seen_before own item (without stamp es)
leaves_by stamp own None es other = refl
leaves_by stamp own (Some x) es other = rw (not_eq own stamp other) refl

pub without_none : {T : Type 0} (stamp : ℕ) (es : List (ℕ × T)) → at stamp es ≡ None → without stamp es ≡ es
without_none stamp [] none = refl
without_none stamp (e ∷ es) none = by (e.0 == stamp) none (without_none stamp es)
  where
    by : (b : Bool) → (if b then Some e.1 else at stamp es) ≡ None → (at stamp es ≡ None → without stamp es ≡ es) → (if b then es else e ∷ without stamp es) ≡ e ∷ es
    by true lack more = absurd cc
    by false lack more = ap (λ t. e ∷ t) (more lack)

goes_here : {T : Type 0} (stamp : ℕ) (item : Option T) (es : List (ℕ × T)) → Rise (stamp + 1) es → without stamp (seen_before stamp item es) ≡ es
goes_here stamp None es up = without_none stamp es (above_none stamp es up)
goes_here stamp (Some x) es up = rw (same_eq stamp) refl

pub emptied : {T : Type 0} (low stamp : ℕ) (slots : List (Slot T)) → Ascend low slots → has_stamp stamp (below stamp slots) slots ≡ true
    → seen (written (below stamp slots) None slots) ≡ without stamp (seen slots)
emptied low stamp [] up is = absurd cc
emptied low stamp (s ∷ slots) up is = by (nat_lt s.stamp stamp) refl is (emptied (s.stamp + 1) stamp slots up.1)
  where
    by : (b : Bool) → nat_lt s.stamp stamp ≡ b → has_stamp stamp (if b then suc (below stamp slots) else 0) (s ∷ slots) ≡ true
        → (has_stamp stamp (below stamp slots) slots ≡ true → seen (written (below stamp slots) None slots) ≡ without stamp (seen slots))
        → seen (written (if b then suc (below stamp slots) else 0) None (s ∷ slots)) ≡ without stamp (seen (s ∷ slots))
    by true e here more =
        let lt = ltb-true s.stamp stamp e in
        ap (seen_before s.stamp s.item) (more here) ∙ sym (leaves_by stamp s.stamp s.item (seen slots) (λ same. omega (arith, lt, same)))
    by false e here more =
        let same = eqb-true s.stamp stamp here in
        sym (subst (λ n. without n (seen_before s.stamp s.item (seen slots)) ≡ seen slots) same (goes_here s.stamp s.item (seen slots) (seen_rise (s.stamp + 1) slots up.1)))

pub long_without : {T : Type 0} (stamp : ℕ) (x : T) (es : List (ℕ × T)) → at stamp es ≡ Some x → length (without stamp es) + 1 ≡ length es
long_without stamp x [] is = absurd cc
long_without stamp x (e ∷ es) is = by (e.0 == stamp) is (long_without stamp x es)
  where
    by : (b : Bool) → (if b then Some e.1 else at stamp es) ≡ Some x → (at stamp es ≡ Some x → length (without stamp es) + 1 ≡ length es)
        → length (if b then es else e ∷ without stamp es) + 1 ≡ suc (length es)
    by true here more = omega arith
    by false here more = omega (arith, more here)

-- ---- empty slots that go

pub seen_filter : {T : Type 0} (slots : List (Slot T)) → seen (filter is_full slots) ≡ seen slots
seen_filter [] = refl
seen_filter (s ∷ slots) = by s.item refl (seen_filter slots)
  where
    by : (item : Option _) → s.item ≡ item → seen (filter is_full slots) ≡ seen slots
        → seen (if is_some item then s ∷ filter is_full slots else filter is_full slots)
        ≡ seen_before s.stamp item (seen slots)
    by None is more = more
    by (Some x) is more = ap (λ o. seen_before s.stamp o (seen (filter is_full slots))) is ∙ ap (λ t. (s.stamp, x) ∷ t) more

pub ascend_filter : {T : Type 0} (low : ℕ) (slots : List (Slot T)) → Ascend low slots → Ascend low (filter is_full slots)
ascend_filter low [] up = tt
ascend_filter low (s ∷ slots) up = by (is_full s) (ascend_filter (s.stamp + 1) slots up.1)
  where
    by : (b : Bool) → Ascend (s.stamp + 1) (filter is_full slots) → Ascend low (if b then s ∷ filter is_full slots else filter is_full slots)
    by true more = (up.0, more)
    by false more = lower low (s.stamp + 1) (filter is_full slots) (omega (arith, up.0)) more

pub long_filter : {T : Type 0} (slots : List (Slot T)) → length (filter is_full slots) ≡ length (seen slots)
long_filter [] = refl
long_filter (s ∷ slots) = by s.item (long_filter slots)
  where
    by : (item : Option _) → length (filter is_full slots) ≡ length (seen slots)
        → length (if is_some item then s ∷ filter is_full slots else filter is_full slots)
        ≡ length (seen_before s.stamp item (seen slots))
    by None more = more
    by (Some x) more = ap suc more

pub first_filter : {T : Type 0} (slots : List (Slot T)) → front_is_empty (filter is_full slots) ≡ false
first_filter [] = refl
first_filter (s ∷ slots) = by (is_full s) refl (first_filter slots)
  where
    by : (b : Bool) → is_full s ≡ b → front_is_empty (filter is_full slots) ≡ false → front_is_empty (if b then s ∷ filter is_full slots else filter is_full slots) ≡ false
    by true is more = ap not is
    by false is more = more

pub seen_dropped : {T : Type 0} (slots : List (Slot T)) → front_is_empty slots ≡ true → seen (drop 1 slots) ≡ seen slots
seen_dropped [] is = absurd cc
seen_dropped (s ∷ slots) is = by s.item is
  where
    by : (item : Option _) → not (is_some item) ≡ true → seen slots ≡ seen_before s.stamp item (seen slots)
    by None e = refl
    by (Some x) e = absurd cc

pub ascend_dropped : {T : Type 0} (slots : List (Slot T)) → Ascend 0 slots → Ascend 0 (drop 1 slots)
ascend_dropped [] up = tt
ascend_dropped (s ∷ slots) up = lower 0 (s.stamp + 1) slots (omega arith) up.1

pub few_seen : {T : Type 0} (slots : List (Slot T)) → length (seen slots) ≤ length slots
few_seen [] = omega arith
few_seen (s ∷ slots) = by s.item (few_seen slots)
  where
    by : (item : Option _) → length (seen slots) ≤ length slots → length (seen_before s.stamp item (seen slots)) ≤ suc (length slots)
    by None more = omega (arith, more)
    by (Some x) more = omega (arith, more)

-- ---- one slot by its place

pub stamp_is : {T : Type 0} (stamp i : ℕ) (slots : List (Slot T)) (s : Slot T) → i < length slots → s ≡ get_or slots i s → (s.stamp == stamp) ≡ has_stamp stamp i slots
stamp_is stamp i [] s lt is = absurd (omega (arith, lt))
stamp_is stamp zero (t ∷ slots) s lt is = ap (λ r. r.stamp == stamp) is
stamp_is stamp (suc i) (t ∷ slots) s lt is = stamp_is stamp i slots s (omega (arith, lt)) is

pub no_stamp : {T : Type 0} (stamp i : ℕ) (slots : List (Slot T)) → i ≡ length slots → false ≡ has_stamp stamp i slots
no_stamp stamp i [] is = refl
no_stamp stamp zero (t ∷ slots) is = absurd (omega (arith, is))
no_stamp stamp (suc i) (t ∷ slots) is = no_stamp stamp i slots (omega (arith, is))

pub item_is : {T : Type 0} (i : ℕ) (slots : List (Slot T)) (s : Slot T) → i < length slots → s ≡ get_or slots i s → s.item ≡ item_at i slots
item_is i [] s lt is = absurd (omega (arith, lt))
item_is zero (t ∷ slots) s lt is = ap (λ r. r.item) is
item_is (suc i) (t ∷ slots) s lt is = item_is i slots s (omega (arith, lt)) is

pub set_written : {T : Type 0} (i : ℕ) (slots : List (Slot T)) (s : Slot T) (item : Option T) → i < length slots
    → s ≡ get_or slots i s → slice_set slots i (record s { item = item }) ≡ written i item slots
set_written i [] s item lt is = absurd (omega (arith, lt))
set_written zero (t ∷ slots) s item lt is = ap (λ (r : Slot _). record r { item = item } ∷ slots) is
set_written (suc i) (t ∷ slots) s item lt is = ap (λ r. t ∷ r) (set_written i slots s item (omega (arith, lt)) is)

-- ---- what is kept

pub kept_whole : {T : Type 0} (live : ℕ) (slots : List (Slot T)) (room : ℕ) → Ascend 0 slots
    → live ≡ length (seen slots) → front_is_empty slots ≡ false → length slots ≤ 2 * live → (live ≡ 0 → room ≡ 0)
    → IsKept live slots room
kept_whole live slots room up counted first few gone = record { ascend = up; counted = counted; first = first; few = few; gone = gone }

pub no_slots : {T : Type 0} (slots : List (Slot T)) → length slots ≡ 0 → slots ≡ []
no_slots [] none = refl
no_slots (s ∷ slots) none = absurd (omega (arith, none))

pub kept_compact : {T : Type 0} (live : ℕ) (before slots now : List (Slot T)) (room : ℕ) → live ≡ length (seen before)
    → seen slots ≡ seen before → Ascend 0 slots → now ≡ filter is_full slots → (now ≡ [] → room ≡ 0)
    → (seen now ≡ seen before) × IsKept live now room
kept_compact live before slots now room counted same up is gone =
    let seen_is : seen now ≡ seen before = ap seen is ∙ seen_filter slots ∙ same in
    let long : length now ≡ length (seen slots) = ap length is ∙ long_filter slots in
    let as_long : length (seen slots) ≡ length (seen before) = ap length same in (
      seen_is,
      record {
        ascend = subst (Ascend 0) (sym is) (ascend_filter 0 slots up);
        counted = counted ∙ sym (ap length seen_is);
        first = ap front_is_empty is ∙ first_filter slots;
        few = omega (arith, long, as_long, counted);
        gone = λ none. gone (no_slots now (omega (arith, long, as_long, counted, none)));
      },
    )

-- the first slot stays full
pub first_written : {T : Type 0} (i : ℕ) (x : T) (slots : List (Slot T)) → front_is_empty slots ≡ false → front_is_empty (written i (Some x) slots) ≡ false
first_written i x [] is = refl
first_written zero x (s ∷ slots) is = refl
first_written (suc i) x (s ∷ slots) is = is

pub first_inserted : {T : Type 0} (i stamp : ℕ) (x : T) (slots : List (Slot T)) → front_is_empty slots ≡ false → front_is_empty (insert slots i (record { stamp = stamp; item = Some x })) ≡ false
first_inserted zero stamp x [] is = refl
first_inserted (suc i) stamp x [] is = refl
first_inserted zero stamp x (s ∷ slots) is = refl
first_inserted (suc i) stamp x (s ∷ slots) is = is

-- where the first slot is full something is there
pub some_live : {T : Type 0} (slots : List (Slot T)) → front_is_empty slots ≡ false → 0 < length slots → 0 < length (seen slots)
some_live [] is lt = absurd (omega (arith, lt))
some_live (s ∷ slots) is lt = by s.item is
  where
    by : (item : Option _) → not (is_some item) ≡ false → 0 < length (seen_before s.stamp item (seen slots))
    by None e = absurd cc
    by (Some x) e = omega arith

pub kept_filled : {T : Type 0} (live stamp room : ℕ) (x : T) (slots now : List (Slot T)) → IsKept live slots room → has_stamp stamp (below stamp slots) slots ≡ true → at stamp (seen slots) ≡ None
    → now ≡ written (below stamp slots) (Some x) slots → 0 < length slots → (more : ℕ) (now_room : ℕ) → more ≡ live + 1 → (seen now ≡ put stamp x (seen slots)) × IsKept more now now_room
kept_filled live stamp room x slots now kept is none now_is some more now_room one =
    let put_is : seen now ≡ put stamp x (seen slots) = ap seen now_is ∙ put_written 0 stamp x slots kept.ascend is (found 0 stamp slots kept.ascend is ∙ none) in
    let long : length (seen now) ≡ length (seen slots) + 1 = ap length put_is ∙ long_put stamp x (seen slots) in
    let as_long : length now ≡ length slots = ap length now_is ∙ long_written (below stamp slots) (Some x) slots in (
      put_is,
      record {
        ascend = subst (Ascend 0) (sym now_is) (ascend_written 0 (below stamp slots) (Some x) slots kept.ascend);
        counted = omega (arith, long, kept.counted, one);
        first = ap front_is_empty now_is ∙ first_written (below stamp slots) x slots kept.first;
        few = omega (arith, as_long, kept.few, one);
        gone = λ empty. absurd (omega (arith, one, empty));
      },
    )

pub kept_added : {T : Type 0} (live stamp room : ℕ) (x : T) (slots now : List (Slot T)) → IsKept live slots room → has_stamp stamp (below stamp slots) slots ≡ false
    → now ≡ insert slots (below stamp slots) (record { stamp = stamp; item = Some x }) → length now ≡ length slots + 1 → (more : ℕ) (now_room : ℕ) → more ≡ live + 1
    → (seen now ≡ put stamp x (seen slots)) × IsKept more now now_room
kept_added live stamp room x slots now kept is now_is as_long more now_room one =
    let put_is : seen now ≡ put stamp x (seen slots) = ap seen now_is ∙ put_inserted 0 stamp x slots kept.ascend is in
    let long : length (seen now) ≡ length (seen slots) + 1 = ap length put_is ∙ long_put stamp x (seen slots) in (
      put_is,
      record {
        ascend = subst (Ascend 0) (sym now_is) (ascend_inserted 0 stamp x slots (omega arith) kept.ascend is);
        counted = omega (arith, long, kept.counted, one);
        first = ap front_is_empty now_is ∙ first_inserted (below stamp slots) stamp x slots kept.first;
        few = omega (arith, as_long, kept.few, one);
        gone = λ empty. absurd (omega (arith, one, empty));
      },
    )

-- once the item of a slot is out
pub kept_emptied : {T : Type 0} (live stamp room i : ℕ) (slots now : List (Slot T)) (item : Option T) → IsKept live slots room → i ≡ below stamp slots → true ≡ has_stamp stamp i slots
    → now ≡ written i None slots → item ≡ item_at i slots
    → (seen now ≡ without stamp (seen slots)) × (item ≡ at stamp (seen slots)) × Ascend 0 now
kept_emptied live stamp room i slots now item kept place is now_is item_is =
    let here : has_stamp stamp (below stamp slots) slots ≡ true = sym (is ∙ ap (λ k. has_stamp stamp k slots) place) in (
      ap seen (now_is ∙ ap (λ k. written k None slots) place) ∙ emptied 0 stamp slots kept.ascend here,
      item_is ∙ ap (λ k. item_at k slots) place ∙ found 0 stamp slots kept.ascend here,
      subst (Ascend 0) (sym now_is) (ascend_written 0 i None slots kept.ascend),
    )

written_same : {T : Type 0} (i : ℕ) (slots : List (Slot T)) → None ≡ item_at i slots → written i None slots ≡ slots
written_same i [] is = refl
written_same zero (s ∷ slots) is = ap (λ o. record s { item = o } ∷ slots) is
written_same (suc i) (s ∷ slots) is = ap (λ t. s ∷ t) (written_same i slots is)

-- nothing stood there
pub kept_empty : {T : Type 0} (live room now_room i : ℕ) (slots now : List (Slot T)) → IsKept live slots room
    → now ≡ written i None slots → None ≡ item_at i slots → now_room ≡ room → IsKept live now now_room
kept_empty live room now_room i slots now kept now_is none room_is =
    let same : now ≡ slots = now_is ∙ written_same i slots none in
    subst (λ r. IsKept live now r) (sym room_is) (subst (λ t. IsKept live t room) (sym same) kept)

pub lacks_at : {T : Type 0} (live stamp room i : ℕ) (slots : List (Slot T)) → IsKept live slots room → i ≡ below stamp slots → false ≡ has_stamp stamp i slots → at stamp (seen slots) ≡ None
lacks_at live stamp room i slots kept place is = lacks 0 stamp slots kept.ascend (sym (is ∙ ap (λ k. has_stamp stamp k slots) place))

pub long_replaced : {T : Type 0} (stamp : ℕ) (x : T) (es : List (ℕ × T)) → length (replaced stamp x es) ≡ length es
long_replaced stamp x [] = refl
long_replaced stamp x (e ∷ es) = by (e.0 == stamp) (long_replaced stamp x es)
  where
    by : (b : Bool) → length (replaced stamp x es) ≡ length es → length (if b then (e.0, x) ∷ es else e ∷ replaced stamp x es) ≡ suc (length es)
    by true more = refl
    by false more = ap suc more

pub replaced_none : {T : Type 0} (stamp : ℕ) (x : T) (es : List (ℕ × T)) → at stamp es ≡ None → replaced stamp x es ≡ es
replaced_none stamp x [] none = refl
replaced_none stamp x (e ∷ es) none = by (e.0 == stamp) none (replaced_none stamp x es)
  where
    by : (b : Bool) → (if b then Some e.1 else at stamp es) ≡ None → (at stamp es ≡ None → replaced stamp x es ≡ es) → (if b then (e.0, x) ∷ es else e ∷ replaced stamp x es) ≡ e ∷ es
    by true lack more = absurd cc
    by false lack more = ap (λ t. e ∷ t) (more lack)

none_of : {T : Type 0} (o : Option T) → is_some o ≡ false → o ≡ None
none_of None e = refl
none_of (Some x) e = absurd cc

some_of : {T : Type 0} (o : Option T) → is_some o ≡ true → (x : T) × (o ≡ Some x)
some_of None e = absurd cc
some_of (Some x) e = (x, refl)

-- the slot of the stamp is empty
pub empty_at : {T : Type 0} (live stamp room i : ℕ) (slots : List (Slot T)) → IsKept live slots room → i ≡ below stamp slots → true ≡ has_stamp stamp i slots → is_some (item_at i slots) ≡ false
    → at stamp (seen slots) ≡ None
empty_at live stamp room i slots kept place is none =
    sym (found 0 stamp slots kept.ascend (sym (is ∙ ap (λ k. has_stamp stamp k slots) place)))
    ∙ ap (λ k. item_at k slots) (sym place) ∙ none_of (item_at i slots) none

-- once another item stands in the slot
pub kept_replaced : {T : Type 0} (live stamp room now_room i : ℕ) (x : T) (slots now : List (Slot T)) (item : Option T) → IsKept live slots room → i ≡ below stamp slots →
    true ≡ has_stamp stamp i slots
    → is_some (item_at i slots) ≡ true → now ≡ written i (Some x) slots → item ≡ item_at i slots → now_room ≡ room
    → (seen now ≡ replaced stamp x (seen slots)) × (item ≡ at stamp (seen slots)) × IsKept live now now_room
kept_replaced live stamp room now_room i x slots now item kept place is full now_is item_is room_is =
    let here : has_stamp stamp (below stamp slots) slots ≡ true = sym (is ∙ ap (λ k. has_stamp stamp k slots) place) in
    let there = some_of (item_at i slots) full in
    let put_is : seen now ≡ replaced stamp x (seen slots) = ap seen (now_is ∙ ap (λ k. written k (Some x) slots) place)
    ∙ full_written 0 stamp x there.0 slots kept.ascend here (ap (λ k. item_at k slots) (sym place) ∙ there.1) in
    let as_long = ap length now_is ∙ long_written i (Some x) slots in (
      put_is,
      item_is ∙ ap (λ k. item_at k slots) place ∙ found 0 stamp slots kept.ascend here,
      record {
        ascend = subst (Ascend 0) (sym now_is) (ascend_written 0 i (Some x) slots kept.ascend);
        counted = kept.counted ∙ sym (ap length put_is ∙ long_replaced stamp x (seen slots));
        first = ap front_is_empty now_is ∙ first_written i x slots kept.first;
        few = subst (λ n. n ≤ 2 * live) (sym as_long) kept.few;
        gone = λ none. room_is ∙ kept.gone none;
      },
    )

pub one_less : {T : Type 0} (live stamp room : ℕ) (x : T) (slots now : List (Slot T)) → IsKept live slots room
    → seen now ≡ without stamp (seen slots) → Some x ≡ at stamp (seen slots) → length (seen now) + 1 ≡ live
one_less live stamp room x slots now kept is there =
    let long = long_without stamp x (seen slots) (sym there) in
    let as_long = ap length is in
    omega (arith, long, as_long, kept.counted)

-- the same slots in other memory
pub kept_same : {T : Type 0} (live room now_room : ℕ) (slots now : List (Slot T)) → IsKept live slots room → now ≡ slots → 0 < length slots → IsKept live now now_room
kept_same live room now_room slots now kept is some =
    let there = some_live slots kept.first some in
    record {
      ascend = subst (Ascend 0) (sym is) kept.ascend;
      counted = kept.counted ∙ sym (ap (λ t. length (seen t)) is);
      first = ap front_is_empty is ∙ kept.first;
      few = subst (λ t. length t ≤ 2 * live) (sym is) kept.few;
      gone = λ empty. absurd (omega (arith, there, kept.counted, empty));
    }

pub kept_one : {T : Type 0} (stamp room : ℕ) (x : T) (slots now : List (Slot T)) → slots ≡ []
    → now ≡ slots ++ record { stamp = stamp; item = Some x } ∷ []
    → (seen now ≡ put stamp x (seen slots)) × IsKept 1 now room
kept_one stamp room x slots now none is =
    let alone : now ≡ record { stamp = stamp; item = Some x } ∷ [] = is ∙ ap (λ t. t ++ record { stamp = stamp; item = Some x } ∷ []) none in (
      ap seen alone ∙ sym (ap (λ t. put stamp x (seen t)) none),
      record {
        ascend = subst (Ascend 0) (sym alone) (omega arith, tt);
        counted = sym (ap (λ t. length (seen t)) alone);
        first = ap front_is_empty alone;
        few = let long = ap length alone in omega (arith, long);
        gone = λ empty. absurd (omega (arith, empty));
      },
    )

pub first_seen : {T : Type 0} (slots : List (Slot T)) (s : Slot T) (x : T) → slice_get slots 0 ≡ Some s → s.item ≡ Some x → slice_get (seen slots) 0 ≡ Some (s.stamp, x)
first_seen [] s x is full = absurd cc
first_seen (t ∷ slots) s x is full =
    let same : t ≡ s = cc in
    ap (λ (r : Slot _). slice_get (seen_before r.stamp r.item (seen slots)) 0) same ∙ ap (λ o. slice_get (seen_before s.stamp o (seen slots)) 0) full

pub first_full : {T : Type 0} (slots : List (Slot T)) (s : Slot T) → front_is_empty slots ≡ false → slice_get slots 0 ≡ Some s → s.item ≢ None
first_full [] s first is none = cc
first_full (t ∷ slots) s first is none =
    let same : t ≡ s = cc in
    let empty : not (is_some t.item) ≡ true = ap (λ (r : Slot _). not (is_some r.item)) same ∙ ap (λ o. not (is_some o)) none in cc

pub ruleset below_steps = (passed, stopped, below_inside)

pub ruleset front_steps = (seen_dropped, ascend_dropped)
