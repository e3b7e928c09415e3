-- Rows, and the index of their keys.
use Rattle.std.proofs.Common.{arith, ◌≡◌, ◌≢◌, ◌<◌, ◌+◌, ◌^◌, ℕ, zero, suc, List, [], ◌∷◌, ◌++◌, length, Bool, true, false, Option, None, Some, slice_get, inl, inr, ◌⊎◌, sym, subst, ◌∙◌, ap, refl}
use Rattle.std.specs.Prelude.{◌==◌, ◌&&◌, ◌-◌, ◌/◌, get_or, if◌then◌else◌}
use Rattle.std.specs.Prelude.{Result, Ok, Err, OnOk, OnErr}
use Rattle.std.specs.Ordering.{nat_cmp, is_eq}
use Rattle.std.specs.BTreeMap.{BTreeMap, Updates, get, is_at}
use Rattle.std.specs.Map.{lookup}
use Rattle.std.proofs.lemmas.Bool.{cases_eq, eq-eqb, ne_eqb}
use Rattle.std.proofs.lemmas.Bool.Decides.{nat_tests}
use Rattle.std.proofs.lemmas.List.{length-append}
use Rattle.stack_lists.specs.declared.held.Held.{Held}
use Rattle.stack_lists.specs.declared.rows.ShapeRow.{ShapeRow}
use Rattle.nwq_value.specs.declared.memory.NoMemory.{NoMemory}
use Rattle.stack_lists.specs.Rows.{IsNumberOf, AreIndexed, IsIndexed, IsKept, PutAt, RowAdded, SameNumbers, StillKept, held_in, row_in, row_key}

some_is : {A : Type 0} (a b : A) → Some a ≡ Some b → a ≡ b
some_is a b h = cc

none_some : {A : Type 0} (a : A) → None ≡ Some a → ⊥
none_some a h = absurd cc

none_or : {A : Type 0} (o : Option A) → ((a : A) → o ≡ Some a → ⊥) → o ≡ None
none_or None h = refl
none_or (Some a) h = absurd (h a refl)

-- ---- a row's key

-- the row is of this trial and place
record HasKey (row : ShapeRow) (t p : ℕ) : Type 0 where
  trial : row.trial ≡ t
  place : row.place ≡ p

abbrev test : ShapeRow → ℕ → ℕ → Bool
test row trial place = (row.trial == trial) && (row.place == place)

test_same : (row : ShapeRow) (t p : ℕ) → HasKey row t p → test row t p ≡ true
test_same row t p k = ap (λ b. b && (row.place == p)) (eq-eqb row.trial t k.trial) ∙ eq-eqb row.place p k.place

test_cases : (row : ShapeRow) (t p : ℕ) → HasKey row t p ⊎ (test row t p ≡ false)
test_cases row t p = elim (cases_eq row.trial t) [
  | inl i ↦ elim (cases_eq row.place p) [
    | inl j ↦ inl (record { trial = i; place = j })
    | inr ne ↦ inr (ap (λ b. (row.trial == t) && b) (ne_eqb row.place p ne) ∙ and_false (row.trial == t))
  ]
  | inr ne ↦ inr (ap (λ b. b && (row.place == p)) (ne_eqb row.trial t ne))
]
  where
    and_false : (b : Bool) → (b && false) ≡ false
    and_false true = refl
    and_false false = refl

first_is : (row : ShapeRow) (rows : List ShapeRow) (t p : ℕ) → HasKey row t p → row_in (row ∷ rows) t p ≡ Some row.held
unfolding row_in
first_is row rows t p k = ap (λ b. if b then Some row.held else row_in rows t p) (test_same row t p k)

later_is : (row : ShapeRow) (rows : List ShapeRow) (t p : ℕ) → test row t p ≡ false → row_in (row ∷ rows) t p ≡ row_in rows t p
unfolding row_in
later_is row rows t p e = ap (λ b. if b then Some row.held else row_in rows t p) e

none_is : (t p : ℕ) → row_in [] t p ≡ None
unfolding row_in
none_is t p = refl

-- ---- the row that is found

record Stands (rows : List ShapeRow) (t p : ℕ) (h : Held) : Type 0 where
  number : ℕ
  row : ShapeRow
  has : slice_get rows number ≡ Some row
  key : HasKey row t p
  held : row.held ≡ h

found_at : (rows : List ShapeRow) (t p : ℕ) (h : Held) → row_in rows t p ≡ Some h → Stands rows t p h
found_at [] t p h e = absurd (none_some h (sym (none_is t p) ∙ e))
found_at (row ∷ rows) t p h e = elim (test_cases row t p) [
  | inl k ↦ record { number = 0; row = row; has = refl; key = k; held = some_is row.held h (sym (first_is row rows t p k) ∙ e) }
  | inr ne ↦ let s = found_at rows t p h (sym (later_is row rows t p ne) ∙ e) in
      record { number = suc s.number; row = s.row; has = s.has; key = s.key; held = s.held }
]

-- ---- by its key

held_row : (o : Option ShapeRow) (t p : ℕ) (h : Held) → held_in o t p ≡ Some h → (row : ShapeRow) × (o ≡ Some row) × HasKey row t p × (row.held ≡ h)
held_row None t p h e = absurd (none_some h e)
held_row (Some row) t p h e = elim (test_cases row t p) [
  | inl k ↦ (row, refl, k, some_is row.held h (sym (ap (λ b. if b then Some row.held else None) (test_same row t p k)) ∙ e))
  | inr ne ↦ absurd (none_some h (sym (ap (λ b. if b then Some row.held else None) ne) ∙ e))
]

held_other : (o : Option ShapeRow) (row : ShapeRow) (t p : ℕ) → o ≡ Some row → HasKey row t p → None ≡ held_in o t p → ⊥
held_other o row t p e k n =
    none_some row.held (n ∙ ap (λ o. held_in o t p) e ∙ ap (λ b. if b then Some row.held else None) (test_same row t p k))

pub held_is : (row : ShapeRow) (t p : ℕ) → row.trial ≡ t → row.place ≡ p → Some row.held ≡ held_in (Some row) t p
held_is row t p i j = sym (ap (λ b. if b then Some row.held else None) (test_same row t p (record { trial = i; place = j })))

pub held_isnt : (row : ShapeRow) (t p : ℕ) → ((row.trial ≡ t) × (row.place ≡ p) → ⊥) → None ≡ held_in (Some row) t p
held_isnt row t p ne = elim (test_cases row t p) [
  | inl k ↦ absurd (ne (k.trial, k.place))
  | inr e ↦ sym (ap (λ b. if b then Some row.held else None) e)
]

pub ruleset holding = (held_is, held_isnt)

here_some : (rows : List ShapeRow) (number : ℕ) (row : ShapeRow) (t p : ℕ) → slice_get rows number ≡ Some row → HasKey row t p → (h : Held) × (row_in rows t p ≡ Some h)
here_some [] number row t p e k = absurd cc
here_some (r ∷ rows) zero row t p e k =
    (r.held, first_is r rows t p (subst (λ (r : ShapeRow). HasKey r t p) (sym (some_is r row e)) k))
here_some (r ∷ rows) (suc number) row t p e k = elim (test_cases r t p) [
  | inl i ↦ (r.held, first_is r rows t p i)
  | inr ne ↦ let s = here_some rows number row t p e k in (s.0, later_is r rows t p ne ∙ s.1)
]

-- a row of the trial and place is the one that is found
find_row : (rows : List ShapeRow) (firsts : List ℕ) (index : BTreeMap ℕ ℕ) (number : ℕ) (row : ShapeRow) (t p : ℕ) → AreIndexed rows firsts index
    → slice_get rows number ≡ Some row → HasKey row t p → Some row.held ≡ row_in rows t p
find_row rows firsts index number row t p all e k =
    let s = here_some rows number row t p e k in
    let f = found_at rows t p s.0 s.1 in
    let m = all.one number f.number row f.row e f.has (k.trial ∙ sym f.key.trial) (k.place ∙ sym f.key.place) in
    let same = some_is row f.row (sym e ∙ ap (slice_get rows) m ∙ f.has) in
    ap Some (ap (λ (r : ShapeRow). r.held) same ∙ f.held) ∙ sym s.1

pub find_held : (rows : List ShapeRow) (firsts : List ℕ) (index : BTreeMap ℕ ℕ) (number t p : ℕ) (h : Held) → AreIndexed rows firsts index
    → Some h ≡ held_in (slice_get rows number) t p → Some h ≡ row_in rows t p
find_held rows firsts index number t p h all e =
    let r = held_row (slice_get rows number) t p h (sym e) in ap Some (sym r.3) ∙ find_row rows firsts index number r.0 t p all r.1 r.2

zero_suc : (n : ℕ) → 0 ≡ suc n → ⊥
zero_suc n e = absurd (omega (arith, e))

pub find_none : (rows : List ShapeRow) (firsts : List ℕ) (index : BTreeMap ℕ ℕ) (t p first : ℕ) → AreIndexed rows firsts index → first ≡ get_or firsts (p / 2) 0
    → first ≡ 0 → None ≡ row_in rows t p
find_none rows firsts index t p first all e z = sym (none_or (row_in rows t p) (λ h r.
    let s = found_at rows t p h r in
    let none : get_or firsts (s.row.place / 2) 0 ≡ 0 = ap (λ p. get_or firsts (p / 2) 0) s.key.place ∙ sym e ∙ z in
    elim (all.by s.number s.row s.has).kept [
      | inl i ↦ zero_suc s.number (sym none ∙ i)
      | inr i ↦ i.0 none
    ]))

-- a row that isn't the first of its place is in the index
later_row : (rows : List ShapeRow) (firsts : List ℕ) (index : BTreeMap ℕ ℕ) (t p first number : ℕ) (h : Held) → AreIndexed rows firsts index
    → first ≡ get_or firsts (p / 2) 0 → number ≡ first - 1 → None ≡ held_in (slice_get rows number) t p → (e : row_in rows t p ≡ Some h)
    → get nat_cmp index (row_key t p) ≡ Some (found_at rows t p h e).number
later_row rows firsts index t p first number h all f n none e =
    let s = found_at rows t p h e in elim (all.by s.number s.row s.has).kept [
      | inl i ↦
          let at : number ≡ s.number = let g = f ∙ ap (λ p. get_or firsts (p / 2) 0) (sym s.key.place) ∙ i in omega (arith, g, n) in
          absurd (held_other (slice_get rows number) s.row t p (ap (slice_get rows) at ∙ s.has) s.key none)
      | inr i ↦ ap (get nat_cmp index) (sym (same_key s.row t p s.key)) ∙ i.1
    ]
  where
    same_key : (row : ShapeRow) (t p : ℕ) → HasKey row t p → row_key row.trial row.place ≡ row_key t p
    same_key row t p k = ap (λ t. row_key t row.place) k.trial ∙ ap (row_key t) k.place

pub find_no_key : (rows : List ShapeRow) (firsts : List ℕ) (index : BTreeMap ℕ ℕ) (t p first number : ℕ) → AreIndexed rows firsts index
    → first ≡ get_or firsts (p / 2) 0 → number ≡ first - 1 → None ≡ held_in (slice_get rows number) t p → None ≡ get nat_cmp index (row_key t p)
    → None ≡ row_in rows t p
find_no_key rows firsts index t p first number all f n none k = sym (none_or (row_in rows t p) (λ h r.
    none_some (found_at rows t p h r).number (k ∙ later_row rows firsts index t p first number h all f n none r)))

pub find_key : (rows : List ShapeRow) (firsts : List ℕ) (index : BTreeMap ℕ ℕ) (t p first number other : ℕ) (o : Option Held) → AreIndexed rows firsts index
    → first ≡ get_or firsts (p / 2) 0 → number ≡ first - 1 → None ≡ held_in (slice_get rows number) t p → Some other ≡ get nat_cmp index (row_key t p)
    → o ≡ held_in (slice_get rows other) t p → o ≡ row_in rows t p
find_key rows firsts index t p first number other (Some h) all f n none k e = find_held rows firsts index other t p h all e
find_key rows firsts index t p first number other None all f n none k e = sym (none_or (row_in rows t p) (λ h r.
    let s = found_at rows t p h r in
    let at = some_is other s.number (k ∙ later_row rows firsts index t p first number h all f n none r) in
    held_other (slice_get rows other) s.row t p (ap (slice_get rows) at ∙ s.has) s.key e))

-- ---- the number of a row

row_is : (row : ShapeRow) (t p : ℕ) (h : Held) → HasKey row t p → row.held ≡ h → row ≡ record { trial = t; place = p; held = h }
row_is row t p h k e =
    ap (λ t. let r : ShapeRow = record { trial = t; place = row.place; held = row.held } in r) k.trial
    ∙ ap (λ p. let r : ShapeRow = record { trial = t; place = p; held = row.held } in r) k.place
    ∙ ap (λ h. let r : ShapeRow = record { trial = t; place = p; held = h } in r) e

numbered : (rows : List ShapeRow) (number t p : ℕ) (h : Held) → held_in (slice_get rows number) t p ≡ Some h
    → slice_get rows number ≡ Some (record { trial = t; place = p; held = h })
numbered rows number t p h e = let r = held_row (slice_get rows number) t p h e in r.1 ∙ ap Some (row_is r.0 t p h r.2 r.3)

pub number_none : (rows : List ShapeRow) (t p number : ℕ) → None ≡ row_in rows t p → IsNumberOf rows t p number
number_none rows t p number n held e = absurd (none_some held (n ∙ e))

pub number_held : (rows : List ShapeRow) (firsts : List ℕ) (index : BTreeMap ℕ ℕ) (number : ℕ) (t p : ℕ) (h : Held) → AreIndexed rows firsts index
    → Some h ≡ held_in (slice_get rows number) t p → IsNumberOf rows t p number
number_held rows firsts index number t p h all e held r =
    numbered rows number t p held (sym e ∙ find_held rows firsts index number t p h all e ∙ r)

pub number_keyed : (rows : List ShapeRow) (firsts : List ℕ) (index : BTreeMap ℕ ℕ) (t p first number other : ℕ) → AreIndexed rows firsts index
    → first ≡ get_or firsts (p / 2) 0 → number ≡ first - 1 → None ≡ held_in (slice_get rows number) t p → Some other ≡ get nat_cmp index (row_key t p)
    → IsNumberOf rows t p other
number_keyed rows firsts index t p first number other all f n none k held r =
    numbered rows other t p held (find_key rows firsts index t p first number other (held_in (slice_get rows other) t p) all f n none k refl ∙ r)

pub ruleset counting = (number_none, number_held, number_keyed)

pub ruleset finding = (find_held, find_none, find_no_key, find_key)

-- ---- a row more

row_end : (rows : List ShapeRow) (row : ShapeRow) (t p : ℕ) (h : Held) → row_in (rows ++ row ∷ []) t p ≡ Some h
    → (row_in rows t p ≡ Some h) ⊎ (HasKey row t p × (h ≡ row.held))
row_end [] row t p h e = elim (test_cases row t p) [
  | inl k ↦ inr (k, some_is h row.held (sym e ∙ first_is row [] t p k))
  | inr ne ↦ absurd (none_some h (sym (later_is row [] t p ne ∙ none_is t p) ∙ e))
]
row_end (r ∷ rows) row t p h e = elim (test_cases r t p) [
  | inl k ↦ inl (first_is r rows t p k ∙ sym (first_is r (rows ++ row ∷ []) t p k) ∙ e)
  | inr ne ↦ elim (row_end rows row t p h (sym (later_is r (rows ++ row ∷ []) t p ne) ∙ e)) [
    | inl old ↦ inl (later_is r rows t p ne ∙ old)
    | inr new ↦ inr new
  ]
]

row_stays : (rows : List ShapeRow) (row : ShapeRow) (t p : ℕ) (h : Held) → row_in rows t p ≡ Some h → row_in (rows ++ row ∷ []) t p ≡ Some h
row_stays [] row t p h e = absurd (none_some h (sym (none_is t p) ∙ e))
row_stays (r ∷ rows) row t p h e = elim (test_cases r t p) [
  | inl k ↦ first_is r (rows ++ row ∷ []) t p k ∙ sym (first_is r rows t p k) ∙ e
  | inr ne ↦ later_is r (rows ++ row ∷ []) t p ne ∙ row_stays rows row t p h (sym (later_is r rows t p ne) ∙ e)
]

row_last : (rows : List ShapeRow) (row : ShapeRow) (t p : ℕ) → row_in rows t p ≡ None → HasKey row t p → row_in (rows ++ row ∷ []) t p ≡ Some row.held
row_last [] row t p e k = first_is row [] t p k
row_last (r ∷ rows) row t p e k = elim (test_cases r t p) [
  | inl i ↦ absurd (none_some r.held (sym e ∙ first_is r rows t p i))
  | inr ne ↦ later_is r (rows ++ row ∷ []) t p ne ∙ row_last rows row t p (sym (later_is r rows t p ne) ∙ e) k
]

pub row_added : (before after : List ShapeRow) (trial place : ℕ) (held : Held) → after ≡ before ++ record { trial = trial; place = place; held = held } ∷ []
    → row_in before trial place ≡ None → length before < 33554432 → RowAdded before after trial place held
row_added before after trial place held a new room =
    let row : ShapeRow = record { trial = trial; place = place; held = held } in subst (λ rows. RowAdded before rows trial place held) (sym a) (record {
      here = row_last before row trial place new (record { trial = refl; place = refl });
      kept = λ t p h e. row_stays before row t p h e;
      only = λ t p h e. elim (row_end before row t p h e) [
        | inl old ↦ inl old
        | inr is ↦ inr (sym is.0.trial, sym is.0.place, is.1)
      ];
      more = length-append before (row ∷ []);
      end = refl;
      room = room;
    })

-- ---- the index

key_is : (t p s q : ℕ) → p < 2 ^ 32 → q < 2 ^ 32 → row_key t p ≡ row_key s q → (t ≡ s) × (p ≡ q)
key_is t p s q h i e = (omega (arith, h, i, e), omega (arith, h, i, e))

other_cmp : (k q : ℕ) → q ≢ k → is_eq (nat_cmp k q) ≡ false
other_cmp k q ne = grind (arith, nat_tests, ne)

pub index_begin : (firsts : List ℕ) (index : BTreeMap ℕ ℕ) → AreIndexed [] firsts index
index_begin firsts index = record { by = λ n r h. absurd cc; one = λ m n a b h k i j. absurd cc; few = omega arith }

pub kept_first : (firsts after : List ℕ) (index : BTreeMap ℕ ℕ) (t p number : ℕ) (r : Result (Unit {0}) NoMemory)
    → OnOk r (PutAt firsts after (p / 2) (number + 1)) → OnOk r (IsKept after index number t p)
kept_first firsts after index t p number (Ok u) put = inl (put.here ∙ (let e : number + 1 ≡ suc number = omega arith in e))
kept_first firsts after index t p number (Err e) put = tt

pub first_still : (firsts after : List ℕ) (index : BTreeMap ℕ ℕ) (t p number first : ℕ) (r : Result (Unit {0}) NoMemory) → first ≡ get_or firsts (p / 2) 0
    → first ≡ 0 → OnOk r (PutAt firsts after (p / 2) number) → OnErr r (SameNumbers firsts after) → StillKept firsts index after index t p
first_still firsts after index t p number first (Ok u) f z put same = record {
  by = λ n s q h ne k. elim (cases_eq (q / 2) (p / 2)) [
    | inl e ↦
        let none : get_or firsts (q / 2) 0 ≡ 0 = ap (λ k. get_or firsts k 0) e ∙ sym f ∙ z in
        elim k [
          | inl i ↦ absurd (zero_suc n (sym none ∙ i))
          | inr i ↦ absurd (i.0 none)
        ]
    | inr other ↦
        let e = put.others (q / 2) other in
        elim k [
          | inl i ↦ inl (e ∙ i)
          | inr i ↦ inr ((λ z. i.0 (sym e ∙ z)), i.1)
        ]
  ];
}
first_still firsts after index t p number first (Err x) f z put same = record {
  by = λ n s q h ne k.
      let e = same.by (q / 2) in
      elim k [
        | inl i ↦ inl (e ∙ i)
        | inr i ↦ inr ((λ z. i.0 (sym e ∙ z)), i.1)
      ];
}

pub kept_key : (firsts : List ℕ) (index after : BTreeMap ℕ ℕ) (t p number key first : ℕ) → first ≡ get_or firsts (p / 2) 0 → first ≢ 0 → key ≡ row_key t p
    → Updates nat_cmp index after key (Some number) → IsKept firsts after number t p
kept_key firsts index after t p number key first f z e u = inr ((λ n. z (f ∙ n)), ap (get nat_cmp after) (sym e) ∙ u.1)

pub key_still : {E O : Type 0} (firsts : List ℕ) (index after : BTreeMap ℕ ℕ) (t p number key : ℕ) (r : Result O E) → p < 2 ^ 32 → key ≡ row_key t p
    → OnOk r (Updates nat_cmp index after key (Some number)) → OnErr r (after.entries ≡ index.entries) → StillKept firsts index firsts after t p
key_still firsts index after t p number key (Ok o) h e u f = record {
  by = λ n s q i ne k. elim k [
    | inl a ↦ inl a
    | inr a ↦ inr (
      a.0,
      u.2 (row_key s q) (other_cmp key (row_key s q) (λ same.
          let k = key_is s q t p i h (same ∙ e) in ne k)) ∙ a.1,
    )
  ];
}
key_still firsts index after t p number key (Err x) h e u f = record {
  by = λ n s q i ne k. elim k [
    | inl a ↦ inl a
    | inr a ↦ inr (a.0, ap (lookup (is_at (nat_cmp (row_key s q)))) f ∙ a.1)
  ];
}

pub ruleset noting = (kept_first, first_still, kept_key, key_still)

-- whatever came of the change of the index, the rows that were there are found
pub index_after : (rows : List ShapeRow) (firsts after : List ℕ) (index more : BTreeMap ℕ ℕ) (t p : ℕ) → AreIndexed rows firsts index → row_in rows t p ≡ None
    → StillKept firsts index after more t p → AreIndexed rows after more
index_after rows firsts after index more t p all new still = record {
  by = λ n r e. let i = all.by n r e in record {
    kept = still.by n r.trial r.place i.place (λ k.
        let s = here_some rows n r t p e (record { trial = k.0; place = k.1 }) in none_some s.0 (sym new ∙ s.1)) i.kept;
    trial = i.trial;
    place = i.place;
  };
  one = all.one;
  few = all.few;
}

get_end : (xs : List ShapeRow) (x y : ShapeRow) (k : ℕ) → slice_get (xs ++ x ∷ []) k ≡ Some y → (slice_get xs k ≡ Some y) ⊎ ((k ≡ length xs) × (y ≡ x))
get_end [] x y zero h = inr (refl, some_is y x (sym h))
get_end [] x y (suc k) h = absurd cc
get_end (z ∷ xs) x y zero h = inl h
get_end (z ∷ xs) x y (suc k) h = elim (get_end xs x y k h) [
  | inl a ↦ inl a
  | inr b ↦ inr (ap (λ n. suc n) b.0, b.1)
]

new_key : (rows : List ShapeRow) (t p n : ℕ) (row new : ShapeRow) → row_in rows t p ≡ None → slice_get rows n ≡ Some row → new.trial ≡ t → new.place ≡ p
    → row.trial ≡ new.trial → row.place ≡ new.place → ⊥
new_key rows t p n row new none e a b i j =
    let s = here_some rows n row t p e (record { trial = i ∙ a; place = j ∙ b }) in none_some s.0 (sym none ∙ s.1)

pub index_added : (rows after : List ShapeRow) (firsts : List ℕ) (index : BTreeMap ℕ ℕ) (t p number : ℕ) (held : Held) → AreIndexed rows firsts index
    → row_in rows t p ≡ None → t < 2 ^ 32 → p < 2 ^ 32 → number ≡ length rows → number < 33554432 → IsKept firsts index number t p
    → after ≡ rows ++ record { trial = t; place = p; held = held } ∷ [] → AreIndexed after firsts index
index_added rows after firsts index t p number held all new h i n room kept a = subst (λ rows. AreIndexed rows firsts index) (sym a) (record {
  by = λ k r e. elim (get_end rows _ r k e) [
    | inl old ↦ all.by k r old
    | inr is ↦ subst (λ (r : ShapeRow). IsIndexed firsts index k r) (sym is.1)
        (record { kept = subst (λ n. IsKept firsts index n t p) (n ∙ sym is.0) kept; trial = h; place = i })
  ];
  one = λ j k x y e f s q. elim (get_end rows _ x j e) [
    | inl old ↦ elim (get_end rows _ y k f) [
      | inl other ↦ all.one j k x y old other s q
      | inr is ↦ absurd (new_key rows t p j x y new old (ap (λ (r : ShapeRow). r.trial) is.1) (ap (λ (r : ShapeRow). r.place) is.1) s q)
    ]
    | inr is ↦ elim (get_end rows _ y k f) [
      | inl other ↦ absurd (new_key rows t p k y x new other (ap (λ (r : ShapeRow). r.trial) is.1) (ap (λ (r : ShapeRow). r.place) is.1) (sym s) (sym q))
      | inr too ↦ is.0 ∙ sym too.0
    ]
  ];
  few = let l = length-append rows ((let row : ShapeRow = record { trial = t; place = p; held = held } in row) ∷ []) in omega (arith, l, n, room);
})

-- the row is added, or there was no memory for it
pub index_pushed : {E O : Type 0} (rows after : List ShapeRow) (firsts : List ℕ) (index : BTreeMap ℕ ℕ) (t p number : ℕ) (held : Held) (r : Result O E)
    → AreIndexed rows firsts index → row_in rows t p ≡ None → t < 2 ^ 32 → p < 2 ^ 32 → number ≡ length rows → number < 33554432
    → IsKept firsts index number t p → OnOk r (after ≡ rows ++ record { trial = t; place = p; held = held } ∷ []) → OnErr r (after ≡ rows)
    → AreIndexed after firsts index
index_pushed rows after firsts index t p number held (Ok o) all new h i n room kept a f =
    index_added rows after firsts index t p number held all new h i n room kept a
index_pushed rows after firsts index t p number held (Err x) all new h i n room kept a f = subst (λ rows. AreIndexed rows firsts index) (sym f) all

pub ruleset adding = (row_added)

pub ruleset beginning = (index_begin)
