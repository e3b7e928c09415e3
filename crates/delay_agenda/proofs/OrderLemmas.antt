-- What stays of an agenda's order and numbers as entries come and go.
use Rattle.std.proofs.Common.{◌≡◌, ◌≢◌, ℕ, ◌+◌, ◌<◌, Bool, true, false, List, [], ◌∷◌, drop, refl, sym, ◌∙◌, inl, inr, arith}
use Rattle.std.specs.Prelude.{if◌then◌else◌}
use Rattle.std.proofs.lemmas.Bool.Decides.{nat_tests}
use Rattle.delay_agenda.specs.declared.entry.Entry.{Entry}
use Rattle.delay_agenda.specs.Queues.{put_all}
use Rattle.delay_agenda.specs.Order.{IsBefore, is_before, put_entry, IsBeforeAll, AreInOrder, AreBelow, HasNone, AreDistinct}
use Rattle.delay_agenda.specs.declared.entry.Kind.{Kind}
use Rattle.delay_agenda.specs.Waiting.{Waiting, IsAgenda, posted, is_turn_of, without_turns}

-- ---- the test and the order

before_trans : {X : Type 0} (a b c : Entry X) → IsBefore a b → IsBefore b c → IsBefore a c
before_trans a b c (inl x) (inl y) = inl (omega (arith, x, y))
before_trans a b c (inl x) (inr y) = inl (omega (arith, x, y.0))
before_trans a b c (inr x) (inl y) = inl (omega (arith, x.0, y))
before_trans a b c (inr x) (inr y) = inr (x.0 ∙ y.0, omega (arith, x.1, y.1))

before_when : {X : Type 0} (a b : Entry X) → is_before a b ≡ true → IsBefore a b
before_when a b is = grind (arith, nat_tests)

-- an entry with another number that isn't before e is behind it
behind_when : {X : Type 0} (e a : Entry X) → is_before a e ≡ false → a.number ≢ e.number → IsBefore e a
behind_when e a is other = grind (arith, nat_tests)

-- ---- one entry more

before_all_if : {X : Type 0} (b : Bool) (a e x : Entry X) (rest more : List (Entry X))
    → IsBefore a e → IsBeforeAll a (x ∷ rest) → IsBeforeAll a more → IsBeforeAll a (if b then x ∷ more else e ∷ x ∷ rest)
before_all_if true a e x rest more here all next = (all.0, next)
before_all_if false a e x rest more here all next = (here, all)

before_all_put : {X : Type 0} (a e : Entry X) (es : List (Entry X)) → IsBefore a e → IsBeforeAll a es → IsBeforeAll a (put_entry e es)
before_all_put a e [] here all = (here, tt)
before_all_put a e (x ∷ rest) here all =
    before_all_if (is_before x e) a e x rest (put_entry e rest) here all (before_all_put a e rest here all.1)

before_all_trans : {X : Type 0} (a b : Entry X) (es : List (Entry X)) → IsBefore a b → IsBeforeAll b es → IsBeforeAll a es
before_all_trans a b [] here all = tt
before_all_trans a b (x ∷ rest) here all = (before_trans a b x here all.0, before_all_trans a b rest here all.1)

order_if : {X : Type 0} (b : Bool) (e x : Entry X) (rest : List (Entry X)) → is_before x e ≡ b → HasNone e.number (x ∷ rest)
    → AreInOrder (x ∷ rest) → AreInOrder (put_entry e rest) → AreInOrder (if b then x ∷ put_entry e rest else e ∷ x ∷ rest)
order_if true e x rest is none order next = (before_all_put x e rest (before_when x e is) order.0, next)
order_if false e x rest is none order next =
    let here = behind_when e x is none.0 in ((here, before_all_trans e x rest here order.0), order)

order_put : {X : Type 0} (e : Entry X) (es : List (Entry X)) → HasNone e.number es → AreInOrder es → AreInOrder (put_entry e es)
order_put e [] none order = (tt, tt)
order_put e (x ∷ rest) none order = order_if (is_before x e) e x rest refl none order (order_put e rest none.1 order.1)

below_more : {X : Type 0} (n : ℕ) (es : List (Entry X)) → AreBelow n es → AreBelow (n + 1) es
below_more n [] below = tt
below_more n (x ∷ rest) below = (let here = below.0 in omega arith, below_more n rest below.1)

below_if : {X : Type 0} (b : Bool) (n : ℕ) (e x : Entry X) (rest more : List (Entry X)) → e.number < n → AreBelow n (x ∷ rest)
    → AreBelow n more → AreBelow n (if b then x ∷ more else e ∷ x ∷ rest)
below_if true n e x rest more here below next = (below.0, next)
below_if false n e x rest more here below next = (here, below)

below_put : {X : Type 0} (n : ℕ) (e : Entry X) (es : List (Entry X)) → e.number < n → AreBelow n es → AreBelow n (put_entry e es)
below_put n e [] here below = (here, tt)
below_put n e (x ∷ rest) here below =
    below_if (is_before x e) n e x rest (put_entry e rest) here below (below_put n e rest here below.1)

none_if : {X : Type 0} (b : Bool) (n : ℕ) (e x : Entry X) (rest more : List (Entry X)) → e.number ≢ n → HasNone n (x ∷ rest)
    → HasNone n more → HasNone n (if b then x ∷ more else e ∷ x ∷ rest)
none_if true n e x rest more here none next = (none.0, next)
none_if false n e x rest more here none next = (here, none)

none_put : {X : Type 0} (n : ℕ) (e : Entry X) (es : List (Entry X)) → e.number ≢ n → HasNone n es → HasNone n (put_entry e es)
none_put n e [] here none = (here, tt)
none_put n e (x ∷ rest) here none =
    none_if (is_before x e) n e x rest (put_entry e rest) here none (none_put n e rest here none.1)

differ : (m n : ℕ) → m < n → m ≢ n
differ m n less is = omega arith

turned : (m n : ℕ) → m ≢ n → n ≢ m
turned m n other is = other (sym is)

none_below : {X : Type 0} (n : ℕ) (es : List (Entry X)) → AreBelow n es → HasNone n es
none_below n [] below = tt
none_below n (x ∷ rest) below = (differ x.number n below.0, none_below n rest below.1)

distinct_if : {X : Type 0} (b : Bool) (e x : Entry X) (rest : List (Entry X)) → HasNone e.number (x ∷ rest) → AreDistinct (x ∷ rest)
    → AreDistinct (put_entry e rest) → AreDistinct (if b then x ∷ put_entry e rest else e ∷ x ∷ rest)
distinct_if true e x rest none distinct next = (none_put x.number e rest (turned x.number e.number none.0) distinct.0, next)
distinct_if false e x rest none distinct next = (none, distinct)

pub distinct_put : {X : Type 0} (e : Entry X) (es : List (Entry X)) → HasNone e.number es → AreDistinct es → AreDistinct (put_entry e es)
distinct_put e [] none distinct = (tt, tt)
distinct_put e (x ∷ rest) none distinct = distinct_if (is_before x e) e x rest none distinct (distinct_put e rest none.1 distinct.1)

-- ---- what waits after a call

-- with an entry whose number none has
pub agenda_put : {X : Type 0} (e : Entry X) (waiting : Waiting X) → IsAgenda waiting → e.number < waiting.next → HasNone e.number waiting.entries
    → IsAgenda (record waiting { entries = put_entry e waiting.entries })
agenda_put e waiting kept below none = record {
  order = order_put e waiting.entries none kept.order;
  below = below_put waiting.next e waiting.entries below kept.below;
  distinct = distinct_put e waiting.entries none kept.distinct;
}

-- with the entry of the next number
pub agenda_posted : {X : Type 0} (due : ℕ) (kind : Kind X) (waiting : Waiting X) → IsAgenda waiting → IsAgenda (posted due kind waiting)
agenda_posted due kind waiting kept =
    let e : Entry _ = record { due = due; number = waiting.next; kind = kind } in
    let none = none_below waiting.next waiting.entries kept.below in
    record {
      order = order_put e waiting.entries none kept.order;
      below = below_put (waiting.next + 1) e waiting.entries (omega arith) (below_more waiting.next waiting.entries kept.below);
      distinct = distinct_put e waiting.entries none kept.distinct;
    }

order_tail : {X : Type 0} (es : List (Entry X)) → AreInOrder es → AreInOrder (drop 1 es)
order_tail [] order = tt
order_tail (e ∷ es) order = order.1

below_tail : {X : Type 0} (n : ℕ) (es : List (Entry X)) → AreBelow n es → AreBelow n (drop 1 es)
below_tail n [] below = tt
below_tail n (e ∷ es) below = below.1

pub distinct_tail : {X : Type 0} (es : List (Entry X)) → AreDistinct es → AreDistinct (drop 1 es)
distinct_tail [] distinct = tt
distinct_tail (e ∷ es) distinct = distinct.1

-- without the first
pub agenda_taken : {X : Type 0} (waiting : Waiting X) → IsAgenda waiting → IsAgenda (record waiting { entries = drop 1 waiting.entries })
agenda_taken waiting kept = record {
  order = order_tail waiting.entries kept.order;
  below = below_tail waiting.next waiting.entries kept.below;
  distinct = distinct_tail waiting.entries kept.distinct;
}

before_left_if : {X : Type 0} (b : Bool) (a x : Entry X) (more : List (Entry X)) → IsBefore a x → IsBeforeAll a more → IsBeforeAll a (if b then more else x ∷ more)
before_left_if true a x more here next = next
before_left_if false a x more here next = (here, next)

before_left : {X : Type 0} (object : ℕ) (a : Entry X) (es : List (Entry X)) → IsBeforeAll a es → IsBeforeAll a (without_turns object es)
before_left object a [] all = tt
before_left object a (x ∷ xs) all = before_left_if (is_turn_of object x) a x (without_turns object xs) all.0 (before_left object a xs all.1)

order_left_if : {X : Type 0} (b : Bool) (x : Entry X) (more : List (Entry X)) → IsBeforeAll x more → AreInOrder more → AreInOrder (if b then more else x ∷ more)
order_left_if true x more here next = next
order_left_if false x more here next = (here, next)

order_left : {X : Type 0} (object : ℕ) (es : List (Entry X)) → AreInOrder es → AreInOrder (without_turns object es)
order_left object [] order = tt
order_left object (x ∷ xs) order =
    order_left_if (is_turn_of object x) x (without_turns object xs) (before_left object x xs order.0) (order_left object xs order.1)

below_left_if : {X : Type 0} (b : Bool) (n : ℕ) (x : Entry X) (more : List (Entry X)) → x.number < n → AreBelow n more → AreBelow n (if b then more else x ∷ more)
below_left_if true n x more here next = next
below_left_if false n x more here next = (here, next)

below_left : {X : Type 0} (object n : ℕ) (es : List (Entry X)) → AreBelow n es → AreBelow n (without_turns object es)
below_left object n [] below = tt
below_left object n (x ∷ xs) below = below_left_if (is_turn_of object x) n x (without_turns object xs) below.0 (below_left object n xs below.1)

none_left_if : {X : Type 0} (b : Bool) (n : ℕ) (x : Entry X) (more : List (Entry X)) → x.number ≢ n → HasNone n more → HasNone n (if b then more else x ∷ more)
none_left_if true n x more here next = next
none_left_if false n x more here next = (here, next)

none_left : {X : Type 0} (object n : ℕ) (es : List (Entry X)) → HasNone n es → HasNone n (without_turns object es)
none_left object n [] none = tt
none_left object n (x ∷ xs) none = none_left_if (is_turn_of object x) n x (without_turns object xs) none.0 (none_left object n xs none.1)

distinct_left_if : {X : Type 0} (b : Bool) (x : Entry X) (more : List (Entry X)) → HasNone x.number more → AreDistinct more → AreDistinct (if b then more else x ∷ more)
distinct_left_if true x more here next = next
distinct_left_if false x more here next = (here, next)

pub distinct_left : {X : Type 0} (object : ℕ) (es : List (Entry X)) → AreDistinct es → AreDistinct (without_turns object es)
distinct_left object [] distinct = tt
distinct_left object (x ∷ xs) distinct =
    distinct_left_if (is_turn_of object x) x (without_turns object xs) (none_left object x.number xs distinct.0) (distinct_left object xs distinct.1)

-- without the Turns of an object
pub agenda_cancelled : {X : Type 0} (object : ℕ) (waiting : Waiting X) → IsAgenda waiting
    → IsAgenda (record waiting { entries = without_turns object waiting.entries })
agenda_cancelled object waiting kept = record {
  order = order_left object waiting.entries kept.order;
  below = below_left object waiting.next waiting.entries kept.below;
  distinct = distinct_left object waiting.entries kept.distinct;
}

-- ---- what is new among those that wait

pub none_from : {X : Type 0} (n : ℕ) (e : Entry X) (es : List (Entry X)) → HasNone n (put_entry e es) → (e.number ≢ n) × HasNone n es
none_from n e [] none = (none.0, tt)
none_from n e (x ∷ rest) none = by (is_before x e) none (none_from n e rest)
  where
    by : (b : Bool) → HasNone n (if b then x ∷ put_entry e rest else e ∷ x ∷ rest) → (HasNone n (put_entry e rest) → (e.number ≢ n) × HasNone n rest) → (e.number ≢ n) × HasNone n (x ∷ rest)
    by true all more = let rest_none = more all.1 in (rest_none.0, (all.0, rest_none.1))
    by false all more = (all.0, all.1)

distinct_from : {X : Type 0} (e : Entry X) (es : List (Entry X)) → AreDistinct (put_entry e es) → HasNone e.number es × AreDistinct es
distinct_from e [] all = (tt, tt)
distinct_from e (x ∷ rest) all = by (is_before x e) all (distinct_from e rest)
  where
    by : (b : Bool) → AreDistinct (if b then x ∷ put_entry e rest else e ∷ x ∷ rest)
        → (AreDistinct (put_entry e rest) → HasNone e.number rest × AreDistinct rest)
        → HasNone e.number (x ∷ rest) × AreDistinct (x ∷ rest)
    by true all more =
        let rest_all = more all.1 in
        let own = none_from x.number e rest all.0 in
        ((turned e.number x.number own.0, rest_all.0), (own.1, rest_all.1))
    by false all more = (all.0, all.1)

distinct_row : {X : Type 0} (xs row : List (Entry X)) → AreDistinct (put_all xs row) → AreDistinct row
distinct_row [] row all = all
distinct_row (x ∷ xs) row all = (distinct_from x row (distinct_row xs (put_entry x row) all)).1

-- the first of an inbox has a number that none of the row has
pub new_in_row : {X : Type 0} (e : Entry X) (xs row : List (Entry X)) → AreDistinct (put_all (e ∷ xs) row) → HasNone e.number row
new_in_row e xs row all = (distinct_from e row (distinct_row xs (put_entry e row) all)).0
