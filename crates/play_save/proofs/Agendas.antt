-- Agendas of entries that are in order already.
use Rattle.std.proofs.Common.{◌≡◌, ◌≢◌, ◌<◌, ℕ, zero, suc, ◌+◌, Bool, true, false, List, [], ◌∷◌, ◌++◌, length, take, drop, get_or, map, sym, ap, refl, ◌∙◌, inl, inr, subst, arith}
use Rattle.std.specs.Prelude.{not, ◌||◌, nat_eq}
use Rattle.std.specs.BTreeSet.{BTreeSet}
use Rattle.std.proofs.lemmas.Bool.Decides.{nat_tests}
use Rattle.delay_agenda.specs.declared.entry.Entry.{Entry}
use Rattle.delay_agenda.specs.Order.{IsBefore, is_before, put_entry, IsBeforeAll, AreInOrder, AreBelow, HasNone, AreDistinct}
use Rattle.delay_agenda.specs.Waiting.{Waiting, IsAgenda}
use Rattle.saved_state.specs.declared.saved.Saved.{Saved}
use Rattle.state_format.specs.declared.parts.Entry.{Entry as Part}
use Rattle.state_parts.specs.World.{entry_of}
use Rattle.play_save.specs.Rules.{AreWaiting}
use Rattle.play_save.specs.Breaking.{IsWaiting, IsBeforeFirst, HasNumbers, AddsNumber, has_number, is_numbered}
use Rattle.state_parts.specs.KeepingLemmas.{map_more, drop_at}

-- ---- an entry put behind all others

before_true : {X : Type 0} (a b : Entry X) → IsBefore a b → is_before a b ≡ true
before_true a b (inl x) = grind (arith, nat_tests)
before_true a b (inr x) = let e = x.0 in let l = x.1 in grind (arith, nat_tests)

put_behind : {X : Type 0} (xs : List (Entry X)) (e : Entry X) → AreInOrder (xs ++ e ∷ []) → put_entry e xs ≡ xs ++ e ∷ []
put_behind [] e order = refl
put_behind (a ∷ xs) e order =
    let t = before_true a e (first_of xs order.0) in rw t (ap (λ (l : List _). a ∷ l) (put_behind xs e order.1))
  where
    first_of : (ys : List _) → IsBeforeAll a (ys ++ e ∷ []) → IsBefore a e
    first_of [] all = all.0
    first_of (y ∷ ys) all = first_of ys all.1

order_taken : (parts : List Part) (i : ℕ) → AreInOrder (map entry_of parts) → AreInOrder (map entry_of (take i parts))
order_taken [] zero order = tt
order_taken [] (suc i) order = tt
order_taken (p ∷ parts) zero order = tt
order_taken (p ∷ parts) (suc i) order = (taken_of parts i order.0, order_taken parts i order.1)
  where
    taken_of : (ps : List Part) (k : ℕ) → IsBeforeAll (entry_of p) (map entry_of ps) → IsBeforeAll (entry_of p) (map entry_of (take k ps))
    taken_of [] zero all = tt
    taken_of [] (suc k) all = tt
    taken_of (q ∷ ps) zero all = tt
    taken_of (q ∷ ps) (suc k) all = (all.0, taken_of ps k all.1)

-- an entry that is put behind those before it makes one more of them
pub agenda_more : (parts : List Part) (i : ℕ) (part : Part) (e : Entry Saved) (next : ℕ) (old new : Waiting Saved)
    → IsAgenda (record { entries = map entry_of parts; next = next }) → old ≡ record { entries = map entry_of (take i parts); next = next }
    → new ≡ record old { entries = put_entry e old.entries } → e ≡ entry_of part → i < length parts → part ≡ get_or parts i part
    → new ≡ record { entries = map entry_of (take (i + 1) parts); next = next }
agenda_more parts i part e next old new is before grown same h at =
    let front = map entry_of (take i parts) in
    let more : front ++ entry_of part ∷ [] ≡ map entry_of (take (i + 1) parts) =
    map_more entry_of parts i part (entry_of part) front (front ++ entry_of part ∷ []) refl refl refl h at in
    let order : AreInOrder (front ++ entry_of part ∷ []) = subst AreInOrder (sym more) (order_taken parts (i + 1) is.order) in
    grown ∙ ap (λ (w : Waiting Saved). record w { entries = put_entry e w.entries }) before
    ∙ ap (λ (l : List (Entry Saved)). record { entries = l; next = next })
    (ap (λ z. put_entry z front) same ∙ put_behind front (entry_of part) order ∙ more)

below_at : (next : ℕ) (parts : List Part) (i : ℕ) (part : Part) → AreBelow next (map entry_of parts) → i < length parts → part ≡ get_or parts i part → part.number < next
below_at next [] i part below h at = absurd (omega arith)
below_at next (p ∷ parts) zero part below h at = subst (λ (z : Part). z.number < next) (sym at) below.0
below_at next (p ∷ parts) (suc i) part below h at = below_at next parts i part below.1 (omega arith) at

none_at : (n : ℕ) (parts : List Part) (i : ℕ) (part : Part) → HasNone n (map entry_of parts) → i < length parts → part ≡ get_or parts i part → part.number ≢ n
none_at n [] i part none h at = absurd (omega arith)
none_at n (p ∷ parts) zero part none h at = subst (λ (z : Part). z.number ≢ n) (sym at) none.0
none_at n (p ∷ parts) (suc i) part none h at = none_at n parts i part none.1 (omega arith) at

none_before : (parts : List Part) (i : ℕ) (part : Part) → AreDistinct (map entry_of parts) → i < length parts → part ≡ get_or parts i part
    → HasNone part.number (map entry_of (take i parts))
none_before [] i part distinct h at = absurd (omega arith)
none_before (p ∷ parts) zero part distinct h at = tt
none_before (p ∷ parts) (suc i) part distinct h at =
    let other = none_at p.number parts i part distinct.0 (omega arith) at in
    (λ same. other (sym same), none_before parts i part distinct.1 (omega arith) at)

-- so it may be put
pub may_put : (parts : List Part) (i : ℕ) (part : Part) (e : Entry Saved) (next : ℕ) (old : Waiting Saved)
    → IsAgenda (record { entries = map entry_of parts; next = next }) → old ≡ record { entries = map entry_of (take i parts); next = next }
    → e ≡ entry_of part → i < length parts → part ≡ get_or parts i part → (e.number < old.next) × HasNone e.number old.entries
may_put parts i part e next old is before same h at =
    subst (λ (w : Waiting Saved). (e.number < w.next) × HasNone e.number w.entries) (sym before)
    (subst (λ (z : Entry Saved). (z.number < next) × HasNone z.number (map entry_of (take i parts))) (sym same)
    (below_at next parts i part is.below h at, none_before parts i part is.distinct h at))

-- ---- the test of an agenda, from its end on

before_trans : {X : Type 0} (a b c : Entry X) → IsBefore a b → IsBefore b c → IsBefore a c
before_trans a b c (inl x) (inl y) = inl (omega (arith, x, y))
before_trans a b c (inl x) (inr y) = inl (omega (arith, x, y.0))
before_trans a b c (inr x) (inl y) = inl (omega (arith, x.0, y))
before_trans a b c (inr x) (inr y) = inr (x.0 ∙ y.0, omega (arith, x.1, y.1))

before_all : {X : Type 0} (a b : Entry X) (es : List (Entry X)) → IsBefore a b → IsBeforeAll b es → IsBeforeAll a es
before_all a b [] here all = tt
before_all a b (x ∷ rest) here all = (before_trans a b x here all.0, before_all a b rest here all.1)

before_rest : (e : Part) (es : List Part) → IsBeforeFirst e es → AreInOrder (map entry_of es) → IsBeforeAll (entry_of e) (map entry_of es)
before_rest e [] first order = tt
before_rest e (a ∷ rest) first order = (first, before_all (entry_of e) (entry_of a) (map entry_of rest) first order.0)

none_numbered : (n : ℕ) (es : List Part) → is_numbered es n ≡ false → HasNone n (map entry_of es)
none_numbered n [] none = tt
none_numbered n (e ∷ es) none = (grind (arith, nat_tests), none_numbered n es (grind (arith, nat_tests)))

numbered_none : (n : ℕ) (es : List Part) → HasNone n (map entry_of es) → is_numbered es n ≡ false
numbered_none n [] none = refl
numbered_none n (e ∷ es) none = let other = none.0 in let rest = numbered_none n es none.1 in grind (arith, nat_tests)

waiting_more : (next clock objects : ℕ) (e : Part) (es : List Part) → IsWaiting next clock objects e → IsBeforeFirst e es → is_numbered es e.number ≡ false
    → AreWaiting next clock objects es → AreWaiting next clock objects (e ∷ es)
waiting_more next clock objects e es is first none rest = record {
  agenda = record {
    order = (before_rest e es first rest.agenda.order, rest.agenda.order);
    below = (is.below, rest.agenda.below);
    distinct = (none_numbered e.number es none, rest.agenda.distinct);
  };
  due = (is.due, rest.due);
  placed = (is.placed, rest.placed);
}

pub waiting_step : (next clock objects : ℕ) (es : List Part) (i k : ℕ) (e : Part) → IsWaiting next clock objects e → IsBeforeFirst e (drop (i + 1) es)
    → is_numbered (drop (i + 1) es) e.number ≡ false → AreWaiting next clock objects (drop k es) → k ≡ i + 1 → i < length es → e ≡ get_or es i e
    → AreWaiting next clock objects (drop i es)
waiting_step next clock objects es i k e is first none rest same h at =
    subst (AreWaiting next clock objects) (sym (drop_at es i e h at))
    (waiting_more next clock objects e (drop (i + 1) es) is first none (subst (λ n. AreWaiting next clock objects (drop n es)) same rest))

waiting_tail : (next clock objects : ℕ) (e : Part) (es : List Part) → AreWaiting next clock objects (e ∷ es) → AreWaiting next clock objects es
waiting_tail next clock objects e es w = record {
  agenda = record { order = w.agenda.order.1; below = w.agenda.below.1; distinct = w.agenda.distinct.1 };
  due = w.due.1;
  placed = w.placed.1;
}

pub waiting_drop : (next clock objects : ℕ) (es : List Part) (i : ℕ) → AreWaiting next clock objects es → AreWaiting next clock objects (drop i es)
waiting_drop next clock objects es zero w = w
waiting_drop next clock objects [] (suc i) w = w
waiting_drop next clock objects (e ∷ es) (suc i) w = waiting_drop next clock objects es i (waiting_tail next clock objects e es w)

first_before : (e : Part) (es : List Part) → IsBeforeAll (entry_of e) (map entry_of es) → IsBeforeFirst e es
first_before e [] all = tt
first_before e (a ∷ rest) all = all.0

-- what every member of waiting entries keeps
pub record IsMember (next clock objects : ℕ) (e : Part) (rest : List Part) : Type 0 where
  pub by_itself : IsWaiting next clock objects e
  pub before : IsBeforeFirst e rest
  pub new : is_numbered rest e.number ≡ false

pub waiting_at : (next clock objects : ℕ) (es : List Part) (i : ℕ) (e : Part) → i < length es → e ≡ get_or es i e → AreWaiting next clock objects es
    → IsMember next clock objects e (drop (i + 1) es)
waiting_at next clock objects es i e h at w =
    let here : AreWaiting next clock objects (e ∷ drop (i + 1) es) = subst (AreWaiting next clock objects) (drop_at es i e h at) (waiting_drop next clock objects es i w) in
    record {
      by_itself = record { below = here.agenda.below.0; due = here.due.0; placed = here.placed.0 };
      before = first_before e (drop (i + 1) es) here.agenda.order.0;
      new = numbered_none e.number (drop (i + 1) es) here.agenda.distinct.0;
    }

pub numbers_step : (before after : BTreeSet ℕ) (es : List Part) (i k : ℕ) (e : Part) → HasNumbers before (drop k es) → AddsNumber before e.number after → k ≡ i + 1
    → i < length es → e ≡ get_or es i e → HasNumbers after (drop i es)
numbers_step before after es i k e has adds same h at n =
    adds n ∙ ap (λ (b : Bool). nat_eq n e.number || b) (has n ∙ ap (λ (j : ℕ). is_numbered (drop j es) n) same)
    ∙ ap (λ (l : List Part). is_numbered l n) (sym (drop_at es i e h at))

-- ---- what the tests found

true_apart : true ≡ false → ⊥
true_apart t = absurd cc

-- a number that was new is none of those behind
pub number_new : (numbers : BTreeSet ℕ) (es : List Part) (i k : ℕ) (e : Part) (fresh : Bool) → HasNumbers numbers (drop k es) → fresh ≡ not (has_number numbers e.number) → fresh ≡ true
    → k ≡ i + 1 → is_numbered (drop (i + 1) es) e.number ≡ false
number_new numbers es i k e fresh has is new same =
    ap (λ (j : ℕ). is_numbered (drop j es) e.number) (sym same) ∙ sym (has e.number) ∙ not_new (has_number numbers e.number) (sym is ∙ new)
  where
    not_new : (b : Bool) → not b ≡ true → b ≡ false
    not_new true n = absurd (true_apart (sym n))
    not_new false n = refl

-- one that wasn't new is no number of entries that wait
pub number_old : (next clock objects : ℕ) (numbers : BTreeSet ℕ) (es : List Part) (i k : ℕ) (e : Part) (fresh : Bool) → HasNumbers numbers (drop k es)
    → fresh ≡ not (has_number numbers e.number) → fresh ≡ false → k ≡ i + 1 → i < length es → e ≡ get_or es i e → AreWaiting next clock objects es → ⊥
number_old next clock objects numbers es i k e fresh has is old same h at w =
    let none : has_number numbers e.number ≡ false = has e.number ∙ ap (λ (j : ℕ). is_numbered (drop j es) e.number) same ∙ (waiting_at next clock objects es i e h at w).new in
    true_apart (sym (ap not none) ∙ sym is ∙ old)
