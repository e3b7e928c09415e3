-- The index of Turns and the entries that it leads to.
use Rattle.std.proofs.Common.{◌≡◌, ◌≢◌, ◌<◌, ◌≤◌, ◌∷◌, [], ℕ, suc, Bool, true, false, List, length, Some, None, drop, slice_get, refl, sym, ap, subst, ◌∙◌, arith}
use Rattle.std.specs.Prelude.{nat_eq, if◌then◌else◌}
use Rattle.std.specs.Map.{lookup, set_value}
use Rattle.std.specs.BTreeMap.{BTreeMap, get, is_at}
use Rattle.std.specs.Ordering.{nat_cmp}
use Rattle.std.proofs.lemmas.Bool.{eqb-true, eqb-false, eq-eqb}
use Rattle.std.proofs.lemmas.Bool.Decides.{nat_tests}
use Rattle.stamped_slots.specs.Stamps.{Stamps, at, put, without}
use Rattle.delay_agenda.specs.declared.entry.Entry.{Entry}
use Rattle.delay_agenda.specs.declared.entry.Kind.{Kind}
use Rattle.delay_agenda.specs.declared.entry.Kind.TheVariants.{Event, Stored, Turn, Unapply}
use Rattle.delay_agenda.specs.Order.{is_before, put_entry, HasNone, AreDistinct}
use Rattle.delay_agenda.specs.Waiting.{is_turn_kind, is_turn_of, turn_count, without_turns}
use Rattle.delay_agenda.specs.Queues.{QueuesByTime, AreQueues, in_row, queue_at, row_without, numbered, without_number, listed, turns_in, turns_of, turning, IsIndexed, IsNew, HasTurnMore}
use Rattle.delay_agenda.specs.Queues.{HasTurnLess, HasEntryMore, HasEntryLess, HasNoTurn}
use Rattle.delay_agenda.proofs.StampLemmas.{not_eq, put_swap, long_put, at_other, at_same, without_put}
use Rattle.delay_agenda.proofs.OrderLemmas.{distinct_put, distinct_left}
use Rattle.delay_agenda.proofs.Turns.{without_none, same_object}
use Rattle.delay_agenda.proofs.Rows.{row_numbered}

-- ---- the Turns among entries

module _ {X : Type 0} (object : ℕ) where
  -- as many as are counted
  pub long_turns : (es : List (Entry X)) → length (turns_in object es) ≡ turn_count object es
  long_turns [] = refl
  long_turns (e ∷ es) = by (is_turn_of object e) (long_turns es)
    where
      by : (b : Bool) → length (turns_in object es) ≡ turn_count object es
          → length (if b then put e.number e.due (turns_in object es) else turns_in object es) ≡ (if b then suc (turn_count object es) else turn_count object es)
      by true more = long_put e.number e.due (turns_in object es) ∙ ap suc more
      by false more = more

  pub none_turns : (n : ℕ) (es : List (Entry X)) → HasNone n es → at n (turns_in object es) ≡ None
  none_turns n [] none = refl
  none_turns n (e ∷ es) none = by (is_turn_of object e) (none_turns n es none.1)
    where
      by : (b : Bool) → at n (turns_in object es) ≡ None → at n (if b then put e.number e.due (turns_in object es) else turns_in object es) ≡ None
      by true more = at_other e.number n e.due (turns_in object es) none.0 ∙ more
      by false more = more

  -- an entry that is put lists its Turn
  pub turns_put : (e : Entry X) (es : List (Entry X)) → HasNone e.number es → turns_in object (put_entry e es) ≡ turns_in object (e ∷ es)
  turns_put e [] none = refl
  turns_put e (x ∷ rest) none = by (is_before x e) (turns_put e rest none.1)
    where
      two : (a b : Bool) (ts : List (ℕ × ℕ)) → (if a then put x.number x.due (if b then put e.number e.due ts else ts) else (if b then put e.number e.due ts else ts))
          ≡ (if b then put e.number e.due (if a then put x.number x.due ts else ts) else (if a then put x.number x.due ts else ts))
      two true true ts = put_swap x.number e.number x.due e.due ts none.0
      two true false ts = refl
      two false true ts = refl
      two false false ts = refl

      by : (b : Bool) → turns_in object (put_entry e rest) ≡ turns_in object (e ∷ rest) → turns_in object (if b then x ∷ put_entry e rest else e ∷ x ∷ rest) ≡ turns_in object (e ∷ x ∷ rest)
      by true more =
          ap (λ t. if is_turn_of object x then put x.number x.due t else t) more
          ∙ two (is_turn_of object x) (is_turn_of object e) (turns_in object rest)
      by false more = refl

  pub no_turns : (es : List (Entry X)) → turns_in object (without_turns object es) ≡ []
  no_turns [] = refl
  no_turns (e ∷ es) = by (is_turn_of object e) refl (no_turns es)
    where
      by : (b : Bool) → is_turn_of object e ≡ b → turns_in object (without_turns object es) ≡ [] → turns_in object (if b then without_turns object es else e ∷ without_turns object es) ≡ []
      by true is more = more
      by false is more = ap (λ (t : Bool). if t then put e.number e.due (turns_in object (without_turns object es)) else turns_in object (without_turns object es)) is ∙ more

  pub other_turns : (other : ℕ) (es : List (Entry X)) → other ≢ object → turns_in other (without_turns object es) ≡ turns_in other es
  other_turns other [] apart = refl
  other_turns other (e ∷ es) apart = by (is_turn_of object e) refl (other_turns other es apart)
    where
      by : (b : Bool) → is_turn_of object e ≡ b → turns_in other (without_turns object es) ≡ turns_in other es
          → turns_in other (if b then without_turns object es else e ∷ without_turns object es) ≡ turns_in other (e ∷ es)
      by true is more = more ∙ sym (ap (λ (t : Bool). if t then put e.number e.due (turns_in other es) else turns_in other es) (same_object object e.kind is other apart))
      by false is more = ap (λ t. if is_turn_of other e then put e.number e.due t else t) more

-- ---- an entry more and an entry less

pub no_turn : {X : Type 0} (kind : Kind X) → turning kind ≡ None → (other : ℕ) → is_turn_kind other kind ≡ false
no_turn (Turn o) none other = absurd cc
no_turn (Event o script user) none other = refl
no_turn (Stored o action) none other = refl
no_turn (Unapply o) none other = refl

turn_test : {X : Type 0} (object : ℕ) (kind : Kind X) → turning kind ≡ Some object → (other : ℕ) → is_turn_kind other kind ≡ nat_eq object other
turn_test object (Turn o) is other = let same : o ≡ object = cc in ap (λ n. nat_eq n other) same
turn_test object (Event o script user) is other = absurd cc
turn_test object (Stored o action) is other = absurd cc
turn_test object (Unapply o) is other = absurd cc

pub nothing_more : {X : Type 0} (e : Entry X) (index : BTreeMap ℕ (Stamps ℕ)) → turning e.kind ≡ None → HasEntryMore e index index
nothing_more e index none other = sym (ap (λ (b : Bool). if b then put e.number e.due (turns_of other index) else turns_of other index) (no_turn e.kind none other))

pub entry_more : {X : Type 0} (object : ℕ) (e : Entry X) (few more : BTreeMap ℕ (Stamps ℕ)) → turning e.kind ≡ Some object → HasTurnMore object e.number e.due few more → HasEntryMore e few more
entry_more object e few more is one other =
    one other ∙ sym (ap (λ (b : Bool). if b then put e.number e.due (turns_of other few) else turns_of other few) (turn_test object e.kind is other))

pub nothing_less : {X : Type 0} (e : Entry X) (index : BTreeMap ℕ (Stamps ℕ)) → turning e.kind ≡ None → HasEntryLess e index index
nothing_less e index none other = sym (ap (λ (b : Bool). if b then without e.number (turns_of other index) else turns_of other index) (no_turn e.kind none other))

pub entry_less : {X : Type 0} (object : ℕ) (e : Entry X) (more few : BTreeMap ℕ (Stamps ℕ)) → turning e.kind ≡ Some object → HasTurnLess object e.number more few → HasEntryLess e more few
entry_less object e more few is one other =
    one other ∙ sym (ap (λ (b : Bool). if b then without e.number (turns_of other more) else turns_of other more) (turn_test object e.kind is other))

pub is_new : {X : Type 0} (e : Entry X) (es : List (Entry X)) (index : BTreeMap ℕ (Stamps ℕ)) → IsIndexed index es → HasNone e.number es → IsNew e index
is_new e es index indexed none = λ object is. ap (at e.number) (indexed.turns object) ∙ none_turns object e.number es none

pub indexed_put : {X : Type 0} (e : Entry X) (es now : List (Entry X)) (few more : BTreeMap ℕ (Stamps ℕ))
    → IsIndexed few es → HasNone e.number es → HasEntryMore e few more → now ≡ put_entry e es → IsIndexed more now
indexed_put e es now few more indexed none one is = record {
  distinct = subst AreDistinct (sym is) (distinct_put e es none indexed.distinct);
  turns = λ object. one object ∙ ap (λ t. if is_turn_of object e then put e.number e.due t else t) (indexed.turns object) ∙ sym (turns_put object e es none) ∙ sym (ap (turns_in object) is);
}

taken_if : (b : Bool) (n d : ℕ) (ts : List (ℕ × ℕ)) → at n ts ≡ None → (if b then without n (if b then put n d ts else ts) else (if b then put n d ts else ts)) ≡ ts
taken_if true n d ts none = without_put n d ts none
taken_if false n d ts none = refl

pub indexed_taken : {X : Type 0} (e : Entry X) (es now : List (Entry X)) (more few : BTreeMap ℕ (Stamps ℕ))
    → IsIndexed more es → HasEntryLess e more few → Some e ≡ slice_get es 0 → now ≡ drop 1 es → IsIndexed few now
indexed_taken e [] now more few indexed one is left = absurd cc
indexed_taken e (x ∷ es) now more few indexed one is left =
    let same : e ≡ x = cc in
    record {
      distinct = subst AreDistinct (sym left) indexed.distinct.1;
      turns = λ object.
          (let own : turns_of object few ≡ (if is_turn_of object x then without x.number (turns_of object more) else turns_of object more) =
          subst (λ (t : Entry _). turns_of object few ≡ (if is_turn_of object t then without t.number (turns_of object more) else turns_of object more)) same (one object) in
          own ∙ ap (λ ts. if is_turn_of object x then without x.number ts else ts) (indexed.turns object)
          ∙ taken_if (is_turn_of object x) x.number x.due (turns_in object es) (none_turns object x.number es indexed.distinct.0)
          ∙ sym (ap (turns_in object) left));
    }

-- what was listed and is listed no more
pub back_again : {X : Type 0} (e : Entry X) (few more last : BTreeMap ℕ (Stamps ℕ)) (es now : List (Entry X))
    → IsIndexed few es → HasNone e.number es → HasEntryMore e few more → HasEntryLess e more last → now ≡ es
    → IsIndexed last now
back_again e few more last es now indexed none one other is = record {
  distinct = subst AreDistinct (sym is) indexed.distinct;
  turns = λ object.
      other object ∙ ap (λ t. if is_turn_of object e then without e.number t else t) (one object ∙ ap (λ t. if is_turn_of object e then put e.number e.due t else t) (indexed.turns object))
      ∙ taken_if (is_turn_of object e) e.number e.due (turns_in object es) (none_turns object e.number es none) ∙ sym (ap (turns_in object) is);
}

-- ---- the index leads to the Turn

-- the entry of a number is a Turn of the object, due then
pub record IsTurnOf {X : Type 0} (object number due : ℕ) (es : List (Entry X)) : Type 0 where
  pub entry : Entry X
  pub found : numbered number es ≡ Some entry
  pub own_due : entry.due ≡ due
  pub turn : is_turn_of object entry ≡ true

none_numbered : {X : Type 0} (n : ℕ) (es : List (Entry X)) → HasNone n es → numbered n es ≡ None
none_numbered n [] none = refl
none_numbered n (e ∷ es) none = rw (not_eq e.number n none.0) (none_numbered n es none.1)

leads_past : {X : Type 0} (object n d : ℕ) (x : Entry X) (es : List (Entry X)) → x.number ≢ n → IsTurnOf object n d es → IsTurnOf object n d (x ∷ es)
leads_past object n d x es other more = record { entry = more.entry; found = rw (not_eq x.number n other) more.found; own_due = more.own_due; turn = more.turn }

pub leads : {X : Type 0} (object n d : ℕ) (es : List (Entry X)) → AreDistinct es → at n (turns_in object es) ≡ Some d → IsTurnOf object n d es
leads object n d [] distinct is = absurd cc
leads object n d (x ∷ es) distinct is = by (is_turn_of object x) refl is (λ more. leads object n d es distinct.1 more)
  where
    here : (b : Bool) → nat_eq x.number n ≡ b → is_turn_of object x ≡ true → at n (put x.number x.due (turns_in object es)) ≡ Some d
        → (at n (turns_in object es) ≡ Some d → IsTurnOf object n d es) → IsTurnOf object n d (x ∷ es)
    here true same turn got more =
        let number = eqb-true x.number n same in
        let due : Some x.due ≡ Some d = sym (subst (λ k. at k (put x.number x.due (turns_in object es)) ≡ Some x.due) number (at_same x.number x.due (turns_in object es))) ∙ got in
        record { entry = x; found = rw same refl; own_due = cc; turn = turn }
    here false other turn got more =
        let apart : x.number ≢ n = eqb-false x.number n other in
        leads_past object n d x es apart (more (sym (at_other x.number n x.due (turns_in object es) apart) ∙ got))

    by : (b : Bool) → is_turn_of object x ≡ b → at n (if b then put x.number x.due (turns_in object es) else turns_in object es) ≡ Some d
        → (at n (turns_in object es) ≡ Some d → IsTurnOf object n d es) → IsTurnOf object n d (x ∷ es)
    by true turn got more = here (nat_eq x.number n) refl turn got more
    by false turn got more =
        let found = more got in
        leads_past object n d x es (λ same. (let none = none_numbered n es (subst (λ k. HasNone k es) same distinct.0) in
        let gone : None ≡ Some found.entry = sym none ∙ found.found in cc)) found

count_numbered : {X : Type 0} (object n : ℕ) (e : Entry X) (es : List (Entry X)) → numbered n es ≡ Some e → is_turn_of object e ≡ true → 1 ≤ turn_count object es
count_numbered object n e [] is turn = absurd cc
count_numbered object n e (x ∷ es) is turn = by (nat_eq x.number n) is (λ more. count_numbered object n e es more turn)
  where
    own : (b : Bool) (k : ℕ) → b ≡ true → 1 ≤ (if b then suc k else k)
    own true k yes_it = omega arith
    own false k yes_it = absurd cc

    later : (b : Bool) (k : ℕ) → 1 ≤ k → 1 ≤ (if b then suc k else k)
    later true k some = omega arith
    later false k some = some

    by : (b : Bool) → (if b then Some x else numbered n es) ≡ Some e → (numbered n es ≡ Some e → 1 ≤ turn_count object es) → 1 ≤ turn_count object (x ∷ es)
    by true here more = let same : x ≡ e = cc in own (is_turn_of object x) (turn_count object es) (ap (is_turn_of object) same ∙ turn)
    by false here more = later (is_turn_of object x) (turn_count object es) (more here)

cut_turn : {X : Type 0} (object n : ℕ) (e : Entry X) (es : List (Entry X)) → numbered n es ≡ Some e
    → is_turn_of object e ≡ true → turn_count object es ≤ 1 → without_number n es ≡ without_turns object es
cut_turn object n e [] is turn few = refl
cut_turn object n e (x ∷ es) is turn few = by (nat_eq x.number n) is (λ more fewer. cut_turn object n e es more turn fewer)
  where
    first : (b : Bool) → is_turn_of object x ≡ b → b ≡ true
        → (if b then suc (turn_count object es) else turn_count object es) ≤ 1
        → es ≡ (if b then without_turns object es else x ∷ without_turns object es)
    first true own is_turn most = sym (without_none object es (omega (arith, most)))
    first false own is_turn most = absurd cc

    later : (b : Bool) → 1 ≤ turn_count object es → (if b then suc (turn_count object es) else turn_count object es) ≤ 1
        → (turn_count object es ≤ 1 → without_number n es ≡ without_turns object es) → x ∷ without_number n es ≡ (if b then without_turns object es else x ∷ without_turns object es)
    later true some most more = absurd (omega (arith, some, most))
    later false some most more = ap (λ t. x ∷ t) (more most)

    by : (b : Bool) → (if b then Some x else numbered n es) ≡ Some e → (numbered n es ≡ Some e → turn_count object es ≤ 1 → without_number n es ≡ without_turns object es)
        → (if b then es else x ∷ without_number n es) ≡ without_turns object (x ∷ es)
    by true here more = let same : x ≡ e = cc in first (is_turn_of object x) refl (ap (is_turn_of object) same ∙ turn) few
    by false here more = later (is_turn_of object x) (count_numbered object n e es here turn) few (more here)

first_at : {T : Type 0} (n : ℕ) (x : T) (es : List (ℕ × T)) → slice_get es 0 ≡ Some (n, x) → at n es ≡ Some x
first_at n x [] is = absurd cc
first_at n x (e ∷ es) is = let same : e ≡ (n, x) = cc in ap (λ (t : ℕ × _). at n (t ∷ es)) same ∙ ap (λ (b : Bool). if b then Some x else at n es) (eq-eqb n n refl)

-- what the index says of the queues
pub turn_found : {X : Type 0} (object number due : ℕ) (qs : QueuesByTime X) (index : BTreeMap ℕ (Stamps ℕ))
    → AreQueues qs → IsIndexed index (in_row qs) → slice_get (turns_of object index) 0 ≡ Some (number, due)
    → (queue_at due qs ≢ []) × (0 < turn_count object (in_row qs)) × (turn_count object (in_row qs) ≤ 1 → row_without due number qs ≡ without_turns object (in_row qs))
turn_found object number due qs index queues indexed first =
    let got : at number (turns_in object (in_row qs)) ≡ Some due = first_at number due (turns_in object (in_row qs)) (sym (ap (λ t. slice_get t 0) (indexed.turns object)) ∙ first) in
    let found = leads object number due (in_row qs) indexed.distinct got in
    let there = row_numbered number found.entry qs queues found.found in
    let same = found.own_due in (
      (λ empty. (let none : None ≡ Some found.entry = sym (ap (numbered number) empty) ∙ ap (λ k. numbered number (queue_at k qs)) (sym same) ∙ there.0 in cc)),
      count_numbered object number found.entry (in_row qs) found.found found.turn,
      (λ few. ap (λ k. row_without k number qs) (sym same) ∙ there.1 ∙ cut_turn object number found.entry (in_row qs) found.found found.turn few),
    )

pub none_found : {X : Type 0} (object : ℕ) (es : List (Entry X)) (index : BTreeMap ℕ (Stamps ℕ)) → IsIndexed index es → turns_of object index ≡ [] → turn_count object es ≡ 0
none_found object es index indexed none = sym (long_turns object es) ∙ ap length (sym (indexed.turns object) ∙ none)

cancelled_if : {X : Type 0} (b : Bool) (object other : ℕ) (es : List (Entry X)) (more : List (ℕ × ℕ))
    → nat_eq object other ≡ b → more ≡ turns_in other es
    → (if b then [] else more) ≡ turns_in other (without_turns object es)
cancelled_if true object other es more is listed_is = sym (subst (λ o. turns_in o (without_turns object es) ≡ []) (eqb-true object other is) (no_turns object es))
cancelled_if false object other es more is listed_is = listed_is ∙ sym (other_turns object other es (λ same. eqb-false object other is (sym same)))

pub indexed_cancelled : {X : Type 0} (object : ℕ) (es now : List (Entry X)) (more few : BTreeMap ℕ (Stamps ℕ))
    → IsIndexed more es → HasNoTurn object more few → now ≡ without_turns object es → IsIndexed few now
indexed_cancelled object es now more few indexed none is = record {
  distinct = subst AreDistinct (sym is) (distinct_left object es indexed.distinct);
  turns = λ other. none other ∙ cancelled_if (nat_eq object other) object other es (turns_of other more) refl (indexed.turns other) ∙ sym (ap (turns_in other) is);
}

-- ---- the index as a map

pub turns_here : (object : ℕ) (index : BTreeMap ℕ (Stamps ℕ)) (turns : Stamps ℕ) → get nat_cmp index object ≡ Some turns → turns_of object index ≡ turns.items
turns_here object index turns is = ap listed is

key_is : (object k : ℕ) → is_at (nat_cmp object) k ≡ nat_eq object k
key_is object k = by (nat_eq object k) refl
  where
    by : (b : Bool) → nat_eq object k ≡ b → is_at (nat_cmp object) k ≡ b
    by true e = let same = eqb-true object k e in grind (arith, nat_tests)
    by false e = let other : object ≢ k = eqb-false object k e in grind (arith, nat_tests)

-- the index with the Turns of one object changed
module _ (object : ℕ) (change : List (ℕ × ℕ) → List (ℕ × ℕ)) (new : Stamps ℕ) where
  pub set_listed : (other : ℕ) (es : List (ℕ × Stamps ℕ)) (old : Stamps ℕ) → lookup (is_at (nat_cmp object)) es ≡ Some old → new.items ≡ change old.items
      → listed (lookup (is_at (nat_cmp other)) (set_value (is_at (nat_cmp object)) es new))
      ≡ (if nat_eq object other then change (listed (lookup (is_at (nat_cmp other)) es)) else listed
      (lookup (is_at (nat_cmp other)) es))
  set_listed other [] old is changed = absurd cc
  set_listed other (p ∷ ps) old is changed =
      rw (key_is object p.0, key_is other p.0)
      (by (nat_eq object p.0) (nat_eq other p.0) (nat_eq object other) refl refl refl
      (ap (λ (b : Bool). if b then Some p.1 else lookup (is_at (nat_cmp object)) ps) (sym (key_is object p.0)) ∙ is)
      (λ more. set_listed other ps old more changed))
    where
      by : (a b c : Bool) → nat_eq object p.0 ≡ a → nat_eq other p.0 ≡ b → nat_eq object other ≡ c → (if a then Some p.1 else lookup (is_at (nat_cmp object)) ps) ≡ Some old
          → (lookup (is_at (nat_cmp object)) ps ≡ Some old
          → listed (lookup (is_at (nat_cmp other)) (set_value (is_at (nat_cmp object)) ps new))
          ≡ (if c then change (listed (lookup (is_at (nat_cmp other)) ps)) else listed
          (lookup (is_at (nat_cmp other)) ps)))
          → listed (lookup (is_at (nat_cmp other)) (if a then (p.0, new) ∷ ps else p ∷ set_value (is_at (nat_cmp object)) ps new))
          ≡ (if c then change (listed (if b then Some p.1 else lookup (is_at (nat_cmp other)) ps)) else listed (if b then Some p.1 else lookup (is_at (nat_cmp other)) ps))
      by true true true e f g here more = let same : p.1 ≡ old = cc in rw (key_is other p.0 ∙ f) (changed ∙ ap (λ (t : Stamps ℕ). change t.items) (sym same))
      by true true false e f g here more = absurd (eqb-false object other g (eqb-true object p.0 e ∙ sym (eqb-true other p.0 f)))
      by true false true e f g here more = absurd (eqb-false other p.0 f (sym (eqb-true object other g) ∙ eqb-true object p.0 e))
      by true false false e f g here more = rw (key_is other p.0 ∙ f) refl
      by false true true e f g here more = absurd (eqb-false object p.0 e (eqb-true object other g ∙ eqb-true other p.0 f))
      by false true false e f g here more = rw (key_is other p.0 ∙ f) refl
      by false false true e f g here more = rw (key_is other p.0 ∙ f) (more here)
      by false false false e f g here more = rw (key_is other p.0 ∙ f) (more here)

pub ruleset cancel_facts = (turn_found, none_found, indexed_cancelled, without_none)
