-- The queues in a row: an entry put where it belongs, and one taken out.
use Rattle.std.proofs.Common.{◌≡◌, ◌≢◌, ◌<◌, ◌≤◌, ◌++◌, ◌∷◌, [], ℕ, suc, Bool, true, false, List, length, drop, Option, Some, None, Result, Ok, Err, slice_get, refl, sym, ap, subst, ◌∙◌}
use Rattle.std.proofs.Common.{inl, inr, arith}
use Rattle.std.specs.Prelude.{◌⊎◌, if◌then◌else◌, nat_eq, unwrap_or, OnOk, OnErr}
use Rattle.std.specs.Option.{option_or}
use Rattle.std.proofs.lemmas.Bool.{eq-eqb}
use Rattle.std.proofs.lemmas.Map.Keys.{ge_from_not_lt}
use Rattle.std.specs.Ordering.{nat_cmp, is_lt, match_ordering}
use Rattle.std.specs.declared.cmp.Ordering.{Ordering}
use Rattle.std.specs.declared.cmp.Ordering.TheVariants.{Less, Equal, Greater}
use Rattle.std.specs.List.{All}
use Rattle.std.specs.Map.{keys_of, lookup, set_value, remove_entry}
use Rattle.std.specs.BTreeMap.{is_at, insert_entry}
use Rattle.std.proofs.lemmas.Bool.Decides.{nat_tests}
use Rattle.std.proofs.lemmas.List.{append-nil}
use Rattle.delay_agenda.specs.declared.entry.Entry.{Entry}
use Rattle.delay_agenda.specs.Order.{is_before, put_entry, HasNone}
use Rattle.delay_agenda.specs.Queues.{QueuesByTime, in_row, queue_at, row_without, AllBefore, numbered, without_number, NoneBefore, AreSorted, AreDue, IsQueue, AreLater, AreQueues, IsHead, StartsAlone}
use Rattle.delay_agenda.proofs.Placing.{put_stops, put_joined, put_behind, sorted_put, none_stops}
use Rattle.delay_agenda.proofs.DueLemmas.{head_numbered}

-- ---- keys

held : {A : Type 0} (a b : A) → Some a ≡ Some b → a ≡ b
held a b same = ap (λ o. unwrap_or o a) same

none_held : {A : Type 0} (a : A) → Some a ≡ None → ⊥
none_held a same = cc

same_due : (due k : ℕ) → is_at (nat_cmp due) k ≡ true → k ≡ due
same_due due k is = grind (arith, nat_tests)

-- where no key is after one that is before the time, none is the time
pub none_at_last : {X : Type 0} (due last : ℕ) (es : List (ℕ × X)) → All (λ q. is_lt (nat_cmp last q) ≡ false) (keys_of es) → last < due
    → lookup (is_at (nat_cmp due)) es ≡ None
none_at_last due last [] all lt = refl
none_at_last due last (e ∷ es) all lt = by (is_at (nat_cmp due) e.0) refl (none_at_last due last es (λ k d inside. all (suc k) d (omega (arith, inside))) lt)
  where
    by : (b : Bool) → is_at (nat_cmp due) e.0 ≡ b → lookup (is_at (nat_cmp due)) es ≡ None → (if b then Some e.1 else lookup (is_at (nat_cmp due)) es) ≡ None
    by true is rest = absurd (omega (arith, lt, same_due due e.0 is, ge_from_not_lt last e.0 (all 0 0 (omega arith))))
    by false is rest = rest

at_same : (due k : ℕ) → k ≡ due → is_at (nat_cmp due) k ≡ true
at_same due k is = grind (arith, nat_tests)

at_other : (due k : ℕ) → k ≢ due → is_at (nat_cmp due) k ≡ false
at_other due k other = grind (arith, nat_tests)

bool_of : (b : Bool) → (b ≡ true) ⊎ (b ≡ false)
bool_of true = inl refl
bool_of false = inr refl

-- ---- entries due at one time

before_due : {X : Type 0} (x e : Entry X) → x.due < e.due → is_before x e ≡ true
before_due x e less = grind (arith, nat_tests)

after_due : {X : Type 0} (x e : Entry X) → e.due < x.due → is_before x e ≡ false
after_due x e less = grind (arith, nat_tests)

all_before_due : {X : Type 0} (e : Entry X) (due : ℕ) (es : List (Entry X)) → AreDue due es → due < e.due → AllBefore e es
all_before_due e due [] dues less = tt
all_before_due e due (x ∷ xs) dues less = (before_due x e (let here = dues.0 in omega (arith, here, less)), all_before_due e due xs dues.1 less)

none_before_due : {X : Type 0} (e : Entry X) (due : ℕ) (es : List (Entry X)) → AreDue due es → e.due < due → NoneBefore e es
none_before_due e due [] dues less = tt
none_before_due e due (x ∷ xs) dues less = (after_due x e (let here = dues.0 in omega (arith, here, less)), none_before_due e due xs dues.1 less)

none_joined : {X : Type 0} (e : Entry X) (xs ys : List (Entry X)) → NoneBefore e xs → NoneBefore e ys → NoneBefore e (xs ++ ys)
none_joined e [] ys left right = right
none_joined e (x ∷ xs) ys left right = (left.0, none_joined e xs ys left.1 right)

-- all entries of later queues come after one that is due earlier
none_later : {X : Type 0} (e : Entry X) (due : ℕ) (qs : QueuesByTime X) → AreQueues qs → AreLater due qs → e.due ≤ due → NoneBefore e (in_row qs)
none_later e due [] queues later less = tt
none_later e due (q ∷ qs) queues later less =
    let here = later.0 in
    none_joined e q.1 (in_row qs) (none_before_due e q.0 q.1 queues.0.together (omega (arith, here, less)))
    (none_later e due qs queues.2 later.1 less)

sorted_joined : {X : Type 0} (xs ys : List (Entry X)) (due : ℕ) → AreSorted xs → AreSorted ys → AreDue due xs
    → ((e : Entry X) → e.due ≤ due → NoneBefore e ys) → AreSorted (xs ++ ys)
sorted_joined [] ys due left right dues over = right
sorted_joined (x ∷ xs) ys due left right dues over =
    (none_joined x xs ys left.0 (over x (let here = dues.0 in omega (arith, here))), sorted_joined xs ys due left.1 right dues.1 over)

pub sorted_row : {X : Type 0} (qs : QueuesByTime X) → AreQueues qs → AreSorted (in_row qs)
sorted_row [] queues = tt
sorted_row (q ∷ qs) queues =
    sorted_joined q.1 (in_row qs) q.0 queues.0.sorted (sorted_row qs queues.2) queues.0.together
    (λ e less. none_later e q.0 qs queues.2 queues.1 less)

-- ---- one entry put

due_put_if : {X : Type 0} (b : Bool) (due : ℕ) (e x : Entry X) (rest more : List (Entry X)) → e.due ≡ due → AreDue due (x ∷ rest) → AreDue due more
    → AreDue due (if b then x ∷ more else e ∷ x ∷ rest)
due_put_if true due e x rest more here dues next = (dues.0, next)
due_put_if false due e x rest more here dues next = (here, dues)

due_put : {X : Type 0} (due : ℕ) (e : Entry X) (es : List (Entry X)) → e.due ≡ due → AreDue due es → AreDue due (put_entry e es)
due_put due e [] here dues = (here, tt)
due_put due e (x ∷ rest) here dues = due_put_if (is_before x e) due e x rest (put_entry e rest) here dues (due_put due e rest here dues.1)

filled_if : {X : Type 0} (b : Bool) (e x : Entry X) (rest more : List (Entry X)) → (if b then x ∷ more else e ∷ x ∷ rest) ≢ []
filled_if true e x rest more is = cc
filled_if false e x rest more is = cc

filled_put : {X : Type 0} (e : Entry X) (es : List (Entry X)) → put_entry e es ≢ []
filled_put e [] is = cc
filled_put e (x ∷ rest) is = filled_if (is_before x e) e x rest (put_entry e rest) is

pub queue_put : {X : Type 0} (due : ℕ) (e : Entry X) (es now : List (Entry X)) → IsQueue due es → e.due ≡ due → now ≡ put_entry e es → IsQueue due now
queue_put due e es now queue here is = subst (λ t. IsQueue due t) (sym is) (record {
  filled = filled_put e es;
  together = due_put due e es here queue.together;
  sorted = sorted_put e es queue.sorted;
})

pub queue_one : {X : Type 0} (e : Entry X) (now : List (Entry X)) → now ≡ e ∷ [] → IsQueue e.due now
queue_one e now is = subst (λ t. IsQueue e.due t) (sym is) (record { filled = λ same. cc; together = (refl, tt); sorted = (tt, tt) })

-- a queue that is found in a row of later ones is later
later_found : {X : Type 0} (from due : ℕ) (qs : QueuesByTime X) (q : List (Entry X)) → AreLater from qs → lookup (is_at (nat_cmp due)) qs ≡ Some q → from < due
later_found from due [] q later is = absurd (none_held q (sym is))
later_found from due (p ∷ ps) q later is = by (bool_of (is_at (nat_cmp due) p.0)) (λ other. later_found from due ps q later.1 other)
  where
    by : ((is_at (nat_cmp due) p.0 ≡ true) ⊎ (is_at (nat_cmp due) p.0 ≡ false)) → ((lookup (is_at (nat_cmp due)) ps ≡ Some q) → from < due) → from < due
    by (inl here_is) more = let same = same_due due p.0 here_is in let here = later.0 in omega (arith, same, here)
    by (inr not_here) more = more (sym (ap (λ (b : Bool). if b then Some p.1 else lookup (is_at (nat_cmp due)) ps) not_here) ∙ is)

found_here : {X : Type 0} (due : ℕ) (p : ℕ × List (Entry X)) (ps : QueuesByTime X) (q : List (Entry X)) → is_at (nat_cmp due) p.0 ≡ true
    → lookup (is_at (nat_cmp due)) (p ∷ ps) ≡ Some q → p.1 ≡ q
found_here due p ps q here_is is =
    held p.1 q (sym (ap (λ (b : Bool). if b then Some p.1 else lookup (is_at (nat_cmp due)) ps) here_is) ∙ is)

found_there : {X : Type 0} (due : ℕ) (p : ℕ × List (Entry X)) (ps : QueuesByTime X) (q : Option (List (Entry X))) → is_at (nat_cmp due) p.0 ≡ false
    → lookup (is_at (nat_cmp due)) (p ∷ ps) ≡ q → lookup (is_at (nat_cmp due)) ps ≡ q
found_there due p ps q not_here is = sym (ap (λ (b : Bool). if b then Some p.1 else lookup (is_at (nat_cmp due)) ps) not_here) ∙ is

set_here : {X : Type 0} (due : ℕ) (p : ℕ × List (Entry X)) (ps : QueuesByTime X) (new : List (Entry X)) → is_at (nat_cmp due) p.0 ≡ true
    → set_value (is_at (nat_cmp due)) (p ∷ ps) new ≡ (p.0, new) ∷ ps
set_here due p ps new here_is = ap (λ (b : Bool). if b then (p.0, new) ∷ ps else p ∷ set_value (is_at (nat_cmp due)) ps new) here_is

set_there : {X : Type 0} (due : ℕ) (p : ℕ × List (Entry X)) (ps : QueuesByTime X) (new : List (Entry X)) → is_at (nat_cmp due) p.0 ≡ false
    → set_value (is_at (nat_cmp due)) (p ∷ ps) new ≡ p ∷ set_value (is_at (nat_cmp due)) ps new
set_there due p ps new not_here = ap (λ (b : Bool). if b then (p.0, new) ∷ ps else p ∷ set_value (is_at (nat_cmp due)) ps new) not_here

put_here : {X : Type 0} (due : ℕ) (p : ℕ × List (Entry X)) (ps : QueuesByTime X) (q new : List (Entry X)) (e : Entry X)
    → AreQueues (p ∷ ps) → e.due ≡ due → new ≡ put_entry e q → lookup (is_at (nat_cmp due)) (p ∷ ps) ≡ Some q
    → (lookup (is_at (nat_cmp due)) ps ≡ Some q → in_row (set_value (is_at (nat_cmp due)) ps new) ≡ put_entry e (in_row ps))
    → (is_at (nat_cmp due) p.0 ≡ true) ⊎ (is_at (nat_cmp due) p.0 ≡ false)
    → in_row (set_value (is_at (nat_cmp due)) (p ∷ ps) new) ≡ put_entry e (in_row (p ∷ ps))
put_here due p ps q new e queues here is found next (inl here_is) =
    let same = same_due due p.0 here_is in
    let none = none_later e p.0 ps queues.2 queues.1 (omega (arith, same, here)) in
    ap in_row (set_here due p ps new here_is)
    ∙ ap (λ t. t ++ in_row ps) (is ∙ ap (λ v. put_entry e v) (sym (found_here due p ps q here_is found)))
    ∙ sym (put_joined e p.1 (in_row ps) (none_stops e (in_row ps) none))
put_here due p ps q new e queues here is found next (inr not_here) =
    let other = found_there due p ps (Some q) not_here found in
    let less = later_found p.0 due ps q queues.1 other in
    ap in_row (set_there due p ps new not_here)
    ∙ ap (λ t. p.1 ++ t) (next other)
    ∙ sym (put_behind e p.1 (in_row ps) (all_before_due e p.0 p.1 queues.0.together (omega (arith, less, here))))

pub put_found : {X : Type 0} (due : ℕ) (qs : QueuesByTime X) (q new : List (Entry X)) (e : Entry X)
    → AreQueues qs → e.due ≡ due → new ≡ put_entry e q → lookup (is_at (nat_cmp due)) qs ≡ Some q
    → in_row (set_value (is_at (nat_cmp due)) qs new) ≡ put_entry e (in_row qs)
put_found due [] q new e queues here is found = absurd (none_held q (sym found))
put_found due (p ∷ ps) q new e queues here is found =
    put_here due p ps q new e queues here is found (λ other. put_found due ps q new e queues.2 here is other) (bool_of (is_at (nat_cmp due) p.0))

-- the row with one queue changed
later_set : {X : Type 0} (from due : ℕ) (qs : QueuesByTime X) (new : List (Entry X)) → AreLater from qs → AreLater from (set_value (is_at (nat_cmp due)) qs new)
later_set from due [] new later = tt
later_set from due (p ∷ ps) new later = by (is_at (nat_cmp due) p.0) (later_set from due ps new later.1)
  where
    by : (b : Bool) → AreLater from (set_value (is_at (nat_cmp due)) ps new) → AreLater from (if b then (p.0, new) ∷ ps else p ∷ set_value (is_at (nat_cmp due)) ps new)
    by true more = (later.0, later.1)
    by false more = (later.0, more)

queues_here : {X : Type 0} (due : ℕ) (p : ℕ × List (Entry X)) (ps : QueuesByTime X) (q new : List (Entry X))
    → AreQueues (p ∷ ps) → (IsQueue due q → IsQueue due new) → lookup (is_at (nat_cmp due)) (p ∷ ps) ≡ Some q
    → (lookup (is_at (nat_cmp due)) ps ≡ Some q → AreQueues (set_value (is_at (nat_cmp due)) ps new))
    → (is_at (nat_cmp due) p.0 ≡ true) ⊎ (is_at (nat_cmp due) p.0 ≡ false)
    → AreQueues (set_value (is_at (nat_cmp due)) (p ∷ ps) new)
queues_here due p ps q new queues kept found next (inl here_is) =
    let same = same_due due p.0 here_is in
    let old : IsQueue due q =
    subst (λ v. IsQueue due v) (found_here due p ps q here_is found) (subst (λ k. IsQueue k p.1) same queues.0) in
    subst (λ t. AreQueues t) (sym (set_here due p ps new here_is))
    (subst (λ k. IsQueue k new) (sym same) (kept old), queues.1, queues.2)
queues_here due p ps q new queues kept found next (inr not_here) =
    subst (λ t. AreQueues t) (sym (set_there due p ps new not_here))
    (queues.0, later_set p.0 due ps new queues.1, next (found_there due p ps (Some q) not_here found))

pub queues_found : {X : Type 0} (due : ℕ) (qs : QueuesByTime X) (q new : List (Entry X))
    → AreQueues qs → (IsQueue due q → IsQueue due new) → lookup (is_at (nat_cmp due)) qs ≡ Some q
    → AreQueues (set_value (is_at (nat_cmp due)) qs new)
queues_found due [] q new queues kept found = tt
queues_found due (p ∷ ps) q new queues kept found =
    queues_here due p ps q new queues kept found (λ other. queues_found due ps q new queues.2 kept other) (bool_of (is_at (nat_cmp due) p.0))

pub queue_found : {X : Type 0} (due : ℕ) (qs : QueuesByTime X) (q : List (Entry X)) → AreQueues qs → lookup (is_at (nat_cmp due)) qs ≡ Some q → IsQueue due q
queue_found due [] q queues found = absurd (none_held q (sym found))
queue_found due (p ∷ ps) q queues found = by (bool_of (is_at (nat_cmp due) p.0)) (λ other. queue_found due ps q queues.2 other)
  where
    by : ((is_at (nat_cmp due) p.0 ≡ true) ⊎ (is_at (nat_cmp due) p.0 ≡ false)) → ((lookup (is_at (nat_cmp due)) ps ≡ Some q) → IsQueue due q) → IsQueue due q
    by (inl here_is) more =
        subst (λ v. IsQueue due v) (found_here due p ps q here_is found)
        (subst (λ k. IsQueue k p.1) (same_due due p.0 here_is) queues.0)
    by (inr not_here) more = more (found_there due p ps (Some q) not_here found)

-- a number that none of the row has none of a queue has
none_parts : {X : Type 0} (n : ℕ) (xs ys : List (Entry X)) → HasNone n (xs ++ ys) → HasNone n xs × HasNone n ys
none_parts n [] ys none = (tt, none)
none_parts n (x ∷ xs) ys none = let more = none_parts n xs ys none.1 in ((none.0, more.0), more.1)

pub new_found : {X : Type 0} (n due : ℕ) (qs : QueuesByTime X) (q : List (Entry X)) → HasNone n (in_row qs) → lookup (is_at (nat_cmp due)) qs ≡ Some q → HasNone n q
new_found n due [] q none found = absurd (none_held q (sym found))
new_found n due (p ∷ ps) q none found = by (bool_of (is_at (nat_cmp due) p.0)) (λ other. new_found n due ps q (none_parts n p.1 (in_row ps) none).1 other)
  where
    by : ((is_at (nat_cmp due) p.0 ≡ true) ⊎ (is_at (nat_cmp due) p.0 ≡ false)) → ((lookup (is_at (nat_cmp due)) ps ≡ Some q) → HasNone n q) → HasNone n q
    by (inl here_is) more = subst (HasNone n) (found_here due p ps q here_is found) (none_parts n p.1 (in_row ps) none).0
    by (inr not_here) more = more (found_there due p ps (Some q) not_here found)

set_same : {X : Type 0} (due : ℕ) (qs : QueuesByTime X) (q new : List (Entry X)) → lookup (is_at (nat_cmp due)) qs ≡ Some q → new ≡ q
    → in_row (set_value (is_at (nat_cmp due)) qs new) ≡ in_row qs
set_same due [] q new found is = refl
set_same due (p ∷ ps) q new found is = by (bool_of (is_at (nat_cmp due) p.0)) (λ other. set_same due ps q new other is)
  where
    by : ((is_at (nat_cmp due) p.0 ≡ true) ⊎ (is_at (nat_cmp due) p.0 ≡ false))
        → ((lookup (is_at (nat_cmp due)) ps ≡ Some q) → in_row (set_value (is_at (nat_cmp due)) ps new) ≡ in_row ps)
        → in_row (set_value (is_at (nat_cmp due)) (p ∷ ps) new) ≡ in_row (p ∷ ps)
    by (inl here_is) more =
        ap in_row (set_here due p ps new here_is)
        ∙ ap (λ t. t ++ in_row ps) (is ∙ ap (λ v. v) (sym (found_here due p ps q here_is found)))
    by (inr not_here) more = ap in_row (set_there due p ps new not_here) ∙ ap (λ t. p.1 ++ t) (more (found_there due p ps (Some q) not_here found))

-- what becomes of the row by a put into a queue, with room or without
pub put_result : {X E : Type 0} (result : Result (Unit {0}) E) (due : ℕ) (qs now : QueuesByTime X) (q new : List (Entry X)) (e : Entry X)
    → now ≡ set_value (is_at (nat_cmp due)) qs new → AreQueues qs → e.due ≡ due → lookup (is_at (nat_cmp due)) qs ≡ Some q
    → OnOk result (new ≡ put_entry e q) → OnErr result (new ≡ q)
    → OnOk result (in_row now ≡ put_entry e (in_row qs)) × OnErr result (in_row now ≡ in_row qs) × AreQueues now
put_result (Ok x) due qs now q new e is queues here found ok err = (
  ap in_row is ∙ put_found due qs q new e queues here ok found,
  tt,
  subst (λ t. AreQueues t) (sym is) (queues_found due qs q new queues (λ queue. queue_put due e q new queue here ok) found),
)
put_result (Err x) due qs now q new e is queues here found ok err = (
  tt,
  ap in_row is ∙ set_same due qs q new found err,
  subst (λ t. AreQueues t) (sym is) (queues_found due qs q new queues (λ queue. subst (λ t. IsQueue due t) (sym err) queue) found),
)

-- ---- one queue more

later_all : {X : Type 0} (from due : ℕ) (qs : QueuesByTime X) → from < due → AreLater due qs → AreLater from qs
later_all from due [] less later = tt
later_all from due (p ∷ ps) less later = (let here = later.0 in omega (arith, less, here), later_all from due ps less later.1)

Inserted : {X : Type 0} (due : ℕ) (qs : QueuesByTime X) (new : List (Entry X)) (e : Entry X) (now : QueuesByTime X) → Type 0
Inserted due qs new e now = (in_row now ≡ put_entry e (in_row qs)) × AreQueues now × ((from : ℕ) → from < due → AreLater from qs → AreLater from now)

insert_case : {X : Type 0} (due : ℕ) (p : ℕ × List (Entry X)) (ps : QueuesByTime X) (new : List (Entry X)) (e : Entry X)
    → AreQueues (p ∷ ps) → e.due ≡ due → new ≡ e ∷ [] → IsQueue due new
    → lookup (is_at (nat_cmp due)) (p ∷ ps) ≡ None
    → (lookup (is_at (nat_cmp due)) ps ≡ None → Inserted due ps new e (insert_entry nat_cmp ps due new))
    → (order : Ordering) → nat_cmp due p.0 ≡ order
    → Inserted due (p ∷ ps) new e (match_ordering order ((due, new) ∷ p ∷ ps) ((p.0, new) ∷ ps) (p ∷ insert_entry nat_cmp ps due new))
unfolding Inserted
insert_case due p ps new e queues here one queue none next Less is =
    let less : due < p.0 = grind (arith, nat_tests) in
    let later : AreLater due (p ∷ ps) = (less, later_all due p.0 ps less queues.1) in (
      ap (λ t. t ++ in_row (p ∷ ps)) one
          ∙ sym (put_stops e (in_row (p ∷ ps)) (none_stops e (in_row (p ∷ ps)) (none_later e due (p ∷ ps) queues later (omega (arith, here))))),
      (queue, later, queues),
      (λ from under over. (under, over)),
    )
insert_case due p ps new e queues here one queue none next Equal is =
    let same : p.0 ≡ due = grind (arith, nat_tests) in
    absurd (none_held p.1 (sym (ap (λ (b : Bool). if b then Some p.1 else lookup (is_at (nat_cmp due)) ps) (at_same due p.0 same)) ∙ none))
insert_case due p ps new e queues here one queue none next Greater is =
    let less : p.0 < due = grind (arith, nat_tests) in
    let rest = next (found_there due p ps None (at_other due p.0 (λ same. omega (arith, same, less))) none) in (
      ap (λ t. p.1 ++ t) rest.0
          ∙ sym (put_behind e p.1 (in_row ps) (all_before_due e p.0 p.1 queues.0.together (omega (arith, less, here)))),
      (queues.0, rest.2 p.0 less queues.1, rest.1),
      (λ from under over. (over.0, rest.2 from under over.1)),
    )

inserted : {X : Type 0} (due : ℕ) (qs : QueuesByTime X) (new : List (Entry X)) (e : Entry X) → AreQueues qs → e.due ≡ due
    → new ≡ e ∷ [] → IsQueue due new → lookup (is_at (nat_cmp due)) qs ≡ None → Inserted due qs new e (insert_entry nat_cmp qs due new)
unfolding Inserted
inserted due [] new e queues here one queue none = (append-nil new ∙ one, (queue, tt, tt), (λ from under over. (under, tt)))
inserted due (p ∷ ps) new e queues here one queue none =
    insert_case due p ps new e queues here one queue none (λ other. inserted due ps new e queues.2 here one queue other) (nat_cmp due p.0) refl

pub put_new : {X : Type 0} (due : ℕ) (qs : QueuesByTime X) (new : List (Entry X)) (e : Entry X) → AreQueues qs → e.due ≡ due
    → new ≡ e ∷ [] → lookup (is_at (nat_cmp due)) qs ≡ None
    → (in_row (insert_entry nat_cmp qs due new) ≡ put_entry e (in_row qs)) × AreQueues (insert_entry nat_cmp qs due new)
unfolding Inserted
put_new due qs new e queues here one none =
    let all = inserted due qs new e queues here one (subst (λ k. IsQueue k new) here (queue_one e new one)) none in (all.0, all.1)

-- ---- one entry taken out

none_cut : {X : Type 0} (e : Entry X) (n : ℕ) (es : List (Entry X)) → NoneBefore e es → NoneBefore e (without_number n es)
none_cut e n [] none = tt
none_cut e n (x ∷ xs) none = by (nat_eq x.number n) (none_cut e n xs none.1)
  where
    by : (b : Bool) → NoneBefore e (without_number n xs) → NoneBefore e (if b then xs else x ∷ without_number n xs)
    by true more = none.1
    by false more = (none.0, more)

sorted_cut : {X : Type 0} (n : ℕ) (es : List (Entry X)) → AreSorted es → AreSorted (without_number n es)
sorted_cut n [] sorted = tt
sorted_cut n (x ∷ xs) sorted = by (nat_eq x.number n) (sorted_cut n xs sorted.1)
  where
    by : (b : Bool) → AreSorted (without_number n xs) → AreSorted (if b then xs else x ∷ without_number n xs)
    by true more = sorted.1
    by false more = (none_cut x n xs sorted.0, more)

due_cut : {X : Type 0} (due n : ℕ) (es : List (Entry X)) → AreDue due es → AreDue due (without_number n es)
due_cut due n [] dues = tt
due_cut due n (x ∷ xs) dues = by (nat_eq x.number n) (due_cut due n xs dues.1)
  where
    by : (b : Bool) → AreDue due (without_number n xs) → AreDue due (if b then xs else x ∷ without_number n xs)
    by true more = dues.1
    by false more = (dues.0, more)

pub queue_cut : {X : Type 0} (due at : ℕ) (es now : List (Entry X)) → IsQueue due es → now ≡ without_number at es → now ≢ [] → IsQueue due now
queue_cut due at es now queue is filled = record {
  filled = filled;
  together = subst (λ t. AreDue due t) (sym is) (due_cut due at es queue.together);
  sorted = subst (λ t. AreSorted t) (sym is) (sorted_cut at es queue.sorted);
}

pub queue_at_is : {X : Type 0} (due : ℕ) (qs : QueuesByTime X) (q : List (Entry X)) → lookup (is_at (nat_cmp due)) qs ≡ Some q → queue_at due qs ≡ q
queue_at_is due [] q found = absurd (none_held q (sym found))
queue_at_is due (p ∷ ps) q found = by (bool_of (is_at (nat_cmp due) p.0)) (λ other. queue_at_is due ps q other)
  where
    by : ((is_at (nat_cmp due) p.0 ≡ true) ⊎ (is_at (nat_cmp due) p.0 ≡ false)) → ((lookup (is_at (nat_cmp due)) ps ≡ Some q) → queue_at due ps ≡ q)
        → queue_at due (p ∷ ps) ≡ q
    by (inl here_is) more =
        ap (λ (b : Bool). if b then p.1 else queue_at due ps) here_is ∙ ap (λ v. v) (found_here due p ps q here_is found)
    by (inr not_here) more =
        ap (λ (b : Bool). if b then p.1 else queue_at due ps) not_here ∙ more (found_there due p ps (Some q) not_here found)

pub queue_at_none : {X : Type 0} (due : ℕ) (qs : QueuesByTime X) → lookup (is_at (nat_cmp due)) qs ≡ None → queue_at due qs ≡ []
queue_at_none due [] none = refl
queue_at_none due (p ∷ ps) none = by (bool_of (is_at (nat_cmp due) p.0)) (λ other. queue_at_none due ps other)
  where
    by : ((is_at (nat_cmp due) p.0 ≡ true) ⊎ (is_at (nat_cmp due) p.0 ≡ false)) → ((lookup (is_at (nat_cmp due)) ps ≡ None) → queue_at due ps ≡ [])
        → queue_at due (p ∷ ps) ≡ []
    by (inl here_is) more =
        absurd (none_held p.1 (sym (ap (λ (b : Bool). if b then Some p.1 else lookup (is_at (nat_cmp due)) ps) here_is) ∙ none))
    by (inr not_here) more =
        ap (λ (b : Bool). if b then p.1 else queue_at due ps) not_here ∙ more (found_there due p ps None not_here none)

without_here : {X : Type 0} (due at : ℕ) (p : ℕ × List (Entry X)) (ps : QueuesByTime X) → is_at (nat_cmp due) p.0 ≡ true
    → row_without due at (p ∷ ps) ≡ without_number at p.1 ++ in_row ps
without_here due at p ps here_is = ap (λ (b : Bool). if b then without_number at p.1 ++ in_row ps else p.1 ++ row_without due at ps) here_is

without_there : {X : Type 0} (due at : ℕ) (p : ℕ × List (Entry X)) (ps : QueuesByTime X) → is_at (nat_cmp due) p.0 ≡ false
    → row_without due at (p ∷ ps) ≡ p.1 ++ row_without due at ps
without_there due at p ps not_here = ap (λ (b : Bool). if b then without_number at p.1 ++ in_row ps else p.1 ++ row_without due at ps) not_here

taken_row : {X : Type 0} (due at : ℕ) (qs : QueuesByTime X) (q new : List (Entry X)) → lookup (is_at (nat_cmp due)) qs ≡ Some q
    → new ≡ without_number at q → in_row (set_value (is_at (nat_cmp due)) qs new) ≡ row_without due at qs
taken_row due at [] q new found is = refl
taken_row due at (p ∷ ps) q new found is = by (bool_of (is_at (nat_cmp due) p.0)) (λ other. taken_row due at ps q new other is)
  where
    by : ((is_at (nat_cmp due) p.0 ≡ true) ⊎ (is_at (nat_cmp due) p.0 ≡ false))
        → ((lookup (is_at (nat_cmp due)) ps ≡ Some q) → in_row (set_value (is_at (nat_cmp due)) ps new) ≡ row_without due at ps)
        → in_row (set_value (is_at (nat_cmp due)) (p ∷ ps) new) ≡ row_without due at (p ∷ ps)
    by (inl here_is) more =
        ap in_row (set_here due p ps new here_is)
        ∙ ap (λ t. t ++ in_row ps) (is ∙ ap (λ v. without_number at v) (sym (found_here due p ps q here_is found)))
        ∙ sym (without_here due at p ps here_is)
    by (inr not_here) more =
        ap in_row (set_there due p ps new not_here)
        ∙ ap (λ t. p.1 ++ t) (more (found_there due p ps (Some q) not_here found))
        ∙ sym (without_there due at p ps not_here)

cut_here : {X : Type 0} (due : ℕ) (p : ℕ × List (Entry X)) (ps : QueuesByTime X) → is_at (nat_cmp due) p.0 ≡ true
    → remove_entry (is_at (nat_cmp due)) (p ∷ ps) ≡ ps
cut_here due p ps here_is = ap (λ (b : Bool). if b then ps else p ∷ remove_entry (is_at (nat_cmp due)) ps) here_is

cut_there : {X : Type 0} (due : ℕ) (p : ℕ × List (Entry X)) (ps : QueuesByTime X) → is_at (nat_cmp due) p.0 ≡ false
    → remove_entry (is_at (nat_cmp due)) (p ∷ ps) ≡ p ∷ remove_entry (is_at (nat_cmp due)) ps
cut_there due p ps not_here = ap (λ (b : Bool). if b then ps else p ∷ remove_entry (is_at (nat_cmp due)) ps) not_here

-- a queue that was emptied and is taken out
cut_set : {X : Type 0} (due : ℕ) (qs : QueuesByTime X) (q new : List (Entry X)) → lookup (is_at (nat_cmp due)) qs ≡ Some q
    → remove_entry (is_at (nat_cmp due)) (set_value (is_at (nat_cmp due)) qs new) ≡ remove_entry (is_at (nat_cmp due)) qs
cut_set due [] q new found = refl
cut_set due (p ∷ ps) q new found = by (bool_of (is_at (nat_cmp due) p.0)) (λ other. cut_set due ps q new other)
  where
    by : ((is_at (nat_cmp due) p.0 ≡ true) ⊎ (is_at (nat_cmp due) p.0 ≡ false))
        → ((lookup (is_at (nat_cmp due)) ps ≡ Some q) → remove_entry (is_at (nat_cmp due)) (set_value (is_at (nat_cmp due)) ps new) ≡ remove_entry (is_at (nat_cmp due)) ps)
        → remove_entry (is_at (nat_cmp due)) (set_value (is_at (nat_cmp due)) (p ∷ ps) new) ≡ remove_entry (is_at (nat_cmp due)) (p ∷ ps)
    by (inl here_is) more =
        ap (remove_entry (is_at (nat_cmp due))) (set_here due p ps new here_is)
        ∙ cut_here due (p.0, new) ps here_is
        ∙ sym (cut_here due p ps here_is)
    by (inr not_here) more =
        ap (remove_entry (is_at (nat_cmp due))) (set_there due p ps new not_here)
        ∙ cut_there due p (set_value (is_at (nat_cmp due)) ps new) not_here
        ∙ ap (λ t. p ∷ t) (more (found_there due p ps (Some q) not_here found))
        ∙ sym (cut_there due p ps not_here)

cut_row : {X : Type 0} (due at : ℕ) (qs : QueuesByTime X) (q : List (Entry X)) → lookup (is_at (nat_cmp due)) qs ≡ Some q
    → without_number at q ≡ [] → in_row (remove_entry (is_at (nat_cmp due)) qs) ≡ row_without due at qs
cut_row due at [] q found is = refl
cut_row due at (p ∷ ps) q found is = by (bool_of (is_at (nat_cmp due) p.0)) (λ other. cut_row due at ps q other is)
  where
    by : ((is_at (nat_cmp due) p.0 ≡ true) ⊎ (is_at (nat_cmp due) p.0 ≡ false))
        → ((lookup (is_at (nat_cmp due)) ps ≡ Some q) → in_row (remove_entry (is_at (nat_cmp due)) ps) ≡ row_without due at ps)
        → in_row (remove_entry (is_at (nat_cmp due)) (p ∷ ps)) ≡ row_without due at (p ∷ ps)
    by (inl here_is) more =
        ap in_row (cut_here due p ps here_is)
        ∙ ap (λ t. t ++ in_row ps) (sym is ∙ ap (λ v. without_number at v) (sym (found_here due p ps q here_is found)))
        ∙ sym (without_here due at p ps here_is)
    by (inr not_here) more =
        ap in_row (cut_there due p ps not_here)
        ∙ ap (λ t. p.1 ++ t) (more (found_there due p ps (Some q) not_here found))
        ∙ sym (without_there due at p ps not_here)

later_cut : {X : Type 0} (from due : ℕ) (qs : QueuesByTime X) → AreLater from qs → AreLater from (remove_entry (is_at (nat_cmp due)) qs)
later_cut from due [] later = tt
later_cut from due (p ∷ ps) later = by (is_at (nat_cmp due) p.0) (later_cut from due ps later.1)
  where
    by : (b : Bool) → AreLater from (remove_entry (is_at (nat_cmp due)) ps) → AreLater from (if b then ps else p ∷ remove_entry (is_at (nat_cmp due)) ps)
    by true more = later.1
    by false more = (later.0, more)

queues_cut : {X : Type 0} (due : ℕ) (qs : QueuesByTime X) → AreQueues qs → AreQueues (remove_entry (is_at (nat_cmp due)) qs)
queues_cut due [] queues = tt
queues_cut due (p ∷ ps) queues = by (is_at (nat_cmp due) p.0) (queues_cut due ps queues.2)
  where
    by : (b : Bool) → AreQueues (remove_entry (is_at (nat_cmp due)) ps) → AreQueues (if b then ps else p ∷ remove_entry (is_at (nat_cmp due)) ps)
    by true more = queues.2
    by false more = (queues.0, later_cut p.0 due ps queues.1, more)

pub cut_is : {X : Type 0} (due at : ℕ) (qs written now : QueuesByTime X) (q new : List (Entry X)) → AreQueues qs → lookup (is_at (nat_cmp due)) qs ≡ Some q
    → new ≡ without_number at q → new ≡ [] → written ≡ set_value (is_at (nat_cmp due)) qs new
    → now ≡ remove_entry (is_at (nat_cmp due)) written → (in_row now ≡ row_without due at qs) × AreQueues now
cut_is due at qs written now q new queues found is empty written_is now_is =
    let whole = now_is ∙ ap (remove_entry (is_at (nat_cmp due))) written_is ∙ cut_set due qs q new found in
    (ap in_row whole ∙ cut_row due at qs q found (sym is ∙ empty), subst (λ t. AreQueues t) (sym whole) (queues_cut due qs queues))

pub kept_is : {X : Type 0} (due at : ℕ) (qs now : QueuesByTime X) (q new : List (Entry X)) → AreQueues qs → lookup (is_at (nat_cmp due)) qs ≡ Some q
    → new ≡ without_number at q → new ≢ [] → now ≡ set_value (is_at (nat_cmp due)) qs new
    → (in_row now ≡ row_without due at qs) × AreQueues now
kept_is due at qs now q new queues found is filled now_is = (
  ap in_row now_is ∙ taken_row due at qs q new found is,
  subst (λ t. AreQueues t) (sym now_is) (queues_found due qs q new queues (λ queue. queue_cut due at q new queue is filled) found),
)

-- ---- the first queue

pub first_filled : {X : Type 0} (due : ℕ) (q : List (Entry X)) (qs : QueuesByTime X) → AreQueues qs → slice_get qs 0 ≡ Some (due, q) → q ≢ []
first_filled due q [] queues is = absurd (none_held (due, q) (sym is))
first_filled due q (p ∷ ps) queues is = subst (λ t. t.1 ≢ []) (held p (due, q) is) queues.0.filled

head_joined : {X : Type 0} (due number : ℕ) (xs ys : List (Entry X)) → IsHead due number xs → IsHead due number (xs ++ ys)
head_joined due number [] ys head = absurd head
head_joined due number (x ∷ xs) ys head = head

pub head_is : {X : Type 0} (due : ℕ) (q : List (Entry X)) (own number : ℕ) (qs : QueuesByTime X) → slice_get qs 0 ≡ Some (due, q) → IsHead own number q → IsHead own number (in_row qs)
head_is due q own number [] is head = absurd (none_held (due, q) (sym is))
head_is due q own number (p ∷ ps) is head = head_joined own number p.1 (in_row ps) (subst (λ t. IsHead own number t.1) (sym (held p (due, q) is)) head)

at_first : {X : Type 0} (due : ℕ) (p : ℕ × List (Entry X)) (ps : QueuesByTime X) → p.0 ≡ due → queue_at due (p ∷ ps) ≡ p.1
at_first due p ps first = ap (λ (b : Bool). if b then p.1 else queue_at due ps) (at_same due p.0 first)

-- the head of the row is that of the first queue
first_due_is : {X : Type 0} (k due number : ℕ) (es rest : List (Entry X)) → es ≢ [] → AreDue k es → IsHead due number (es ++ rest) → (k ≡ due) × IsHead due number es
first_due_is k due number [] rest filled dues head = absurd (filled refl)
first_due_is k due number (e ∷ es) rest filled dues head = (sym dues.0 ∙ head.0, head)

pub first_there : {X : Type 0} (due number : ℕ) (qs : QueuesByTime X) → AreQueues qs → IsHead due number (in_row qs) → queue_at due qs ≢ []
first_there due number [] queues head = absurd head
first_there due number (p ∷ ps) queues head =
    let own = first_due_is p.0 due number p.1 (in_row ps) queues.0.filled queues.0.together head in
    λ empty. queues.0.filled (sym (at_first due p ps own.0) ∙ empty)

got_of : {X : Type 0} (xs ys : List X) → xs ≢ [] → slice_get xs 0 ≡ slice_get (xs ++ ys) 0
got_of [] ys filled = absurd (filled refl)
got_of (x ∷ xs) ys filled = refl

pub first_head : {X : Type 0} (due number : ℕ) (qs : QueuesByTime X) → AreQueues qs → IsHead due number (in_row qs) → numbered number (queue_at due qs) ≡ slice_get (in_row qs) 0
first_head due number [] queues head = absurd head
first_head due number (p ∷ ps) queues head =
    let own = first_due_is p.0 due number p.1 (in_row ps) queues.0.filled queues.0.together head in
    ap (numbered number) (at_first due p ps own.0) ∙ head_numbered due number p.1 own.1 ∙ got_of p.1 (in_row ps) queues.0.filled

tail_of : {X : Type 0} (due number : ℕ) (xs ys : List (Entry X)) → IsHead due number xs → without_number number xs ++ ys ≡ drop 1 (xs ++ ys)
tail_of due number [] ys head = absurd head
tail_of due number (x ∷ xs) ys head = ap (λ (b : Bool). (if b then xs else x ∷ without_number number xs) ++ ys) (eq-eqb x.number number head.1)

pub first_left : {X : Type 0} (due number : ℕ) (qs : QueuesByTime X) → AreQueues qs → IsHead due number (in_row qs) → row_without due number qs ≡ drop 1 (in_row qs)
first_left due number [] queues head = absurd head
first_left due number (p ∷ ps) queues head =
    let own = first_due_is p.0 due number p.1 (in_row ps) queues.0.filled queues.0.together head in
    without_here due number p ps (at_same due p.0 own.0) ∙ tail_of due number p.1 (in_row ps) own.1

-- ---- an entry of the row in its queue

none_due : {X : Type 0} (due number : ℕ) (e : Entry X) (es : List (Entry X)) (k : ℕ) → AreDue k es → numbered number es ≡ Some e → e.due ≡ k
none_due due number e [] k dues is = absurd cc
none_due due number e (x ∷ xs) k dues is = by (nat_eq x.number number) is (none_due due number e xs k dues.1)
  where
    by : (b : Bool) → (if b then Some x else numbered number xs) ≡ Some e → (numbered number xs ≡ Some e → e.due ≡ k) → e.due ≡ k
    by true here more = let same : x ≡ e = cc in ap (λ (t : Entry _). t.due) (sym same) ∙ dues.0
    by false here more = more here

joined_numbered : {X : Type 0} (number : ℕ) (xs ys : List (Entry X)) (o : Option (Entry X)) → numbered number xs ≡ o → numbered number (xs ++ ys) ≡ option_or o (numbered number ys)
joined_numbered number [] ys o is = ap (λ t. option_or t (numbered number ys)) is
joined_numbered number (x ∷ xs) ys o is = by (nat_eq x.number number) is (λ e. joined_numbered number xs ys o e)
  where
    by : (b : Bool) → (if b then Some x else numbered number xs) ≡ o → (numbered number xs ≡ o → numbered number (xs ++ ys) ≡ option_or o (numbered number ys))
        → (if b then Some x else numbered number (xs ++ ys)) ≡ option_or o (numbered number ys)
    by true here more = ap (λ t. option_or t (numbered number ys)) here
    by false here more = more here

-- two lists without an entry, which stands in the first where it is found there
abbrev joined_cut : {X : Type 0} → ℕ → List (Entry X) → List (Entry X) → Option (Entry X) → List (Entry X)
joined_cut number xs ys None = xs ++ without_number number ys
joined_cut number xs ys (Some e) = without_number number xs ++ ys

joined_without : {X : Type 0} (number : ℕ) (xs ys : List (Entry X)) (o : Option (Entry X)) → numbered number xs ≡ o → without_number number (xs ++ ys) ≡ joined_cut number xs ys o
joined_without number [] ys None is = refl
joined_without number [] ys (Some e) is = absurd cc
joined_without number (x ∷ xs) ys o is = by (nat_eq x.number number) refl o is (λ p e. joined_without number xs ys p e)
  where
    by : (b : Bool) → nat_eq x.number number ≡ b → (p : Option (Entry _)) → (if b then Some x else numbered number xs) ≡ p
        → ((p : Option (Entry _)) → numbered number xs ≡ p → without_number number (xs ++ ys) ≡ joined_cut number xs ys p)
        → (if b then xs ++ ys else x ∷ without_number number (xs ++ ys)) ≡ joined_cut number (x ∷ xs) ys p
    by true same (Some e) here more = sym (ap (λ (b : Bool). (if b then xs else x ∷ without_number number xs) ++ ys) same)
    by true same None here more = absurd cc
    by false same (Some e) here more = ap (λ t. x ∷ t) (more (Some e) here) ∙ sym (ap (λ (b : Bool). (if b then xs else x ∷ without_number number xs) ++ ys) same)
    by false same None here more = ap (λ t. x ∷ t) (more None here)

later_none : {X : Type 0} (due : ℕ) (qs : QueuesByTime X) → AreLater due qs → queue_at due qs ≡ []
later_none due [] later = refl
later_none due (p ∷ ps) later =
    ap (λ (b : Bool). if b then p.1 else queue_at due ps) (at_other due p.0 (λ same. (let here = later.0 in omega (arith, same, here))))
    ∙ later_none due ps later.1

-- the entry of a number in the row stands in the queue of its due time
pub row_numbered : {X : Type 0} (number : ℕ) (e : Entry X) (qs : QueuesByTime X) → AreQueues qs → numbered number (in_row qs) ≡ Some e
    → (numbered number (queue_at e.due qs) ≡ Some e) × (row_without e.due number qs ≡ without_number number (in_row qs))
row_numbered number e [] queues is = absurd cc
row_numbered number e (p ∷ ps) queues is = by (numbered number p.1) refl (λ rest. row_numbered number e ps queues.2 rest)
  where
    by : (o : Option (Entry _)) → numbered number p.1 ≡ o
        → (numbered number (in_row ps) ≡ Some e → (numbered number (queue_at e.due ps) ≡ Some e) × (row_without e.due number ps ≡ without_number number (in_row ps)))
        → (numbered number (queue_at e.due (p ∷ ps)) ≡ Some e) × (row_without e.due number (p ∷ ps) ≡ without_number number (in_row (p ∷ ps)))
    by (Some f) here next =
        let same : Some f ≡ Some e = sym (joined_numbered number p.1 (in_row ps) (Some f) here) ∙ is in
        let found : numbered number p.1 ≡ Some e = here ∙ same in
        let due = none_due e.due number e p.1 p.0 queues.0.together found in (
          ap (numbered number) (at_first e.due p ps (sym due)) ∙ found,
          without_here e.due number p ps (at_same e.due p.0 (sym due)) ∙ sym (joined_without number p.1 (in_row ps) (Some f) here),
        )
    by None here next =
        let rest : numbered number (in_row ps) ≡ Some e = sym (joined_numbered number p.1 (in_row ps) None here) ∙ is in
        let more = next rest in
        let other : p.0 ≢ e.due = (λ same. (let none : queue_at e.due ps ≡ [] = later_none e.due ps (subst (λ k. AreLater k ps) same queues.1) in
        let gone : None ≡ Some e = sym (ap (numbered number) none) ∙ more.0 in cc)) in
        let not_here = at_other e.due p.0 other in (
          ap (λ (b : Bool). numbered number (if b then p.1 else queue_at e.due ps)) not_here ∙ more.0,
          without_there e.due number p ps not_here ∙ ap (λ t. p.1 ++ t) more.1 ∙ sym (joined_without number p.1 (in_row ps) None here),
        )

-- what the first queue gives
pub ruleset first_facts = (first_there, first_head, first_left)

-- ---- a first queue of one entry

pub alone_is : {X : Type 0} (due : ℕ) (q : List (Entry X)) (qs : QueuesByTime X) → slice_get qs 0 ≡ Some (due, q) → length q ≡ 1 → StartsAlone qs
alone_is due q [] is one = absurd (none_held (due, q) (sym is))
alone_is due q (p ∷ ps) is one = subst (λ t. length t.1 ≡ 1) (sym (held p (due, q) is)) one

pub alone_length : {X : Type 0} (due : ℕ) (q : List (Entry X)) (qs rest : QueuesByTime X) → qs ≡ (due, q) ∷ rest → StartsAlone qs → length q ≡ 1
alone_length due q qs rest is one = subst StartsAlone is one

pub alone_first : {X : Type 0} (due : ℕ) (q : List (Entry X)) (e : Entry X) (qs rest : QueuesByTime X) → qs ≡ (due, q) ∷ rest → q ≡ e ∷ []
    → Some e ≡ slice_get (in_row qs) 0
alone_first due q e qs rest is only = sym (ap (λ r. slice_get (in_row r) 0) is ∙ ap (λ es. slice_get (es ++ in_row rest) 0) only)

pub alone_left : {X : Type 0} (due : ℕ) (q : List (Entry X)) (e : Entry X) (qs rest : QueuesByTime X) → qs ≡ (due, q) ∷ rest → q ≡ e ∷ []
    → in_row rest ≡ drop 1 (in_row qs)
alone_left due q e qs rest is only = sym (ap (λ r. drop 1 (in_row r)) is ∙ ap (λ es. drop 1 (es ++ in_row rest)) only)

pub alone_queues : {X : Type 0} (due : ℕ) (q : List (Entry X)) (qs rest : QueuesByTime X) → qs ≡ (due, q) ∷ rest → AreQueues qs → AreQueues rest
alone_queues due q qs rest is queues = (subst AreQueues is queues).2

-- what it gives
pub ruleset alone_facts = (alone_length, alone_first, alone_left, alone_queues)
