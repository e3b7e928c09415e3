-- What waits in an agenda, from its inbox and the row of those that are sorted in, before and after a
-- call.
use Rattle.std.proofs.Common.{◌≡◌, ◌<◌, ◌≤◌, ◌+◌, ◌++◌, ◌∷◌, [], ℕ, List, drop, get_or, Option, Some, None, Result, Ok, Err, slice_get, refl, sym, ap, subst, ◌∙◌, arith}
use Rattle.std.specs.Prelude.{OnOk, OnErr, IfSome}
use Rattle.std.specs.List.{remove}
use Rattle.delay_agenda.specs.declared.entry.Entry.{Entry}
use Rattle.delay_agenda.specs.declared.entry.Kind.{Kind}
use Rattle.delay_agenda.specs.Order.{put_entry, first_due, HasNone, IsNext}
use Rattle.delay_agenda.specs.Waiting.{Waiting, IsAgenda, posted, turn_count, without_turns}
use Rattle.delay_agenda.specs.Queues.{put_all, AreSorted, IsInInbox, IsInQueues, IsTurnAt}
use Rattle.delay_agenda.proofs.OrderLemmas.{agenda_put, agenda_posted, agenda_taken, agenda_cancelled}
use Rattle.delay_agenda.proofs.LawLemmas.{next_taken}
use Rattle.delay_agenda.proofs.Placing.{all_more, inbox_taken, inbox_first, queues_taken}
use Rattle.delay_agenda.proofs.Turns.{count_all, count_at, inbox_cancelled, row_cancelled}

abbrev pub seen : {X : Type 0} → List (Entry X) → List (Entry X) → ℕ → Waiting X
seen inbox row next = record { entries = put_all inbox row; next = next }

abbrev pub IsKept : {X : Type 0} → List (Entry X) → List (Entry X) → ℕ → Type 0
IsKept inbox row next = IsAgenda (seen inbox row next)

kept_as : {X : Type 0} (inbox row : List (Entry X)) (next : ℕ) (waiting : Waiting X) → seen inbox row next ≡ waiting → IsAgenda waiting → IsKept inbox row next
kept_as inbox row next waiting is kept = subst (λ w. IsAgenda w) (sym is) kept

with_entries : {X : Type 0} (entries now : List (Entry X)) (next : ℕ) → now ≡ entries → ◌≡◌ {A = Waiting X} (record { entries = now; next = next }) (record { entries = entries; next = next })
with_entries entries now next is = λ k. record { entries = is k; next = next }

-- the same entries in another inbox and row
pub same_kept : {X : Type 0} (inbox now row after : List (Entry X)) (next : ℕ) → put_all now after ≡ put_all inbox row → IsKept inbox row next → IsKept now after next
same_kept inbox now row after next same kept =
    kept_as now after next (seen inbox row next) (with_entries (put_all inbox row) (put_all now after) next same) kept

-- ---- post

pub posted_view : {X : Type 0} (inbox now row : List (Entry X)) (next due : ℕ) (kind : Kind X)
    → now ≡ inbox ++ record { due = due; number = next; kind = kind } ∷ [] → seen now row (next + 1) ≡ posted due kind (seen inbox row next)
posted_view inbox now row next due kind is =
    let e : Entry _ = record { due = due; number = next; kind = kind } in
    with_entries (put_entry e (put_all inbox row)) (put_all now row) (next + 1)
    (ap (λ t. put_all t row) is ∙ all_more inbox row e)

pub posted_kept : {X : Type 0} (inbox now row : List (Entry X)) (next due : ℕ) (kind : Kind X)
    → now ≡ inbox ++ record { due = due; number = next; kind = kind } ∷ [] → IsKept inbox row next → IsKept now row (next + 1)
posted_kept inbox now row next due kind is kept =
    kept_as now row (next + 1) (posted due kind (seen inbox row next)) (posted_view inbox now row next due kind is)
    (agenda_posted due kind (seen inbox row next) kept)

-- ---- take

taken_kept : {X : Type 0} (inbox now row after : List (Entry X)) (next : ℕ) → IsKept inbox row next
    → put_all now after ≡ drop 1 (put_all inbox row) → IsKept now after next
taken_kept inbox now row after next kept is =
    kept_as now after next (record { entries = drop 1 (put_all inbox row); next = next })
    (with_entries (drop 1 (put_all inbox row)) (put_all now after) next is)
    (agenda_taken (seen inbox row next) kept)

pub inbox_kept : {X : Type 0} (at next : ℕ) (inbox now row : List (Entry X)) → IsKept inbox row next
    → IsInInbox at inbox row → now ≡ remove inbox at → IsKept now row next
inbox_kept at next inbox now row kept first is =
    taken_kept inbox now row row next kept (inbox_taken at inbox row now first is).1

pub queues_kept : {X : Type 0} (next : ℕ) (inbox row after : List (Entry X)) → IsKept inbox row next
    → IsInQueues inbox row → after ≡ drop 1 row → IsKept inbox after next
queues_kept next inbox row after kept first is =
    taken_kept inbox inbox row after next kept (queues_taken inbox row after first is).1

pub left_view : {X : Type 0} (inbox now row after : List (Entry X)) (next : ℕ) (waiting : Waiting X) → seen inbox row next ≡ waiting
    → put_all now after ≡ drop 1 (put_all inbox row) → seen now after next ≡ record waiting { entries = drop 1 waiting.entries }
left_view inbox now row after next waiting is left =
    with_entries (drop 1 (put_all inbox row)) (put_all now after) next left
    ∙ ap (λ (w : Waiting _). record w { entries = drop 1 w.entries }) is

pub taken_view : {X : Type 0} (inbox row : List (Entry X)) (next : ℕ) (waiting : Waiting X) (taken first : Option (Entry X))
    → seen inbox row next ≡ waiting → taken ≡ first → first ≡ slice_get (put_all inbox row) 0 → taken ≡ slice_get waiting.entries 0
taken_view inbox row next waiting taken first is got head = got ∙ head ∙ ap (λ (w : Waiting _). slice_get w.entries 0) is

pub least_view : {X : Type 0} (inbox row : List (Entry X)) (next : ℕ) (waiting : Waiting X) (taken : Option (Entry X))
    → seen inbox row next ≡ waiting → IsKept inbox row next → taken ≡ slice_get waiting.entries 0 → IfSome taken (λ e. IsNext e waiting.entries)
least_view inbox row next waiting taken is kept got =
    next_taken waiting.entries taken got (subst (λ w. IsAgenda w) is kept).order

-- ---- the due time of the first

pub due_inbox : {X : Type 0} (at next : ℕ) (inbox row : List (Entry X)) (waiting : Waiting X) (e : Entry X) → seen inbox row next ≡ waiting
    → IsInInbox at inbox row → e ≡ get_or inbox at e → Some e.due ≡ first_due waiting.entries
due_inbox at next inbox row waiting e is first got =
    sym (ap first_due (inbox_first at inbox row e first got)) ∙ ap (λ (w : Waiting _). first_due w.entries) is

abbrev due_of : {X : Type 0} → Option (Entry X) → Option ℕ
due_of None = None
due_of (Some e) = Some e.due

due_got : {X : Type 0} (es : List (Entry X)) → first_due es ≡ due_of (slice_get es 0)
due_got [] = refl
due_got (e ∷ es) = refl

due_head : {X : Type 0} (es now : List (Entry X)) → slice_get es 0 ≡ slice_get now 0 → first_due es ≡ first_due now
due_head es now is = due_got es ∙ ap due_of is ∙ sym (due_got now)

pub due_queues : {X : Type 0} (next : ℕ) (inbox row : List (Entry X)) (waiting : Waiting X) (due : Option ℕ) → seen inbox row next ≡ waiting
    → IsInQueues inbox row → due ≡ first_due row → due ≡ first_due waiting.entries
due_queues next inbox row waiting due is first own =
    own
    ∙ due_head row (put_all inbox row) (queues_taken inbox row (drop 1 row) first refl).0
    ∙ ap (λ (w : Waiting _). first_due w.entries) is

-- ---- put

pub put_kept : {X E : Type 0} (result : Result (Unit {0}) E) (inbox before row moved after : List (Entry X)) (next : ℕ) (e : Entry X) (waiting : Waiting X)
    → seen before row next ≡ waiting → IsKept before row next → put_all inbox moved ≡ put_all before row → inbox ≡ []
    → OnOk result (after ≡ put_entry e moved) → OnErr result (after ≡ moved)
    → e.number < waiting.next → HasNone e.number waiting.entries → IsKept inbox after next
put_kept (Ok x) inbox before row moved after next e waiting is kept same empty ok err below none =
    let own : moved ≡ waiting.entries =
    sym (ap (λ t. put_all t moved) empty) ∙ same ∙ ap (λ (w : Waiting _). w.entries) is in
    let now : put_all inbox after ≡ put_entry e waiting.entries = ap (λ t. put_all t after) empty ∙ ok ∙ ap (put_entry e) own in
    kept_as inbox after next (record waiting { entries = put_entry e waiting.entries })
    (λ k. record { entries = now k; next = (ap (λ (w : Waiting _). w.next) is) k })
    (agenda_put e waiting (subst (λ w. IsAgenda w) is kept) below none)
put_kept (Err x) inbox before row moved after next e waiting is kept same empty ok err below none =
    same_kept before inbox row after next (ap (put_all inbox) err ∙ same) kept

-- ---- a Turn cancelled

counted : {X : Type 0} (object next : ℕ) (inbox row : List (Entry X)) (waiting : Waiting X) → seen inbox row next ≡ waiting
    → turn_count object waiting.entries ≡ turn_count object inbox + turn_count object row
counted object next inbox row waiting is =
    sym (ap (λ (w : Waiting _). turn_count object w.entries) is) ∙ count_all object inbox row

pub row_count : {X : Type 0} (object next : ℕ) (inbox row : List (Entry X)) (waiting : Waiting X) → seen inbox row next ≡ waiting
    → turn_count object inbox ≡ 0 → turn_count object waiting.entries ≡ turn_count object row
row_count object next inbox row waiting is none = let sum = counted object next inbox row waiting is in omega (arith, sum, none)

pub inbox_count : {X : Type 0} (object at next : ℕ) (inbox row : List (Entry X)) (waiting : Waiting X) → seen inbox row next ≡ waiting
    → IsTurnAt object at inbox → 0 < turn_count object waiting.entries
inbox_count object at next inbox row waiting is found =
    let sum = counted object next inbox row waiting is in
    let some = count_at object at inbox found in
    omega (arith, sum, some)

pub cancelled_kept : {X : Type 0} (object next : ℕ) (inbox now row after : List (Entry X)) → IsKept inbox row next
    → put_all now after ≡ without_turns object (put_all inbox row) → IsKept now after next
cancelled_kept object next inbox now row after kept is =
    kept_as now after next (record { entries = without_turns object (put_all inbox row); next = next })
    (with_entries (without_turns object (put_all inbox row)) (put_all now after) next is)
    (agenda_cancelled object (seen inbox row next) kept)

pub cancelled_view : {X : Type 0} (object next : ℕ) (inbox now row after : List (Entry X)) (waiting : Waiting X) → seen inbox row next ≡ waiting
    → put_all now after ≡ without_turns object (put_all inbox row)
    → seen now after next ≡ record waiting { entries = without_turns object waiting.entries }
cancelled_view object next inbox now row after waiting is left =
    with_entries (without_turns object (put_all inbox row)) (put_all now after) next left
    ∙ ap (λ (w : Waiting _). record w { entries = without_turns object w.entries }) is

pub inbox_left : {X : Type 0} (object at next : ℕ) (inbox now row : List (Entry X)) (waiting : Waiting X) → seen inbox row next ≡ waiting
    → AreSorted row → IsTurnAt object at inbox → turn_count object waiting.entries ≤ 1 → now ≡ remove inbox at
    → put_all now row ≡ without_turns object (put_all inbox row)
inbox_left object at next inbox now row waiting is sorted found few left =
    ap (λ t. put_all t row) left
    ∙ inbox_cancelled object at inbox row sorted found
    (subst (λ (w : Waiting _). turn_count object w.entries ≤ 1) (sym is) few)

pub queues_left : {X : Type 0} (object : ℕ) (inbox row after : List (Entry X)) → AreSorted row → turn_count object inbox ≡ 0
    → after ≡ without_turns object row → put_all inbox after ≡ without_turns object (put_all inbox row)
queues_left object inbox row after sorted none left = row_cancelled object inbox row after sorted none left
