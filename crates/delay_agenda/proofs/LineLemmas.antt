-- The line of those that are sorted in, and the queues beside it.
use Rattle.std.proofs.Common.{◌≡◌, ◌≢◌, ◌<◌, ◌+◌, ◌++◌, ◌∷◌, [], ℕ, zero, suc, Bool, true, false, List, length, drop, get_or, Option, Some, None, slice_get, refl, sym, ap, subst, ◌∙◌, Result, Ok, Err, arith}
use Rattle.std.specs.Prelude.{if◌then◌else◌, MatchOption, OnOk, OnErr, is_ok}
use Rattle.std.specs.List.{remove}
use Rattle.std.specs.BTreeMap.{BTreeMap}
use Rattle.std.proofs.lemmas.Bool.Decides.{nat_tests}
use Rattle.stamped_slots.specs.Stamps.{Stamps}
use Rattle.delay_agenda.specs.declared.entry.Entry.{Entry}
use Rattle.delay_agenda.specs.Order.{is_before, put_entry, first_due, HasNone, AreDistinct}
use Rattle.delay_agenda.specs.Waiting.{is_turn_of, turn_count, without_turns}
use Rattle.delay_agenda.specs.Queues.{QueuesByTime, in_row, put_all, turning, AllBefore, IsBeforeEach, AreRising, AreSorted, AreQueues, AreLined, IsHead, IsIndexed, IsInInbox, IsInQueues, IsLeastAt}
use Rattle.delay_agenda.proofs.OrderLemmas.{distinct_put, distinct_left, distinct_tail, none_from}
use Rattle.delay_agenda.proofs.Placing.{put_passes, put_stops, one_way, none_before, all_more, all_behind, inbox_first, inbox_taken, queues_taken, sorted_put}
use Rattle.delay_agenda.proofs.Rows.{sorted_row}
use Rattle.delay_agenda.proofs.Turns.{count_all, count_joined, row_cancelled}
use Rattle.delay_agenda.proofs.Index.{no_turn}

-- ---- rising lists

before_on : {X : Type 0} (a b c : Entry X) → is_before a b ≡ true → is_before b c ≡ true → is_before a c ≡ true
before_on a b c first second = grind (arith, nat_tests)

-- the head is before each that is read behind it
head_read : {X : Type 0} (e : Entry X) (es : List (Entry X)) (i : ℕ) (d : Entry X) → IsBeforeEach e es → i < length es → is_before e (get_or es i d) ≡ true
head_read e [] i d all less = absurd (omega (arith, less))
head_read e (x ∷ xs) zero d all less = all.0
head_read e (x ∷ xs) (suc i) d all less = head_read e xs i d all.1 (omega (arith, less))

pub least_first : {X : Type 0} (es : List (Entry X)) → AreRising es → 0 < length es → IsLeastAt 0 (length es) es
least_first [] rising some = absurd (omega (arith, some))
least_first (e ∷ es) rising some = record {
  inside = omega arith;
  before = λ i d less. absurd (omega (arith, less));
  behind = by;
}
  where
    by : (i : ℕ) (d : Entry _) → 0 < i → i < length (e ∷ es) → is_before e (get_or (e ∷ es) i d) ≡ true
    by zero d over less = absurd (omega (arith, over))
    by (suc i) d over less = head_read e es i d rising.0 (omega (arith, less))

-- what is behind the last is behind all
pub behind_last : {X : Type 0} (es : List (Entry X)) (at : ℕ) (l e : Entry X) → AreRising es → at + 1 ≡ length es → l ≡ get_or es at l
    → is_before l e ≡ true → AllBefore e es
behind_last [] at l e rising is got test = tt
behind_last (x ∷ []) zero l e rising is got test = (subst (λ z. is_before z e ≡ true) got test, tt)
behind_last (x ∷ []) (suc at) l e rising is got test = absurd (omega (arith, is))
behind_last (x ∷ y ∷ ys) zero l e rising is got test = absurd (omega (arith, is))
behind_last (x ∷ y ∷ ys) (suc at) l e rising is got test = (
  before_on x l e (subst (λ z. is_before x z ≡ true) (sym got) (head_read x (y ∷ ys) at l rising.0 (omega (arith, is)))) test,
  behind_last (y ∷ ys) at l e rising.1 (omega (arith, is)) got test,
)

pub behind_none : {X : Type 0} (es : List (Entry X)) (e : Entry X) → es ≡ [] → AllBefore e es
behind_none es e empty = subst (λ t. AllBefore e t) (sym empty) tt

pub ruleset behind_facts = (behind_last, behind_none)

each_more : {X : Type 0} (a e : Entry X) (es : List (Entry X)) → IsBeforeEach a es → is_before a e ≡ true → IsBeforeEach a (es ++ e ∷ [])
each_more a e [] all is = (is, tt)
each_more a e (x ∷ xs) all is = (all.0, each_more a e xs all.1 is)

rising_more : {X : Type 0} (e : Entry X) (es : List (Entry X)) → AreRising es → AllBefore e es → AreRising (es ++ e ∷ [])
rising_more e [] rising all = (tt, tt)
rising_more e (x ∷ xs) rising all = (each_more x e xs rising.0 all.0, rising_more e xs rising.1 all.1)

rising_rest : {X : Type 0} (es : List (Entry X)) → AreRising es → AreRising (drop 1 es)
rising_rest [] rising = tt
rising_rest (e ∷ es) rising = rising.1

-- ---- one entry put after another

front_swap : {X : Type 0} (e x : Entry X) (es : List (Entry X)) → x.number ≢ e.number → put_entry e es ≡ e ∷ es → put_entry x es ≡ x ∷ es
    → put_entry e (x ∷ es) ≡ put_entry x (e ∷ es)
front_swap e x es other first second = by (is_before x e) refl
  where
    other_way : is_before x e ≡ false → is_before e x ≡ true
    other_way is = grind (arith, nat_tests)

    by : (b : Bool) → is_before x e ≡ b → put_entry e (x ∷ es) ≡ put_entry x (e ∷ es)
    by true is = put_passes e x es is ∙ ap (λ t. x ∷ t) first ∙ sym (put_stops x (e ∷ es) (one_way x e is))
    by false is = put_stops e (x ∷ es) is ∙ sym (put_passes x e es (other_way is) ∙ ap (λ t. e ∷ t) second)

put_swap : {X : Type 0} (e x : Entry X) (es : List (Entry X)) → x.number ≢ e.number → put_entry e (put_entry x es) ≡ put_entry x (put_entry e es)
put_swap e x [] other = front_swap e x [] other refl refl
put_swap e x (a ∷ es) other = by (is_before a e) (is_before a x) refl refl (put_swap e x es other)
  where
    by : (b c : Bool) → is_before a e ≡ b → is_before a x ≡ c → put_entry e (put_entry x es) ≡ put_entry x (put_entry e es)
        → put_entry e (put_entry x (a ∷ es)) ≡ put_entry x (put_entry e (a ∷ es))
    by true true f g more =
        ap (put_entry e) (put_passes x a es g) ∙ put_passes e a (put_entry x es) f ∙ ap (λ t. a ∷ t) more
        ∙ sym (ap (put_entry x) (put_passes e a es f) ∙ put_passes x a (put_entry e es) g)
    by true false f g more =
        ap (put_entry e) (put_stops x (a ∷ es) g) ∙ put_passes e x (a ∷ es) (none_before x a e g f) ∙ ap (λ t. x ∷ t) (put_passes e a es f)
        ∙ sym (ap (put_entry x) (put_passes e a es f) ∙ put_stops x (a ∷ put_entry e es) g)
    by false true f g more =
        ap (put_entry e) (put_passes x a es g) ∙ put_stops e (a ∷ put_entry x es) f
        ∙ sym (ap (put_entry x) (put_stops e (a ∷ es) f) ∙ put_passes x e (a ∷ es) (none_before e a x f g) ∙ ap (λ t. e ∷ t) (put_passes x a es g))
    by false false f g more =
        ap (put_entry e) (put_stops x (a ∷ es) g) ∙ front_swap e x (a ∷ es) other (put_stops e (a ∷ es) f) (put_stops x (a ∷ es) g)
        ∙ sym (ap (put_entry x) (put_stops e (a ∷ es) f))

none_row : {X : Type 0} (n : ℕ) (xs row : List (Entry X)) → HasNone n (put_all xs row) → HasNone n row
none_row n [] row none = none
none_row n (x ∷ xs) row none = (none_from n x row (none_row n xs (put_entry x row) none)).1

pub new_row : {X : Type 0} (n : ℕ) (xs row all : List (Entry X)) → put_all xs row ≡ all → HasNone n all → HasNone n row
new_row n xs row all is none = none_row n xs row (subst (HasNone n) (sym is) none)

-- an entry put beneath the line
all_put : {X : Type 0} (e : Entry X) (xs row : List (Entry X)) → HasNone e.number (put_all xs row) → put_all xs (put_entry e row) ≡ put_entry e (put_all xs row)
all_put e [] row none = refl
all_put e (x ∷ xs) row none =
    let own = none_from e.number x row (none_row e.number xs (put_entry x row) none) in
    ap (put_all xs) (sym (put_swap e x row own.0)) ∙ all_put e xs (put_entry x row) none

-- ---- what is kept

sorted_all : {X : Type 0} (xs row : List (Entry X)) → AreSorted row → AreSorted (put_all xs row)
sorted_all [] row sorted = sorted
sorted_all (x ∷ xs) row sorted = sorted_all xs (put_entry x row) (sorted_put x row sorted)

pub lined_sorted : {X : Type 0} (line : List (Entry X)) (queues : QueuesByTime X) (index : BTreeMap ℕ (Stamps ℕ)) (all : List (Entry X))
    → AreLined line queues index → put_all line (in_row queues) ≡ all → AreSorted all
lined_sorted line queues index all kept is = subst AreSorted is (sorted_all line (in_row queues) (sorted_row queues kept.queues))

-- an entry behind the line
pub line_view : {X : Type 0} (line now row all : List (Entry X)) (e : Entry X) → put_all line row ≡ all → now ≡ line ++ e ∷ [] → put_all now row ≡ put_entry e all
line_view line now row all e is more = ap (λ t. put_all t row) more ∙ all_more line row e ∙ ap (put_entry e) is

one_more : (b : Bool) (m n : ℕ) → b ≡ false → m ≡ 0 → n ≡ m + (if b then suc 0 else 0) → n ≡ 0
one_more true m n is none sum = absurd cc
one_more false m n is none sum = omega (arith, none, sum)

bare_more : {X : Type 0} (object : ℕ) (line : List (Entry X)) (e : Entry X) → turning e.kind ≡ None → turn_count object line ≡ 0 → turn_count object (line ++ e ∷ []) ≡ 0
bare_more object line e none bare =
    one_more (is_turn_of object e) (turn_count object line) (turn_count object (line ++ e ∷ [])) (no_turn e.kind none object) bare (count_joined object line (e ∷ []))

pub line_more : {X : Type 0} (line now : List (Entry X)) (queues : QueuesByTime X) (index : BTreeMap ℕ (Stamps ℕ)) (all : List (Entry X)) (e : Entry X)
    → AreLined line queues index → put_all line (in_row queues) ≡ all → HasNone e.number all → AllBefore e line → turning e.kind ≡ None
    → now ≡ line ++ e ∷ [] → AreLined now queues index
line_more line now queues index all e kept is none behind bare more = record {
  queues = kept.queues;
  indexed = kept.indexed;
  rising = subst AreRising (sym more) (rising_more e line kept.rising behind);
  bare = λ object. ap (turn_count object) more ∙ bare_more object line e bare (kept.bare object);
  distinct = subst AreDistinct (sym (line_view line now (in_row queues) (put_all line (in_row queues)) e refl more))
      (distinct_put e (put_all line (in_row queues)) (subst (HasNone e.number) (sym is) none) kept.distinct);
}

-- other queues beside the line
pub queues_more : {X : Type 0} (line : List (Entry X)) (queues after : QueuesByTime X) (index now : BTreeMap ℕ (Stamps ℕ)) (all : List (Entry X)) (e : Entry X)
    → AreLined line queues index → put_all line (in_row queues) ≡ all → HasNone e.number all → AreQueues after → IsIndexed now (in_row after)
    → in_row after ≡ put_entry e (in_row queues) → (put_all line (in_row after) ≡ put_entry e all) × AreLined line after now
queues_more line queues after index now all e kept is none sorted indexed more =
    let own = subst (HasNone e.number) (sym is) none in
    let whole = ap (put_all line) more ∙ all_put e line (in_row queues) own in (
      whole ∙ ap (put_entry e) is,
      record {
        queues = sorted;
        indexed = indexed;
        rising = kept.rising;
        bare = kept.bare;
        distinct = subst AreDistinct (sym whole) (distinct_put e (put_all line (in_row queues)) own kept.distinct);
      },
    )

pub queues_same : {X : Type 0} (line : List (Entry X)) (queues after : QueuesByTime X) (index now : BTreeMap ℕ (Stamps ℕ))
    → AreLined line queues index → AreQueues after → IsIndexed now (in_row after) → in_row after ≡ in_row queues → AreLined line after now
queues_same line queues after index now kept sorted indexed same = record {
  queues = sorted;
  indexed = indexed;
  rising = kept.rising;
  bare = kept.bare;
  distinct = subst (λ t. AreDistinct (put_all line t)) (sym same) kept.distinct;
}

-- ---- the first

remove_first : {X : Type 0} (es : List X) → remove es 0 ≡ drop 1 es
remove_first [] = refl
remove_first (e ∷ es) = refl

bare_rest : {X : Type 0} (object : ℕ) (es : List (Entry X)) → turn_count object es ≡ 0 → turn_count object (drop 1 es) ≡ 0
bare_rest object [] none = refl
bare_rest object (e ∷ es) none = by (is_turn_of object e) (turn_count object es) none
  where
    by : (b : Bool) (n : ℕ) → (if b then suc n else n) ≡ 0 → n ≡ 0
    by true n is = absurd (omega (arith, is))
    by false n is = is

-- taken off the line
pub line_taken : {X : Type 0} (line now : List (Entry X)) (queues : QueuesByTime X) (index : BTreeMap ℕ (Stamps ℕ)) (all : List (Entry X))
    → AreLined line queues index → put_all line (in_row queues) ≡ all → IsInInbox 0 line (in_row queues) → now ≡ drop 1 line
    → (slice_get line 0 ≡ slice_get all 0) × (put_all now (in_row queues) ≡ drop 1 all) × AreLined now queues index
line_taken line now queues index all kept is first left =
    let both = inbox_taken 0 line (in_row queues) now first (left ∙ sym (remove_first line)) in (
      both.0 ∙ ap (λ t. slice_get t 0) is,
      both.1 ∙ ap (drop 1) is,
      record {
        queues = kept.queues;
        indexed = kept.indexed;
        rising = subst AreRising (sym left) (rising_rest line kept.rising);
        bare = λ object. ap (turn_count object) left ∙ bare_rest object line (kept.bare object);
        distinct = subst AreDistinct (sym both.1) (distinct_tail (put_all line (in_row queues)) kept.distinct);
      },
    )

-- taken off the queues
pub queues_less : {X : Type 0} (line : List (Entry X)) (queues after : QueuesByTime X) (index now : BTreeMap ℕ (Stamps ℕ)) (all : List (Entry X))
    → AreLined line queues index → put_all line (in_row queues) ≡ all → IsInQueues line (in_row queues) → AreQueues after → IsIndexed now (in_row after)
    → in_row after ≡ drop 1 (in_row queues)
    → (slice_get (in_row queues) 0 ≡ slice_get all 0) × (put_all line (in_row after) ≡ drop 1 all) × AreLined line after now
queues_less line queues after index now all kept is first sorted indexed left =
    let both = queues_taken line (in_row queues) (in_row after) first left in (
      both.0 ∙ ap (λ t. slice_get t 0) is,
      both.1 ∙ ap (drop 1) is,
      record {
        queues = sorted;
        indexed = indexed;
        rising = kept.rising;
        bare = kept.bare;
        distinct = subst AreDistinct (sym both.1) (distinct_tail (put_all line (in_row queues)) kept.distinct);
      },
    )

pub line_head : {X : Type 0} (line row all : List (Entry X)) (e : Entry X) → put_all line row ≡ all → IsInInbox 0 line row → e ≡ get_or line 0 e
    → IsHead e.due e.number all
line_head line row all e is first got =
    subst (IsHead e.due e.number) (sym (inbox_first 0 line row e first got) ∙ is) (refl, refl)

pub queues_head : {X : Type 0} (found : Option (ℕ × ℕ)) (line row all : List (Entry X)) → put_all line row ≡ all → IsInQueues line row
    → MatchOption found (row ≡ []) (λ f. IsHead f.0 f.1 row) → MatchOption found (all ≡ []) (λ f. IsHead f.0 f.1 all)
queues_head None line row all is first none =
    let empty : line ≡ [] = subst (IsInQueues line) none first in
    sym is ∙ ap (λ t. put_all t row) empty ∙ none
queues_head (Some f) line [] all is first head = absurd head
queues_head (Some f) line (m ∷ row) all is first head =
    subst (IsHead f.0 f.1) (sym (all_behind line m row first) ∙ is) head

pub due_none : {X : Type 0} (all : List (Entry X)) → all ≡ [] → None ≡ first_due all
due_none all empty = sym (ap first_due empty)

pub due_some : {X : Type 0} (due number : ℕ) (all : List (Entry X)) → IsHead due number all → Some due ≡ first_due all
due_some due number [] head = absurd head
due_some due number (e ∷ es) head = ap Some (sym head.0)

-- ---- a Turn cancelled

pub line_count : {X : Type 0} (object : ℕ) (line row all : List (Entry X)) → put_all line row ≡ all → turn_count object line ≡ 0
    → turn_count object all ≡ turn_count object row
line_count object line row all is none =
    let sum = count_all object line row in
    ap (turn_count object) (sym is) ∙ omega (arith, sum, none)

pub line_cancelled : {X : Type 0} (object : ℕ) (line : List (Entry X)) (queues after : QueuesByTime X) (index now : BTreeMap ℕ (Stamps ℕ)) (all : List (Entry X))
    → AreLined line queues index → put_all line (in_row queues) ≡ all → AreQueues after → IsIndexed now (in_row after)
    → in_row after ≡ without_turns object (in_row queues)
    → (put_all line (in_row after) ≡ without_turns object all) × AreLined line after now
line_cancelled object line queues after index now all kept is sorted indexed left =
    let whole = row_cancelled object line (in_row queues) (in_row after) (sorted_row queues kept.queues) (kept.bare object) left in (
      whole ∙ ap (without_turns object) is,
      record {
        queues = sorted;
        indexed = indexed;
        rising = kept.rising;
        bare = kept.bare;
        distinct = subst AreDistinct (sym whole) (distinct_left object (put_all line (in_row queues)) kept.distinct);
      },
    )

-- ---- put, as it went

pub line_put : {X E : Type 0} (result : Result (Unit {0}) E) (line now : List (Entry X)) (queues : QueuesByTime X) (index : BTreeMap ℕ (Stamps ℕ)) (all : List (Entry X)) (e : Entry X)
    → AreLined line queues index → put_all line (in_row queues) ≡ all → HasNone e.number all → AllBefore e line → turning e.kind ≡ None
    → now ≡ (if is_ok result then line ++ e ∷ [] else line)
    → OnOk result (put_all now (in_row queues) ≡ put_entry e all) × OnErr result (put_all now (in_row queues) ≡ all) × AreLined now queues index
line_put (Ok x) line now queues index all e kept is none behind bare more =
    (line_view line now (in_row queues) all e is more, tt, line_more line now queues index all e kept is none behind bare more)
line_put (Err x) line now queues index all e kept is none behind bare more =
    (tt, ap (λ t. put_all t (in_row queues)) more ∙ is, subst (λ t. AreLined t queues index) (sym more) kept)

pub queues_put : {X E : Type 0} (result : Result (Unit {0}) E) (line : List (Entry X)) (queues after : QueuesByTime X) (index now : BTreeMap ℕ (Stamps ℕ)) (all : List (Entry X)) (e : Entry X)
    → AreLined line queues index → put_all line (in_row queues) ≡ all → HasNone e.number all → AreQueues after → IsIndexed now (in_row after)
    → OnOk result (in_row after ≡ put_entry e (in_row queues)) → OnErr result (in_row after ≡ in_row queues)
    → OnOk result (put_all line (in_row after) ≡ put_entry e all) × OnErr result (put_all line (in_row after) ≡ all) × AreLined line after now
queues_put (Ok x) line queues after index now all e kept is none sorted indexed ok err =
    let both = queues_more line queues after index now all e kept is none sorted indexed ok in (both.0, tt, both.1)
queues_put (Err x) line queues after index now all e kept is none sorted indexed ok err =
    (tt, ap (put_all line) err ∙ is, queues_same line queues after index now kept sorted indexed err)
