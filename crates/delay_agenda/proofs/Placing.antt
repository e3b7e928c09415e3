-- Entries put in order, one by one: what the test of the order gives, and where an entry comes to
-- stand.
use Rattle.std.proofs.Common.{◌≡◌, ◌<◌, ◌+◌, ◌++◌, ◌∷◌, [], ℕ, zero, suc, Bool, true, false, List, length, drop, get_or, slice_get, refl, sym, ap, subst, ◌∙◌, inl, inr, arith}
use Rattle.std.specs.Prelude.{◌⊎◌, if◌then◌else◌}
use Rattle.std.specs.List.{remove}
use Rattle.std.proofs.lemmas.Bool.Decides.{nat_tests}
use Rattle.std.proofs.lemmas.List.{get_or_default}
use Rattle.std.proofs.lemmas.Option.{slice_get-get_or}
use Rattle.delay_agenda.specs.declared.entry.Entry.{Entry}
use Rattle.delay_agenda.specs.Order.{is_before, comes_before, put_entry}
use Rattle.delay_agenda.specs.Queues.{put_all, AllBefore, NoneBefore, AreSorted, HeadIsNotBefore, IsLeastAt, IsHead, IsInInbox, IsInQueues}

-- ---- the test

-- what isn't before b isn't before what b isn't before
none_trans : {X : Type 0} (a b c : Entry X) → is_before a b ≡ false → is_before b c ≡ false → is_before a c ≡ false
none_trans a b c first second = grind (arith, nat_tests)

before_none : {X : Type 0} (a b c : Entry X) → is_before a b ≡ true → is_before c b ≡ false → is_before a c ≡ true
before_none a b c first second = grind (arith, nat_tests)

pub none_before : {X : Type 0} (a b c : Entry X) → is_before b a ≡ false → is_before b c ≡ true → is_before a c ≡ true
none_before a b c first second = grind (arith, nat_tests)

pub one_way : {X : Type 0} (a b : Entry X) → is_before a b ≡ true → is_before b a ≡ false
one_way a b is = grind (arith, nat_tests)

-- ---- one entry put

pub put_stops : {X : Type 0} (e : Entry X) (es : List (Entry X)) → HeadIsNotBefore e es → put_entry e es ≡ e ∷ es
put_stops e [] stops = refl
put_stops e (x ∷ rest) stops = ap (λ (b : Bool). if b then x ∷ put_entry e rest else e ∷ x ∷ rest) stops

pub put_passes : {X : Type 0} (e x : Entry X) (es : List (Entry X)) → is_before x e ≡ true → put_entry e (x ∷ es) ≡ x ∷ put_entry e es
put_passes e x es is = ap (λ (b : Bool). if b then x ∷ put_entry e es else e ∷ x ∷ es) is

joined_if : {X : Type 0} (b : Bool) (e x : Entry X) (xs more ys all : List (Entry X)) → all ≡ more ++ ys
    → (if b then x ∷ all else e ∷ x ∷ xs ++ ys) ≡ (if b then x ∷ more else e ∷ x ∷ xs) ++ ys
joined_if true e x xs more ys all is = ap (λ t. x ∷ t) is
joined_if false e x xs more ys all is = refl

-- in the first of two lists, where it doesn't pass the second's head
pub put_joined : {X : Type 0} (e : Entry X) (xs ys : List (Entry X)) → HeadIsNotBefore e ys → put_entry e (xs ++ ys) ≡ put_entry e xs ++ ys
put_joined e [] ys stops = put_stops e ys stops
put_joined e (x ∷ xs) ys stops = joined_if (is_before x e) e x xs (put_entry e xs) ys (put_entry e (xs ++ ys)) (put_joined e xs ys stops)

-- in the second, where all of the first are taken before it
pub put_behind : {X : Type 0} (e : Entry X) (xs ys : List (Entry X)) → AllBefore e xs → put_entry e (xs ++ ys) ≡ xs ++ put_entry e ys
put_behind e [] ys all = refl
put_behind e (x ∷ xs) ys all = put_passes e x (xs ++ ys) all.0 ∙ ap (λ t. x ∷ t) (put_behind e xs ys all.1)

-- ---- sorted lists stay sorted

none_put_if : {X : Type 0} (b : Bool) (a e x : Entry X) (rest more : List (Entry X)) → is_before e a ≡ false → NoneBefore a (x ∷ rest)
    → NoneBefore a more → NoneBefore a (if b then x ∷ more else e ∷ x ∷ rest)
none_put_if true a e x rest more here none next = (none.0, next)
none_put_if false a e x rest more here none next = (here, none)

pub none_put : {X : Type 0} (a e : Entry X) (es : List (Entry X)) → is_before e a ≡ false → NoneBefore a es → NoneBefore a (put_entry e es)
none_put a e [] here none = (here, tt)
none_put a e (x ∷ rest) here none = none_put_if (is_before x e) a e x rest (put_entry e rest) here none (none_put a e rest here none.1)

pub none_all : {X : Type 0} (a b : Entry X) (es : List (Entry X)) → is_before b a ≡ false → NoneBefore b es → NoneBefore a es
none_all a b [] here none = tt
none_all a b (x ∷ xs) here none = (none_trans x b a none.0 here, none_all a b xs here none.1)

sorted_if : {X : Type 0} (b : Bool) (e x : Entry X) (rest : List (Entry X)) → is_before x e ≡ b → AreSorted (x ∷ rest)
    → AreSorted (put_entry e rest) → AreSorted (if b then x ∷ put_entry e rest else e ∷ x ∷ rest)
sorted_if true e x rest is sorted next = (none_put x e rest (one_way x e is) sorted.0, next)
sorted_if false e x rest is sorted next = ((is, none_all e x rest is sorted.0), sorted)

pub sorted_put : {X : Type 0} (e : Entry X) (es : List (Entry X)) → AreSorted es → AreSorted (put_entry e es)
sorted_put e [] sorted = (tt, tt)
sorted_put e (x ∷ rest) sorted = sorted_if (is_before x e) e x rest refl sorted (sorted_put e rest sorted.1)

-- ---- the first of an inbox and of a row

pub all_more : {X : Type 0} (inbox row : List (Entry X)) (e : Entry X) → put_all (inbox ++ e ∷ []) row ≡ put_entry e (put_all inbox row)
all_more [] row e = refl
all_more (x ∷ xs) row e = all_more xs (put_entry x row) e

-- the head stays the head, where it is taken before all that come in
pub all_behind : {X : Type 0} (inbox : List (Entry X)) (m : Entry X) (row : List (Entry X))
    → ((i : ℕ) (d : Entry X) → i < length inbox → is_before m (get_or inbox i d) ≡ true) → put_all inbox (m ∷ row) ≡ m ∷ put_all inbox row
all_behind [] m row all = refl
all_behind (x ∷ xs) m row all =
    ap (put_all xs) (put_passes x m row (all zero x (omega arith)))
    ∙ all_behind xs m (put_entry x row) (λ i d less. all (suc i) d (omega (arith, less)))

stops_if : {X : Type 0} (b : Bool) (a e x : Entry X) (rest more : List (Entry X)) → is_before e a ≡ false → is_before x a ≡ false
    → HeadIsNotBefore a (if b then x ∷ more else e ∷ x ∷ rest)
stops_if true a e x rest more here stops = stops
stops_if false a e x rest more here stops = here

stops_put : {X : Type 0} (a e : Entry X) (es : List (Entry X)) → is_before e a ≡ false → HeadIsNotBefore a es → HeadIsNotBefore a (put_entry e es)
stops_put a e [] here stops = here
stops_put a e (x ∷ rest) here stops = stops_if (is_before x e) a e x rest (put_entry e rest) here stops

-- the entry of the inbox that is taken before all others is the head
pub all_least : {X : Type 0} (inbox row : List (Entry X)) (at : ℕ) (e : Entry X) → at < length inbox → get_or inbox at e ≡ e
    → ((i : ℕ) (d : Entry X) → i < at → is_before (get_or inbox i d) e ≡ false)
    → ((i : ℕ) (d : Entry X) → at < i → i < length inbox → is_before e (get_or inbox i d) ≡ true)
    → HeadIsNotBefore e row → put_all inbox row ≡ e ∷ put_all (remove inbox at) row
all_least [] row at e inside is before behind stops = absurd (omega arith)
all_least (x ∷ xs) row zero e inside is before behind stops =
    ap (λ t. put_all xs (put_entry t row)) is
    ∙ ap (put_all xs) (put_stops e row stops)
    ∙ all_behind xs e row (λ i d less. behind (suc i) d (omega arith) (omega (arith, less)))
all_least (x ∷ xs) row (suc at) e inside is before behind stops =
    all_least xs (put_entry x row) at e (omega arith) is (λ i d less. before (suc i) d (omega (arith, less)))
    (λ i d over less. behind (suc i) d (omega (arith, over)) (omega (arith, less)))
    (stops_put e x row (before zero x (omega arith)) stops)

-- ---- the search for the first of an inbox

pub least_start : {X : Type 0} (es : List (Entry X)) → IsLeastAt 0 1 es
least_start es = record {
  inside = omega arith;
  before = λ i d less. absurd (omega (arith, less));
  behind = λ i d over less. absurd (omega (arith, over, less));
}

last_or : (i n : ℕ) → i < n + 1 → (i < n) ⊎ (i ≡ n)
last_or i n less = grind arith

split_three : (i at n : ℕ) → i < n → ((i < at) ⊎ (i ≡ at)) ⊎ (at < i)
split_three i at n less = grind arith

tested : {X : Type 0} (b : Bool) (a c e f : Entry X) → is_before a c ≡ b → a ≡ e → c ≡ f → is_before e f ≡ b
tested b a c e f is left right = subst (λ z. is_before z f ≡ b) left (subst (λ z. is_before a z ≡ b) right is)

-- an element as it was read, at any default
read : {X : Type 0} (es : List X) (i : ℕ) (e d : X) → e ≡ get_or es i e → i < length es → e ≡ get_or es i d
read es i e d is less = is ∙ get_or_default es i e d less

kept_behind : {X : Type 0} (at n : ℕ) (es : List (Entry X)) → IsLeastAt at n es → ((d : Entry X) → is_before (get_or es at d) (get_or es n d) ≡ true)
    → (i : ℕ) (d : Entry X) → at < i → (i < n) ⊎ (i ≡ n) → is_before (get_or es at d) (get_or es i d) ≡ true
kept_behind at n es found test i d over (inl under) = found.behind i d over under
kept_behind at n es found test i d over (inr same) = subst (λ k. is_before (get_or es at d) (get_or es k d) ≡ true) (sym same) (test d)

pub least_kept : {X : Type 0} (at n : ℕ) (es : List (Entry X)) (e x : Entry X) → IsLeastAt at n es → n < length es
    → e ≡ get_or es at e → x ≡ get_or es n x → is_before e x ≡ true → IsLeastAt at (n + 1) es
least_kept at n es e x found less is_e is_x test =
    let inside = found.inside in
    let tests : (d : Entry _) → is_before (get_or es at d) (get_or es n d) ≡ true =
    (λ d. tested true e x (get_or es at d) (get_or es n d) test (read es at e d is_e (omega (arith, inside, less))) (read es n x d is_x less)) in
    record {
      inside = omega (arith, inside);
      before = found.before;
      behind = λ i d over under. kept_behind at n es found tests i d over (last_or i n under);
    }

moved_before : {X : Type 0} (at n : ℕ) (es : List (Entry X)) → IsLeastAt at n es → ((d : Entry X) → is_before (get_or es at d) (get_or es n d) ≡ false)
    → (i : ℕ) (d : Entry X) → i < n → ((i < at) ⊎ (i ≡ at)) ⊎ (at < i) → is_before (get_or es i d) (get_or es n d) ≡ false
moved_before at n es found test i d less (inl (inl under)) =
    none_trans (get_or es i d) (get_or es at d) (get_or es n d) (found.before i d under) (test d)
moved_before at n es found test i d less (inl (inr same)) = subst (λ k. is_before (get_or es k d) (get_or es n d) ≡ false) (sym same) (test d)
moved_before at n es found test i d less (inr over) =
    none_trans (get_or es i d) (get_or es at d) (get_or es n d) (one_way (get_or es at d) (get_or es i d) (found.behind i d over less)) (test d)

pub least_moved : {X : Type 0} (at n : ℕ) (es : List (Entry X)) (e x : Entry X) → IsLeastAt at n es → n < length es
    → e ≡ get_or es at e → x ≡ get_or es n x → is_before e x ≡ false → IsLeastAt n (n + 1) es
least_moved at n es e x found less is_e is_x test =
    let inside = found.inside in
    let tests : (d : Entry _) → is_before (get_or es at d) (get_or es n d) ≡ false =
    (λ d. tested false e x (get_or es at d) (get_or es n d) test (read es at e d is_e (omega (arith, inside, less))) (read es n x d is_x less)) in
    record {
      inside = omega arith;
      before = λ i d under. moved_before at n es found tests i d under (split_three i at n under);
      behind = λ i d over under. absurd (omega (arith, over, under));
    }

pub none_stops : {X : Type 0} (e : Entry X) (es : List (Entry X)) → NoneBefore e es → HeadIsNotBefore e es
none_stops e [] none = tt
none_stops e (x ∷ xs) none = none.0

read_self : {X : Type 0} (es : List X) (i : ℕ) (d : X) → i < length es → get_or es i d ≡ get_or es i (get_or es i d)
read_self es i d less = get_or_default es i d (get_or es i d) less

-- ---- the first of an inbox and of the queues' row

pub in_queues_empty : {X : Type 0} (inbox row : List (Entry X)) → inbox ≡ [] → IsInQueues inbox row
in_queues_empty inbox [] empty = empty
in_queues_empty inbox (m ∷ row) empty = λ i d less. absurd (let none = ap length empty in omega (arith, none, less))

pub in_inbox_none : {X : Type 0} (at : ℕ) (inbox row : List (Entry X)) → IsLeastAt at (length inbox) inbox → row ≡ [] → IsInInbox at inbox row
in_inbox_none at inbox row least empty = record { least = least; first = λ d. subst (λ t. HeadIsNotBefore (get_or inbox at d) t) (sym empty) tt }

stops_head : {X : Type 0} (due number : ℕ) (e : Entry X) (row : List (Entry X)) → IsHead due number row → comes_before due number e ≡ false → HeadIsNotBefore e row
stops_head due number e [] head is = tt
stops_head due number e (x ∷ row) head is = subst (λ n. comes_before x.due n e ≡ false) (sym head.1) (subst (λ d. comes_before d number e ≡ false) (sym head.0) is)

pub in_inbox_some : {X : Type 0} (at due number : ℕ) (inbox row : List (Entry X)) (e : Entry X) → IsLeastAt at (length inbox) inbox → IsHead due number row
    → e ≡ get_or inbox at e → comes_before due number e ≡ false → IsInInbox at inbox row
in_inbox_some at due number inbox row e least head is test = record {
  least = least;
  first = λ d. subst (λ t. HeadIsNotBefore t row) (read inbox at e d is least.inside) (stops_head due number e row head test);
}

before_by : {X : Type 0} (at : ℕ) (inbox : List (Entry X)) (m e : Entry X) → IsLeastAt at (length inbox) inbox → e ≡ get_or inbox at e
    → is_before m e ≡ true → (i : ℕ) (d : Entry X) → i < length inbox → ((i < at) ⊎ (i ≡ at)) ⊎ (at < i) → is_before m (get_or inbox i d) ≡ true
before_by at inbox m e least is test i d less (inl (inl under)) =
    before_none m e (get_or inbox i d) test
    (tested false (get_or inbox i d) (get_or inbox at d) (get_or inbox i d) e (least.before i d under) refl (sym (read inbox at e d is least.inside)))
before_by at inbox m e least is test i d less (inl (inr same)) =
    tested true m e m (get_or inbox i d) test refl (read inbox at e d is least.inside ∙ ap (λ k. get_or inbox k d) (sym same))
before_by at inbox m e least is test i d less (inr over) =
    before_none m e (get_or inbox i d) test
    (one_way e (get_or inbox i d) (tested true (get_or inbox at d) (get_or inbox i d) e (get_or inbox i d) (least.behind i d over less) (sym (read inbox at e d is least.inside)) refl))

pub in_queues_some : {X : Type 0} (at due number : ℕ) (inbox row : List (Entry X)) (e : Entry X) → IsLeastAt at (length inbox) inbox → IsHead due number row
    → e ≡ get_or inbox at e → comes_before due number e ≡ true → IsInQueues inbox row
in_queues_some at due number inbox [] e least head is test = absurd head
in_queues_some at due number inbox (x ∷ row) e least head is test =
    let first : is_before x e ≡ true = subst (λ n. comes_before x.due n e ≡ true) (sym head.1) (subst (λ d. comes_before d number e ≡ true) (sym head.0) test) in
    λ i d less. before_by at inbox x e least is first i d less (split_three i at (length inbox) less)

-- what was taken, and what is left

pub inbox_first : {X : Type 0} (at : ℕ) (inbox row : List (Entry X)) (e : Entry X) → IsInInbox at inbox row → e ≡ get_or inbox at e
    → put_all inbox row ≡ e ∷ put_all (remove inbox at) row
inbox_first at inbox row e first is =
    let least = first.least in
    all_least inbox row at e least.inside (sym is)
    (λ i d less. tested false (get_or inbox i d) (get_or inbox at d) (get_or inbox i d) e (least.before i d less) refl (sym (read inbox at e d is least.inside)))
    (λ i d over less. tested true (get_or inbox at d) (get_or inbox i d) e (get_or inbox i d) (least.behind i d over less) (sym (read inbox at e d is least.inside)) refl)
    (subst (λ t. HeadIsNotBefore t row) (sym is) (first.first e))

pub inbox_taken : {X : Type 0} (at : ℕ) (inbox row now : List (Entry X)) → IsInInbox at inbox row → now ≡ remove inbox at
    → (slice_get inbox at ≡ slice_get (put_all inbox row) 0) × (put_all now row ≡ drop 1 (put_all inbox row))
inbox_taken at [] row now first is = absurd (let inside = first.least.inside in omega arith)
inbox_taken at (x ∷ xs) row now first is =
    let e = get_or (x ∷ xs) at x in
    let here = read_self (x ∷ xs) at x first.least.inside in
    let whole = inbox_first at (x ∷ xs) row e first here in (
      slice_get-get_or (x ∷ xs) at x first.least.inside ∙ sym (ap (λ t. slice_get t 0) whole),
      ap (λ t. put_all t row) is ∙ sym (ap (drop 1) whole),
    )

pub queues_taken : {X : Type 0} (inbox row now : List (Entry X)) → IsInQueues inbox row → now ≡ drop 1 row
    → (slice_get row 0 ≡ slice_get (put_all inbox row) 0) × (put_all inbox now ≡ drop 1 (put_all inbox row))
queues_taken inbox [] now first is =
    let none = ap (λ t. put_all t []) first in
    (sym (ap (λ t. slice_get t 0) none), ap (put_all inbox) is ∙ none ∙ sym (ap (drop 1) none))
queues_taken inbox (m ∷ row) now first is =
    let whole = all_behind inbox m row first in
    (sym (ap (λ t. slice_get t 0) whole), ap (put_all inbox) is ∙ sym (ap (drop 1) whole))

-- what each search needs
pub ruleset least_steps = (least_start, least_kept, least_moved)

pub ruleset first_cases = (in_queues_empty, in_inbox_none, in_inbox_some, in_queues_some)
