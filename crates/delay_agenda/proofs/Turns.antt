-- Turns of an object: how many there are, where one stands, and the entries without them.
use Rattle.std.proofs.Common.{◌≡◌, ◌≢◌, ◌<◌, ◌≤◌, ◌+◌, ◌++◌, ◌∷◌, [], ℕ, zero, suc, Bool, true, false, List, length, take, get_or, refl, sym, ap, ◌∙◌, arith}
use Rattle.std.specs.Prelude.{if◌then◌else◌}
use Rattle.std.specs.List.{remove}
use Rattle.std.proofs.lemmas.List.{take_more}
use Rattle.delay_agenda.specs.declared.entry.Entry.{Entry}
use Rattle.delay_agenda.specs.Order.{is_before, put_entry}
use Rattle.delay_agenda.specs.Waiting.{is_turn_kind, is_turn_of, turn_count, without_turns}
use Rattle.delay_agenda.specs.declared.entry.Kind.{Kind}
use Rattle.delay_agenda.specs.declared.entry.Kind.TheVariants.{Event, Stored, Turn, Unapply}
use Rattle.std.proofs.lemmas.Bool.Decides.{nat_tests}
use Rattle.delay_agenda.specs.Queues.{put_all, NoneBefore, AreSorted, IsTurnAt}
use Rattle.delay_agenda.proofs.Placing.{put_stops, put_passes, sorted_put, none_all, none_stops}

-- ---- how many

swapped : (b c : Bool) (n : ℕ) → (if b then suc (if c then suc n else n) else (if c then suc n else n)) ≡ (if c then suc (if b then suc n else n) else (if b then suc n else n))
swapped true true n = refl
swapped true false n = refl
swapped false true n = refl
swapped false false n = refl

count_put_if : {X : Type 0} (b : Bool) (object : ℕ) (e x : Entry X) (rest : List (Entry X))
    → turn_count object (put_entry e rest) ≡ turn_count object (e ∷ rest)
    → turn_count object (if b then x ∷ put_entry e rest else e ∷ x ∷ rest) ≡ turn_count object (e ∷ x ∷ rest)
count_put_if true object e x rest next =
    ap (λ k. if is_turn_of object x then suc k else k) next
    ∙ swapped (is_turn_of object x) (is_turn_of object e) (turn_count object rest)
count_put_if false object e x rest next = refl

pub count_put : {X : Type 0} (object : ℕ) (e : Entry X) (es : List (Entry X)) → turn_count object (put_entry e es) ≡ turn_count object (e ∷ es)
count_put object e [] = refl
count_put object e (x ∷ rest) = count_put_if (is_before x e) object e x rest (count_put object e rest)

moved_suc : (b : Bool) (m n : ℕ) → m + (if b then suc n else n) ≡ (if b then suc m else m) + n
moved_suc true m n = omega arith
moved_suc false m n = refl

pub count_joined : {X : Type 0} (object : ℕ) (xs ys : List (Entry X)) → turn_count object (xs ++ ys) ≡ turn_count object xs + turn_count object ys
count_joined object [] ys = omega arith
count_joined object (x ∷ xs) ys =
    ap (λ k. if is_turn_of object x then suc k else k) (count_joined object xs ys)
    ∙ by (is_turn_of object x) (turn_count object xs) (turn_count object ys)
  where
    by : (b : Bool) (m n : ℕ) → (if b then suc (m + n) else m + n) ≡ (if b then suc m else m) + n
    by true m n = omega arith
    by false m n = refl

pub count_all : {X : Type 0} (object : ℕ) (xs row : List (Entry X)) → turn_count object (put_all xs row) ≡ turn_count object xs + turn_count object row
count_all object [] row = omega arith
count_all object (x ∷ xs) row =
    count_all object xs (put_entry x row)
    ∙ ap (λ k. turn_count object xs + k) (count_put object x row)
    ∙ moved_suc (is_turn_of object x) (turn_count object xs) (turn_count object row)

-- ---- the entries without them

kept_none : (b : Bool) (n : ℕ) → (if b then suc n else n) ≡ 0 → (b ≡ false) × (n ≡ 0)
kept_none true n is = absurd (omega (arith, is))
kept_none false n is = (refl, is)

pub without_none : {X : Type 0} (object : ℕ) (es : List (Entry X)) → turn_count object es ≡ 0 → without_turns object es ≡ es
without_none object [] none = refl
without_none object (e ∷ es) none =
    let parts = kept_none (is_turn_of object e) (turn_count object es) none in
    ap (λ (b : Bool). if b then without_turns object es else e ∷ without_turns object es) parts.0
    ∙ ap (λ t. e ∷ t) (without_none object es parts.1)

without_cons : {X : Type 0} (b : Bool) (object : ℕ) (e : Entry X) (es : List (Entry X)) → is_turn_of object e ≡ b
    → without_turns object (e ∷ es) ≡ (if b then without_turns object es else e ∷ without_turns object es)
without_cons b object e es is = ap (λ (t : Bool). if t then without_turns object es else e ∷ without_turns object es) is

pub without_joined : {X : Type 0} (object : ℕ) (xs ys : List (Entry X)) → without_turns object (xs ++ ys) ≡ without_turns object xs ++ without_turns object ys
without_joined object [] ys = refl
without_joined object (x ∷ xs) ys =
    ap (λ t. if is_turn_of object x then t else x ∷ t) (without_joined object xs ys)
    ∙ by (is_turn_of object x) (without_turns object xs) (without_turns object ys)
  where
    by : (b : Bool) (ts us : List _) → (if b then ts ++ us else x ∷ ts ++ us) ≡ (if b then ts else x ∷ ts) ++ us
    by true ts us = refl
    by false ts us = refl

none_without_if : {X : Type 0} (b : Bool) (e x : Entry X) (more : List (Entry X)) → is_before x e ≡ false → NoneBefore e more
    → NoneBefore e (if b then more else x ∷ more)
none_without_if true e x more here next = next
none_without_if false e x more here next = (here, next)

-- none that is left comes before e either
none_without : {X : Type 0} (object : ℕ) (e : Entry X) (es : List (Entry X)) → NoneBefore e es → NoneBefore e (without_turns object es)
none_without object e [] none = tt
none_without object e (x ∷ xs) none =
    none_without_if (is_turn_of object x) e x (without_turns object xs) none.0 (none_without object e xs none.1)

passed_if : {X : Type 0} (t u : Bool) (e x : Entry X) (ws more : List (Entry X)) → is_before x e ≡ true → more ≡ (if t then ws else put_entry e ws)
    → (if u then more else x ∷ more) ≡ (if t then (if u then ws else x ∷ ws) else put_entry e (if u then ws else x ∷ ws))
passed_if true true e x ws more before is = is
passed_if true false e x ws more before is = ap (λ t. x ∷ t) is
passed_if false true e x ws more before is = is
passed_if false false e x ws more before is = ap (λ t. x ∷ t) is ∙ sym (put_passes e x ws before)

stopped_if : {X : Type 0} (t : Bool) (e : Entry X) (ws : List (Entry X)) → put_entry e ws ≡ e ∷ ws → (if t then ws else e ∷ ws) ≡ (if t then ws else put_entry e ws)
stopped_if true e ws is = refl
stopped_if false e ws is = sym is

without_put_if : {X : Type 0} (b : Bool) (object : ℕ) (e x : Entry X) (rest : List (Entry X)) → is_before x e ≡ b → AreSorted (x ∷ rest)
    → without_turns object (put_entry e rest) ≡ (if is_turn_of object e then without_turns object rest else put_entry e (without_turns object rest))
    → without_turns object (if b then x ∷ put_entry e rest else e ∷ x ∷ rest)
    ≡ (if is_turn_of object e then without_turns object (x ∷ rest) else put_entry e (without_turns object (x ∷ rest)))
without_put_if true object e x rest is sorted next =
    passed_if (is_turn_of object e) (is_turn_of object x) e x (without_turns object rest) (without_turns object (put_entry e rest)) is next
without_put_if false object e x rest is sorted next =
    let none : NoneBefore e (x ∷ rest) = (is, none_all e x rest is sorted.0) in
    stopped_if (is_turn_of object e) e (without_turns object (x ∷ rest))
    (put_stops e (without_turns object (x ∷ rest)) (none_stops e (without_turns object (x ∷ rest)) (none_without object e (x ∷ rest) none)))

-- the Turns left out, of entries in order and one more
without_put : {X : Type 0} (object : ℕ) (e : Entry X) (es : List (Entry X)) → AreSorted es
    → without_turns object (put_entry e es) ≡ (if is_turn_of object e then without_turns object es else put_entry e (without_turns object es))
without_put object e [] sorted = by (is_turn_of object e)
  where
    by : (b : Bool) → (if b then [] else e ∷ []) ≡ (if b then [] else e ∷ [])
    by b = refl
without_put object e (x ∷ rest) sorted = without_put_if (is_before x e) object e x rest refl sorted (without_put object e rest sorted.1)

all_if : {X : Type 0} (b : Bool) (x : Entry X) (xs row : List (Entry X)) → put_all xs (if b then row else put_entry x row) ≡ put_all (if b then xs else x ∷ xs) row
all_if true x xs row = refl
all_if false x xs row = refl

pub without_all : {X : Type 0} (object : ℕ) (xs row : List (Entry X)) → AreSorted row
    → without_turns object (put_all xs row) ≡ put_all (without_turns object xs) (without_turns object row)
without_all object [] row sorted = refl
without_all object (x ∷ xs) row sorted =
    without_all object xs (put_entry x row) (sorted_put x row sorted)
    ∙ ap (put_all (without_turns object xs)) (without_put object x row sorted)
    ∙ all_if (is_turn_of object x) x (without_turns object xs) (without_turns object row)

-- ---- one Turn, at its place

count_when : {X : Type 0} (b : Bool) (object : ℕ) (e : Entry X) (es : List (Entry X)) → is_turn_of object e ≡ b
    → turn_count object (e ∷ es) ≡ (if b then suc (turn_count object es) else turn_count object es)
count_when b object e es is = ap (λ (t : Bool). if t then suc (turn_count object es) else turn_count object es) is

more_or : (b : Bool) (n : ℕ) → n ≤ (if b then suc n else n)
more_or true n = omega arith
more_or false n = omega arith

pub count_at : {X : Type 0} (object at : ℕ) (es : List (Entry X)) → IsTurnAt object at es → 0 < turn_count object es
count_at object at [] found = absurd (let inside = found.inside in omega arith)
count_at object zero (e ∷ es) found = let one = count_when true object e es (found.turn e) in omega (arith, one)
count_at object (suc at) (e ∷ es) found =
    let inside = found.inside in
    let rest = count_at object at es (record { inside = omega (arith, inside); turn = found.turn }) in
    let more = more_or (is_turn_of object e) (turn_count object es) in
    omega (arith, rest, more)

not_two : (b : Bool) (n : ℕ) → (if b then suc n else n) ≤ 1 → 0 < n → b ≡ false
not_two true n few some = absurd (omega (arith, few, some))
not_two false n few some = refl

pub without_at : {X : Type 0} (object at : ℕ) (es : List (Entry X)) → IsTurnAt object at es → turn_count object es ≤ 1
    → without_turns object es ≡ remove es at
without_at object at [] found few = absurd (let inside = found.inside in omega arith)
without_at object zero (e ∷ es) found few =
    let one = count_when true object e es (found.turn e) in
    let none : turn_count object es ≡ 0 = omega (arith, one, few) in
    without_cons true object e es (found.turn e) ∙ without_none object es none
without_at object (suc at) (e ∷ es) found few =
    let inside = found.inside in
    let rest : IsTurnAt object at es = record { inside = omega (arith, inside); turn = found.turn } in
    let some = count_at object at es rest in
    let other = not_two (is_turn_of object e) (turn_count object es) few some in
    let more = more_or (is_turn_of object e) (turn_count object es) in
    without_cons false object e es other ∙ ap (λ t. e ∷ t) (without_at object at es rest (omega (arith, more, few)))

pub none_next : {X : Type 0} (object i : ℕ) (es : List (Entry X)) (e : Entry X) → turn_count object (take i es) ≡ 0 → i < length es
    → e ≡ get_or es i e → is_turn_of object e ≡ false → turn_count object (take (i + 1) es) ≡ 0
none_next object i es e none less is other =
    let last = count_when false object e [] other in
    let sum = count_joined object (take i es) (e ∷ []) in
    ap (turn_count object) (take_more es i e less ∙ ap (λ t. take i es ++ t ∷ []) (sym is))
    ∙ omega (arith, sum, last, none)

-- ---- one Turn of an inbox or of a row

pub inbox_cancelled : {X : Type 0} (object at : ℕ) (inbox row : List (Entry X)) → AreSorted row → IsTurnAt object at inbox
    → turn_count object (put_all inbox row) ≤ 1 → put_all (remove inbox at) row ≡ without_turns object (put_all inbox row)
inbox_cancelled object at inbox row sorted found few =
    let sum = count_all object inbox row in
    let some = count_at object at inbox found in
    sym (without_all object inbox row sorted
    ∙ ap (λ t. put_all t (without_turns object row)) (without_at object at inbox found (omega (arith, sum, few)))
    ∙ ap (put_all (remove inbox at)) (without_none object row (omega (arith, sum, few, some))))

pub row_cancelled : {X : Type 0} (object : ℕ) (inbox row now : List (Entry X)) → AreSorted row → turn_count object inbox ≡ 0
    → now ≡ without_turns object row → put_all inbox now ≡ without_turns object (put_all inbox row)
row_cancelled object inbox row now sorted none is =
    ap (put_all inbox) is
    ∙ sym (without_all object inbox row sorted ∙ ap (λ t. put_all t (without_turns object row)) (without_none object inbox none))

-- ---- how many are left

left_if : {X : Type 0} (b : Bool) (object : ℕ) (e : Entry X) (es : List (Entry X)) → is_turn_of object e ≡ b → turn_count object es ≡ 0
    → turn_count object (if b then es else e ∷ es) ≡ 0
left_if true object e es is none = none
left_if false object e es is none = count_when false object e es is ∙ none

pub none_left : {X : Type 0} (object : ℕ) (es : List (Entry X)) → turn_count object (without_turns object es) ≡ 0
none_left object [] = refl
none_left object (e ∷ es) = left_if (is_turn_of object e) object e (without_turns object es) refl (none_left object es)

pub same_object : {X : Type 0} (object : ℕ) (kind : Kind X) → is_turn_kind object kind ≡ true → (other : ℕ) → other ≢ object → is_turn_kind other kind ≡ false
same_object object (Turn o) is other apart = grind (arith, nat_tests)
same_object object (Event o script user) is other apart = refl
same_object object (Stored o action) is other apart = refl
same_object object (Unapply o) is other apart = refl

others_if : {X : Type 0} (b : Bool) (object other : ℕ) (e : Entry X) (es more : List (Entry X)) → is_turn_of object e ≡ b → other ≢ object
    → turn_count other more ≡ turn_count other es → turn_count other (if b then more else e ∷ more) ≡ turn_count other (e ∷ es)
others_if true object other e es more is apart next = next ∙ sym (count_when false other e es (same_object object e.kind is other apart))
others_if false object other e es more is apart next = ap (λ n. if is_turn_of other e then suc n else n) next

pub others_left : {X : Type 0} (object other : ℕ) (es : List (Entry X)) → other ≢ object
    → turn_count other (without_turns object es) ≡ turn_count other es
others_left object other [] apart = refl
others_left object other (e ∷ es) apart =
    others_if (is_turn_of object e) object other e es (without_turns object es) refl apart (others_left object other es apart)
