-- What is kept of objects, where one of them is changed.
use Rattle.std.proofs.Common.{◌≡◌, ◌<◌, ◌≤◌, ◌-◌, ℕ, zero, suc, List, [], ◌∷◌, length, get_or, set, Result, Ok, Err, Option, Some, slice_get, refl, sym, ap, subst, ◌∙◌, arith}
use Rattle.std.specs.Result.{OnOk}
use Rattle.action_queue.specs.Queued.{Queued}
use Rattle.nwq_value.specs.declared.memory.NoMemory.{NoMemory}
use Rattle.world_rules.specs.declared.data.Stood.{Stood}
use Rattle.world_rules.specs.declared.data.Things.{Things}
use Rattle.action_queue.specs.declared.queue.Item.{Item}
use Rattle.world_rules.specs.World.{World, things_at, queue_in, queue_of, effects_in}
use Rattle.world_rules.specs.Changes.{changed_at, changed_object, with_actions}

pred_suc : (i : ℕ) → i ≡ suc i - 1
pred_suc i = omega arith

-- what is read of an object
pub things_read : {X : Type 0} → (things : List (Things X)) (i : ℕ) (t : Things X) → i < length things → t ≡ get_or things i t → slice_get things i ≡ Some t
things_read [] i t lt is = absurd (omega (arith, lt))
things_read (x ∷ things) zero t lt is = ap Some (sym is)
things_read (x ∷ things) (suc i) t lt is = things_read things i t (omega (arith, lt)) is

pub things_of : {X : Type 0} → (o : ℕ) (things : List (Things X)) (t : Things X) → 1 ≤ o → o ≤ length things → t ≡ get_or things (o - 1) t → things_at o things ≡ Some t
things_of zero things t first within is = absurd (omega (arith, first))
things_of (suc i) things t first within is =
    subst (λ (k : ℕ). t ≡ get_or things k t → slice_get things i ≡ Some t) (pred_suc i) (λ is. things_read things i t within is) is

-- what is kept of it is changed
queue_put : {X : Type 0} → (things : List (Things X)) (i : ℕ) (t : Things X) (q : Queued X) → i < length things → t ≡ get_or things i t →
    set things i (record { queue = q; effects = t.effects }) ≡ changed_at i (λ t. record t { queue = q }) things
queue_put [] i t q lt is = absurd (omega (arith, lt))
queue_put {X = X} (x ∷ things) zero t q lt is = ap (λ (t : Things X). record { queue = q; effects = t.effects } ∷ things) is
queue_put {X = X} (x ∷ things) (suc i) t q lt is = ap (λ (ts : List (Things X)). x ∷ ts) (queue_put things i t q (omega (arith, lt)) is)

effects_put : {X : Type 0} → (things : List (Things X)) (i : ℕ) (t : Things X) (es : List Stood) → i < length things → t ≡ get_or things i t →
    set things i (record { queue = t.queue; effects = es }) ≡ changed_at i (λ t. record t { effects = es }) things
effects_put [] i t es lt is = absurd (omega (arith, lt))
effects_put {X = X} (x ∷ things) zero t es lt is = ap (λ (t : Things X). record { queue = t.queue; effects = es } ∷ things) is
effects_put {X = X} (x ∷ things) (suc i) t es lt is = ap (λ (ts : List (Things X)). x ∷ ts) (effects_put things i t es (omega (arith, lt)) is)

pub queue_changed : {X : Type 0}
    → (o : ℕ) (things : List (Things X)) (t : Things X) (q : Queued X) (change : Queued X → Queued X) → 1 ≤ o
    → o ≤ length things → t ≡ get_or things (o - 1) t → q ≡ change t.queue →
    set things (o - 1) (record { queue = q; effects = t.effects }) ≡ changed_object o (λ t. record t { queue = change (queue_in (things_at o things)) }) things
queue_changed zero things t q change first within is made = absurd (omega (arith, first))
queue_changed {X = X} (suc i) things t q change first within is made =
    subst (λ (k : ℕ). t ≡ get_or things k t
    → set things k (record { queue = q; effects = t.effects })
    ≡ changed_at i (λ t. record t { queue = change (queue_in (slice_get things i)) }) things) (pred_suc i)
    (λ is.
    queue_put things i t q within is
    ∙ ap (λ (q : Queued X). changed_at i (λ t. record t { queue = q }) things) (made ∙ ap (λ (f : Option (Things X)). change (queue_in f)) (sym (things_read things i t within is))))
    is

pub effects_changed : {X : Type 0}
    → (o : ℕ) (things : List (Things X)) (t : Things X) (es : List Stood) (change : List Stood → List Stood) → 1 ≤ o
    → o ≤ length things → t ≡ get_or things (o - 1) t → es ≡ change t.effects →
    set things (o - 1) (record { queue = t.queue; effects = es }) ≡ changed_object o (λ t. record t { effects = change (effects_in (things_at o things)) }) things
effects_changed zero things t es change first within is made = absurd (omega (arith, first))
effects_changed {X = X} (suc i) things t es change first within is made =
    subst (λ (k : ℕ). t ≡ get_or things k t
    → set things k (record { queue = t.queue; effects = es })
    ≡ changed_at i (λ t. record t { effects = change (effects_in (slice_get things i)) }) things) (pred_suc i)
    (λ is.
    effects_put things i t es within is
    ∙ ap (λ (es : List Stood). changed_at i (λ t. record t { effects = es }) things) (made ∙ ap (λ (f : Option (Things X)). change (effects_in f)) (sym (things_read things i t within is))))
    is

-- as many as before
long_at : {X : Type 0} → (i : ℕ) (change : Things X → Things X) (things : List (Things X)) → length (changed_at i change things) ≡ length things
long_at i change [] = refl
long_at zero change (t ∷ things) = refl
long_at (suc i) change (t ∷ things) = ap suc (long_at i change things)

pub long_changed : {X : Type 0} → (o : ℕ) (change : Things X → Things X) (things : List (Things X)) → length (changed_object o change things) ≡ length things
long_changed zero change things = refl
long_changed (suc i) change things = long_at i change things

-- what follows of an answer that is Ok
pub on_ok : {P Q : Type 0} → (r : Result (Unit {0}) NoMemory) → (P → Q) → OnOk r P → OnOk r Q
on_ok (Ok u) follows is = follows is
on_ok (Err e) follows is = tt

-- the mark after a change of the queue that leaves it
busy_at : {X : Type 0} → (i : ℕ) (q : Queued X) (things : List (Things X)) → q.busy ≡ (queue_in (slice_get things i)).busy →
    (queue_in (slice_get (changed_at i (λ t. record t { queue = q }) things) i)).busy ≡ (queue_in (slice_get things i)).busy
busy_at i q [] same = refl
busy_at zero q (t ∷ things) same = same
busy_at (suc i) q (t ∷ things) same = busy_at i q things same

pub busy_stays : {X : Type 0} → (o : ℕ) (actions : List (Item X)) (w : World X) → (queue_of o (with_actions o actions w)).busy ≡ (queue_of o w).busy
busy_stays zero actions w = refl
busy_stays (suc i) actions w = busy_at i (record (queue_of (suc i) w) { actions = actions }) w.things refl

pub ruleset cleared = (long_changed, busy_stays)
