-- Queues in worlds where one is changed, and objects that are settled.
use Rattle.std.proofs.Common.{◌≡◌, ◌≢◌, ℕ, ◌≤◌, ◌<◌, zero, suc, Bool, true, false, List, [], ◌∷◌, length, None, slice_get, refl, sym, ap, ◌∙◌, inl, inr, arith, true≢false}
use Rattle.std.specs.Prelude.{◌⊎◌}
use Rattle.action_queue.specs.Queued.{Queued}
use Rattle.delay_agenda.specs.Waiting.{turn_count}
use Rattle.world_rules.specs.declared.data.Stood.{Stood}
use Rattle.world_rules.specs.declared.data.Things.{Things}
use Rattle.world_rules.specs.World.{World, queue_in, queue_of}
use Rattle.world_rules.specs.Changes.{changed_at, with_queue, with_effects, with_actions, with_busy}
use Rattle.world_rules.specs.Kept.{turns_allowed, IsSettled}

-- the queue of another object stays, and the object's own is the one that it gets
queue_cases_at : {X : Type 0} (i j : ℕ) (q : Queued X) (ts : List (Things X)) →
    let after = queue_in (slice_get (changed_at i (λ t. record t { queue = q }) ts) j) in
    ((j ≡ i) × (after ≡ q)) ⊎ (after ≡ queue_in (slice_get ts j))
queue_cases_at i j q [] = inr refl
queue_cases_at zero zero q (t ∷ ts) = inl (refl, refl)
queue_cases_at zero (suc j) q (t ∷ ts) = inr refl
queue_cases_at (suc i) zero q (t ∷ ts) = inr refl
queue_cases_at (suc i) (suc j) q (t ∷ ts) = next (queue_cases_at i j q ts)
  where
    next : {A B : Type 0} → ((j ≡ i) × A) ⊎ B → ((suc j ≡ suc i) × A) ⊎ B
    next (inl own) = inl (ap suc own.0, own.1)
    next (inr rest) = inr rest

abbrev Cases : {X : Type 0} → ℕ → ℕ → Queued X → World X → Type 0
Cases o p q w = ((p ≡ o) × (queue_of p (with_queue o q w) ≡ q)) ⊎ (queue_of p (with_queue o q w) ≡ queue_of p w)

queue_cases : {X : Type 0} (o p : ℕ) (q : Queued X) (w : World X) → Cases o p q w
queue_cases zero p q w = inr refl
queue_cases (suc i) zero q w = inr refl
queue_cases (suc i) (suc j) q w = next (queue_cases_at i j q w.things)
  where
    next : {A B : Type 0} → ((j ≡ i) × A) ⊎ B → ((suc j ≡ suc i) × A) ⊎ B
    next (inl own) = inl (ap suc own.0, own.1)
    next (inr rest) = inr rest

other_queue_in : {X : Type 0} (o p : ℕ) (q : Queued X) (w : World X) → p ≢ o → Cases o p q w → queue_of p (with_queue o q w) ≡ queue_of p w
other_queue_in o p q w apart (inl own) = absurd (apart own.0)
other_queue_in o p q w apart (inr same) = same

pub other_queue : {X : Type 0} (o p : ℕ) (q : Queued X) (w : World X) → p ≢ o → queue_of p (with_queue o q w) ≡ queue_of p w
other_queue o p q w apart = other_queue_in o p q w apart (queue_cases o p q w)

-- the mark of another object stays
pub other_mark : {X : Type 0} (o p : ℕ) (q : Queued X) (w : World X) → (p ≡ o) ⊎ ((queue_of p (with_queue o q w)).busy ≡ (queue_of p w).busy)
other_mark o p q w = next (queue_cases o p q w)
  where
    next : Cases o p q w → (p ≡ o) ⊎ ((queue_of p (with_queue o q w)).busy ≡ (queue_of p w).busy)
    next (inl own) = inl own.0
    next (inr same) = inr (ap (λ (q : Queued _). q.busy) same)

-- what queues tell that the old and the new one have in common
same_in_queues : {X A : Type 0} (f : Queued X → A) (o p : ℕ) (q : Queued X) (w : World X) → f q ≡ f (queue_of o w) → Cases o p q w
    → f (queue_of p (with_queue o q w)) ≡ f (queue_of p w)
same_in_queues f o p q w same (inl own) = ap f own.1 ∙ (same ∙ ap (λ r. f (queue_of r w)) (sym own.0))
same_in_queues f o p q w same (inr stays) = ap f stays

pub same_mark : {X : Type 0} (o p : ℕ) (q : Queued X) (w : World X) → q.busy ≡ (queue_of o w).busy → (queue_of p (with_queue o q w)).busy ≡ (queue_of p w).busy
same_mark o p q w same = same_in_queues (λ (q : Queued _). q.busy) o p q w same (queue_cases o p q w)

-- a mark changes no actions
pub mark_actions : {X : Type 0} (o p : ℕ) (busy : Bool) (w : World X) → (queue_of p (with_busy o busy w)).actions ≡ (queue_of p w).actions
mark_actions o p busy w = let q = record (queue_of o w) { busy = busy } in same_in_queues (λ (q : Queued _). q.actions) o p q w refl (queue_cases o p q w)

-- the queue of an object that is there is the one that was set
own_queue_at : {X : Type 0} (i : ℕ) (q : Queued X) (ts : List (Things X)) → i < length ts → queue_in (slice_get (changed_at i (λ t. record t { queue = q }) ts) i) ≡ q
own_queue_at i q [] h = absurd (omega (arith, h))
own_queue_at zero q (t ∷ ts) h = refl
own_queue_at (suc i) q (t ∷ ts) h = own_queue_at i q ts (omega (arith, h))

pub own_queue : {X : Type 0} (o : ℕ) (q : Queued X) (w : World X) → 1 ≤ o → o ≤ length w.things → queue_of o (with_queue o q w) ≡ q
own_queue zero q w one most = absurd (omega (arith, one))
own_queue (suc i) q w one most = own_queue_at i q w.things (omega (arith, most))

-- what holds of the queue that is set, and of the queue of no object
own_or_none_at : {X : Type 0} (P : Queued X → Type 0) (i : ℕ) (q : Queued X) (ts : List (Things X)) → P q → P (queue_in None)
    → P (queue_in (slice_get (changed_at i (λ t. record t { queue = q }) ts) i))
own_or_none_at P i q [] own none = none
own_or_none_at P zero q (t ∷ ts) own none = own
own_or_none_at P (suc i) q (t ∷ ts) own none = own_or_none_at P i q ts own none

own_or_none : {X : Type 0} (P : Queued X → Type 0) (o : ℕ) (q : Queued X) (w : World X) → P q → P (queue_in None) → P (queue_of o (with_queue o q w))
own_or_none P zero q w own none = none
own_or_none P (suc i) q w own none = own_or_none_at P i q w.things own none

pub idle_mark : {X : Type 0} (o : ℕ) (w : World X) → (queue_of o (with_busy o false w)).busy ≡ false
idle_mark o w = own_or_none (λ (q : Queued _). q.busy ≡ false) o (record (queue_of o w) { busy = false }) w refl refl

pub no_actions : {X : Type 0} (o : ℕ) (w : World X) → (queue_of o (with_actions o [] w)).actions ≡ []
no_actions o w = own_or_none (λ (q : Queued _). q.actions ≡ []) o (record (queue_of o w) { actions = [] }) w refl refl

-- effects change no queue
effects_queue_at : {X : Type 0} (i j : ℕ) (effects : List Stood) (ts : List (Things X))
    → queue_in (slice_get (changed_at i (λ t. record t { effects = effects }) ts) j) ≡ queue_in (slice_get ts j)
effects_queue_at i j effects [] = refl
effects_queue_at zero zero effects (t ∷ ts) = refl
effects_queue_at zero (suc j) effects (t ∷ ts) = refl
effects_queue_at (suc i) zero effects (t ∷ ts) = refl
effects_queue_at (suc i) (suc j) effects (t ∷ ts) = effects_queue_at i j effects ts

pub effects_queue : {X : Type 0} (o p : ℕ) (effects : List Stood) (w : World X) → queue_of p (with_effects o effects w) ≡ queue_of p w
effects_queue zero p effects w = refl
effects_queue (suc i) zero effects w = refl
effects_queue (suc i) (suc j) effects w = effects_queue_at i j effects w.things

-- ---- settled objects

pub settled_by : {X : Type 0} (o : ℕ) (w v : World X) → queue_of o v ≡ queue_of o w → turn_count o v.agenda.entries ≡ turn_count o w.agenda.entries
    → IsSettled o w → IsSettled o v
settled_by o w v same turns a = record {
  turns = turns ∙ (a.turns ∙ sym (ap (λ (q : Queued _). turns_allowed q.busy) same));
  idle = λ rests. ap (λ (q : Queued _). q.actions) same ∙ a.idle (sym (ap (λ (q : Queued _). q.busy) same) ∙ rests);
}

pub busy_settled : {X : Type 0} (o : ℕ) (w : World X) → (queue_of o w).busy ≡ true → turn_count o w.agenda.entries ≡ 1 → IsSettled o w
busy_settled o w busy one = record { turns = one ∙ sym (ap turns_allowed busy); idle = λ rests. absurd (true≢false (sym busy ∙ rests)) }

pub idle_settled : {X : Type 0} (o : ℕ) (w : World X) → (queue_of o w).busy ≡ false → (queue_of o w).actions ≡ [] → turn_count o w.agenda.entries ≡ 0
    → IsSettled o w
idle_settled o w rests empty none = record { turns = none ∙ sym (ap turns_allowed rests); idle = λ _. empty }

-- an object whose actions are dropped
cleared_in : {X : Type 0} (o p : ℕ) (w : World X) → Cases o p (record (queue_of o w) { actions = [] }) w → IsSettled p w → IsSettled p (with_actions o [] w)
cleared_in o p w (inl own) a = record {
  turns = a.turns ∙ (ap (λ r. turns_allowed (queue_of r w).busy) own.0 ∙ sym (ap (λ (q : Queued _). turns_allowed q.busy) own.1));
  idle = λ rests. ap (λ (q : Queued _). q.actions) own.1;
}
cleared_in o p w (inr same) a = settled_by p w (with_actions o [] w) same refl a

pub cleared_settled : {X : Type 0} (o p : ℕ) (w : World X) → IsSettled p w → IsSettled p (with_actions o [] w)
cleared_settled o p w a = cleared_in o p w (queue_cases o p (record (queue_of o w) { actions = [] }) w) a
