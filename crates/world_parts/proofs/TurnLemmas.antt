-- Turns that are taken off the agenda.
use Rattle.std.proofs.Common.{◌≡◌, ℕ, zero, suc, Bool, true, false, ℤ, List, [], ◌∷◌, drop, None, Some, slice_get, refl, sym, ap, ◌∙◌, arith}
use Rattle.std.specs.Prelude.{if◌then◌else◌}
use Rattle.std.proofs.lemmas.Option.{none-some, same_Some}
use Rattle.action_queue.specs.declared.queue.Item.{Item}
use Rattle.action_queue.specs.declared.queue.Item.TheVariants.{Do, Wait, Speak}
use Rattle.delay_agenda.specs.declared.entry.Entry.{Entry}
use Rattle.delay_agenda.specs.declared.entry.Kind.TheVariants.{Turn}
use Rattle.delay_agenda.specs.Waiting.{is_turn_of, turn_count, without_turns}
use Rattle.world_rules.specs.declared.data.Things.{Things}
use Rattle.world_rules.specs.declared.data.Told.TheVariants as line
use Rattle.world_rules.specs.World.{World, queue_in, queue_of}
use Rattle.world_rules.specs.Changes.{changed_at, later, post, told, with_actions, with_busy, with_queue}
use Rattle.world_rules.specs.Turns.{next_turn, turn, turn_done, turned}

left_if : {X : Type 0} → (b : Bool) (e : Entry X) (xs ys : List (Entry X)) (n : ℕ) → (n ≡ 0 → xs ≡ ys) → (if b then suc n else n) ≡ 0 → (if b then xs else e ∷ xs) ≡ e ∷ ys
left_if true e xs ys n next none = absurd (omega (arith, none))
left_if {X = X} false e xs ys n next none = ap (λ (es : List (Entry X)). e ∷ es) (next none)

-- what is left where there was no Turn of the object
pub none_left : {X : Type 0} → (o : ℕ) (es : List (Entry X)) → turn_count o es ≡ 0 → without_turns o es ≡ es
none_left o [] none = refl
none_left o (e ∷ es) none = left_if (is_turn_of o e) e (without_turns o es) es (turn_count o es) (none_left o es) none

-- ---- the halves of a Turn

cons_of : {X : Type 0} → (i : Item X) (items : List (Item X)) → Some i ≡ slice_get items 0 → items ≡ i ∷ drop 1 items
cons_of i [] some = absurd (none-some i (sym some))
cons_of {X = X} i (x ∷ items) some = ap (λ (j : Item X). j ∷ items) (sym (same_Some i x some))

nil_of : {X : Type 0} → (items : List (Item X)) → None ≡ slice_get items 0 → items ≡ []
nil_of [] none = refl
nil_of (x ∷ items) none = absurd (none-some x none)

same_at : {X : Type 0} → (i : ℕ) (things : List (Things X)) → changed_at i (λ t. record t { queue = queue_in (slice_get things i) }) things ≡ things
same_at i [] = refl
same_at zero (t ∷ things) = refl
same_at {X = X} (suc i) (t ∷ things) = ap (λ (ts : List (Things X)). t ∷ ts) (same_at i things)

same_queue : {X : Type 0} → (o : ℕ) (w : World X) → with_queue o (queue_of o w) w ≡ w
same_queue zero w = refl
same_queue {X = X} (suc i) w = ap (λ (ts : List (Things X)). record w { things = ts }) (same_at i w.things)

same_actions : {X : Type 0} → (o : ℕ) (items : List (Item X)) (w : World X) → (queue_of o w).actions ≡ items → with_actions o items w ≡ w
same_actions {X = X} o items w is = ap (λ (items : List (Item X)). with_actions o items w) (sym is) ∙ same_queue o w

nil_drops : {X : Type 0} → (items : List (Item X)) → items ≡ [] → items ≡ drop 1 items
nil_drops {X = X} items is = is ∙ ap (λ (items : List (Item X)). drop 1 items) (sym is)

pub turn_none : {X : Type 0} → (o : ℕ) (w : World X) → None ≡ slice_get (queue_of o w).actions 0 →
    turn o w ≡ record { action = None; world = with_busy o false (with_actions o (drop 1 (queue_of o w).actions) w) }
turn_none {X = X} o w none =
    let nil = nil_of (queue_of o w).actions none in
    ap (λ (items : List (Item X)). turned o items w) nil
    ∙ ap (λ (v : World X). record { action = None; world = with_busy o false v }) (sym (same_actions o (drop 1 (queue_of o w).actions) w (nil_drops (queue_of o w).actions nil)))

pub turn_do : {X : Type 0} → (o : ℕ) (x : X) (w : World X) → Some (Do x) ≡ slice_get (queue_of o w).actions 0 →
    turn o w ≡ record { action = Some x; world = with_actions o (drop 1 (queue_of o w).actions) w }
turn_do {X = X} o x w some = ap (λ (items : List (Item X)). turned o items w) (cons_of (Do x) (queue_of o w).actions some)

pub turn_wait : {X : Type 0} → (o : ℕ) (ms : ℤ) (w : World X) → Some (Wait ms) ≡ slice_get (queue_of o w).actions 0 →
    turn o w ≡ record { action = None; world = post (later ms w) (Turn o) (with_actions o (drop 1 (queue_of o w).actions) w) }
turn_wait {X = X} o ms w some = ap (λ (items : List (Item X)). turned o items w) (cons_of (Wait ms) (queue_of o w).actions some)

pub turn_speak : {X : Type 0} → (o : ℕ) (bytes : List ℕ) (w : World X) → Some (Speak bytes) ≡ slice_get (queue_of o w).actions 0 →
    turn o w ≡ record { action = None; world = turn_done o (told o (line.Speak bytes) (with_actions o (drop 1 (queue_of o w).actions) w)) }
turn_speak {X = X} o bytes w some = ap (λ (items : List (Item X)). turned o items w) (cons_of (Speak bytes) (queue_of o w).actions some)

pub ruleset turn_cases = (turn_none, turn_do, turn_wait, turn_speak)

pub rests : {X : Type 0} → (o : ℕ) (w : World X) → None ≡ slice_get (queue_of o w).actions 0 → turn_done o w ≡ with_busy o false w
rests {X = X} o w none = ap (λ (items : List (Item X)). next_turn o items w) (nil_of (queue_of o w).actions none)

pub goes_on : {X : Type 0} → (o : ℕ) (i : Item X) (w : World X) → Some i ≡ slice_get (queue_of o w).actions 0 → turn_done o w ≡ post w.clock (Turn o) w
goes_on {X = X} o i w some = ap (λ (items : List (Item X)). next_turn o items w) (cons_of i (queue_of o w).actions some)

pub ruleset turned_on = (rests, goes_on)
