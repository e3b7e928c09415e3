-- The small changes of a world do the same where its stored actions are changed.
use Rattle.std.proofs.Common.{◌≡◌, ℕ, zero, suc, Bool, true, false, not, List, [], ◌∷◌, ◌++◌, map, Option, None, Some, slice_get, refl, ap, ap₂, ◌∙◌}
use Rattle.std.specs.Prelude.{if◌then◌else◌, ◌==◌}
use Rattle.std.specs.Option.{option_map}
use Rattle.action_queue.specs.Queued.{Queued}
use Rattle.action_queue.specs.declared.queue.Item.{Item}
use Rattle.delay_agenda.specs.Order.{is_before, put_entry}
use Rattle.delay_agenda.specs.Waiting.{is_turn_kind, is_turn_of, posted, turn_count, without_turns}
use Rattle.delay_agenda.specs.declared.entry.Entry.{Entry}
use Rattle.delay_agenda.specs.declared.entry.Kind.{Kind}
use Rattle.delay_agenda.specs.declared.entry.Kind.TheVariants.{Event, Stored, Turn, Unapply}
use Rattle.nwq_value.specs.Effect.{Effect}
use Rattle.world_rules.specs.declared.data.Stood.{Stood}
use Rattle.world_rules.specs.declared.data.Things.{Things}
use Rattle.world_rules.specs.World.{World, things_at, queue_in, effects_in, queue_of, effects_of}
use Rattle.world_rules.specs.Changes.{post, changed_at, changed_object, with_queue, with_effects, with_actions, with_busy, with_action, with_effect, has_turn, without_turn}
use Rattle.world_rules.specs.Mapped.{map_kind, map_entry, map_waiting, map_item, map_queue, map_things, map_world}

-- ---- lists and tests

pub map_if : {A B : Type 0} (h : A → B) (b : Bool) (x y : A)
    → (if b then h x else h y) ≡ h (if b then x else y)
map_if h true x y = refl
map_if h false x y = refl

pub map_append : {A B : Type 0} (h : A → B) (xs ys : List A)
    → map h xs ++ map h ys ≡ map h (xs ++ ys)
map_append h [] ys = refl
map_append h (x ∷ xs) ys = ap (λ l. h x ∷ l) (map_append h xs ys)

get_map : {A B : Type 0} (h : A → B) (xs : List A) (i : ℕ)
    → slice_get (map h xs) i ≡ option_map h (slice_get xs i)
get_map h [] i = refl
get_map h (x ∷ xs) zero = refl
get_map h (x ∷ xs) (suc i) = get_map h xs i

changed_map : {A B : Type 0} (h : A → B) (change : A → A) (other : B → B)
    → ((x : A) → other (h x) ≡ h (change x))
    → (i : ℕ) (xs : List A) → changed_at i other (map h xs) ≡ map h (changed_at i change xs)
changed_map h change other same i [] = refl
changed_map h change other same zero (x ∷ xs) = ap (λ y. y ∷ map h xs) (same x)
changed_map h change other same (suc i) (x ∷ xs) = ap (λ l. h x ∷ l)
    (changed_map h change other same i xs)

-- ---- agendas

put_if : {X Y : Type 0} (f : X → Y) (b : Bool) (e a : Entry X) (rest : List (Entry X))
    → put_entry (map_entry f e) (map (map_entry f) rest) ≡ map (map_entry f) (put_entry e rest)
    → (if b then map_entry f a ∷ put_entry (map_entry f e)
    (map (map_entry f) rest) else map_entry f e ∷ map_entry f a ∷ map (map_entry f) rest)
    ≡ map (map_entry f) (if b then a ∷ put_entry e rest else e ∷ a ∷ rest)
put_if f true e a rest next = ap (λ l. map_entry f a ∷ l) next
put_if f false e a rest next = refl

put_map : {X Y : Type 0} (f : X → Y) (e : Entry X) (es : List (Entry X))
    → put_entry (map_entry f e) (map (map_entry f) es) ≡ map (map_entry f) (put_entry e es)
put_map f e [] = refl
put_map f e (a ∷ rest) = put_if f (is_before a e) e a rest (put_map f e rest)

turn_kind_map : {X Y : Type 0} (f : X → Y) (o : ℕ) (k : Kind X)
    → is_turn_kind o (map_kind f k) ≡ is_turn_kind o k
turn_kind_map f o (Event p script user) = refl
turn_kind_map f o (Stored p x) = refl
turn_kind_map f o (Turn p) = refl
turn_kind_map f o (Unapply p) = refl

count_map : {X Y : Type 0} (f : X → Y) (o : ℕ) (es : List (Entry X))
    → turn_count o (map (map_entry f) es) ≡ turn_count o es
count_map f o [] = refl
count_map f o (e ∷ es) = ap₂ (λ (b : Bool) (n : ℕ). if b then suc n else n)
    (turn_kind_map f o e.kind) (count_map f o es)

without_if : {X Y : Type 0} (f : X → Y) (b : Bool) (e : Entry X) (xs : List (Entry X))
    (ys : List (Entry Y)) → ys ≡ map (map_entry f) xs
    → (if b then ys else map_entry f e ∷ ys) ≡ map (map_entry f) (if b then xs else e ∷ xs)
without_if f true e xs ys same = same
without_if f false e xs ys same = ap (λ l. map_entry f e ∷ l) same

without_map : {X Y : Type 0} (f : X → Y) (o : ℕ) (es : List (Entry X))
    → without_turns o (map (map_entry f) es) ≡ map (map_entry f) (without_turns o es)
without_map f o [] = refl
without_map f o (e ∷ es) =
    ap (λ (b : Bool). if b then without_turns o
    (map (map_entry f) es) else map_entry f e ∷ without_turns o (map (map_entry f) es))
    (turn_kind_map f o e.kind)
    ∙ without_if f (is_turn_of o e) e (without_turns o es) (without_turns o (map (map_entry f) es))
    (without_map f o es)

pub post_map : {X Y : Type 0} (f : X → Y) (due : ℕ) (k : Kind X) (w : World X)
    → post due (map_kind f k) (map_world f w) ≡ map_world f (post due k w)
post_map f due k w = ap (λ es. record
    (map_world f (post due k w)) {
      agenda = record
          (map_waiting f (posted due k w.agenda)) { entries = es };
    })
    (put_map f (record { due = due; number = w.agenda.next; kind = k }) w.agenda.entries)

pub has_turn_map : {X Y : Type 0} (f : X → Y) (o : ℕ) (w : World X)
    → has_turn o (map_world f w) ≡ has_turn o w
has_turn_map f o w = ap (λ (n : ℕ). not (n == 0)) (count_map f o w.agenda.entries)

pub without_turn_map : {X Y : Type 0} (f : X → Y) (o : ℕ) (w : World X)
    → without_turn o (map_world f w) ≡ map_world f (without_turn o w)
without_turn_map f o w = ap
    (λ es. record (map_world f w) { agenda = record (map_waiting f w.agenda) { entries = es } })
    (without_map f o w.agenda.entries)

-- ---- objects

things_map : {X Y : Type 0} (f : X → Y) (o : ℕ) (ts : List (Things X))
    → things_at o (map (map_things f) ts) ≡ option_map (map_things f) (things_at o ts)
things_map f zero ts = refl
things_map f (suc i) ts = get_map (map_things f) ts i

queue_in_map : {X Y : Type 0} (f : X → Y) (t : Option (Things X))
    → queue_in (option_map (map_things f) t) ≡ map_queue f (queue_in t)
queue_in_map f None = refl
queue_in_map f (Some t) = refl

effects_in_map : {X Y : Type 0} (f : X → Y) (t : Option (Things X))
    → effects_in (option_map (map_things f) t) ≡ effects_in t
effects_in_map f None = refl
effects_in_map f (Some t) = refl

pub queue_map : {X Y : Type 0} (f : X → Y) (o : ℕ) (w : World X)
    → queue_of o (map_world f w) ≡ map_queue f (queue_of o w)
queue_map f o w = ap queue_in (things_map f o w.things) ∙ queue_in_map f (things_at o w.things)

pub effects_map : {X Y : Type 0} (f : X → Y) (o : ℕ) (w : World X)
    → effects_of o (map_world f w) ≡ effects_of o w
effects_map f o w = ap effects_in (things_map f o w.things)
    ∙ effects_in_map f (things_at o w.things)

object_map : {X Y : Type 0} (f : X → Y) (change : Things X → Things X) (other : Things Y → Things Y)
    → ((t : Things X) → other (map_things f t) ≡ map_things f (change t))
    → (o : ℕ) (ts : List (Things X))
    → changed_object o other (map (map_things f) ts)
    ≡ map (map_things f) (changed_object o change ts)
object_map f change other same zero ts = refl
object_map f change other same (suc i) ts = changed_map (map_things f) change other same i ts

pub with_queue_map : {X Y : Type 0} (f : X → Y) (o : ℕ) (q : Queued X) (w : World X)
    → with_queue o (map_queue f q) (map_world f w) ≡ map_world f (with_queue o q w)
with_queue_map f o q w = ap (λ ts. record (map_world f w) { things = ts })
    (object_map f (λ t. record t { queue = q }) (λ t. record t { queue = map_queue f q })
    (λ t. refl) o w.things)

pub with_effects_map : {X Y : Type 0} (f : X → Y) (o : ℕ) (effects : List Stood) (w : World X)
    → with_effects o effects (map_world f w) ≡ map_world f (with_effects o effects w)
with_effects_map f o effects w = ap (λ ts. record (map_world f w) { things = ts })
    (object_map f (λ t. record t { effects = effects }) (λ t. record t { effects = effects })
    (λ t. refl) o w.things)

pub with_actions_map : {X Y : Type 0} (f : X → Y) (o : ℕ) (items : List (Item X)) (w : World X)
    → with_actions o (map (map_item f) items) (map_world f w) ≡ map_world f (with_actions o items w)
with_actions_map f o items w =
    ap (λ (q : Queued _). with_queue o (record q { actions = map (map_item f) items })
    (map_world f w)) (queue_map f o w)
    ∙ with_queue_map f o (record (queue_of o w) { actions = items }) w

pub with_busy_map : {X Y : Type 0} (f : X → Y) (o : ℕ) (busy : Bool) (w : World X)
    → with_busy o busy (map_world f w) ≡ map_world f (with_busy o busy w)
with_busy_map f o busy w =
    ap (λ (q : Queued _). with_queue o (record q { busy = busy }) (map_world f w)) (queue_map f o w)
    ∙ with_queue_map f o (record (queue_of o w) { busy = busy }) w

pub with_action_map : {X Y : Type 0} (f : X → Y) (o : ℕ) (item : Item X) (w : World X)
    → with_action o (map_item f item) (map_world f w) ≡ map_world f (with_action o item w)
with_action_map f o item w =
    ap (λ items. with_actions o items (map_world f w))
    (ap (λ (q : Queued _). q.actions ++ map_item f item ∷ []) (queue_map f o w)
    ∙ map_append (map_item f) (queue_of o w).actions (item ∷ []))
    ∙ with_actions_map f o ((queue_of o w).actions ++ item ∷ []) w

pub with_effect_map : {X Y : Type 0} (f : X → Y) (o : ℕ) (number : Option ℕ) (e : Effect)
    (w : World X) → with_effect o number e (map_world f w) ≡ map_world f (with_effect o number e w)
with_effect_map f o number e w =
    ap (λ effects. with_effects o (effects ++ record { number = number; effect = e } ∷ [])
    (map_world f w)) (effects_map f o w)
    ∙ with_effects_map f o (effects_of o w ++ record { number = number; effect = e } ∷ []) w
