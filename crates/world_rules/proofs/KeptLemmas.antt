-- What the small changes leave of a world.
use Rattle.std.proofs.Common.{◌≡◌, ◌≢◌, ℕ, ℤ, ◌+◌, ◌-◌, ◌≤◌, zero, suc, Bool, true, false, List, [], ◌∷◌, length, refl, sym, ap, subst, ◌∙◌, inl, inr, arith, true≢false}
use Rattle.std.specs.Prelude.{if◌then◌else◌, ◌⊎◌, nat_eq, IsTrue}
use Rattle.std.specs.List.{AllByRecursion}
use Rattle.std.proofs.lemmas.Bool.Decides.{nat_tests}
use Rattle.std.proofs.Math.Nat.{min-le_right}
use Rattle.action_queue.specs.Queued.{Queued}
use Rattle.action_queue.specs.declared.queue.Item.{Item}
use Rattle.area_rules.specs.Area as areas
use Rattle.area_rules.specs.Objects.{AreaObject}
use Rattle.local_variables.specs.Variables.{Variable}
use Rattle.delay_agenda.specs.Laws.{PostKeeps, CancelKeeps, PutCounts, CancelCounts}
use Rattle.delay_agenda.specs.Order.{is_before, put_entry}
use Rattle.delay_agenda.specs.Waiting.{IsAgenda, is_turn_kind, is_turn_of, turn_count, without_turns}
use Rattle.delay_agenda.specs.declared.entry.Entry.{Entry}
use Rattle.delay_agenda.specs.declared.entry.Kind.{Kind}
use Rattle.delay_agenda.specs.declared.entry.Kind.TheVariants.{Turn}
use Rattle.world_rules.specs.declared.data.Stood.{Stood}
use Rattle.world_rules.specs.declared.data.Things.{Things}
use Rattle.world_rules.specs.World.{World, count, is_valid, queue_of}
use Rattle.world_rules.specs.Arguments.{at_least_zero}
use Rattle.world_rules.specs.Changes.{longest_delay, later, post, changed_at, changed_object, with_effects, with_actions, with_busy, with_variables, without_turn}
use Rattle.world_rules.specs.InPlan.{StaysInPlan}
use Rattle.world_rules.specs.Settled.{stays_so, stays_on}
use Rattle.world_rules.specs.Kept.{IsPlaced, turns_allowed, IsWorld, IsActing, IsSettled, IsStep}
use Rattle.world_rules.proofs.Queues.{own_queue, other_queue, other_mark, same_mark, effects_queue, mark_actions, idle_mark, settled_by, busy_settled, idle_settled}

-- the laws of agendas that are used here
pub record AgendaLaws (X : Type 0) : Type 0 where
  pub post : PostKeeps X
  pub cancel : CancelKeeps X
  pub counts : PutCounts X
  pub cancel_counts : CancelCounts X

-- ---- lists

length_changed : {A : Type 0} (i : ℕ) (change : A → A) (xs : List A) → length (changed_at i change xs) ≡ length xs
length_changed i change [] = refl
length_changed zero change (x ∷ xs) = refl
length_changed (suc i) change (x ∷ xs) = ap suc (length_changed i change xs)

length_object : {X : Type 0} (o : ℕ) (change : Things X → Things X) (ts : List (Things X)) → length (changed_object o change ts) ≡ length ts
length_object zero change ts = refl
length_object (suc i) change ts = length_changed i change ts

length_area : (i : ℕ) (change : List Variable → List Variable) (objects : List AreaObject) → length (areas.variables_changed_at i change objects) ≡ length objects
length_area i change [] = refl
length_area zero change (object ∷ objects) = refl
length_area (suc i) change (object ∷ objects) = ap suc (length_area i change objects)

all_put_if : {X : Type 0} (P : Entry X → Type 0) (b : Bool) (e a : Entry X) (rest more : List (Entry X))
    → P e → P a → AllByRecursion P rest → AllByRecursion P more → AllByRecursion P (if b then a ∷ more else e ∷ a ∷ rest)
all_put_if P true e a rest more pe pa ps qs = (pa, qs)
all_put_if P false e a rest more pe pa ps qs = (pe, (pa, ps))

pub all_put : {X : Type 0} (P : Entry X → Type 0) (e : Entry X) (es : List (Entry X)) → P e → AllByRecursion P es → AllByRecursion P (put_entry e es)
all_put P e [] pe ps = (pe, tt)
all_put P e (a ∷ rest) pe ps = all_put_if P (is_before a e) e a rest (put_entry e rest) pe ps.0 ps.1 (all_put P e rest pe ps.1)

all_without_if : {X : Type 0} (P : Entry X → Type 0) (b : Bool) (e : Entry X) (rest : List (Entry X)) → P e → AllByRecursion P rest → AllByRecursion P (if b then rest else e ∷ rest)
all_without_if P true e rest pe ps = ps
all_without_if P false e rest pe ps = (pe, ps)

all_without : {X : Type 0} (P : Entry X → Type 0) (o : ℕ) (es : List (Entry X)) → AllByRecursion P es → AllByRecursion P (without_turns o es)
all_without P o [] ps = tt
all_without P o (e ∷ es) ps = all_without_if P (is_turn_of o e) e (without_turns o es) ps.0 (all_without P o es ps.1)

-- ---- changes that stay in the plan

-- what leaves the clock and the agenda
pub stays_by : {X : Type 0} (w v : World X) → v.area.tree ≡ w.area.tree → v.version ≡ w.version → ((most : ℕ) → length w.random ≤ most → length v.random ≤ most)
    → v.clock ≡ w.clock → v.agenda ≡ w.agenda → (until : ℕ) → StaysInPlan until w v
stays_by w v tree version random clock agenda until = record {
  tree = tree;
  version = version;
  random = random;
  clock = λ early. subst (λ n. n ≤ until) (sym clock) early;
  due = λ early time late due. subst (λ a. AllByRecursion (λ (e : Entry _). e.due ≤ time) a.entries) (sym agenda) due;
}

-- an entry more
pub stays_post : {X : Type 0} (due : ℕ) (k : Kind X) (w : World X) → due ≤ w.clock + longest_delay → (until : ℕ) → StaysInPlan until w (post due k w)
stays_post due k w soon until = record {
  tree = refl;
  version = refl;
  random = λ most few. few;
  clock = λ early. early;
  due = λ early time late all. all_put (λ (e : Entry _). e.due ≤ time) (record { due = due; number = w.agenda.next; kind = k }) w.agenda.entries
      (omega (arith, soon, early, late)) all;
}

-- an entry more, behind a change that leaves clock and agenda
pub stays_put : {X : Type 0} (due : ℕ) (k : Kind X) (w v : World X) → ((until : ℕ) → StaysInPlan until w v) → due ≤ v.clock + longest_delay
    → (until : ℕ) → StaysInPlan until w (post due k v)
stays_put due k w v s soon until = stays_on until w v (post due k v) (s until) (stays_post due k v soon until)

pub soon_later : {X : Type 0} (ms : ℤ) (w : World X) → later ms w ≤ w.clock + longest_delay
soon_later ms w = let most = min-le_right (at_least_zero ms) longest_delay in omega (arith, most)

pub late_later : {X : Type 0} (ms : ℤ) (w : World X) → w.clock ≤ later ms w
late_later ms w = omega arith

-- ---- changes that leave clock, agenda, objects and marks

pub record SameMarks {X : Type 0} (w v : World X) : Type 0 where
  pub clock : v.clock ≡ w.clock
  pub objects : count v ≡ count w
  pub things : length v.things ≡ length w.things
  pub agenda : v.agenda ≡ w.agenda
  pub busy : (o : ℕ) → (queue_of o v).busy ≡ (queue_of o w).busy
  pub plan : (until : ℕ) → StaysInPlan until w v

pub marks_join : {X : Type 0} (w v u : World X) → SameMarks w v → SameMarks v u → SameMarks w u
marks_join w v u a b = record {
  clock = b.clock ∙ a.clock;
  objects = b.objects ∙ a.objects;
  things = b.things ∙ a.things;
  agenda = b.agenda ∙ a.agenda;
  busy = λ o. b.busy o ∙ a.busy o;
  plan = λ until. stays_on until w v u (a.plan until) (b.plan until);
}

pub marks_actions : {X : Type 0} (o : ℕ) (items : List (Item X)) (w : World X) → SameMarks w (with_actions o items w)
marks_actions o items w = record {
  clock = refl;
  objects = refl;
  things = length_object o (λ t. record t { queue = record (queue_of o w) { actions = items } }) w.things;
  agenda = refl;
  busy = λ p. same_mark o p (record (queue_of o w) { actions = items }) w refl;
  plan = stays_by w (with_actions o items w) refl refl (λ most few. few) refl refl;
}

pub marks_kept : {X : Type 0} (w v : World X) → SameMarks w v → IsWorld w → IsWorld v
marks_kept w v s h = record {
  counted = s.things ∙ (h.counted ∙ sym s.objects);
  agenda = subst IsAgenda (sym s.agenda) h.agenda;
  placed =
      subst (λ a. AllByRecursion (λ (e : Entry _). IsPlaced (count v) e.kind) a.entries) (sym s.agenda)
      (subst (λ n. AllByRecursion (λ (e : Entry _). IsPlaced n e.kind) w.agenda.entries) (sym s.objects) h.placed);
  due =
      subst (λ a. AllByRecursion (λ (e : Entry _). v.clock ≤ e.due) a.entries) (sym s.agenda)
      (subst (λ n. AllByRecursion (λ (e : Entry _). n ≤ e.due) w.agenda.entries) (sym s.clock) h.due);
  turns = λ o.
      subst (λ a. turn_count o a.entries ≤ turns_allowed (queue_of o v).busy) (sym s.agenda)
      (subst (λ b. turn_count o w.agenda.entries ≤ turns_allowed b) (sym (s.busy o)) (h.turns o));
}

pub marks_acting : {X : Type 0} (w v : World X) → SameMarks w v → (o : ℕ) → IsActing o w → IsActing o v
marks_acting w v s o a = record { busy = s.busy o ∙ a.busy; none = ap (λ g. turn_count o g.entries) s.agenda ∙ a.none }

-- a step behind a change that leaves the marks
pub step_behind : {X : Type 0} (w v u : World X) → SameMarks w v → ((o : ℕ) → IsSettled o w → IsSettled o u) → IsStep v u → IsStep w u
step_behind w v u s settled t =
    let next = ap (λ g. g.next) s.agenda in
    let less = t.no_less in
    let most = t.at_most_one in
    record {
      world = t.world;
      objects = t.objects ∙ s.objects;
      clock = t.clock ∙ s.clock;
      no_less = omega (arith, next, less);
      at_most_one = omega (arith, next, most);
      acting = λ o a. t.acting o (marks_acting w v s o a);
      settled = settled;
      plan = λ until. stays_on until w v u (s.plan until) (t.plan until);
    }

-- ---- changes that leave the queues too

pub record SameShape {X : Type 0} (w v : World X) : Type 0 where
  pub clock : v.clock ≡ w.clock
  pub objects : count v ≡ count w
  pub things : length v.things ≡ length w.things
  pub agenda : v.agenda ≡ w.agenda
  pub queues : (o : ℕ) → queue_of o v ≡ queue_of o w
  pub plan : (until : ℕ) → StaysInPlan until w v

pub same_shape : {X : Type 0} (w : World X) → SameShape w w
same_shape w = record { clock = refl; objects = refl; things = refl; agenda = refl; queues = λ o. refl; plan = λ until. stays_so until w }

pub shapes_join : {X : Type 0} (w v u : World X) → SameShape w v → SameShape v u → SameShape w u
shapes_join w v u a b = record {
  clock = b.clock ∙ a.clock;
  objects = b.objects ∙ a.objects;
  things = b.things ∙ a.things;
  agenda = b.agenda ∙ a.agenda;
  queues = λ o. b.queues o ∙ a.queues o;
  plan = λ until. stays_on until w v u (a.plan until) (b.plan until);
}

pub shape_if : {X : Type 0} (b : Bool) (w v : World X) → SameShape w v → SameShape w (if b then v else w)
shape_if true w v s = s
shape_if false w v s = same_shape w

pub shape_effects : {X : Type 0} (o : ℕ) (effects : List Stood) (w : World X) → SameShape w (with_effects o effects w)
shape_effects o effects w = record {
  clock = refl;
  objects = refl;
  things = length_object o (λ t. record t { effects = effects }) w.things;
  agenda = refl;
  queues = λ p. effects_queue o p effects w;
  plan = stays_by w (with_effects o effects w) refl refl (λ most few. few) refl refl;
}

pub shape_variables : {X : Type 0} (o : ℕ) (change : List Variable → List Variable) (w : World X) → SameShape w (with_variables o change w)
shape_variables o change w = record {
  clock = refl;
  objects = length_area (o - 1) change w.area.objects;
  things = refl;
  agenda = refl;
  queues = λ p. refl;
  plan = stays_by w (with_variables o change w) refl refl (λ most few. few) refl refl;
}

pub shape_marks : {X : Type 0} (w v : World X) → SameShape w v → SameMarks w v
shape_marks w v s = record {
  clock = s.clock;
  objects = s.objects;
  things = s.things;
  agenda = s.agenda;
  busy = λ o. ap (λ (q : Queued _). q.busy) (s.queues o);
  plan = s.plan;
}

pub shape_kept : {X : Type 0} (w v : World X) → SameShape w v → IsWorld w → IsWorld v
shape_kept w v s h = marks_kept w v (shape_marks w v s) h

shape_settled : {X : Type 0} (w v : World X) → SameShape w v → (o : ℕ) → IsSettled o w → IsSettled o v
shape_settled w v s o a = settled_by o w v (s.queues o) (ap (λ g. turn_count o g.entries) s.agenda) a

pub shape_step : {X : Type 0} (w v : World X) → SameShape w v → IsWorld w → IsStep w v
shape_step w v s h =
    let next = ap (λ g. g.next) s.agenda in
    record {
      world = shape_kept w v s h;
      objects = s.objects;
      clock = s.clock;
      no_less = omega (arith, next);
      at_most_one = omega (arith, next);
      acting = marks_acting w v (shape_marks w v s);
      settled = shape_settled w v s;
      plan = s.plan;
    }

-- a step behind a change that leaves the shape
pub step_after : {X : Type 0} (w v u : World X) → SameShape w v → IsStep v u → IsStep w u
step_after w v u s t = step_behind w v u (shape_marks w v s) (λ o a. t.settled o (shape_settled w v s o a)) t

pub step_if : {X : Type 0} (b : Bool) (w v : World X) → IsWorld w → (IsTrue b → IsStep w v) → IsStep w (if b then v else w)
step_if true w v h s = s refl
step_if false w v h s = shape_step w w (same_shape w) h

-- ---- posts

-- what is no Turn changes no count
post_counts : {X : Type 0} (laws : AgendaLaws X) (due : ℕ) (k : Kind X) (w : World X) → ((o : ℕ) → is_turn_kind o k ≡ false)
    → (o : ℕ) → turn_count o (post due k w).agenda.entries ≡ turn_count o w.agenda.entries
post_counts laws due k w none o = laws.counts o (record { due = due; number = w.agenda.next; kind = k }) w.agenda.entries
    ∙ ap (λ (b : Bool). if b then suc (turn_count o w.agenda.entries) else turn_count o w.agenda.entries) (none o)

pub post_kept : {X : Type 0} (laws : AgendaLaws X) (due : ℕ) (k : Kind X) (w : World X) → IsWorld w → IsPlaced (count w) k → w.clock ≤ due
    → ((o : ℕ) → is_turn_kind o k ≡ false) → IsWorld (post due k w)
post_kept laws due k w h placed late none = record {
  counted = h.counted;
  agenda = laws.post due k w.agenda h.agenda;
  placed = all_put (λ (e : Entry _). IsPlaced (count w) e.kind) (record { due = due; number = w.agenda.next; kind = k }) w.agenda.entries placed h.placed;
  due = all_put (λ (e : Entry _). w.clock ≤ e.due) (record { due = due; number = w.agenda.next; kind = k }) w.agenda.entries late h.due;
  turns = λ o. subst (λ n. n ≤ turns_allowed (queue_of o w).busy) (sym (post_counts laws due k w none o)) (h.turns o);
}

pub post_settled : {X : Type 0} (laws : AgendaLaws X) (due : ℕ) (k : Kind X) (w : World X) → ((o : ℕ) → is_turn_kind o k ≡ false)
    → (o : ℕ) → IsSettled o w → IsSettled o (post due k w)
post_settled laws due k w none o a = settled_by o w (post due k w) refl (post_counts laws due k w none o) a

pub post_step : {X : Type 0} (laws : AgendaLaws X) (due : ℕ) (k : Kind X) (w : World X) → IsWorld w → IsPlaced (count w) k → w.clock ≤ due
    → due ≤ w.clock + longest_delay → ((o : ℕ) → is_turn_kind o k ≡ false) → IsStep w (post due k w)
post_step laws due k w h placed late soon none = record {
  world = post_kept laws due k w h placed late none;
  objects = refl;
  clock = refl;
  no_less = omega arith;
  at_most_one = omega arith;
  acting = λ o a. record { busy = a.busy; none = post_counts laws due k w none o ∙ a.none };
  settled = post_settled laws due k w none;
  plan = stays_post due k w soon;
}

-- ---- Turns

pub equal_when : (m n : ℕ) → nat_eq m n ≡ true → m ≡ n
equal_when m n h = grind (arith, nat_tests, h)

pub nat_eq_same : (o : ℕ) → nat_eq o o ≡ true
nat_eq_same o = grind (arith, nat_tests)

-- two numbers are equal or they aren't
pub same_or_other : (m n : ℕ) → (m ≡ n) ⊎ (m ≢ n)
same_or_other m n = decided (nat_eq m n) refl
  where
    decided : (b : Bool) → nat_eq m n ≡ b → (m ≡ n) ⊎ (m ≢ n)
    decided true h = inl (equal_when m n h)
    decided false h = inr (λ same. absurd (grind (arith, nat_tests, h, same)))

pub valid_tells : {X : Type 0} (o : ℕ) (w : World X) → IsTrue (is_valid o w) → (1 ≤ o) × (o ≤ count w)
valid_tells o w h = (grind (arith, nat_tests, h), grind (arith, nat_tests, h))

-- a Turn more of an object counts for it alone
pub turn_counts : {X : Type 0} (laws : AgendaLaws X) (due o p : ℕ) (w : World X)
    → turn_count p (post due (Turn o) w).agenda.entries ≡ (if nat_eq o p then suc (turn_count p w.agenda.entries) else turn_count p w.agenda.entries)
turn_counts laws due o p w = laws.counts p (record { due = due; number = w.agenda.next; kind = Turn o }) w.agenda.entries

turns_if : (b : Bool) (o p n : ℕ) (mark : Bool) → (b ≡ true → o ≡ p) → n ≤ turns_allowed mark → (o ≡ p → (mark ≡ true) × (n ≡ 0))
    → (if b then suc n else n) ≤ turns_allowed mark
turns_if true o p n mark same h own =
    let k = own (same refl) in
    subst (λ m. suc n ≤ turns_allowed m) (sym k.0) (let none = k.1 in omega (arith, none))
turns_if false o p n mark same h own = h

-- an acting object may have a Turn
pub turn_kept : {X : Type 0} (laws : AgendaLaws X) (due o : ℕ) (w : World X) → IsWorld w → IsActing o w → 1 ≤ o → o ≤ count w → w.clock ≤ due
    → IsWorld (post due (Turn o) w)
turn_kept laws due o w h a one most late = record {
  counted = h.counted;
  agenda = laws.post due (Turn o) w.agenda h.agenda;
  placed = all_put (λ (e : Entry _). IsPlaced (count w) e.kind) (record { due = due; number = w.agenda.next; kind = Turn o }) w.agenda.entries (one, most) h.placed;
  due = all_put (λ (e : Entry _). w.clock ≤ e.due) (record { due = due; number = w.agenda.next; kind = Turn o }) w.agenda.entries late h.due;
  turns = λ p. subst (λ n. n ≤ turns_allowed (queue_of p w).busy) (sym (turn_counts laws due o p w))
      (turns_if (nat_eq o p) o p (turn_count p w.agenda.entries) (queue_of p w).busy (equal_when o p) (h.turns p)
      (λ same. (subst (λ q. (queue_of q w).busy ≡ true) same a.busy, subst (λ q. turn_count q w.agenda.entries ≡ 0) same a.none)));
}

-- an object whose mark is set, or taken away where it has no Turn
turns_marked : {X : Type 0} (o p : ℕ) (busy : Bool) (w : World X) → turn_count o w.agenda.entries ≡ 0 → IsWorld w
    → (p ≡ o) ⊎ ((queue_of p (with_busy o busy w)).busy ≡ (queue_of p w).busy)
    → turn_count p w.agenda.entries ≤ turns_allowed (queue_of p (with_busy o busy w)).busy
turns_marked o p busy w none h (inl same) = let n = ap (λ q. turn_count q w.agenda.entries) same ∙ none in omega (arith, n)
turns_marked o p busy w none h (inr mark) = subst (λ b. turn_count p w.agenda.entries ≤ turns_allowed b) (sym mark) (h.turns p)

pub mark_kept : {X : Type 0} (o : ℕ) (busy : Bool) (w : World X) → turn_count o w.agenda.entries ≡ 0 → IsWorld w → IsWorld (with_busy o busy w)
mark_kept o busy w none h = record {
  counted = length_object o (λ t. record t { queue = record (queue_of o w) { busy = busy } }) w.things ∙ h.counted;
  agenda = h.agenda;
  placed = h.placed;
  due = h.due;
  turns = λ p. turns_marked o p busy w none h (other_mark o p (record (queue_of o w) { busy = busy }) w);
}

pub none_when : (n : ℕ) (mark : Bool) → n ≤ turns_allowed mark → mark ≡ false → n ≡ 0
none_when n mark h idle = let k = subst (λ b. n ≤ turns_allowed b) idle h in omega (arith, k)

-- an object that isn't busy, once it is so
acting_marked : {X : Type 0} (o : ℕ) (w : World X) → IsWorld w → 1 ≤ o → o ≤ count w → turn_count o w.agenda.entries ≡ 0 → IsActing o (with_busy o true w)
acting_marked o w h one most none =
    let things = h.counted in
    record { busy = ap (λ (q : Queued _). q.busy) (own_queue o (record (queue_of o w) { busy = true }) w one (omega (arith, most, things))); none = none }

count_if : (b : Bool) (o p n : ℕ) → (b ≡ true → o ≡ p) → o ≢ p → (if b then suc n else n) ≡ n
count_if true o p n same apart = absurd (apart (same refl))
count_if false o p n same apart = refl

-- the mark of one that acts is another one's
mark_of_other : {X : Type 0} (o p : ℕ) (busy : Bool) (w : World X) → p ≢ o
    → (p ≡ o) ⊎ ((queue_of p (with_busy o busy w)).busy ≡ (queue_of p w).busy)
    → (queue_of p (with_busy o busy w)).busy ≡ (queue_of p w).busy
mark_of_other o p busy w apart (inl same) = absurd (apart same)
mark_of_other o p busy w apart (inr mark) = mark

acts_apart : {X : Type 0} (o p : ℕ) (w : World X) → (queue_of o w).busy ≡ false → IsActing p w → p ≢ o
acts_apart o p w idle a same = absurd (true≢false (sym a.busy ∙ (ap (λ q. (queue_of q w).busy) same ∙ idle)))

woken_acting : {X : Type 0} (laws : AgendaLaws X) (o p : ℕ) (w : World X) → p ≢ o → IsActing p w → IsActing p (post w.clock (Turn o) (with_busy o true w))
woken_acting laws o p w apart a = record {
  busy = mark_of_other o p true w apart (other_mark o p (record (queue_of o w) { busy = true }) w) ∙ a.busy;
  none = turn_counts laws w.clock o p (with_busy o true w)
      ∙ (count_if (nat_eq o p) o p (turn_count p w.agenda.entries) (equal_when o p) (λ same. apart (sym same)) ∙ a.none);
}

-- a Turn more of an object that acts settles it, and leaves the others
pub turn_settles : {X : Type 0} (laws : AgendaLaws X) (due o p : ℕ) (w : World X) → IsActing o w → (p ≡ o) ⊎ (p ≢ o)
    → (p ≢ o → IsSettled p w) → IsSettled p (post due (Turn o) w)
turn_settles laws due o p w a (inl here) others = subst (λ r. IsSettled r (post due (Turn o) w)) (sym here)
    (busy_settled o (post due (Turn o) w) a.busy (turn_counts laws due o o w
    ∙ (ap (λ (b : Bool). if b then suc (turn_count o w.agenda.entries) else turn_count o w.agenda.entries) (nat_eq_same o) ∙ ap suc a.none)))
turn_settles laws due o p w a (inr apart) others = settled_by p w (post due (Turn o) w) refl
    (turn_counts laws due o p w ∙ count_if (nat_eq o p) o p (turn_count p w.agenda.entries) (equal_when o p) (λ same. apart (sym same))) (others apart)

-- an object that isn't busy settles once it is, with a Turn
pub woken_settled : {X : Type 0} (laws : AgendaLaws X) (o p : ℕ) (w : World X) → turn_count o w.agenda.entries ≡ 0 → 1 ≤ o → o ≤ length w.things
    → (p ≡ o) ⊎ (p ≢ o) → (p ≢ o → IsSettled p w) → IsSettled p (post w.clock (Turn o) (with_busy o true w))
woken_settled laws o p w none one most place others =
    turn_settles laws w.clock o p (with_busy o true w)
    (record { busy = ap (λ (q : Queued _). q.busy) (own_queue o (record (queue_of o w) { busy = true }) w one most); none = none }) place
    (λ apart. settled_by p w (with_busy o true w) (other_queue o p (record (queue_of o w) { busy = true }) w apart) refl (others apart))

pub awake_if : {X : Type 0} (laws : AgendaLaws X) (b : Bool) (o : ℕ) (w : World X) → (queue_of o w).busy ≡ b → IsWorld w → 1 ≤ o → o ≤ count w
    → IsStep w (if b then w else post w.clock (Turn o) (with_busy o true w))
awake_if laws true o w mark h one most = shape_step w w (same_shape w) h
awake_if laws false o w mark h one most =
    let none = none_when (turn_count o w.agenda.entries) (queue_of o w).busy (h.turns o) mark in
    record {
      world = turn_kept laws w.clock o (with_busy o true w) (mark_kept o true w none h) (acting_marked o w h one most none) one most (omega arith);
      objects = refl;
      clock = refl;
      no_less = omega arith;
      at_most_one = omega arith;
      acting = λ p a. woken_acting laws o p w (acts_apart o p w mark a) a;
      settled = λ p a. woken_settled laws o p w none one (let things = h.counted in omega (arith, most, things)) (same_or_other p o) (λ apart. a);
      plan = stays_put w.clock (Turn o) w (with_busy o true w) (stays_by w (with_busy o true w) refl refl (λ most few. few) refl refl) (omega arith);
    }

-- ---- Turns that go

fewer : {X : Type 0} (laws : AgendaLaws X) (o p : ℕ) (w : World X) → turn_count p (without_turn o w).agenda.entries ≤ turn_count p w.agenda.entries
fewer laws o p w = decided (same_or_other p o)
  where
    decided : (p ≡ o) ⊎ (p ≢ o) → turn_count p (without_turn o w).agenda.entries ≤ turn_count p w.agenda.entries
    decided (inl same) = let n = ap (λ q. turn_count q (without_turn o w).agenda.entries) same ∙ (laws.cancel_counts o w.agenda.entries).0 in omega (arith, n)
    decided (inr apart) = let n = (laws.cancel_counts o w.agenda.entries).1 p apart in omega (arith, n)

pub without_kept : {X : Type 0} (laws : AgendaLaws X) (o : ℕ) (w : World X) → IsWorld w → IsWorld (without_turn o w)
without_kept laws o w h = record {
  counted = h.counted;
  agenda = laws.cancel o w.agenda h.agenda;
  placed = all_without (λ (e : Entry _). IsPlaced (count w) e.kind) o w.agenda.entries h.placed;
  due = all_without (λ (e : Entry _). w.clock ≤ e.due) o w.agenda.entries h.due;
  turns = λ p. let n = fewer laws o p w in let most = h.turns p in omega (arith, n, most);
}

-- an object with a Turn doesn't act
turned_apart : {X : Type 0} (o p : ℕ) (w : World X) → turn_count o w.agenda.entries ≢ 0 → IsActing p w → p ≢ o
turned_apart o p w some a same = some (ap (λ q. turn_count q w.agenda.entries) (sym same) ∙ a.none)

-- an object that has nothing to do, and no Turn, settles once it isn't busy
rest_settled : {X : Type 0} (laws : AgendaLaws X) (o p : ℕ) (w : World X) → (queue_of o w).actions ≡ [] → (p ≡ o) ⊎ (p ≢ o) → IsSettled p w
    → IsSettled p (with_busy o false (without_turn o w))
rest_settled laws o p w empty (inl here) a = subst (λ r. IsSettled r (with_busy o false (without_turn o w))) (sym here)
    (idle_settled o (with_busy o false (without_turn o w)) (idle_mark o (without_turn o w)) (mark_actions o o false (without_turn o w) ∙ empty)
    (laws.cancel_counts o w.agenda.entries).0)
rest_settled laws o p w empty (inr apart) a = settled_by p w (with_busy o false (without_turn o w))
    (other_queue o p (record (queue_of o w) { busy = false }) (without_turn o w) apart) ((laws.cancel_counts o w.agenda.entries).1 p apart) a

pub rest_step : {X : Type 0} (laws : AgendaLaws X) (o : ℕ) (w : World X) → IsWorld w → turn_count o w.agenda.entries ≢ 0 → (queue_of o w).actions ≡ []
    → IsStep w (with_busy o false (without_turn o w))
rest_step laws o w h some empty = record {
  world = mark_kept o false (without_turn o w) (laws.cancel_counts o w.agenda.entries).0 (without_kept laws o w h);
  objects = refl;
  clock = refl;
  no_less = omega arith;
  at_most_one = omega arith;
  acting = λ p a. let n = fewer laws o p w in let none = a.none in record {
    busy = mark_of_other o p false (without_turn o w) (turned_apart o p w some a) (other_mark o p (record (queue_of o w) { busy = false }) (without_turn o w)) ∙ a.busy;
    none = omega (arith, n, none);
  };
  settled = λ p a. rest_settled laws o p w empty (same_or_other p o) a;
  plan = λ until. record {
    tree = refl;
    version = refl;
    random = λ most few. few;
    clock = λ early. early;
    due = λ early time late due. all_without (λ (e : Entry _). e.due ≤ time) o w.agenda.entries due;
  };
}
