-- Each routine keeps what worlds keep.
use Rattle.std.proofs.Common.{◌≡◌, ◌≢◌, ℕ, ℤ, pos, negsuc, ◌≤◌, zero, suc, Bool, true, false, not, List, [], ◌∷◌, ◌++◌, length, Option, None, Some, refl, sym, ap, subst, ◌∙◌, inl, inr, arith}
use Rattle.std.proofs.Common.{slice_get}
use Rattle.std.specs.Prelude.{if◌then◌else◌, ◌==◌, ◌⊎◌, IsTrue}
use Rattle.std.specs.List.{list_any}
use Rattle.std.proofs.lemmas.Bool.Decides.{nat_tests}
use Rattle.action_queue.specs.declared.queue.Item.{Item}
use Rattle.action_queue.specs.declared.queue.Item.TheVariants.{Do, Wait, Speak}
use Rattle.area_rules.specs.Area.{object}
use Rattle.local_variables.specs.Variables.{Variable}
use Rattle.delay_agenda.specs.Waiting.{turn_count}
use Rattle.delay_agenda.specs.declared.entry.Kind.TheVariants.{Event, Stored, Turn, Unapply}
use Rattle.nwq_value.specs.declared.engine.Role.{Role}
use Rattle.nwq_value.specs.declared.engine.Role.TheVariants as role
use Rattle.nwq_value.specs.declared.engine.Routine.{Routine}
use Rattle.nwq_value.specs.Effect.{Effect}
use Rattle.world_rules.specs.declared.data.Told.{Told}
use Rattle.world_rules.specs.declared.data.Told.TheVariants as line
use Rattle.world_rules.specs.Arguments.{int_at, text_at, object_at, effect_at, event_at}
use Rattle.world_rules.specs.Pure.{CellLookup}
use Rattle.world_rules.specs.World.{World, count, is_valid, queue_of, effects_of}
use Rattle.world_rules.specs.Changes.{told, post, later, with_action, with_actions, with_busy, with_effect, with_effects, with_variables, has_turn, without_turn, without_first, is_effect}
use Rattle.world_rules.specs.Rows.{Call, Row, rows, drawn_from, drawn, assigned, delayed, awake, appended, appended_do, at_rest, cleared, changed_variables, applied, applied_to, removed, event_script}
use Rattle.world_rules.specs.Rows.{signalled, argument, NewItem, TheAction, AWait, ASpeech, queued, varied, Change, Print, Say, Draw, Assign, Delay, Queue, Clear, Vary, Apply, Remove, Signal, done}
use Rattle.world_rules.specs.Rows.{all_done}
use Rattle.world_rules.specs.RowLaws.{PostsOne, row_posts_one, all_done_posts}
use Rattle.world_rules.specs.Engine.{row_numbered, by_row, by_role, by_routine, engine}
use Rattle.world_rules.specs.InPlan.{StaysInPlan}
use Rattle.world_rules.specs.Settled.{stays_so, stays_on}
use Rattle.world_rules.specs.Kept.{turns_allowed, IsWorld, IsActing, IsSettled, IsStep, EngineKeeps}
use Rattle.world_rules.proofs.Queues.{other_queue, same_mark, no_actions, settled_by, busy_settled, cleared_settled}
use Rattle.world_rules.proofs.KeptLemmas.{AgendaLaws, marks_actions, marks_kept, step_behind, SameShape, same_shape, shapes_join, shape_if, shape_effects, shape_variables, shape_kept, shape_step}
use Rattle.world_rules.proofs.KeptLemmas.{stays_by, soon_later, late_later, step_after, step_if, post_step, same_or_other, valid_tells, none_when, woken_settled, awake_if, rest_step}

pub shape_told : {X : Type 0} (o : ℕ) (what : Told) (w : World X) → SameShape w (told o what w)
shape_told o what w = record {
  clock = refl;
  objects = refl;
  things = refl;
  agenda = refl;
  queues = λ p. refl;
  plan = stays_by w (told o what w) refl refl (λ most few. few) refl refl;
}

shape_random : {X : Type 0} (rest : List ℕ) (w : World X) → length rest ≤ length w.random → SameShape w (record w { random = rest })
shape_random rest w fewer = record {
  clock = refl;
  objects = refl;
  things = refl;
  agenda = refl;
  queues = λ p. refl;
  plan = stays_by w (record w { random = rest }) refl refl (λ most few. omega (arith, fewer, few)) refl refl;
}

shape_drawn_from : {X : Type 0} (rs : List ℕ) (n : ℕ) (w : World X) → w.random ≡ rs → SameShape w (drawn_from rs n w).world
shape_drawn_from [] n w same = same_shape w
shape_drawn_from (r ∷ rs) n w same = shape_random rs w (let all = ap length same in omega (arith, all))

shape_drawn : {X : Type 0} (n : ℤ) (w : World X) → SameShape w (drawn n w).world
shape_drawn (negsuc n) w = same_shape w
shape_drawn (pos zero) w = same_shape w
shape_drawn (pos (suc n)) w = shape_drawn_from w.random (suc n) w refl

step_assigned : {X : Type 0} (laws : AgendaLaws X) (o : ℕ) (a : Option X) (w : World X) → IsWorld w → IsStep w (assigned o a w)
step_assigned laws o None w h = shape_step w w (same_shape w) h
step_assigned laws o (Some x) w h = step_if (is_valid o w) w (post w.clock (Stored o x) w) h
    (λ valid. post_step laws w.clock (Stored o x) w h (valid_tells o w valid).1 (omega arith) (omega arith) (λ p. refl))

step_delayed : {X : Type 0} (laws : AgendaLaws X) (o : ℕ) (ms : ℤ) (a : Option X) (w : World X) → IsWorld w → o ≤ count w → IsStep w (delayed o ms a w)
step_delayed laws o ms None w h most = shape_step w w (same_shape w) h
step_delayed laws o ms (Some x) w h most = post_step laws (later ms w) (Stored o x) w h most (late_later ms w) (soon_later ms w) (λ p. refl)

-- an object that turns to one action more is busy, with one Turn
appended_if : {X : Type 0} (laws : AgendaLaws X) (b : Bool) (o p : ℕ) (item : Item X) (w : World X) → IsWorld (with_action o item w)
    → (queue_of o (with_action o item w)).busy ≡ b → 1 ≤ o → o ≤ length (with_action o item w).things → (p ≡ o) ⊎ (p ≢ o) → IsSettled p w
    → IsSettled p (if b then with_action o item w else post w.clock (Turn o) (with_busy o true (with_action o item w)))
appended_if laws true o p item w h mark one most (inl here) a =
    let v = with_action o item w in
    let own = subst (λ r. IsSettled r w) here a in
    let same = same_mark o o (record (queue_of o w) { actions = (queue_of o w).actions ++ item ∷ [] }) w refl in
    subst (λ r. IsSettled r v) (sym here) (busy_settled o v mark (own.turns ∙ ap turns_allowed (sym same ∙ mark)))
appended_if laws true o p item w h mark one most (inr apart) a =
    settled_by p w (with_action o item w) (other_queue o p (record (queue_of o w) { actions = (queue_of o w).actions ++ item ∷ [] }) w apart) refl a
appended_if laws false o p item w h mark one most place a =
    let v = with_action o item w in
    let q = record (queue_of o w) { actions = (queue_of o w).actions ++ item ∷ [] } in
    woken_settled laws o p v (none_when (turn_count o v.agenda.entries) (queue_of o v).busy (h.turns o) mark) one most place
    (λ apart. settled_by p w v (other_queue o p q w apart) refl a)

step_appended : {X : Type 0} (laws : AgendaLaws X) (o : ℕ) (item : Item X) (w : World X) → IsWorld w → IsStep w (appended o item w)
step_appended laws o item w h = step_if (is_valid o w) w (awake o (with_action o item w)) h
    (λ valid. let v = with_action o item w in
    let s = marks_actions o ((queue_of o w).actions ++ item ∷ []) w in
    let kept = marks_kept w v s h in
    let one = (valid_tells o w valid).0 in
    let most = (valid_tells o w valid).1 in
    let things = kept.counted in
    step_behind w v (awake o v) s
    (λ p a. appended_if laws (queue_of o v).busy o p item w kept refl one (omega (arith, most, things)) (same_or_other p o) a)
    (awake_if laws (queue_of o v).busy o v refl kept one most))

step_appended_do : {X : Type 0} (laws : AgendaLaws X) (o : ℕ) (a : Option X) (w : World X) → IsWorld w → IsStep w (appended_do o a w)
step_appended_do laws o None w h = shape_step w w (same_shape w) h
step_appended_do laws o (Some x) w h = step_appended laws o (Do x) w h

some_turn : (n : ℕ) → IsTrue (not (n == 0)) → n ≢ 0
some_turn n h same = absurd (grind (arith, nat_tests, h, same))

step_at_rest : {X : Type 0} (laws : AgendaLaws X) (o : ℕ) (w : World X) → IsWorld w → (queue_of o w).actions ≡ [] → IsStep w (at_rest o w)
step_at_rest laws o w h empty = step_if (has_turn o w) w (with_busy o false (without_turn o w)) h
    (λ some. rest_step laws o w h (some_turn (turn_count o w.agenda.entries) some) empty)

step_cleared : {X : Type 0} (laws : AgendaLaws X) (o : ℕ) (w : World X) → IsWorld w → IsStep w (cleared o w)
step_cleared laws o w h =
    let v = with_actions o [] w in
    let s = marks_actions o [] w in
    let kept = marks_kept w v s h in
    let rest = step_if (w.version == 2) v (at_rest o v) kept (λ second. step_at_rest laws o v kept (no_actions o w)) in
    step_behind w v (cleared o w) s (λ p a. rest.settled p (cleared_settled o p w a)) rest

step_variables : {X : Type 0} (o : ℕ) (change : List Variable → List Variable) (w : World X) → IsWorld w → IsStep w (changed_variables o change w)
step_variables o change w h = shape_step w (changed_variables o change w) (shape_if (is_valid o w) w (with_variables o change w) (shape_variables o change w)) h

shape_effect : {X : Type 0} (o : ℕ) (number : Option ℕ) (e : Effect) (w : World X) → SameShape w (with_effect o number e w)
shape_effect o number e w = shape_effects o (effects_of o w ++ record { number = number; effect = e } ∷ []) w

step_applied : {X : Type 0} (laws : AgendaLaws X) (duration : ℤ) (o : ℕ) (e : Effect) (ms : ℤ) (w : World X) → IsWorld w → 1 ≤ o → o ≤ count w → IsStep w (applied duration o e ms w)
step_applied laws (pos zero) o e ms w h one most = shape_step w (told o (line.Apply (pos 0) e) w) (shape_told o (line.Apply (pos 0) e) w) h
step_applied laws (pos (suc zero)) o e ms w h one most =
    let t = told o (line.Apply (pos 1) e) w in
    let v = with_effect o (Some w.agenda.next) e t in
    let s = shapes_join w t v (shape_told o (line.Apply (pos 1) e) w) (shape_effect o (Some w.agenda.next) e t) in
    step_after w v (post (later ms w) (Unapply o) v) s
    (post_step laws (later ms w) (Unapply o) v (shape_kept w v s h) (one, most) (late_later ms w) (soon_later ms w) (λ p. refl))
step_applied laws (pos (suc (suc zero))) o e ms w h one most =
    let t = told o (line.Apply (pos 2) e) w in
    shape_step w (with_effect o None e t) (shapes_join w t (with_effect o None e t) (shape_told o (line.Apply (pos 2) e) w) (shape_effect o None e t)) h
step_applied laws (pos (suc (suc (suc n)))) o e ms w h one most = shape_step w w (same_shape w) h
step_applied laws (negsuc n) o e ms w h one most = shape_step w w (same_shape w) h

step_applied_to : {X : Type 0} (laws : AgendaLaws X) (duration : ℤ) (o : ℕ) (e : Effect) (ms : ℤ) (w : World X) → IsWorld w → IsStep w (applied_to duration o e ms w)
step_applied_to laws duration o e ms w h = step_if (is_valid o w) w (applied duration o e ms w) h
    (λ valid. step_applied laws duration o e ms w h (valid_tells o w valid).0 (valid_tells o w valid).1)

step_removed : {X : Type 0} (o : ℕ) (e : Effect) (w : World X) → IsWorld w → IsStep w (removed o e w)
step_removed o e w h =
    let v = with_effects o (without_first (is_effect e) (effects_of o w)) w in
    shape_step w (removed o e w) (shape_if (list_any (is_effect e) (effects_of o w)) w (told o (line.Remove e) v)
    (shapes_join w v (told o (line.Remove e) v) (shape_effects o (without_first (is_effect e) (effects_of o w)) w) (shape_told o (line.Remove e) v))) h

step_signalled : {X : Type 0} (laws : AgendaLaws X) (o : ℕ) (user : ℤ) (w : World X) → IsWorld w → IsStep w (signalled o user w)
step_signalled laws o user w h = step_if (is_valid o w) w (post w.clock (Event o (event_script (object w.area o).scripts) user) w) h
    (λ valid. post_step laws w.clock (Event o (event_script (object w.area o).scripts) user) w h (valid_tells o w valid).1 (omega arith) (omega arith) (λ p. refl))

-- ---- small changes

told_keeps : {X : Type 0} (o : ℕ) (what : Told) (w : World X) → IsWorld w → IsStep w (told o what w)
told_keeps o what w h = shape_step w (told o what w) (shape_told o what w) h

stays : {X : Type 0} (w : World X) → IsWorld w → IsStep w w
stays w h = shape_step w w (same_shape w) h

step_queued : {X : Type 0} (laws : AgendaLaws X) (item : NewItem) (c : Call X) (w : World X) → IsWorld w → IsStep w (queued item c w)
step_queued laws TheAction c w h = step_appended_do laws c.caller c.action w h
step_queued laws (AWait ms) c w h = step_appended laws c.caller (Wait (int_at ms c.values)) w h
step_queued laws (ASpeech text) c w h = step_appended laws c.caller (Speak (text_at text c.values)) w h

step_done : {X : Type 0} (laws : AgendaLaws X) (x : Change) (c : Call X) (w : World X) → IsWorld w → c.caller ≤ count w → IsStep w (done x c w)
step_done laws (Print a) c w h most = told_keeps c.caller (line.Print (argument a c.values)) w h
step_done laws (Say text) c w h most = told_keeps c.caller (line.Speak (text_at text c.values)) w h
step_done laws (Draw n) c w h most = shape_step w (drawn (int_at n c.values) w).world (shape_drawn (int_at n c.values) w) h
step_done laws (Assign o) c w h most = step_assigned laws (object_at o c.values) c.action w h
step_done laws (Delay ms) c w h most = step_delayed laws c.caller (int_at ms c.values) c.action w h most
step_done laws (Queue item) c w h most = step_queued laws item c w h
step_done laws Clear c w h most = step_cleared laws c.caller w h
step_done laws (Vary o change) c w h most = step_variables (object_at o c.values) (varied change c.values) w h
step_done laws (Apply duration e o ms) c w h most = step_applied_to laws (int_at duration c.values) (object_at o c.values) (effect_at e c.values) (int_at ms c.values) w h
step_done laws (Remove o e) c w h most = step_removed (object_at o c.values) (effect_at e c.values) w h
step_done laws (Signal o e) c w h most = step_signalled laws (object_at o c.values) (event_at e c.values) w h

-- ---- lists of them

-- a step, but for how many entries it posts
record Goes {X : Type 0} (w v : World X) : Type 0 where
  world : IsWorld v
  objects : count v ≡ count w
  clock : v.clock ≡ w.clock
  no_less : w.agenda.next ≤ v.agenda.next
  acting : (o : ℕ) → IsActing o w → IsActing o v
  settled : (o : ℕ) → IsSettled o w → IsSettled o v
  plan : (until : ℕ) → StaysInPlan until w v

goes_on : {X : Type 0} (w v u : World X) → IsStep w v → Goes v u → Goes w u
goes_on w v u s g =
    let less = s.no_less in
    let more = g.no_less in
    record {
      world = g.world;
      objects = g.objects ∙ s.objects;
      clock = g.clock ∙ s.clock;
      no_less = omega (arith, less, more);
      acting = λ o a. g.acting o (s.acting o a);
      settled = λ o a. g.settled o (s.settled o a);
      plan = λ until. stays_on until w v u (s.plan until) (g.plan until);
    }

all_go : {X : Type 0} (laws : AgendaLaws X) (changes : List Change) (c : Call X) (w : World X) → IsWorld w → c.caller ≤ count w → Goes w (all_done changes c w)
all_go laws [] c w h most = record {
  world = h;
  objects = refl;
  clock = refl;
  no_less = omega arith;
  acting = λ o a. a;
  settled = λ o a. a;
  plan = λ until. stays_so until w;
}
all_go laws (x ∷ changes) c w h most =
    let s = step_done laws x c w h most in
    let same = s.objects in
    goes_on w (done x c w) (all_done changes c (done x c w)) s (all_go laws changes c (done x c w) s.world (omega (arith, same, most)))

-- ---- rows

row_keeps : {X : Type 0} (laws : AgendaLaws X) (r : Option Row) (c : Call X) (w : World X) → PostsOne r → IsWorld w → c.caller ≤ count w → IsStep w (by_row r c w).world
row_keeps laws None c w few h most = stays w h
row_keeps laws (Some r) c w few h most =
    let g = all_go laws r.changes c w h most in
    let more = all_done_posts r.changes c w in
    record {
      world = g.world;
      objects = g.objects;
      clock = g.clock;
      no_less = g.no_less;
      at_most_one = omega (arith, few, more);
      acting = g.acting;
      settled = g.settled;
      plan = g.plan;
    }

role_keeps : {X : Type 0} (laws : AgendaLaws X) (cell : CellLookup) (n : ℕ) (r : Routine) (kind : Role) (c : Call X) (w : World X)
    → IsWorld w → c.caller ≤ count w → IsStep w (by_role cell n r kind c w).world
role_keeps laws cell n r (role.Built own) c w h most = row_keeps laws (row_numbered own rows) c w (row_posts_one own) h most
role_keeps laws cell n r (role.Pure k) c w h most = stays w h
role_keeps laws cell n r role.World c w h most = told_keeps c.caller (line.Call r.name c.values) w h
role_keeps laws cell n r role.Uncallable c w h most = stays w h

routine_keeps : {X : Type 0} (laws : AgendaLaws X) (cell : CellLookup) (n : ℕ) (r : Option Routine) (c : Call X) (w : World X)
    → IsWorld w → c.caller ≤ count w → IsStep w (by_routine cell n r c w).world
routine_keeps laws cell n None c w h most = stays w h
routine_keeps laws cell n (Some r) c w h most = role_keeps laws cell n r r.role c w h most

pub engine_keeps : {X : Type 0} → AgendaLaws X → EngineKeeps X
unfolding engine
engine_keeps laws table cell n c w h most = routine_keeps laws cell n (slice_get table.routines n) c w h most
