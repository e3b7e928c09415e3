-- Each routine does the same where the stored actions are changed.
use Rattle.std.proofs.Common.{◌≡◌, ℕ, ℤ, pos, negsuc, zero, suc, Bool, true, false, List, [], ◌∷◌, Option, None, Some, refl, ap, ap₂, ◌∙◌}
use Rattle.std.specs.Prelude.{if◌then◌else◌, ◌==◌, slice_get}
use Rattle.std.specs.Option.{option_map}
use Rattle.std.specs.List.{list_any}
use Rattle.action_queue.specs.declared.queue.Item.{Item}
use Rattle.action_queue.specs.declared.queue.Item.TheVariants.{Do, Wait, Speak}
use Rattle.area_rules.specs.Area.{object}
use Rattle.local_variables.specs.Variables.{Variable}
use Rattle.delay_agenda.specs.declared.entry.Kind.TheVariants.{Event, Stored, Turn, Unapply}
use Rattle.nwq_value.specs.Engine.{EngineTable}
use Rattle.nwq_value.specs.declared.engine.Role.{Role}
use Rattle.nwq_value.specs.declared.engine.Role.TheVariants as role
use Rattle.nwq_value.specs.declared.engine.Routine.{Routine}
use Rattle.nwq_value.specs.Effect.{Effect}
use Rattle.nwq_value.specs.declared.value.Value.{Value}
use Rattle.world_rules.specs.declared.data.Stood.{Stood}
use Rattle.world_rules.specs.declared.data.Told.TheVariants as line
use Rattle.world_rules.specs.Arguments.{int_at, text_at, object_at, effect_at, event_at}
use Rattle.world_rules.specs.Pure.{CellLookup}
use Rattle.world_rules.specs.World.{World, is_valid, queue_of, effects_of}
use Rattle.world_rules.specs.Changes.{told, post, later, with_action, with_actions, with_busy, with_effect, with_effects, with_variables, has_turn, without_turn, without_first, is_effect}
use Rattle.world_rules.specs.Rows.{Call, Answered, Row, rows, drawn_from, drawn, assigned, delayed, awake, appended, appended_do, at_rest, cleared, changed_variables, applied, applied_to, removed, event_script, signalled, NewItem, TheAction, AWait, ASpeech, queued, varied, Change, Print, Say, Draw, Assign, Delay, Queue, Clear, Vary, Apply, Remove, Signal, done, all_done, Answer, Nothing, Random, ByTag, IsThere, IntOf, TextOf, EventOf, UserNumber, answer}
use Rattle.world_rules.specs.Engine.{row_numbered, by_row, by_role, by_routine, engine}
use Rattle.world_rules.specs.Mapped.{map_item, map_world, map_call, map_answered}
use Rattle.world_rules.specs.WorldMaps.{map_if, post_map, has_turn_map, without_turn_map, queue_map, effects_map, with_effects_map, with_actions_map, with_busy_map, with_action_map, with_effect_map}

-- what happens only under a test
pub where_map : {X Y : Type 0} (f : X → Y) (b : Bool) (w v : World X) (u : World Y)
    → u ≡ map_world f v
    → (if b then u else map_world f w) ≡ map_world f (if b then v else w)
where_map f b w v u same = ap (λ t. if b then t else map_world f w) same
    ∙ map_if (map_world f) b v w

drawn_from_map : {X Y : Type 0} (f : X → Y) (rs : List ℕ) (n : ℕ) (w : World X)
    → drawn_from rs n (map_world f w) ≡ map_answered f (drawn_from rs n w)
drawn_from_map f [] n w = refl
drawn_from_map f (r ∷ rs) n w = refl

drawn_map : {X Y : Type 0} (f : X → Y) (n : ℤ) (w : World X)
    → drawn n (map_world f w) ≡ map_answered f (drawn n w)
drawn_map f (negsuc n) w = refl
drawn_map f (pos zero) w = refl
drawn_map f (pos (suc n)) w = drawn_from_map f w.random (suc n) w

assigned_map : {X Y : Type 0} (f : X → Y) (o : ℕ) (a : Option X) (w : World X)
    → assigned o (option_map f a) (map_world f w) ≡ map_world f (assigned o a w)
assigned_map f o None w = refl
assigned_map f o (Some x) w = where_map f (is_valid o w) w (post w.clock (Stored o x) w)
    (post w.clock (Stored o (f x)) (map_world f w)) (post_map f w.clock (Stored o x) w)

delayed_map : {X Y : Type 0} (f : X → Y) (o : ℕ) (ms : ℤ) (a : Option X) (w : World X)
    → delayed o ms (option_map f a) (map_world f w) ≡ map_world f (delayed o ms a w)
delayed_map f o ms None w = refl
delayed_map f o ms (Some x) w = post_map f (later ms w) (Stored o x) w

woken_map : {X Y : Type 0} (f : X → Y) (o : ℕ) (w : World X)
    → post w.clock (Turn o) (with_busy o true (map_world f w))
    ≡ map_world f (post w.clock (Turn o) (with_busy o true w))
woken_map f o w = ap (λ v. post w.clock (Turn o) v) (with_busy_map f o true w)
    ∙ post_map f w.clock (Turn o) (with_busy o true w)

awake_map : {X Y : Type 0} (f : X → Y) (o : ℕ) (w : World X)
    → awake o (map_world f w) ≡ map_world f (awake o w)
awake_map f o w =
    ap₂ (λ (b : Bool) (v : World _). if b then map_world f w else v)
    (ap (λ q. q.busy) (queue_map f o w)) (woken_map f o w)
    ∙ map_if (map_world f) (queue_of o w).busy w (post w.clock (Turn o) (with_busy o true w))

appended_map : {X Y : Type 0} (f : X → Y) (o : ℕ) (item : Item X) (w : World X)
    → appended o (map_item f item) (map_world f w) ≡ map_world f (appended o item w)
appended_map f o item w = where_map f (is_valid o w) w (awake o (with_action o item w))
    (awake o (with_action o (map_item f item) (map_world f w)))
    (ap (λ v. awake o v) (with_action_map f o item w) ∙ awake_map f o (with_action o item w))

appended_do_map : {X Y : Type 0} (f : X → Y) (o : ℕ) (a : Option X) (w : World X)
    → appended_do o (option_map f a) (map_world f w) ≡ map_world f (appended_do o a w)
appended_do_map f o None w = refl
appended_do_map f o (Some x) w = appended_map f o (Do x) w

at_rest_map : {X Y : Type 0} (f : X → Y) (o : ℕ) (w : World X)
    → at_rest o (map_world f w) ≡ map_world f (at_rest o w)
at_rest_map f o w =
    ap (λ (b : Bool). if b then with_busy o false
    (without_turn o (map_world f w)) else map_world f w) (has_turn_map f o w)
    ∙ where_map f (has_turn o w) w (with_busy o false (without_turn o w))
    (with_busy o false (without_turn o (map_world f w)))
    (ap (λ v. with_busy o false v) (without_turn_map f o w)
    ∙ with_busy_map f o false (without_turn o w))

cleared_map : {X Y : Type 0} (f : X → Y) (o : ℕ) (w : World X)
    → cleared o (map_world f w) ≡ map_world f (cleared o w)
cleared_map f o w =
    ap (λ v. if w.version == 2 then at_rest o v else v) (with_actions_map f o [] w)
    ∙ (ap (λ v. if w.version == 2 then v else map_world f (with_actions o [] w))
    (at_rest_map f o (with_actions o [] w))
    ∙ map_if (map_world f) (w.version == 2) (at_rest o (with_actions o [] w)) (with_actions o [] w))

changed_variables_map : {X Y : Type 0} (f : X → Y) (o : ℕ) (change : List Variable → List Variable)
    (w : World X)
    → changed_variables o change (map_world f w) ≡ map_world f (changed_variables o change w)
changed_variables_map f o change w = map_if (map_world f) (is_valid o w)
    (with_variables o change w) w

applied_map : {X Y : Type 0} (f : X → Y) (duration : ℤ) (o : ℕ) (e : Effect) (ms : ℤ) (w : World X)
    → applied duration o e ms (map_world f w) ≡ map_world f (applied duration o e ms w)
applied_map f (pos zero) o e ms w = refl
applied_map f (pos (suc zero)) o e ms w =
    ap (λ v. post (later ms w) (Unapply o) v)
    (with_effect_map f o (Some w.agenda.next) e (told o (line.Apply (pos 1) e) w))
    ∙ post_map f (later ms w) (Unapply o)
    (with_effect o (Some w.agenda.next) e (told o (line.Apply (pos 1) e) w))
applied_map f (pos (suc (suc zero))) o e ms w = with_effect_map f o None e
    (told o (line.Apply (pos 2) e) w)
applied_map f (pos (suc (suc (suc n)))) o e ms w = refl
applied_map f (negsuc n) o e ms w = refl

applied_to_map : {X Y : Type 0} (f : X → Y) (duration : ℤ) (o : ℕ) (e : Effect) (ms : ℤ)
    (w : World X) → applied_to duration o e ms (map_world f w)
    ≡ map_world f (applied_to duration o e ms w)
applied_to_map f duration o e ms w = where_map f (is_valid o w) w (applied duration o e ms w)
    (applied duration o e ms (map_world f w)) (applied_map f duration o e ms w)

abbrev removed_from : {X : Type 0} → ℕ → Effect → List Stood → World X → World X
removed_from o e effects w = if list_any (is_effect e) effects then told o (line.Remove e)
    (with_effects o (without_first (is_effect e) effects) w) else w

removed_map : {X Y : Type 0} (f : X → Y) (o : ℕ) (e : Effect) (w : World X)
    → removed o e (map_world f w) ≡ map_world f (removed o e w)
removed_map f o e w =
    ap (λ effects. removed_from o e effects (map_world f w)) (effects_map f o w)
    ∙ where_map f (list_any (is_effect e) (effects_of o w)) w
    (told o (line.Remove e) (with_effects o (without_first (is_effect e) (effects_of o w)) w))
    (told o (line.Remove e) (with_effects o (without_first (is_effect e) (effects_of o w))
    (map_world f w)))
    (ap (λ v. told o (line.Remove e) v)
    (with_effects_map f o (without_first (is_effect e) (effects_of o w)) w))

signalled_map : {X Y : Type 0} (f : X → Y) (o : ℕ) (user : ℤ) (w : World X)
    → signalled o user (map_world f w) ≡ map_world f (signalled o user w)
signalled_map f o user w = where_map f (is_valid o w) w
    (post w.clock (Event o (event_script (object w.area o).scripts) user) w)
    (post w.clock (Event o (event_script (object w.area o).scripts) user) (map_world f w))
    (post_map f w.clock (Event o (event_script (object w.area o).scripts) user) w)

-- ---- small changes, answers, rows

queued_map : {X Y : Type 0} (f : X → Y) (item : NewItem) (c : Call X) (w : World X)
    → queued item (map_call f c) (map_world f w) ≡ map_world f (queued item c w)
queued_map f TheAction c w = appended_do_map f c.caller c.action w
queued_map f (AWait ms) c w = appended_map f c.caller (Wait (int_at ms c.values)) w
queued_map f (ASpeech text) c w = appended_map f c.caller (Speak (text_at text c.values)) w

done_map : {X Y : Type 0} (f : X → Y) (x : Change) (c : Call X) (w : World X)
    → done x (map_call f c) (map_world f w) ≡ map_world f (done x c w)
done_map f (Print a) c w = refl
done_map f (Say text) c w = refl
done_map f (Draw n) c w = ap (λ (a : Answered _). a.world) (drawn_map f (int_at n c.values) w)
done_map f (Assign o) c w = assigned_map f (object_at o c.values) c.action w
done_map f (Delay ms) c w = delayed_map f c.caller (int_at ms c.values) c.action w
done_map f (Queue item) c w = queued_map f item c w
done_map f Clear c w = cleared_map f c.caller w
done_map f (Vary o change) c w = changed_variables_map f (object_at o c.values)
    (varied change c.values) w
done_map f (Apply duration e o ms) c w = applied_to_map f (int_at duration c.values)
    (object_at o c.values) (effect_at e c.values) (int_at ms c.values) w
done_map f (Remove o e) c w = removed_map f (object_at o c.values) (effect_at e c.values) w
done_map f (Signal o e) c w = signalled_map f (object_at o c.values) (event_at e c.values) w

all_done_map : {X Y : Type 0} (f : X → Y) (changes : List Change) (c : Call X) (w : World X)
    → all_done changes (map_call f c) (map_world f w) ≡ map_world f (all_done changes c w)
all_done_map f [] c w = refl
all_done_map f (x ∷ changes) c w = ap (all_done changes (map_call f c)) (done_map f x c w)
    ∙ all_done_map f changes c (done x c w)

answer_map : {X Y : Type 0} (f : X → Y) (a : Answer) (values : List Value) (w : World X)
    → answer a values (map_world f w) ≡ answer a values w
answer_map f Nothing values w = refl
answer_map f (Random n) values w = ap (λ (a : Answered _). a.value)
    (drawn_map f (int_at n values) w)
answer_map f (ByTag tag n) values w = refl
answer_map f (IsThere o) values w = refl
answer_map f (IntOf o field) values w = refl
answer_map f (TextOf o field) values w = refl
answer_map f (EventOf n) values w = refl
answer_map f UserNumber values w = refl

row_map : {X Y : Type 0} (f : X → Y) (r : Option Row) (c : Call X) (w : World X)
    → by_row r (map_call f c) (map_world f w) ≡ map_answered f (by_row r c w)
row_map f None c w = refl
row_map f (Some r) c w =
    ap₂ (λ (v : Option Value) (u : World _). record { value = v; world = u })
    (answer_map f r.answers c.values w) (all_done_map f r.changes c w)

role_map : {X Y : Type 0} (f : X → Y) (cell : CellLookup) (n : ℕ) (r : Routine) (kind : Role)
    (c : Call X) (w : World X)
    → by_role cell n r kind (map_call f c) (map_world f w)
    ≡ map_answered f (by_role cell n r kind c w)
role_map f cell n r (role.Built own) c w = row_map f (row_numbered own rows) c w
role_map f cell n r (role.Pure k) c w = refl
role_map f cell n r role.World c w = refl
role_map f cell n r role.Uncallable c w = refl

routine_map : {X Y : Type 0} (f : X → Y) (cell : CellLookup) (n : ℕ) (r : Option Routine)
    (c : Call X) (w : World X)
    → by_routine cell n r (map_call f c) (map_world f w) ≡ map_answered f (by_routine cell n r c w)
routine_map f cell n None c w = refl
routine_map f cell n (Some r) c w = role_map f cell n r r.role c w

pub engine_map : {X Y : Type 0} (f : X → Y) (table : EngineTable) (cell : CellLookup) (n : ℕ)
    (c : Call X) (w : World X)
    → engine table cell n (map_call f c) (map_world f w) ≡ map_answered f (engine table cell n c w)
unfolding engine
engine_map f table cell n c w = routine_map f cell n (slice_get table.routines n) c w
