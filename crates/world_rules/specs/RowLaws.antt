-- What is true of each small change is true of every list of them, and so of each call of a
-- routine. Lemmas for the proofs of the crates above, too.
use Rattle.std.proofs.Common.{◌≡◌, ◌≤◌, ◌+◌, ℕ, ℤ, pos, negsuc, zero, suc, Bool, true, false, List, [], ◌∷◌, Option, None, Some, refl, arith}
use Rattle.std.specs.Prelude.{◌==◌, if◌then◌else◌, cond, nat_le, slice_get}
use Rattle.std.specs.List.{list_all, list_any}
use Rattle.std.proofs.lemmas.Bool.{and_parts}
use Rattle.std.proofs.lemmas.Bool.Decides.{nat_tests}
use Rattle.action_queue.specs.declared.queue.Item.{Item}
use Rattle.action_queue.specs.declared.queue.Item.TheVariants.{Do, Wait, Speak}
use Rattle.nwq_value.specs.Effect.{Effect}
use Rattle.nwq_value.specs.Engine.{EngineTable}
use Rattle.nwq_value.specs.declared.engine.Role.{Role}
use Rattle.nwq_value.specs.declared.engine.Role.TheVariants as role
use Rattle.nwq_value.specs.declared.engine.Routine.{Routine}
use Rattle.nwq_value.specs.declared.value.Value.{Value}
use Rattle.world_rules.specs.declared.data.Told.TheVariants as line
use Rattle.world_rules.specs.Arguments.{int_at, text_at, object_at, effect_at}
use Rattle.world_rules.specs.Pure.{CellLookup, pure}
use Rattle.world_rules.specs.World.{World, is_valid, queue_of, effects_of}
use Rattle.world_rules.specs.Changes.{told, with_action, with_actions, has_turn, is_effect}
use Rattle.world_rules.specs.Rows.{Call, Row, rows, drawn_from, drawn, assigned, delayed, awake, appended, appended_do, at_rest, cleared, applied, NewItem, TheAction, AWait, ASpeech, queued, Change, Print, Say, Draw, Assign, Delay, Queue, Clear, Vary, Apply, Remove, Signal, done, all_done, posts, all_posts, Answer, answer}
use Rattle.world_rules.specs.Engine.{row_numbered, by_row, by_role, by_routine, engine, world_value}

-- ---- what holds of worlds

module _ {X : Type 0} (P : World X → Type 0) (c : Call X) where
  -- each small change of the call keeps it
  abbrev pub EachKeeps : Type 0
  EachKeeps = (x : Change) (w : World X) → P w → P (done x c w)

  -- so does the line that a world function leaves
  abbrev pub CallsKeep : EngineTable → ℕ → Type 0
  CallsKeep table n = (r : Routine) → slice_get table.routines n ≡ Some r → (w : World X) → P w
      → P (told c.caller (line.Call r.name c.values) w)

  pub all_keep : EachKeeps → (changes : List Change) (w : World X) → P w → P (all_done changes c w)
  all_keep each [] w h = h
  all_keep each (x ∷ changes) w h = all_keep each changes (done x c w) (each x w h)

  row_keeps : EachKeeps → (r : Option Row) (w : World X) → P w → P (by_row r c w).world
  row_keeps each None w h = h
  row_keeps each (Some r) w h = all_keep each r.changes w h

  role_keeps : (cell : CellLookup) (n : ℕ) (r : Routine) (kind : Role) (w : World X) → EachKeeps
      → P (told c.caller (line.Call r.name c.values) w) → P w → P (by_role cell n r kind c w).world
  role_keeps cell n r (role.Built own) w each line h = row_keeps each (row_numbered own rows) w h
  role_keeps cell n r (role.Pure k) w each line h = h
  role_keeps cell n r role.World w each line h = line
  role_keeps cell n r role.Uncallable w each line h = h

  routine_keeps : (cell : CellLookup) (n : ℕ) (r : Option Routine) (w : World X) → EachKeeps
      → ((own : Routine) → r ≡ Some own → P (told c.caller (line.Call own.name c.values) w)) → P w
      → P (by_routine cell n r c w).world
  routine_keeps cell n None w each line h = h
  routine_keeps cell n (Some r) w each line h = role_keeps cell n r r.role w each (line r refl) h

  -- each call of the engine keeps it
  pub engine_keeps : (table : EngineTable) (cell : CellLookup) (n : ℕ) → EachKeeps
      → CallsKeep table n → (w : World X) → P w → P (engine table cell n c w).world
  unfolding engine
  engine_keeps table cell n each lines w h = routine_keeps cell n
      (slice_get table.routines n) w each (λ r at. lines r at w h) h

-- ---- what holds of answers

module _ {X : Type 0} (Q : Option Value → Type 0) (none : Q None) (c : Call X) (w : World X) where
  row_answers : ((a : Answer) → Q (answer a c.values w)) → (r : Option Row) → Q (by_row r c w).value
  row_answers each None = none
  row_answers each (Some r) = each r.answers

  role_answers : (cell : CellLookup) (n : ℕ) (r : Routine) (kind : Role)
      → ((a : Answer) → Q (answer a c.values w)) → ((k : ℕ) → Q (pure cell k c.values))
      → Q (world_value n r.result c.values)
      → Q (by_role cell n r kind c w).value
  role_answers cell n r (role.Built own) each pures value = row_answers each (row_numbered own rows)
  role_answers cell n r (role.Pure k) each pures value = pures k
  role_answers cell n r role.World each pures value = value
  role_answers cell n r role.Uncallable each pures value = none

  routine_answers : (cell : CellLookup) (n : ℕ) (r : Option Routine)
      → ((a : Answer) → Q (answer a c.values w)) → ((k : ℕ) → Q (pure cell k c.values))
      → ((own : Routine) → r ≡ Some own → Q (world_value n own.result c.values))
      → Q (by_routine cell n r c w).value
  routine_answers cell n None each pures value = none
  routine_answers cell n (Some r) each pures value = role_answers cell n r r.role each pures
      (value r refl)

  -- what each answer, function and starting value has, the value of each call has
  pub engine_answers : (table : EngineTable) (cell : CellLookup) (n : ℕ)
      → ((a : Answer) → Q (answer a c.values w)) → ((k : ℕ) → Q (pure cell k c.values))
      → ((r : Routine) → slice_get table.routines n ≡ Some r → Q (world_value n r.result c.values))
      → Q (engine table cell n c w).value
  unfolding engine
  engine_answers table cell n each pures value = routine_answers cell n
      (slice_get table.routines n) each pures value

-- ---- posts

module _ {X : Type 0} where
  -- so many entries more at most
  abbrev pub Posts : ℕ → World X → World X → Type 0
  Posts n w v = v.agenda.next ≤ w.agenda.next + n

  posts_if : (b : Bool) (n : ℕ) (w v u : World X) → Posts n w v → Posts n w u
      → Posts n w (if b then v else u)
  posts_if true n w v u h k = h
  posts_if false n w v u h k = k

  none_more : (n : ℕ) (w : World X) → Posts n w w
  none_more n w = omega arith

  drawn_from_posts : (rs : List ℕ) (n : ℕ) (w : World X) → Posts 0 w (drawn_from rs n w).world
  drawn_from_posts [] n w = omega arith
  drawn_from_posts (r ∷ rs) n w = omega arith

  drawn_posts : (n : ℤ) (w : World X) → Posts 0 w (drawn n w).world
  drawn_posts (negsuc n) w = omega arith
  drawn_posts (pos zero) w = omega arith
  drawn_posts (pos (suc n)) w = drawn_from_posts w.random (suc n) w

  assigned_posts : (o : ℕ) (a : Option X) (w : World X) → Posts 1 w (assigned o a w)
  assigned_posts o None w = omega arith
  assigned_posts o (Some x) w = posts_if (is_valid o w) 1 w _ w (omega arith) (omega arith)

  delayed_posts : (o : ℕ) (ms : ℤ) (a : Option X) (w : World X) → Posts 1 w (delayed o ms a w)
  delayed_posts o ms None w = omega arith
  delayed_posts o ms (Some x) w = omega arith

  appended_posts : (o : ℕ) (item : Item X) (w : World X) → Posts 1 w (appended o item w)
  appended_posts o item w =
      posts_if (is_valid o w) 1 w (awake o (with_action o item w)) w
      (posts_if (queue_of o (with_action o item w)).busy 1 w (with_action o item w) _ (omega arith)
      (omega arith)) (omega arith)

  queued_posts : (item : NewItem) (c : Call X) (w : World X) → Posts 1 w (queued item c w)
  queued_posts TheAction c w = optional c.action
    where
      optional : (a : Option X) → Posts 1 w (appended_do c.caller a w)
      optional None = omega arith
      optional (Some x) = appended_posts c.caller (Do x) w
  queued_posts (AWait ms) c w = appended_posts c.caller (Wait (int_at ms c.values)) w
  queued_posts (ASpeech text) c w = appended_posts c.caller (Speak (text_at text c.values)) w

  cleared_posts : (o : ℕ) (w : World X) → Posts 0 w (cleared o w)
  cleared_posts o w =
      posts_if (w.version == 2) 0 w (at_rest o (with_actions o [] w)) (with_actions o [] w)
      (posts_if (has_turn o (with_actions o [] w)) 0 w _ (with_actions o [] w) (omega arith)
      (omega arith)) (omega arith)

  applied_posts : (duration : ℤ) (o : ℕ) (e : Effect) (ms : ℤ) (w : World X)
      → Posts 1 w (applied duration o e ms w)
  applied_posts (pos zero) o e ms w = omega arith
  applied_posts (pos (suc zero)) o e ms w = omega arith
  applied_posts (pos (suc (suc zero))) o e ms w = omega arith
  applied_posts (pos (suc (suc (suc n)))) o e ms w = omega arith
  applied_posts (negsuc n) o e ms w = omega arith

  pub done_posts : (x : Change) (c : Call X) (w : World X) → Posts (posts x) w (done x c w)
  done_posts (Print a) c w = omega arith
  done_posts (Say text) c w = omega arith
  done_posts (Draw n) c w = drawn_posts (int_at n c.values) w
  done_posts (Assign o) c w = assigned_posts (object_at o c.values) c.action w
  done_posts (Delay ms) c w = delayed_posts c.caller (int_at ms c.values) c.action w
  done_posts (Queue item) c w = queued_posts item c w
  done_posts Clear c w = cleared_posts c.caller w
  done_posts (Vary o change) c w = posts_if (is_valid (object_at o c.values) w) 0 w _ w
      (omega arith) (omega arith)
  done_posts (Apply duration e o ms) c w =
      posts_if (is_valid (object_at o c.values) w) 1 w _ w
      (applied_posts (int_at duration c.values) (object_at o c.values) (effect_at e c.values)
      (int_at ms c.values) w) (omega arith)
  done_posts (Remove o e) c w = posts_if
      (list_any (is_effect (effect_at e c.values)) (effects_of (object_at o c.values) w)) 0 w _ w
      (omega arith) (omega arith)
  done_posts (Signal o e) c w = posts_if (is_valid (object_at o c.values) w) 1 w _ w (omega arith)
      (omega arith)

  pub all_done_posts : (changes : List Change) (c : Call X) (w : World X)
      → Posts (all_posts changes) w (all_done changes c w)
  all_done_posts [] c w = omega arith
  all_done_posts (x ∷ changes) c w =
      let first = done_posts x c w in
      let rest = all_done_posts changes c (done x c w) in
      omega (arith, first, rest)

-- a row posts at most one entry
abbrev posts_one : Row → Bool
posts_one r = nat_le (all_posts r.changes) 1

rows_post_one : list_all posts_one rows ≡ true
rows_post_one = refl

one_or_none : (n : ℕ) → nat_le n 1 ≡ true → n ≤ 1
one_or_none n few = grind (arith, nat_tests, few)

-- the row of a number, where there is one
abbrev pub PostsOne : Option Row → Type 0
PostsOne None = Unit {0}
PostsOne (Some r) = all_posts r.changes ≤ 1

posts_if_found : (b : Bool) (r : Row) (rest : Option Row) → all_posts r.changes ≤ 1 → PostsOne rest
    → PostsOne (cond b (Some r) rest)
posts_if_found true r rest own others = own
posts_if_found false r rest own others = others

found_posts_one : (n : ℕ) (all : List Row) → list_all posts_one all ≡ true
    → PostsOne (row_numbered n all)
found_posts_one n [] few = tt
found_posts_one n (r ∷ all) few =
    let parts = and_parts (posts_one r) (list_all posts_one all) few in
    posts_if_found (r.number == n) r (row_numbered n all)
    (one_or_none (all_posts r.changes) parts.0) (found_posts_one n all parts.1)

pub row_posts_one : (n : ℕ) → PostsOne (row_numbered n rows)
row_posts_one n = found_posts_one n rows rows_post_one

by_row_posts : {X : Type 0} (r : Option Row) (c : Call X) (w : World X) → PostsOne r
    → Posts 1 w (by_row r c w).world
by_row_posts None c w few = omega arith
by_row_posts (Some r) c w few = let most = all_done_posts r.changes c w in omega (arith, few, most)

role_posts : {X : Type 0} (cell : CellLookup) (n : ℕ) (r : Routine) (kind : Role) (c : Call X)
    (w : World X) → Posts 1 w (by_role cell n r kind c w).world
role_posts cell n r (role.Built own) c w = by_row_posts (row_numbered own rows) c w
    (row_posts_one own)
role_posts cell n r (role.Pure k) c w = omega arith
role_posts cell n r role.World c w = omega arith
role_posts cell n r role.Uncallable c w = omega arith

routine_posts : {X : Type 0} (cell : CellLookup) (n : ℕ) (r : Option Routine) (c : Call X)
    (w : World X) → Posts 1 w (by_routine cell n r c w).world
routine_posts cell n None c w = omega arith
routine_posts cell n (Some r) c w = role_posts cell n r r.role c w

-- a call posts at most one entry
pub engine_posts : {X : Type 0} (table : EngineTable) (cell : CellLookup) (n : ℕ) (c : Call X)
    (w : World X) → Posts 1 w (engine table cell n c w).world
unfolding engine
engine_posts table cell n c w = routine_posts cell n (slice_get table.routines n) c w
