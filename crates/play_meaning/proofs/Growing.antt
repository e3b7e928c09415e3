-- A machine only adds to the lines of its world.
use Rattle.std.proofs.Common.{◌≡◌, ℕ, ℤ, pos, negsuc, zero, suc, Bool, true, false, List, [], ◌∷◌, Option, None, Some, sym, subst}
use Rattle.std.specs.Prelude.{if◌then◌else◌, ◌==◌, nat_lt, length}
use Rattle.std.specs.Option.{option_map, option_and_then}
use Rattle.std.specs.List.{list_any}
use Rattle.action_queue.specs.declared.queue.Item.{Item}
use Rattle.action_queue.specs.declared.queue.Item.TheVariants.{Do, Wait, Speak}
use Rattle.nwq_value.specs.Engine.{EngineTable}
use Rattle.nwq_value.specs.Effect.{Effect}
use Rattle.nwq_value.specs.declared.value.Value.{Value}
use Rattle.ncs_code.specs.Plain.{PlainOp}
use Rattle.saved_state.specs.declared.saved.Saved.{Saved}
use Rattle.world_rules.specs.declared.data.Line.{Line}
use Rattle.world_rules.specs.declared.data.Told.TheVariants as line
use Rattle.world_rules.specs.Arguments.{int_at, text_at, object_at, effect_at}
use Rattle.world_rules.specs.Pure.{CellLookup}
use Rattle.world_rules.specs.World.{World, is_valid, queue_of, effects_of}
use Rattle.world_rules.specs.Changes.{told, has_turn, is_effect, with_actions}
use Rattle.world_rules.specs.Rows.{Call, drawn_from, drawn, assigned, delayed, awake, appended, appended_do, at_rest, cleared, applied, NewItem, TheAction, AWait, ASpeech, queued, Change, Print, Say}
use Rattle.world_rules.specs.Rows.{Draw, Assign, Delay, Queue, Clear, Vary, Apply, Remove, Signal, done}
use Rattle.world_rules.specs.Engine.{engine}
use Rattle.world_rules.specs.RowLaws.{engine_keeps}
use Rattle.world_rules.specs.AlikeLaws.{call}
use Rattle.world_rules.specs.Turns.{next_turn, turn_done}
use Rattle.machine_rules.specs.Frames.{Frame}
use Rattle.machine_rules.specs.Act.{Act, Moves, Asks, Executes, Returns, Divides, act}
use Rattle.machine_rules.specs.Machine.{Next, Goes, Ends, Divided, waiting_limit, script_begun, executed, over, followed, next_op, script_named, step}
use Rattle.source_meaning.specs.Scripts.{Setting}
use Rattle.source_laws.specs.Ledger.{Machine, MachineHost}
use Rattle.source_laws.specs.Executing.{IsHostOf}
use Rattle.play_meaning.specs.Together.{IsFirstPartOf}
use Rattle.play_meaning.proofs.Beginnings.{whole_begins, longer_begins, begins_then}

-- ---- the engine

module _ {X : Type 0} where
  -- the second world has the lines of the first one, and perhaps more
  abbrev Grows : World X → World X → Type 0
  Grows w v = IsFirstPartOf w.trace v.trace

  stays : (w : World X) → Grows w w
  stays w = whole_begins w.trace

  where_grows : (b : Bool) (w v u : World X) → Grows w v → Grows w u → Grows w (if b then v else u)
  where_grows true w v u h k = h
  where_grows false w v u h k = k

  -- the lines of a fixed world are a beginning of those of each later one
  then_grows : (w v u : World X) → Grows w v → Grows v u → Grows w u
  then_grows w v u h k = begins_then h k

  drawn_from_grows : (rs : List ℕ) (n : ℕ) (w : World X) → Grows w (drawn_from rs n w).world
  drawn_from_grows [] n w = stays w
  drawn_from_grows (r ∷ rs) n w = stays w

  drawn_grows : (n : ℤ) (w : World X) → Grows w (drawn n w).world
  drawn_grows (negsuc n) w = stays w
  drawn_grows (pos zero) w = stays w
  drawn_grows (pos (suc n)) w = drawn_from_grows w.random (suc n) w

  assigned_grows : (o : ℕ) (a : Option X) (w : World X) → Grows w (assigned o a w)
  assigned_grows o None w = stays w
  assigned_grows o (Some x) w = where_grows (is_valid o w) w _ w (stays w) (stays w)

  delayed_grows : (o : ℕ) (ms : ℤ) (a : Option X) (w : World X) → Grows w (delayed o ms a w)
  delayed_grows o ms None w = stays w
  delayed_grows o ms (Some x) w = stays w

  awake_grows : (o : ℕ) (w : World X) → Grows w (awake o w)
  awake_grows o w = where_grows (queue_of o w).busy w w _ (stays w) (stays w)

  appended_grows : (o : ℕ) (item : Item X) (w : World X) → Grows w (appended o item w)
  appended_grows o item w = where_grows (is_valid o w) w _ w (awake_grows o _) (stays w)

  queued_grows : (item : NewItem) (c : Call X) (w : World X) → Grows w (queued item c w)
  queued_grows TheAction c w = optional c.action
    where
      optional : (a : Option X) → Grows w (appended_do c.caller a w)
      optional None = stays w
      optional (Some x) = appended_grows c.caller (Do x) w
  queued_grows (AWait ms) c w = appended_grows c.caller (Wait (int_at ms c.values)) w
  queued_grows (ASpeech text) c w = appended_grows c.caller (Speak (text_at text c.values)) w

  at_rest_grows : (o : ℕ) (w : World X) → Grows w (at_rest o w)
  at_rest_grows o w = where_grows (has_turn o w) w _ w (stays w) (stays w)

  cleared_grows : (o : ℕ) (w : World X) → Grows w (cleared o w)
  cleared_grows o w = where_grows (w.version == 2) w (at_rest o (with_actions o [] w)) (with_actions o [] w) (at_rest_grows o (with_actions o [] w)) (stays w)

  applied_grows : (duration : ℤ) (o : ℕ) (e : Effect) (ms : ℤ) (w : World X) → Grows w (applied duration o e ms w)
  applied_grows (pos zero) o e ms w = longer_begins w.trace _
  applied_grows (pos (suc zero)) o e ms w = longer_begins w.trace _
  applied_grows (pos (suc (suc zero))) o e ms w = longer_begins w.trace _
  applied_grows (pos (suc (suc (suc n)))) o e ms w = stays w
  applied_grows (negsuc n) o e ms w = stays w

  -- each small change only adds
  done_grows : (x : Change) (c : Call X) (w : World X) → Grows w (done x c w)
  done_grows (Print a) c w = longer_begins w.trace _
  done_grows (Say text) c w = longer_begins w.trace _
  done_grows (Draw n) c w = drawn_grows (int_at n c.values) w
  done_grows (Assign o) c w = assigned_grows (object_at o c.values) c.action w
  done_grows (Delay ms) c w = delayed_grows c.caller (int_at ms c.values) c.action w
  done_grows (Queue item) c w = queued_grows item c w
  done_grows Clear c w = cleared_grows c.caller w
  done_grows (Vary o change) c w = where_grows (is_valid (object_at o c.values) w) w _ w (stays w) (stays w)
  done_grows (Apply duration e o ms) c w =
      where_grows (is_valid (object_at o c.values) w) w _ w (applied_grows (int_at duration c.values) (object_at o c.values) (effect_at e c.values) (int_at ms c.values) w) (stays w)
  done_grows (Remove o e) c w = where_grows (list_any (is_effect (effect_at e c.values)) (effects_of (object_at o c.values) w)) w _ w (longer_begins w.trace _) (stays w)
  done_grows (Signal o e) c w = where_grows (is_valid (object_at o c.values) w) w _ w (stays w) (stays w)

  pub engine_grows : (table : EngineTable) (cell : CellLookup) (n : ℕ) (c : Call X) (w : World X) → Grows w (engine table cell n c w).world
  engine_grows table cell n c w =
      engine_keeps (Grows w) c table cell n (λ x v h. then_grows w v (done x c v) h (done_grows x c v))
      (λ r at v h. then_grows w v (told c.caller (line.Call r.name c.values) v) h (longer_begins v.trace _)) w (stays w)

  next_turn_grows : (o : ℕ) (items : List (Item X)) (w : World X) → Grows w (next_turn o items w)
  next_turn_grows o [] w = stays w
  next_turn_grows o (item ∷ rest) w = stays w

  pub turn_done_grows : (o : ℕ) (w : World X) → Grows w (turn_done o w)
  turn_done_grows o w = next_turn_grows o (queue_of o w).actions w

-- ---- a step

-- the lines after a step, or those before it where the run ends with it
abbrev lines_after : Next (World Saved) → List Line → List Line
lines_after (Goes t) before = t.world.trace
lines_after Ends before = before
lines_after Divided before = before

module _ (s : Setting) (host : MachineHost) (of : IsHostOf host s) where
  asks_grows : (n caller : ℕ) (values : List Value) (a : Option Saved) (w : World Saved) → IsFirstPartOf w.trace (host.engine n caller values a w).world.trace
  asks_grows n caller values a w =
      subst (λ v. IsFirstPartOf w.trace v.trace) (sym (of.engine.world n caller values a w)) (engine_grows host.table s.tables n (call caller values a) w)

  told_grows : (w v u : World Saved) → v ≡ u → IsFirstPartOf w.trace u.trace → IsFirstPartOf w.trace v.trace
  told_grows w v u is h = subst (λ t. IsFirstPartOf w.trace t.trace) (sym is) h

  begun_grows : (o : Option ℕ) (name : List ℕ) (target : ℕ) (f : Frame) (m : Machine) → IsFirstPartOf m.world.trace (script_begun host o name target f m).world.trace
  begun_grows None name target f m = told_grows m.world (host.no_script target name m.world) _ (of.unlisted target name m.world) (longer_begins m.world.trace _)
  begun_grows (Some script) name target f m = either (nat_lt (length m.waiting) waiting_limit) _ _ (whole_begins m.world.trace)
      (told_grows m.world (host.too_deep target name m.world) _ (of.deep target name m.world) (longer_begins m.world.trace _))
    where
      either : (b : Bool) (t u : Machine) → IsFirstPartOf m.world.trace t.world.trace → IsFirstPartOf m.world.trace u.world.trace → IsFirstPartOf m.world.trace (if b then t else u).world.trace
      either true t u h k = h
      either false t u h k = k

  executed_grows : (name : List ℕ) (target : ℕ) (f : Frame) (m : Machine) → IsFirstPartOf m.world.trace (executed host name target f m).world.trace
  executed_grows [] target f m = whole_begins m.world.trace
  executed_grows (b ∷ name) target f m = either (host.may_run f.self target m.world) _ _ (begun_grows (script_named host.scripts (b ∷ name)) (b ∷ name) target f m) (whole_begins m.world.trace)
    where
      either : (b : Bool) (t u : Machine) → IsFirstPartOf m.world.trace t.world.trace → IsFirstPartOf m.world.trace u.world.trace → IsFirstPartOf m.world.trace (if b then t else u).world.trace
      either true t u h k = h
      either false t u h k = k

  over_grows : (waiting : List Frame) (m : Machine) → IsFirstPartOf m.world.trace (lines_after (over waiting m) m.world.trace)
  over_grows [] m = whole_begins m.world.trace
  over_grows (f ∷ waiting) m = whole_begins m.world.trace

  followed_grows : (m : Machine) (a : Act) → IsFirstPartOf m.world.trace (lines_after (followed host m a) m.world.trace)
  followed_grows m (Moves f) = whole_begins m.world.trace
  followed_grows m (Asks routine values action f) = asks_grows routine f.self values action m.world
  followed_grows m (Executes name target f) = executed_grows name target f m
  followed_grows m Returns = over_grows m.waiting m
  followed_grows m Divides = whole_begins m.world.trace

  act_grows : (m t : Machine) (a : Option Act) → option_map (followed host m) a ≡ Some (Goes t) → IsFirstPartOf m.world.trace t.world.trace
  act_grows m t None h = absurd cc
  act_grows m t (Some a) h =
      let is : followed host m a ≡ Goes t = cc in
      subst (λ n. IsFirstPartOf m.world.trace (lines_after n m.world.trace)) is (followed_grows m a)

  op_grows : (m t : Machine) (op : Option PlainOp) → option_and_then (λ o. option_map (followed host m) (act host.table o m.running)) op ≡ Some (Goes t) → IsFirstPartOf m.world.trace t.world.trace
  op_grows m t None h = absurd cc
  op_grows m t (Some op) h = act_grows m t (act host.table op m.running) h

  pub step_grows : (m t : Machine) → step host m ≡ Some (Goes t) → IsFirstPartOf m.world.trace t.world.trace
  unfolding step
  step_grows m t h = op_grows m t (next_op host.scripts m.running) h
