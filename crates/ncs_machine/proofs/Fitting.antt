-- What is done to a world leaves its captured states fitting.
use Rattle.std.proofs.Common.{ℕ, zero, suc, ℤ, pos, negsuc, List, [], ◌∷◌, ◌++◌, Option, Some, None, Bool, true, false, if◌then◌else◌}
use Rattle.std.specs.Prelude.{slice_get, ◌==◌, nat_le}
use Rattle.std.specs.List.{AllByRecursion, find, list_any}
use Rattle.action_queue.specs.Queued.{Queued}
use Rattle.action_queue.specs.declared.queue.Item.{Item}
use Rattle.action_queue.specs.declared.queue.Item.TheVariants.{Do, Wait, Speak}
use Rattle.area_rules.specs.Area.{object}
use Rattle.local_variables.specs.Variables.{Variable}
use Rattle.delay_agenda.specs.Order.{is_before, put_entry}
use Rattle.delay_agenda.specs.Waiting.{is_turn_of, without_turns}
use Rattle.delay_agenda.specs.declared.entry.Entry.{Entry}
use Rattle.delay_agenda.specs.declared.entry.Kind.{Kind}
use Rattle.delay_agenda.specs.declared.entry.Kind.TheVariants.{Event, Stored, Turn, Unapply}
use Rattle.nwq_value.specs.declared.value.Value.{Value}
use Rattle.nwq_value.specs.Effect.{Effect}
use Rattle.saved_state.specs.declared.saved.Saved.{Saved}
use Rattle.machine_rules.specs.Machine.{Script}
use Rattle.stack_rules.specs.Fits.{Tables, FitsAction}
use Rattle.world_rules.specs.declared.data.Things.{Things}
use Rattle.world_rules.specs.declared.data.Stood.{Stood}
use Rattle.world_rules.specs.declared.data.Told.{Told}
use Rattle.world_rules.specs.declared.data.Told.TheVariants as line
use Rattle.world_rules.specs.Arguments.{int_at, text_at, object_at, effect_at, event_at}
use Rattle.world_rules.specs.AlikeLaws.{call}
use Rattle.world_rules.specs.World.{World, is_valid, queue_in, queue_of, effects_of, things_at}
use Rattle.world_rules.specs.Changes.{told, post, later, changed_at, changed_object, with_queue, with_effects, with_actions, with_busy, with_action, with_variables, has_turn, without_turn}
use Rattle.world_rules.specs.Changes.{without_first, is_effect, is_numbered}
use Rattle.world_rules.specs.Rows.{Call, drawn_from, drawn, assigned, delayed, awake, appended, appended_do, at_rest, cleared, changed_variables, applied, applied_to, removed, event_script}
use Rattle.world_rules.specs.Rows.{signalled, argument, NewItem, TheAction, AWait, ASpeech, queued, varied, Print, Say, Draw, Assign, Delay, Queue, Clear, Vary, Apply, Remove, Signal}
use Rattle.world_rules.specs.RowLaws.{EachKeeps, engine_keeps as engine_keeps_all}
use Rattle.world_rules.specs.Turns.{entry_begun, turned, next_turn, turn_done, expired, with_entries, user_number}
use Rattle.ncs_machine.specs.Host.{EngineView, engine_answer}
use Rattle.ncs_machine.specs.Stored.{KindFits, ItemFits, EntryFits, ItemsFit, ThingsFit, StatesFit, EngineKeepsFits, BegunFits, BeginKeepsFits, TurnedFits, TurnKeepsFits, TurnDoneKeepsFits}
use Rattle.ncs_machine.specs.Stored.{UnapplyKeepsFits, LinesKeepFits}

module _ (scripts : List Script) (tables : Tables) where
  abbrev Entries : List (Entry Saved) → Type 0
  Entries es = AllByRecursion (EntryFits scripts tables) es

  abbrev Queues : List (Things Saved) → Type 0
  Queues ts = AllByRecursion (ThingsFit scripts tables) ts

  abbrev Fit : World Saved → Type 0
  Fit w = StatesFit scripts tables w

  -- ---- lists

  put_fits : (e : Entry Saved) (es : List (Entry Saved)) → EntryFits scripts tables e → Entries es → Entries (put_entry e es)
  put_fits e [] f all = (f, tt)
  put_fits e (a ∷ es) f all = on (is_before a e) (put_fits e es f all.1)
    where
      on : (b : Bool) → Entries (put_entry e es) → Entries (if b then a ∷ put_entry e es else e ∷ a ∷ es)
      on true rest = (all.0, rest)
      on false rest = (f, all)

  without_fits : (o : ℕ) (es : List (Entry Saved)) → Entries es → Entries (without_turns o es)
  without_fits o [] all = tt
  without_fits o (e ∷ es) all = on (is_turn_of o e) (without_fits o es all.1)
    where
      on : (b : Bool) → Entries (without_turns o es) → Entries (if b then without_turns o es else e ∷ without_turns o es)
      on true rest = rest
      on false rest = (all.0, rest)

  joined_fit : (a b : List (Item Saved)) → ItemsFit scripts tables a → ItemsFit scripts tables b → ItemsFit scripts tables (a ++ b)
  joined_fit [] b x y = y
  joined_fit (i ∷ a) b x y = (x.0, joined_fit a b x.1 y)

  changed_fit : (i : ℕ) (change : Things Saved → Things Saved) (ts : List (Things Saved)) → ((t : Things Saved) → ThingsFit scripts tables t → ThingsFit scripts tables (change t))
      → Queues ts → Queues (changed_at i change ts)
  changed_fit i change [] keeps all = tt
  changed_fit zero change (t ∷ ts) keeps all = (keeps t all.0, all.1)
  changed_fit (suc i) change (t ∷ ts) keeps all = (all.0, changed_fit i change ts keeps all.1)

  object_fits : (o : ℕ) (change : Things Saved → Things Saved) (ts : List (Things Saved)) → ((t : Things Saved) → ThingsFit scripts tables t → ThingsFit scripts tables (change t))
      → Queues ts → Queues (changed_object o change ts)
  object_fits zero change ts keeps all = all
  object_fits (suc i) change ts keeps all = changed_fit i change ts keeps all

  got_fits : (i : ℕ) (ts : List (Things Saved)) → Queues ts → ItemsFit scripts tables (queue_in (slice_get ts i)).actions
  got_fits i [] all = tt
  got_fits zero (t ∷ ts) all = all.0
  got_fits (suc i) (t ∷ ts) all = got_fits i ts all.1

  queue_fits_at : (o : ℕ) (ts : List (Things Saved)) → Queues ts → ItemsFit scripts tables (queue_in (things_at o ts)).actions
  queue_fits_at zero ts all = tt
  queue_fits_at (suc i) ts all = got_fits i ts all

  queue_fits : (o : ℕ) (w : World Saved) → Fit w → ItemsFit scripts tables (queue_of o w).actions
  queue_fits o w f = queue_fits_at o w.things f.queues

  -- ---- changes

  told_fits : (o : ℕ) (what : Told) (w : World Saved) → Fit w → Fit (told o what w)
  told_fits o what w f = record { agenda = f.agenda; queues = f.queues }

  post_fits : (due : ℕ) (kind : Kind Saved) (w : World Saved) → KindFits scripts tables kind → Fit w → Fit (post due kind w)
  post_fits due kind w k f = record { agenda = put_fits (record { due = due; number = w.agenda.next; kind = kind }) w.agenda.entries k f.agenda; queues = f.queues }

  with_queue_fits : (o : ℕ) (q : Queued Saved) (w : World Saved) → ItemsFit scripts tables q.actions → Fit w → Fit (with_queue o q w)
  with_queue_fits o q w k f = record { agenda = f.agenda; queues = object_fits o (λ t. record t { queue = q }) w.things (λ t was. k) f.queues }

  with_effects_fits : (o : ℕ) (effects : List Stood) (w : World Saved) → Fit w → Fit (with_effects o effects w)
  with_effects_fits o effects w f = record { agenda = f.agenda; queues = object_fits o (λ t. record t { effects = effects }) w.things (λ t was. was) f.queues }

  with_actions_fits : (o : ℕ) (actions : List (Item Saved)) (w : World Saved) → ItemsFit scripts tables actions → Fit w → Fit (with_actions o actions w)
  with_actions_fits o actions w k f = with_queue_fits o (record (queue_of o w) { actions = actions }) w k f

  with_busy_fits : (o : ℕ) (busy : Bool) (w : World Saved) → Fit w → Fit (with_busy o busy w)
  with_busy_fits o busy w f = with_queue_fits o (record (queue_of o w) { busy = busy }) w (queue_fits o w f) f

  with_action_fits : (o : ℕ) (item : Item Saved) (w : World Saved) → ItemFits scripts tables item → Fit w → Fit (with_action o item w)
  with_action_fits o item w k f = with_actions_fits o ((queue_of o w).actions ++ item ∷ []) w (joined_fit (queue_of o w).actions (item ∷ []) (queue_fits o w f) (k, tt)) f

  if_fits : (b : Bool) (w v : World Saved) → Fit w → Fit v → Fit (if b then v else w)
  if_fits true w v f g = g
  if_fits false w v f g = f

  -- ---- rows

  drawn_from_fits : (rs : List ℕ) (n : ℕ) (w : World Saved) → Fit w → Fit (drawn_from rs n w).world
  drawn_from_fits [] n w f = f
  drawn_from_fits (r ∷ rs) n w f = record { agenda = f.agenda; queues = f.queues }

  drawn_fits : (n : ℤ) (w : World Saved) → Fit w → Fit (drawn n w).world
  drawn_fits (negsuc n) w f = f
  drawn_fits (pos zero) w f = f
  drawn_fits (pos (suc n)) w f = drawn_from_fits w.random (suc n) w f

  assigned_fits : (o : ℕ) (a : Option Saved) (w : World Saved) → FitsAction scripts tables a → Fit w → Fit (assigned o a w)
  assigned_fits o None w k f = f
  assigned_fits o (Some x) w k f = if_fits (is_valid o w) w (post w.clock (Stored o x) w) f (post_fits w.clock (Stored o x) w k f)

  delayed_fits : (o : ℕ) (ms : ℤ) (a : Option Saved) (w : World Saved) → FitsAction scripts tables a → Fit w → Fit (delayed o ms a w)
  delayed_fits o ms None w k f = f
  delayed_fits o ms (Some x) w k f = post_fits (later ms w) (Stored o x) w k f

  awake_fits_as : (b : Bool) (o : ℕ) (w : World Saved) → Fit w → Fit (if b then w else post w.clock (Turn o) (with_busy o true w))
  awake_fits_as true o w f = f
  awake_fits_as false o w f = post_fits w.clock (Turn o) (with_busy o true w) tt (with_busy_fits o true w f)

  awake_fits : (o : ℕ) (w : World Saved) → Fit w → Fit (awake o w)
  awake_fits o w f = awake_fits_as (queue_of o w).busy o w f

  appended_fits : (o : ℕ) (item : Item Saved) (w : World Saved) → ItemFits scripts tables item → Fit w → Fit (appended o item w)
  appended_fits o item w k f = if_fits (is_valid o w) w (awake o (with_action o item w)) f (awake_fits o (with_action o item w) (with_action_fits o item w k f))

  appended_do_fits : (o : ℕ) (a : Option Saved) (w : World Saved) → FitsAction scripts tables a → Fit w → Fit (appended_do o a w)
  appended_do_fits o None w k f = f
  appended_do_fits o (Some x) w k f = appended_fits o (Do x) w k f

  without_turn_fits : (o : ℕ) (w : World Saved) → Fit w → Fit (without_turn o w)
  without_turn_fits o w f = record { agenda = without_fits o w.agenda.entries f.agenda; queues = f.queues }

  at_rest_fits : (o : ℕ) (w : World Saved) → Fit w → Fit (at_rest o w)
  at_rest_fits o w f = if_fits (has_turn o w) w (with_busy o false (without_turn o w)) f (with_busy_fits o false (without_turn o w) (without_turn_fits o w f))

  cleared_fits : (o : ℕ) (w : World Saved) → Fit w → Fit (cleared o w)
  cleared_fits o w f =
      let e = with_actions_fits o [] w tt f in
      if_fits (w.version == 2) (with_actions o [] w) (at_rest o (with_actions o [] w)) e (at_rest_fits o (with_actions o [] w) e)

  variables_fit : (o : ℕ) (change : List Variable → List Variable) (w : World Saved) → Fit w → Fit (changed_variables o change w)
  variables_fit o change w f = if_fits (is_valid o w) w (with_variables o change w) f (record { agenda = f.agenda; queues = f.queues })

  applied_fits : (d : ℤ) (o : ℕ) (e : Effect) (ms : ℤ) (w : World Saved) → Fit w → Fit (applied d o e ms w)
  applied_fits (pos zero) o e ms w f = told_fits o (line.Apply (pos 0) e) w f
  applied_fits (pos (suc zero)) o e ms w f =
      let t = told_fits o (line.Apply (pos 1) e) w f in
      let v = told o (line.Apply (pos 1) e) w in
      let s = effects_of o v ++ record { number = Some w.agenda.next; effect = e } ∷ [] in
      post_fits (later ms w) (Unapply o) (with_effects o s v) tt (with_effects_fits o s v t)
  applied_fits (pos (suc (suc zero))) o e ms w f =
      let v = told o (line.Apply (pos 2) e) w in
      with_effects_fits o (effects_of o v ++ record { number = None; effect = e } ∷ []) v (told_fits o (line.Apply (pos 2) e) w f)
  applied_fits (pos (suc (suc (suc n)))) o e ms w f = f
  applied_fits (negsuc n) o e ms w f = f

  applied_to_fits : (d : ℤ) (o : ℕ) (e : Effect) (ms : ℤ) (w : World Saved) → Fit w → Fit (applied_to d o e ms w)
  applied_to_fits d o e ms w f = if_fits (is_valid o w) w (applied d o e ms w) f (applied_fits d o e ms w f)

  removed_fits : (o : ℕ) (e : Effect) (w : World Saved) → Fit w → Fit (removed o e w)
  removed_fits o e w f =
      let left = without_first (is_effect e) (effects_of o w) in
      if_fits (list_any (is_effect e) (effects_of o w)) w (told o (line.Remove e) (with_effects o left w)) f
      (told_fits o (line.Remove e) (with_effects o left w) (with_effects_fits o left w f))

  signalled_fits : (o : ℕ) (user : ℤ) (w : World Saved) → Fit w → Fit (signalled o user w)
  signalled_fits o user w f = on (is_valid o w)
    where
      on : (b : Bool) → Fit (if b then post w.clock (Event o (event_script (object w.area o).scripts) user) w else w)
      on true = post_fits w.clock (Event o (event_script (object w.area o).scripts) user) w tt f
      on false = f

  -- ---- small changes

  queued_fits : (item : NewItem) (c : Call Saved) (w : World Saved) → FitsAction scripts tables c.action → Fit w → Fit (queued item c w)
  queued_fits TheAction c w k f = appended_do_fits c.caller c.action w k f
  queued_fits (AWait ms) c w k f = appended_fits c.caller (Wait (int_at ms c.values)) w tt f
  queued_fits (ASpeech text) c w k f = appended_fits c.caller (Speak (text_at text c.values)) w tt f

  done_fits : (c : Call Saved) → FitsAction scripts tables c.action → EachKeeps Fit c
  done_fits c k (Print a) w f = told_fits c.caller (line.Print (argument a c.values)) w f
  done_fits c k (Say text) w f = told_fits c.caller (line.Speak (text_at text c.values)) w f
  done_fits c k (Draw n) w f = drawn_fits (int_at n c.values) w f
  done_fits c k (Assign o) w f = assigned_fits (object_at o c.values) c.action w k f
  done_fits c k (Delay ms) w f = delayed_fits c.caller (int_at ms c.values) c.action w k f
  done_fits c k (Queue item) w f = queued_fits item c w k f
  done_fits c k Clear w f = cleared_fits c.caller w f
  done_fits c k (Vary o change) w f = variables_fit (object_at o c.values) (varied change c.values) w f
  done_fits c k (Apply duration e o ms) w f = applied_to_fits (int_at duration c.values) (object_at o c.values) (effect_at e c.values) (int_at ms c.values) w f
  done_fits c k (Remove o e) w f = removed_fits (object_at o c.values) (effect_at e c.values) w f
  done_fits c k (Signal o e) w f = signalled_fits (object_at o c.values) (event_at e c.values) w f

  pub engine_fits : (e : EngineView) (n caller : ℕ) (values : List Value) (action : Option Saved) (w : World Saved) → FitsAction scripts tables action → Fit w
      → Fit (engine_answer e n caller values action w).world
  engine_fits e n caller values action w k f =
      let c = call caller values action in
      engine_keeps_all Fit c e.table e.cell n (done_fits c k) (λ r at w f. told_fits caller (line.Call r.name values) w f) w f

  pub told_keeps : (o : ℕ) (what : Told) (w : World Saved) → Fit w → Fit (told o what w)
  told_keeps o what w f = told_fits o what w f

  -- ---- entries

  begun_fits : (until : ℕ) (es : List (Entry Saved)) (w : World Saved) → Entries es → Fit w → BegunFits scripts tables (entry_begun until es w)
  begun_fits until [] w all f = tt
  begun_fits until (e ∷ es) w all f = on (nat_le e.due until)
    where
      on : (b : Bool) → BegunFits scripts tables (if b then Some (record { entry = e; world = record (with_entries es w) { clock = e.due; user = user_number e.kind } }) else None)
      on true = (all.0, record { agenda = all.1; queues = f.queues })
      on false = tt

  next_turn_fits : (o : ℕ) (items : List (Item Saved)) (w : World Saved) → Fit w → Fit (next_turn o items w)
  next_turn_fits o [] w f = with_busy_fits o false w f
  next_turn_fits o (item ∷ rest) w f = post_fits w.clock (Turn o) w tt f

  turn_done_fits : (o : ℕ) (w : World Saved) → Fit w → Fit (turn_done o w)
  turn_done_fits o w f = next_turn_fits o (queue_of o w).actions w f

  turned_fits : (o : ℕ) (items : List (Item Saved)) (w : World Saved) → ItemsFit scripts tables items → Fit w → TurnedFits scripts tables (turned o items w)
  turned_fits o [] w k f = record { action = tt; world = with_busy_fits o false w f }
  turned_fits o (Do x ∷ rest) w k f = record { action = k.0; world = with_actions_fits o rest w k.1 f }
  turned_fits o (Wait ms ∷ rest) w k f = record { action = tt; world = post_fits (later ms w) (Turn o) (with_actions o rest w) tt (with_actions_fits o rest w k.1 f) }
  turned_fits o (Speak bytes ∷ rest) w k f = record {
    action = tt;
    world = turn_done_fits o (told o (line.Speak bytes) (with_actions o rest w)) (told_fits o (line.Speak bytes) (with_actions o rest w) (with_actions_fits o rest w k.1 f));
  }

  expired_fits : (o number : ℕ) (s : Option Stood) (w : World Saved) → Fit w → Fit (expired o number s w)
  expired_fits o number None w f = f
  expired_fits o number (Some s) w f = told_fits o (line.Expire s.effect) (with_effects o (without_first (is_numbered number) (effects_of o w)) w)
      (with_effects_fits o (without_first (is_numbered number) (effects_of o w)) w f)

pub engine_keeps : EngineKeepsFits
engine_keeps scripts tables e n caller values action w k f = engine_fits scripts tables e n caller values action w k f

pub begin_keeps : BeginKeepsFits
begin_keeps scripts tables until w f = begun_fits scripts tables until w.agenda.entries w f.agenda f

pub turn_keeps : TurnKeepsFits
turn_keeps scripts tables o w f = turned_fits scripts tables o (queue_of o w).actions w (queue_fits scripts tables o w f) f

pub turn_done_keeps : TurnDoneKeepsFits
turn_done_keeps scripts tables o w f = turn_done_fits scripts tables o w f

pub unapply_keeps : UnapplyKeepsFits
unapply_keeps scripts tables o number w f = expired_fits scripts tables o number (find (is_numbered number) (effects_of o w)) w f

pub lines_keep : LinesKeepFits
lines_keep = record {
  no_script = λ scripts tables o name w f. told_fits scripts tables o (line.NoScript name) w f;
  fault = λ scripts tables o w f. told_fits scripts tables o line.Divide w f;
  drained = λ scripts tables w f. record { agenda = f.agenda; queues = f.queues };
}
