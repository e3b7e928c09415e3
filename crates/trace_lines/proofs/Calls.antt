-- Calls of the engine tell lines in which no routine's name has a newline.
use Rattle.std.proofs.Common.{◌≡◌, subst, ℕ, ℤ, pos, negsuc, zero, suc, Bool, true, false, List, [], ◌∷◌, ◌++◌, Option, None, Some}
use Rattle.std.specs.Prelude.{if◌then◌else◌, ◌==◌, slice_get}
use Rattle.std.specs.List.{AllByRecursion, list_any}
use Rattle.std.proofs.lemmas.Option.{none-some, same_Some}
use Rattle.action_queue.specs.declared.queue.Item.{Item}
use Rattle.action_queue.specs.declared.queue.Item.TheVariants.{Do, Wait, Speak}
use Rattle.area_rules.specs.Area.{object}
use Rattle.delay_agenda.specs.declared.entry.Kind.TheVariants.{Event, Stored, Turn}
use Rattle.local_variables.specs.Variables.{Variable}
use Rattle.nwq_value.specs.Effect.{Effect}
use Rattle.nwq_value.specs.Engine.{EngineTable}
use Rattle.nwq_value.specs.declared.engine.Routine.{Routine}
use Rattle.nwq_text.specs.Cuts.{IsFree}
use Rattle.world_rules.specs.declared.data.Line.{Line}
use Rattle.world_rules.specs.declared.data.Told.{Told}
use Rattle.world_rules.specs.declared.data.Told.TheVariants as line
use Rattle.world_rules.specs.Arguments.{int_at, text_at, object_at, effect_at, event_at}
use Rattle.world_rules.specs.Pure.{CellLookup}
use Rattle.world_rules.specs.World.{World, is_valid, queue_of, effects_of}
use Rattle.world_rules.specs.Changes.{told, post, with_action, with_actions, with_busy, with_effects, with_variables, has_turn, without_turn, without_first, is_effect}
use Rattle.world_rules.specs.Rows.{Call, drawn_from, drawn, assigned, delayed, awake, appended, appended_do, at_rest, cleared, changed_variables, applied, applied_to, removed, event_script, signalled}
use Rattle.world_rules.specs.Rows.{argument, NewItem, TheAction, AWait, ASpeech, queued, varied, Print, Say, Draw, Assign, Delay, Queue, Clear, Vary, Apply, Remove, Signal}
use Rattle.world_rules.specs.Engine.{engine}
use Rattle.world_rules.specs.RowLaws.{EachKeeps, engine_keeps}
use Rattle.trace_lines.specs.Lines.{HasPlainName, ArePlain, HasPlainNames}

-- the lines of a world
abbrev pub Plain : {X : Type 0} → World X → Type 0
Plain w = ArePlain w.trace

pub all_plain : (a b : List Line) → ArePlain a → ArePlain b → ArePlain (a ++ b)
all_plain [] b h k = k
all_plain (l ∷ a) b h k = (h.0, all_plain a b h.1 k)

pub told_plain : {X : Type 0} (o : ℕ) (what : Told) (w : World X) → HasPlainName what → Plain w → Plain (told o what w)
told_plain o what w name h = all_plain w.trace (record { clock = w.clock; object = o; told = what } ∷ []) h (name, tt)

if_plain : {X : Type 0} (b : Bool) (v w : World X) → Plain v → Plain w → Plain (if b then v else w)
if_plain true v w h k = h
if_plain false v w h k = k

-- ---- what routines do

drawn_from_plain : {X : Type 0} (rs : List ℕ) (n : ℕ) (w : World X) → Plain w → Plain (drawn_from rs n w).world
drawn_from_plain [] n w h = h
drawn_from_plain (r ∷ rs) n w h = h

drawn_plain : {X : Type 0} (n : ℤ) (w : World X) → Plain w → Plain (drawn n w).world
drawn_plain (negsuc n) w h = h
drawn_plain (pos zero) w h = h
drawn_plain (pos (suc n)) w h = drawn_from_plain w.random (suc n) w h

assigned_plain : {X : Type 0} (o : ℕ) (a : Option X) (w : World X) → Plain w → Plain (assigned o a w)
assigned_plain o None w h = h
assigned_plain o (Some x) w h = if_plain (is_valid o w) (post w.clock (Stored o x) w) w h h

delayed_plain : {X : Type 0} (o : ℕ) (ms : ℤ) (a : Option X) (w : World X) → Plain w → Plain (delayed o ms a w)
delayed_plain o ms None w h = h
delayed_plain o ms (Some x) w h = h

awake_plain : {X : Type 0} (o : ℕ) (w : World X) → Plain w → Plain (awake o w)
awake_plain o w h = if_plain (queue_of o w).busy w (post w.clock (Turn o) (with_busy o true w)) h h

appended_plain : {X : Type 0} (o : ℕ) (item : Item X) (w : World X) → Plain w → Plain (appended o item w)
appended_plain o item w h = if_plain (is_valid o w) (awake o (with_action o item w)) w (awake_plain o (with_action o item w) h) h

appended_do_plain : {X : Type 0} (o : ℕ) (a : Option X) (w : World X) → Plain w → Plain (appended_do o a w)
appended_do_plain o None w h = h
appended_do_plain o (Some x) w h = appended_plain o (Do x) w h

at_rest_plain : {X : Type 0} (o : ℕ) (w : World X) → Plain w → Plain (at_rest o w)
at_rest_plain o w h = if_plain (has_turn o w) (with_busy o false (without_turn o w)) w h h

cleared_plain : {X : Type 0} (o : ℕ) (w : World X) → Plain w → Plain (cleared o w)
cleared_plain o w h = if_plain (w.version == 2) (at_rest o (with_actions o [] w)) (with_actions o [] w) (at_rest_plain o (with_actions o [] w) h) h

variables_plain : {X : Type 0} (o : ℕ) (change : List Variable → List Variable) (w : World X) → Plain w → Plain (changed_variables o change w)
variables_plain o change w h = if_plain (is_valid o w) (with_variables o change w) w h h

applied_plain : {X : Type 0} (duration : ℤ) (o : ℕ) (e : Effect) (ms : ℤ) (w : World X) → Plain w → Plain (applied duration o e ms w)
applied_plain (pos zero) o e ms w h = told_plain o (line.Apply (pos 0) e) w tt h
applied_plain (pos (suc zero)) o e ms w h = told_plain o (line.Apply (pos 1) e) w tt h
applied_plain (pos (suc (suc zero))) o e ms w h = told_plain o (line.Apply (pos 2) e) w tt h
applied_plain (pos (suc (suc (suc n)))) o e ms w h = h
applied_plain (negsuc n) o e ms w h = h

applied_to_plain : {X : Type 0} (duration : ℤ) (o : ℕ) (e : Effect) (ms : ℤ) (w : World X) → Plain w → Plain (applied_to duration o e ms w)
applied_to_plain duration o e ms w h = if_plain (is_valid o w) (applied duration o e ms w) w (applied_plain duration o e ms w h) h

removed_plain : {X : Type 0} (o : ℕ) (e : Effect) (w : World X) → Plain w → Plain (removed o e w)
removed_plain o e w h =
    let v = with_effects o (without_first (is_effect e) (effects_of o w)) w in
    if_plain (list_any (is_effect e) (effects_of o w)) (told o (line.Remove e) v) w (told_plain o (line.Remove e) v tt h) h

signalled_plain : {X : Type 0} (o : ℕ) (user : ℤ) (w : World X) → Plain w → Plain (signalled o user w)
signalled_plain o user w h = if_plain (is_valid o w) (post w.clock (Event o (event_script (object w.area o).scripts) user) w) w h h

-- ---- small changes

queued_plain : {X : Type 0} (item : NewItem) (c : Call X) (w : World X) → Plain w → Plain (queued item c w)
queued_plain TheAction c w h = appended_do_plain c.caller c.action w h
queued_plain (AWait ms) c w h = appended_plain c.caller (Wait (int_at ms c.values)) w h
queued_plain (ASpeech text) c w h = appended_plain c.caller (Speak (text_at text c.values)) w h

done_plain : {X : Type 0} (c : Call X) → EachKeeps Plain c
done_plain c (Print a) w h = told_plain c.caller (line.Print (argument a c.values)) w tt h
done_plain c (Say text) w h = told_plain c.caller (line.Speak (text_at text c.values)) w tt h
done_plain c (Draw n) w h = drawn_plain (int_at n c.values) w h
done_plain c (Assign o) w h = assigned_plain (object_at o c.values) c.action w h
done_plain c (Delay ms) w h = delayed_plain c.caller (int_at ms c.values) c.action w h
done_plain c (Queue item) w h = queued_plain item c w h
done_plain c Clear w h = cleared_plain c.caller w h
done_plain c (Vary o change) w h = variables_plain (object_at o c.values) (varied change c.values) w h
done_plain c (Apply duration e o ms) w h = applied_to_plain (int_at duration c.values) (object_at o c.values) (effect_at e c.values) (int_at ms c.values) w h
done_plain c (Remove o e) w h = removed_plain (object_at o c.values) (effect_at e c.values) w h
done_plain c (Signal o e) w h = signalled_plain (object_at o c.values) (event_at e c.values) w h

-- ---- any routine

named : (routines : List Routine) → AllByRecursion (λ (r : Routine). IsFree 10 r.name) routines → (n : ℕ) (r : Routine) → slice_get routines n ≡ Some r → IsFree 10 r.name
named [] all n r at = absurd (none-some r at)
named (own ∷ routines) all zero r at = subst (λ (x : Routine). IsFree 10 x.name) (same_Some own r at) all.0
named (own ∷ routines) all (suc n) r at = named routines all.1 n r at

pub engine_plain : {X : Type 0} (table : EngineTable) (cell : CellLookup) (n : ℕ) (c : Call X) (w : World X) → HasPlainNames table → Plain w → Plain (engine table cell n c w).world
engine_plain table cell n c w names h =
    engine_keeps Plain c table cell n (done_plain c) (λ r at w h. told_plain c.caller (line.Call r.name c.values) w (named table.routines names n r at) h) w h
