-- A call without an action leaves a world bare that has no object and in which nothing waits.
use Rattle.std.proofs.Common.{arith, ◌≡◌, ℕ, ℤ, pos, negsuc, zero, suc, Bool, true, false, List, [], ◌∷◌, length, None, refl, ap, ◌∙◌, true≢false}
use Rattle.std.specs.Prelude.{if◌then◌else◌, ◌==◌, ◌&&◌, nat_lt, nat_le}
use Rattle.std.specs.List.{list_any}
use Rattle.std.proofs.lemmas.Bool.Decides.{nat_tests}
use Rattle.action_queue.specs.declared.queue.Item.{Item}
use Rattle.action_queue.specs.declared.queue.Item.TheVariants.{Wait, Speak}
use Rattle.area_rules.specs.Area.{object}
use Rattle.delay_agenda.specs.Waiting.{without_turns}
use Rattle.delay_agenda.specs.declared.entry.Kind.TheVariants.{Event}
use Rattle.local_variables.specs.Variables.{Variable}
use Rattle.nwq_value.specs.Effect.{Effect}
use Rattle.nwq_value.specs.Engine.{EngineTable}
use Rattle.nwq_value.specs.declared.value.Value.{Value}
use Rattle.source_meaning.specs.Evaluation.{Deferred}
use Rattle.world_rules.specs.declared.data.Told.{Told}
use Rattle.world_rules.specs.declared.data.Told.TheVariants as line
use Rattle.world_rules.specs.AlikeLaws.{call}
use Rattle.world_rules.specs.Arguments.{int_at, text_at, object_at, effect_at, event_at}
use Rattle.world_rules.specs.Pure.{CellLookup}
use Rattle.world_rules.specs.World.{World, is_valid, effects_of}
use Rattle.world_rules.specs.Changes.{told, post, with_action, with_actions, with_busy, with_effects, with_variables, has_turn, without_turn, without_first, is_effect}
use Rattle.world_rules.specs.Rows.{drawn_from, drawn, awake, appended, at_rest, cleared, changed_variables, applied, applied_to, removed, event_script, signalled, argument, NewItem, TheAction, AWait}
use Rattle.world_rules.specs.Rows.{ASpeech, queued, varied, Print, Say, Draw, Assign, Delay, Queue, Clear, Vary, Apply, Remove, Signal}
use Rattle.world_rules.specs.Engine.{engine}
use Rattle.world_rules.specs.RowLaws.{EachKeeps, engine_keeps}

-- no object is there, and nothing waits
pub record IsBare (w : World Deferred) : Type 0 where
  pub objects : w.area.objects ≡ []
  pub nothing : w.agenda.entries ≡ []

pub told_bare : (o : ℕ) (what : Told) (w : World Deferred) → IsBare w → IsBare (told o what w)
told_bare o what w h = record { objects = h.objects; nothing = h.nothing }

either_bare : (b : Bool) (v w : World Deferred) → IsBare v → IsBare w → IsBare (if b then v else w)
either_bare true v w h k = h
either_bare false v w h k = k

-- ---- where no object is there, none is valid

beyond : (o : ℕ) → (nat_lt 0 o && nat_le o 0) ≡ false
beyond zero = refl
beyond (suc o) = grind (arith, nat_tests)

none_valid : (o : ℕ) (w : World Deferred) → IsBare w → is_valid o w ≡ false
none_valid o w h = ap (λ objects. nat_lt 0 o && nat_le o (length objects)) h.objects ∙ beyond o

not_there : (b : Bool) (v w : World Deferred) → b ≡ false → IsBare w → IsBare (if b then v else w)
not_there true v w is h = absurd (true≢false is)
not_there false v w is h = h

no_object : (o : ℕ) (v w : World Deferred) → IsBare w → IsBare (if is_valid o w then v else w)
no_object o v w h = not_there (is_valid o w) v w (none_valid o w h) h

-- ---- what routines do

drawn_from_bare : (rs : List ℕ) (n : ℕ) (w : World Deferred) → IsBare w → IsBare (drawn_from rs n w).world
drawn_from_bare [] n w h = h
drawn_from_bare (r ∷ rs) n w h = record { objects = h.objects; nothing = h.nothing }

drawn_bare : (n : ℤ) (w : World Deferred) → IsBare w → IsBare (drawn n w).world
drawn_bare (negsuc n) w h = h
drawn_bare (pos zero) w h = h
drawn_bare (pos (suc n)) w h = drawn_from_bare w.random (suc n) w h

appended_bare : (o : ℕ) (item : Item Deferred) (w : World Deferred) → IsBare w → IsBare (appended o item w)
appended_bare o item w h = no_object o (awake o (with_action o item w)) w h

at_rest_bare : (o : ℕ) (w : World Deferred) → IsBare w → IsBare (at_rest o w)
at_rest_bare o w h = either_bare (has_turn o w) (with_busy o false (without_turn o w)) w (record { objects = h.objects; nothing = ap (without_turns o) h.nothing }) h

cleared_bare : (o : ℕ) (w : World Deferred) → IsBare w → IsBare (cleared o w)
cleared_bare o w h =
    let v = with_actions o [] w in
    let emptied : IsBare v = record { objects = h.objects; nothing = h.nothing } in
    either_bare (w.version == 2) (at_rest o v) v (at_rest_bare o v emptied) emptied

variables_bare : (o : ℕ) (change : List Variable → List Variable) (w : World Deferred) → IsBare w → IsBare (changed_variables o change w)
variables_bare o change w h = no_object o (with_variables o change w) w h

applied_bare : (duration : ℤ) (o : ℕ) (e : Effect) (ms : ℤ) (w : World Deferred) → IsBare w → IsBare (applied_to duration o e ms w)
applied_bare duration o e ms w h = no_object o (applied duration o e ms w) w h

removed_bare : (o : ℕ) (e : Effect) (w : World Deferred) → IsBare w → IsBare (removed o e w)
removed_bare o e w h =
    let v = with_effects o (without_first (is_effect e) (effects_of o w)) w in
    either_bare (list_any (is_effect e) (effects_of o w)) (told o (line.Remove e) v) w (record { objects = h.objects; nothing = h.nothing }) h

signalled_bare : (o : ℕ) (user : ℤ) (w : World Deferred) → IsBare w → IsBare (signalled o user w)
signalled_bare o user w h = no_object o (post w.clock (Event o (event_script (object w.area o).scripts) user) w) w h

-- ---- small changes

queued_bare : (item : NewItem) (caller : ℕ) (values : List Value) (w : World Deferred) → IsBare w → IsBare (queued item (call caller values None) w)
queued_bare TheAction caller values w h = h
queued_bare (AWait ms) caller values w h = appended_bare caller (Wait (int_at ms values)) w h
queued_bare (ASpeech text) caller values w h = appended_bare caller (Speak (text_at text values)) w h

done_bare : (caller : ℕ) (values : List Value) → EachKeeps IsBare (call caller values None)
done_bare caller values (Print a) w h = told_bare caller (line.Print (argument a values)) w h
done_bare caller values (Say text) w h = told_bare caller (line.Speak (text_at text values)) w h
done_bare caller values (Draw n) w h = drawn_bare (int_at n values) w h
done_bare caller values (Assign o) w h = h
done_bare caller values (Delay ms) w h = h
done_bare caller values (Queue item) w h = queued_bare item caller values w h
done_bare caller values Clear w h = cleared_bare caller w h
done_bare caller values (Vary o change) w h = variables_bare (object_at o values) (varied change values) w h
done_bare caller values (Apply duration e o ms) w h = applied_bare (int_at duration values) (object_at o values) (effect_at e values) (int_at ms values) w h
done_bare caller values (Remove o e) w h = removed_bare (object_at o values) (effect_at e values) w h
done_bare caller values (Signal o e) w h = signalled_bare (object_at o values) (event_at e values) w h

pub engine_bare : (table : EngineTable) (cell : CellLookup) (n caller : ℕ) (values : List Value) (w : World Deferred) → IsBare w
    → IsBare (engine table cell n (call caller values None) w).world
engine_bare table cell n caller values w h =
    engine_keeps IsBare (call caller values None) table cell n (done_bare caller values) (λ r at w h. told_bare caller (line.Call r.name values) w h) w h
