-- What each call leaves of a world's area, and how many entries it posts.
use Rattle.std.proofs.Common.{◌≡◌, ◌≤◌, ◌+◌, ◌-◌, ℕ, ℤ, pos, negsuc, zero, suc, List, [], ◌∷◌, map, ap, refl, ◌∙◌}
use Rattle.std.specs.Prelude.{Bool, true, false, ◌==◌, not, if◌then◌else◌, Option, Some, None}
use Rattle.std.specs.List.{IsDistinct, list_any}
use Rattle.nwq_value.specs.Engine.{EngineTable}
use Rattle.nwq_value.specs.Effect.{Effect}
use Rattle.nwq_value.specs.declared.value.Value.{Value}
use Rattle.local_variables.specs.Variables.{Variable, IntVar, TextVar, same_variable, is_int, is_text}
use Rattle.local_variables.specs.Laws.{PutKeepsDistinct, FilterKeepsDistinct}
use Rattle.area_rules.specs.Objects.{AreaObject}
use Rattle.area_rules.specs.Area.{PlainArea, HaveDistinct, bare, changed, variables_changed_at}
use Rattle.play_save.specs.Written.{KeepsObjects}
use Rattle.action_queue.specs.declared.queue.Item.{Item}
use Rattle.action_queue.specs.declared.queue.Item.TheVariants.{Do, Wait, Speak}
use Rattle.saved_state.specs.declared.saved.Saved.{Saved}
use Rattle.world_rules.specs.Pure.{CellLookup}
use Rattle.world_rules.specs.World.{World, is_valid, queue_of, effects_of}
use Rattle.world_rules.specs.Changes.{has_turn, is_effect, with_variables, with_action, with_actions}
use Rattle.world_rules.specs.Rows.{Call, drawn, drawn_from, assigned, delayed, awake, appended, appended_do, at_rest, cleared, changed_variables, applied, NewItem, TheAction, AWait, ASpeech, queued}
use Rattle.world_rules.specs.Rows.{VariableChange, SetInt, SetText, DeleteInt, DeleteText, varied, Print, Say, Draw, Assign, Delay, Queue, Clear, Vary, Apply, Remove, Signal}
use Rattle.world_rules.specs.Arguments.{int_at, text_at, object_at, effect_at}
use Rattle.world_rules.specs.Engine.{engine}
use Rattle.world_rules.specs.RowLaws.{EachKeeps, engine_keeps, engine_posts}

-- a call leaves an area one, and posts one entry at most
pub record Leaves (w v : World Saved) : Type 0 where
  pub area : KeepsObjects w.area → KeepsObjects v.area
  pub posts : v.agenda.next ≤ w.agenda.next + 1

abbrev Kept : World Saved → Type 0
Kept w = KeepsObjects w.area

either_keeps : (b : Bool) (u v : World Saved) → Kept u → Kept v → Kept (if b then u else v)
either_keeps true u v x y = x
either_keeps false u v x y = y

-- ---- variables

bare_stays : (i : ℕ) (change : List Variable → List Variable) (os : List AreaObject) → map bare (variables_changed_at i change os) ≡ map bare os
bare_stays i change [] = refl
bare_stays zero change (o ∷ os) = refl
bare_stays (suc i) change (o ∷ os) = ap (λ (l : List AreaObject). bare o ∷ l) (bare_stays i change os)

abbrev KeepsDistinct : (List Variable → List Variable) → Type 0
KeepsDistinct change = (vars : List Variable) → IsDistinct same_variable vars → IsDistinct same_variable (change vars)

distinct_stay : (i : ℕ) (change : List Variable → List Variable) → KeepsDistinct change → (os : List AreaObject) → HaveDistinct os → HaveDistinct (variables_changed_at i change os)
distinct_stay i change keeps [] all = tt
distinct_stay zero change keeps (o ∷ os) all = (keeps o.vars all.0, all.1)
distinct_stay (suc i) change keeps (o ∷ os) all = (all.0, distinct_stay i change keeps os all.1)

area_stays : (area : PlainArea) (o : ℕ) (change : List Variable → List Variable) → KeepsDistinct change → KeepsObjects area → KeepsObjects (changed area o change)
area_stays area o change keeps is = record {
  same = bare_stays (o - 1) change area.objects ∙ is.same;
  distinct = distinct_stay (o - 1) change keeps area.objects is.distinct;
}

variables_keep : (o : ℕ) (change : List Variable → List Variable) → KeepsDistinct change → (w : World Saved) → Kept w → Kept (changed_variables o change w)
variables_keep o change keeps w is = either_keeps (is_valid o w) (with_variables o change w) w (area_stays w.area o change keeps is) is

varied_keeps : PutKeepsDistinct → FilterKeepsDistinct → (change : VariableChange) (values : List Value) → KeepsDistinct (varied change values)
varied_keeps puts filters (SetInt name n) values = puts (IntVar (text_at name values) (int_at n values))
varied_keeps puts filters (SetText name text) values = puts (TextVar (text_at name values) (text_at text values))
varied_keeps puts filters (DeleteInt name) values = filters (λ v. not (is_int (text_at name values) v))
varied_keeps puts filters (DeleteText name) values = filters (λ v. not (is_text (text_at name values) v))

-- ---- the other changes leave the area as it is

drawn_keeps : (n : ℤ) (w : World Saved) → Kept w → Kept (drawn n w).world
drawn_keeps (negsuc n) w is = is
drawn_keeps (pos zero) w is = is
drawn_keeps (pos (suc n)) w is = from_keeps w.random
  where
    from_keeps : (random : List ℕ) → Kept (drawn_from random (suc n) w).world
    from_keeps [] = is
    from_keeps (r ∷ rest) = is

assigned_keeps : (target : ℕ) (action : Option Saved) (w : World Saved) → Kept w → Kept (assigned target action w)
assigned_keeps target None w is = is
assigned_keeps target (Some x) w is = either_keeps (is_valid target w) _ w is is

delayed_keeps : (caller : ℕ) (ms : ℤ) (action : Option Saved) (w : World Saved) → Kept w → Kept (delayed caller ms action w)
delayed_keeps caller ms None w is = is
delayed_keeps caller ms (Some x) w is = is

appended_keeps : (o : ℕ) (item : Item Saved) (w : World Saved) → Kept w → Kept (appended o item w)
appended_keeps o item w is = either_keeps (is_valid o w) (awake o (with_action o item w)) w (either_keeps (queue_of o (with_action o item w)).busy (with_action o item w) _ is is) is

queued_keeps : (item : NewItem) (c : Call Saved) (w : World Saved) → Kept w → Kept (queued item c w)
queued_keeps TheAction c w is = optional c.action
  where
    optional : (action : Option Saved) → Kept (appended_do c.caller action w)
    optional None = is
    optional (Some x) = appended_keeps c.caller (Do x) w is
queued_keeps (AWait ms) c w is = appended_keeps c.caller (Wait (int_at ms c.values)) w is
queued_keeps (ASpeech text) c w is = appended_keeps c.caller (Speak (text_at text c.values)) w is

cleared_keeps : (o : ℕ) (w : World Saved) → Kept w → Kept (cleared o w)
cleared_keeps o w is =
    let empty = with_actions o [] w in
    either_keeps (w.version == 2) (at_rest o empty) empty (either_keeps (has_turn o empty) _ empty is is) is

applied_keeps : (duration : ℤ) (o : ℕ) (e : Effect) (ms : ℤ) (w : World Saved) → Kept w → Kept (applied duration o e ms w)
applied_keeps (pos zero) o e ms w is = is
applied_keeps (pos (suc zero)) o e ms w is = is
applied_keeps (pos (suc (suc zero))) o e ms w is = is
applied_keeps (pos (suc (suc (suc n)))) o e ms w is = is
applied_keeps (negsuc n) o e ms w is = is

-- ---- each small change

done_keeps : PutKeepsDistinct → FilterKeepsDistinct → (c : Call Saved) → EachKeeps Kept c
done_keeps puts filters c (Print a) w is = is
done_keeps puts filters c (Say text) w is = is
done_keeps puts filters c (Draw n) w is = drawn_keeps (int_at n c.values) w is
done_keeps puts filters c (Assign o) w is = assigned_keeps (object_at o c.values) c.action w is
done_keeps puts filters c (Delay ms) w is = delayed_keeps c.caller (int_at ms c.values) c.action w is
done_keeps puts filters c (Queue item) w is = queued_keeps item c w is
done_keeps puts filters c Clear w is = cleared_keeps c.caller w is
done_keeps puts filters c (Vary o change) w is = variables_keep (object_at o c.values) (varied change c.values) (varied_keeps puts filters change c.values) w is
done_keeps puts filters c (Apply duration e o ms) w is =
    either_keeps (is_valid (object_at o c.values) w) _ w (applied_keeps (int_at duration c.values) (object_at o c.values) (effect_at e c.values) (int_at ms c.values) w is) is
done_keeps puts filters c (Remove o e) w is = either_keeps (list_any (is_effect (effect_at e c.values)) (effects_of (object_at o c.values) w)) _ w is is
done_keeps puts filters c (Signal o e) w is = either_keeps (is_valid (object_at o c.values) w) _ w is is

module _ (puts : PutKeepsDistinct) (filters : FilterKeepsDistinct) (table : EngineTable) (cell : CellLookup) (n : ℕ) (c : Call Saved) (w : World Saved) where
  pub engine_leaves : Leaves w (engine table cell n c w).world
  engine_leaves = record {
    area = λ is. engine_keeps Kept c table cell n (done_keeps puts filters c) (λ r at v held. held) w is;
    posts = engine_posts table cell n c w;
  }
