-- Each call of a routine gives a value that has room, and keeps the values of its world.
use Rattle.std.proofs.Common.{◌<◌, ◌-◌, ◌%◌, ℕ, ℤ, pos, negsuc, zero, suc, true, false, List, [], ◌∷◌, ◌++◌, length, take, drop, Option, None, Some, arith, mod-lt}
use Rattle.std.specs.Prelude.{◌==◌, not, int_lt, slice_get, codes}
use Rattle.std.specs.List.{AllByRecursion, list_any, take_while}
use Rattle.std.proofs.lemmas.Option.{slice_get_within}
use Rattle.std.specs.Fmt.{signed_decimal}
use Rattle.std.specs.Int.{w32, int_wrapping_neg}
use Rattle.std.specs.Char.{is_ascii_digit}
use Rattle.std.specs.Str.Parse.{digits_value}
use Rattle.nwq_value.specs.Effect.{Effect}
use Rattle.nwq_value.specs.declared.value.Ty.{Ty}
use Rattle.nwq_value.specs.declared.value.Ty.TheVariants as ty
use Rattle.nwq_value.specs.declared.value.Value.{Value}
use Rattle.local_variables.specs.Variables.{Variable, IntVar, TextVar, is_int, is_text}
use Rattle.area_rules.specs.Objects.{AreaObject, Script}
use Rattle.area_rules.specs.Area.{object, script_named}
use Rattle.action_queue.specs.declared.queue.Item.{Item}
use Rattle.action_queue.specs.declared.queue.Item.TheVariants.{Do, Wait, Speak}
use Rattle.delay_agenda.specs.declared.entry.Kind.TheVariants.{Event, Stored, Turn}
use Rattle.saved_state.specs.declared.saved.Saved.{Saved}
use Rattle.state_format.specs.Parts.{AreStateBytes, IsMaybe, IsNumber, IsSigned}
use Rattle.world_rules.specs.declared.data.Told.TheVariants as line
use Rattle.world_rules.specs.Arguments.{int_at, text_at, object_at, effect_at, event_at, at_least_zero}
use Rattle.world_rules.specs.Pure.{CellLookup, absolute, leading_number, string_number, hex_string, left_part, right_part, middle_part, inserted, pure_functions, pure}
use Rattle.world_rules.specs.World.{World, is_valid, queue_of, effects_of}
use Rattle.world_rules.specs.Changes.{told, post, later, with_actions, with_busy, with_action, with_effects, with_variables, has_turn, without_turn, without_first, is_effect}
use Rattle.world_rules.specs.AlikeLaws.{call}
use Rattle.world_rules.specs.Rows.{Call, Answered, drawn, drawn_from, assigned, delayed, awake, appended, appended_do, at_rest, cleared, read, changed_variables, applied, applied_to, removed, name_or}
use Rattle.world_rules.specs.Rows.{event_script, signalled, argument, NewItem, TheAction, AWait, ASpeech, queued, VariableChange, SetInt, SetText, DeleteInt, DeleteText, varied, Print, Say, Draw}
use Rattle.world_rules.specs.Rows.{Assign, Delay, Queue, Clear, Vary, Apply, Remove, Signal, IntField, LocalInt, int_field, TextField, Tag, LocalText, text_field, Answer, Nothing, Random, ByTag}
use Rattle.world_rules.specs.Rows.{IsThere, IntOf, TextOf, EventOf, UserNumber, answer}
use Rattle.world_rules.specs.Engine.{world_value}
use Rattle.world_rules.specs.RowLaws.{EachKeeps, engine_keeps, engine_answers}
use Rattle.play_room.specs.Room.{IsText, EffectHasRoom, ValueHasRoom, VariableHasRoom, ItemHasRoom}
use Rattle.play_room.specs.Kept.{CellsAreBytes, MaybeValueHasRoom, ActionHasRoom, StoodIsKept, ObjectIsKept, WorldIsKept}
use Rattle.play_room.proofs.Keeps.{CallsKeepValues}
use Rattle.play_room.proofs.Lists.{all_filter, some_of, mapped, either}
use Rattle.play_room.proofs.Texts.{first_bytes, last_bytes, joined_bytes, cut_text, no_text, signed_bytes, hex_string_bytes, small_fits, zero_fits, bits_fit, test_fits, int_fits, text_fits}
use Rattle.play_room.proofs.Texts.{object_fits, effect_fits, event_fits, ints_fit}
use Rattle.play_room.proofs.Changes.{told_kept, post_kept, without_turn_kept, stood_of, actions_kept, busy_kept, action_kept, effects_kept, lasting_kept, passing_kept, fewer_kept, variables_kept}
use Rattle.play_room.proofs.Changes.{put_keeps, object_kept, named_text, read_int, read_text, tag_number}

-- a value that has room, where there is one, and a world that is kept
abbrev IsKeptAnswer : Answered Saved → Type 0
IsKeptAnswer a = MaybeValueHasRoom a.value × WorldIsKept a.world

record CallHasRoom (c : Call Saved) : Type 0 where
  caller : IsNumber 4 c.caller
  values : AllByRecursion ValueHasRoom c.values
  action : ActionHasRoom c.action

-- ---- functions of strings and numbers

absolute_fits : (n : ℤ) → IsSigned n → IsSigned (absolute n)
absolute_fits n fits = either IsSigned (int_lt n (pos 0)) (int_wrapping_neg w32 n) n (bits_fit _) fits

leading_fits : (bytes : List ℕ) → IsSigned (leading_number bytes)
leading_fits bytes = bits_fit (digits_value 10 (take_while is_ascii_digit bytes) % 4294967296)

number_fits : (bytes : List ℕ) → IsSigned (string_number bytes)
number_fits [] = zero_fits
number_fits (b ∷ bytes) =
    either IsSigned (b == 45) (int_wrapping_neg w32 (leading_number bytes)) (leading_number (b ∷ bytes)) (bits_fit _) (leading_fits (b ∷ bytes))

middle_bytes : (bytes : List ℕ) (start count : ℤ) → AreStateBytes bytes → AreStateBytes (middle_part bytes start count)
middle_bytes bytes (pos start) count are = first_bytes (at_least_zero count) (drop start bytes) (last_bytes start bytes are)
middle_bytes bytes (negsuc start) count are = tt

inserted_bytes : (bytes piece : List ℕ) (place : ℤ) → AreStateBytes bytes → AreStateBytes piece → AreStateBytes (inserted bytes piece place)
inserted_bytes bytes piece place are more =
    joined_bytes (take (at_least_zero place) bytes ++ piece) (drop (at_least_zero place) bytes)
    (joined_bytes (take (at_least_zero place) bytes) piece (first_bytes (at_least_zero place) bytes are) more) (last_bytes (at_least_zero place) bytes are)

abbrev GivesRoom : (List Value → Value) → Type 0
GivesRoom f = (values : List Value) → AllByRecursion ValueHasRoom values → ValueHasRoom (f values)

functions_give : (cell : CellLookup) → CellsAreBytes cell → AllByRecursion GivesRoom (pure_functions cell)
functions_give cell bytes = (
  λ a all. absolute_fits (int_at 0 a) (int_fits a all 0),
  (
    λ a all. cut_text (signed_decimal (int_at 0 a)) (signed_bytes (int_at 0 a) (int_fits a all 0)),
    (
      λ a all. number_fits (text_at 0 a),
      (
        λ a all. cut_text (hex_string (int_at 0 a)) (hex_string_bytes (int_at 0 a)),
        (
          λ a all. (let few = (text_fits a all 0).0 in small_fits (length (text_at 0 a)) (omega (arith, few))),
          (
            λ a all. cut_text (left_part (text_at 0 a) (int_at 1 a)) (first_bytes (at_least_zero (int_at 1 a)) (text_at 0 a) (text_fits a all 0).1),
            (
              λ a all. cut_text (right_part (text_at 0 a) (int_at 1 a)) (last_bytes (length (text_at 0 a) - at_least_zero (int_at 1 a)) (text_at 0 a) (text_fits a all 0).1),
              (
                λ a all. cut_text (middle_part (text_at 0 a) (int_at 1 a) (int_at 2 a)) (middle_bytes (text_at 0 a) (int_at 1 a) (int_at 2 a) (text_fits a all 0).1),
                (
                  λ a all. cut_text (inserted (text_at 0 a) (text_at 1 a) (int_at 2 a)) (inserted_bytes (text_at 0 a) (text_at 1 a) (int_at 2 a) (text_fits a all 0).1 (text_fits a all 1).1),
                  (
                    λ a all. cut_text (cell (text_at 0 a) (text_at 1 a) (int_at 2 a)) (bytes (text_at 0 a) (text_at 1 a) (int_at 2 a)),
                    tt,
                  ),
                ),
              ),
            ),
          ),
        ),
      ),
    ),
  ),
)

pure_gives : (cell : CellLookup) → CellsAreBytes cell → (k : ℕ) (values : List Value) → AllByRecursion ValueHasRoom values → MaybeValueHasRoom (pure cell k values)
pure_gives cell bytes k values all =
    given (pure cell k values)
    (mapped ValueHasRoom GivesRoom (λ f. f values) (λ f gives. gives values all) (slice_get (pure_functions cell) k) (some_of GivesRoom (pure_functions cell) k (functions_give cell bytes)))
  where
    given : (o : Option Value) → IsMaybe ValueHasRoom o → MaybeValueHasRoom o
    given None h = h
    given (Some v) h = h

-- ---- the engine's own routines

drawn_kept : (n : ℤ) (w : World Saved) → IsSigned n → WorldIsKept w → IsKeptAnswer (drawn n w)
drawn_kept (negsuc n) w fits k = (zero_fits, k)
drawn_kept (pos zero) w fits k = (zero_fits, k)
drawn_kept (pos (suc n)) w fits k = from w.random k.random
  where
    from : (random : List ℕ) → AllByRecursion (IsNumber 4) random → IsKeptAnswer (drawn_from random (suc n) w)
    from [] all = (zero_fits, k)
    from (r ∷ rest) all =
        let below : r % suc n < suc n = mod-lt r (omega arith) in
        let small : r % suc n < 2147483648 = omega (arith, below, fits) in
        (small_fits (r % suc n) small, record { random = all.1; area = k.area; things = k.things; agenda = k.agenda; user = k.user })

assigned_kept : (target : ℕ) (action : Option Saved) (w : World Saved) → IsNumber 4 target → ActionHasRoom action → WorldIsKept w → WorldIsKept (assigned target action w)
assigned_kept target None w number room k = k
assigned_kept target (Some x) w number room k = either WorldIsKept (is_valid target w) (post w.clock (Stored target x) w) w (post_kept w.clock (Stored target x) w number room k) k

delayed_kept : (caller : ℕ) (ms : ℤ) (action : Option Saved) (w : World Saved) → IsNumber 4 caller → ActionHasRoom action → WorldIsKept w → WorldIsKept (delayed caller ms action w)
delayed_kept caller ms None w number room k = k
delayed_kept caller ms (Some x) w number room k = post_kept (later ms w) (Stored caller x) w number room k

awake_kept : (o : ℕ) (w : World Saved) → IsNumber 4 o → WorldIsKept w → WorldIsKept (awake o w)
awake_kept o w number k =
    either WorldIsKept (queue_of o w).busy w (post w.clock (Turn o) (with_busy o true w)) k (post_kept w.clock (Turn o) (with_busy o true w) number tt (busy_kept o true w k))

appended_kept : (o : ℕ) (item : Item Saved) (w : World Saved) → IsNumber 4 o → ItemHasRoom item → WorldIsKept w → WorldIsKept (appended o item w)
appended_kept o item w number room k =
    either WorldIsKept (is_valid o w) (awake o (with_action o item w)) w (awake_kept o (with_action o item w) number (action_kept o item w room k)) k

appended_do_kept : (o : ℕ) (action : Option Saved) (w : World Saved) → IsNumber 4 o → ActionHasRoom action → WorldIsKept w → WorldIsKept (appended_do o action w)
appended_do_kept o None w number room k = k
appended_do_kept o (Some x) w number room k = appended_kept o (Do x) w number room k

at_rest_kept : (o : ℕ) (w : World Saved) → WorldIsKept w → WorldIsKept (at_rest o w)
at_rest_kept o w k = either WorldIsKept (has_turn o w) (with_busy o false (without_turn o w)) w (busy_kept o false (without_turn o w) (without_turn_kept o w k)) k

cleared_kept : (o : ℕ) (w : World Saved) → WorldIsKept w → WorldIsKept (cleared o w)
cleared_kept o w k =
    let none = actions_kept o [] w tt k in
    either WorldIsKept (w.version == 2) (at_rest o (with_actions o [] w)) (with_actions o [] w) (at_rest_kept o (with_actions o [] w) none) none

changed_kept : (o : ℕ) (change : List Variable → List Variable) (w : World Saved) → ((vars : List Variable) → AllByRecursion VariableHasRoom vars → AllByRecursion VariableHasRoom (change vars))
    → WorldIsKept w → WorldIsKept (changed_variables o change w)
changed_kept o change w keeps k = either WorldIsKept (is_valid o w) (with_variables o change w) w (variables_kept o change w keeps k) k

applied_kept : (duration : ℤ) (o : ℕ) (e : Effect) (ms : ℤ) (w : World Saved) → IsNumber 4 o → EffectHasRoom e → WorldIsKept w → WorldIsKept (applied duration o e ms w)
applied_kept (pos zero) o e ms w number room k = told_kept o (line.Apply (pos 0) e) w k
applied_kept (pos (suc zero)) o e ms w number room k =
    passing_kept (later ms w) o e (told o (line.Apply (pos 1) e) w) number room (told_kept o (line.Apply (pos 1) e) w k)
applied_kept (pos (suc (suc zero))) o e ms w number room k = lasting_kept o e (told o (line.Apply (pos 2) e) w) room (told_kept o (line.Apply (pos 2) e) w k)
applied_kept (pos (suc (suc (suc n)))) o e ms w number room k = k
applied_kept (negsuc n) o e ms w number room k = k

applied_to_kept : (duration : ℤ) (o : ℕ) (e : Effect) (ms : ℤ) (w : World Saved) → IsNumber 4 o → EffectHasRoom e → WorldIsKept w → WorldIsKept (applied_to duration o e ms w)
applied_to_kept duration o e ms w number room k = either WorldIsKept (is_valid o w) (applied duration o e ms w) w (applied_kept duration o e ms w number room k) k

removed_kept : (o : ℕ) (e : Effect) (w : World Saved) → WorldIsKept w → WorldIsKept (removed o e w)
removed_kept o e w k =
    let rest = without_first (is_effect e) (effects_of o w) in
    let fewer = effects_kept o rest w (fewer_kept (StoodIsKept w.agenda.next) (is_effect e) (effects_of o w) (stood_of o w k)) k in
    either WorldIsKept (list_any (is_effect e) (effects_of o w)) (told o (line.Remove e) (with_effects o rest w)) w (told_kept o (line.Remove e) (with_effects o rest w) fewer) k

name_or_text : (first second : List ℕ) → IsText first → IsText second → IsText (name_or first second)
name_or_text [] second x y = y
name_or_text (b ∷ first) second x y = x

event_text : (scripts : List Script) → AllByRecursion (λ (s : Script). IsText s.name) scripts → IsText (event_script scripts)
event_text scripts all =
    name_or_text (script_named (codes "ScriptUserDefine") scripts) (script_named (codes "OnUserDefined") scripts)
    (named_text (codes "ScriptUserDefine") scripts all) (named_text (codes "OnUserDefined") scripts all)

signalled_kept : (o : ℕ) (user : ℤ) (w : World Saved) → IsNumber 4 o → IsSigned user → WorldIsKept w → WorldIsKept (signalled o user w)
signalled_kept o user w number fits k =
    let script = event_script (object w.area o).scripts in
    either WorldIsKept (is_valid o w) (post w.clock (Event o script user) w) w
    (post_kept w.clock (Event o script user) w number (event_text (object w.area o).scripts (object_kept w.area o k.area).scripts, fits) k) k

read_bytes : (o : ℕ) (found : List ℕ) (w : World Saved) → AreStateBytes found → AreStateBytes (read o found [] w)
read_bytes o found w are = either AreStateBytes (is_valid o w) found [] are tt

-- ---- small changes and answers

queued_kept : (item : NewItem) (c : Call Saved) (w : World Saved) → CallHasRoom c → WorldIsKept w → WorldIsKept (queued item c w)
queued_kept TheAction c w r k = appended_do_kept c.caller c.action w r.caller r.action k
queued_kept (AWait ms) c w r k = appended_kept c.caller (Wait (int_at ms c.values)) w r.caller (int_fits c.values r.values ms) k
queued_kept (ASpeech text) c w r k = appended_kept c.caller (Speak (text_at text c.values)) w r.caller (text_fits c.values r.values text) k

abbrev KeepsVariables : (List Variable → List Variable) → Type 0
KeepsVariables change = (vars : List Variable) → AllByRecursion VariableHasRoom vars → AllByRecursion VariableHasRoom (change vars)

varied_keeps : (change : VariableChange) (values : List Value) → AllByRecursion ValueHasRoom values → KeepsVariables (varied change values)
varied_keeps (SetInt name n) values all = put_keeps (IntVar (text_at name values) (int_at n values)) ((text_fits values all name).1, int_fits values all n)
varied_keeps (SetText name text) values all = put_keeps (TextVar (text_at name values) (text_at text values)) ((text_fits values all name).1, (text_fits values all text).1)
varied_keeps (DeleteInt name) values all = λ vars are. all_filter VariableHasRoom (λ v. not (is_int (text_at name values) v)) vars are
varied_keeps (DeleteText name) values all = λ vars are. all_filter VariableHasRoom (λ v. not (is_text (text_at name values) v)) vars are

done_kept : (c : Call Saved) → CallHasRoom c → EachKeeps WorldIsKept c
done_kept c r (Print a) w k = told_kept c.caller (line.Print (argument a c.values)) w k
done_kept c r (Say text) w k = told_kept c.caller (line.Speak (text_at text c.values)) w k
done_kept c r (Draw n) w k = (drawn_kept (int_at n c.values) w (int_fits c.values r.values n) k).1
done_kept c r (Assign o) w k = assigned_kept (object_at o c.values) c.action w (object_fits c.values r.values o) r.action k
done_kept c r (Delay ms) w k = delayed_kept c.caller (int_at ms c.values) c.action w r.caller r.action k
done_kept c r (Queue item) w k = queued_kept item c w r k
done_kept c r Clear w k = cleared_kept c.caller w k
done_kept c r (Vary o change) w k = changed_kept (object_at o c.values) (varied change c.values) w (varied_keeps change c.values r.values) k
done_kept c r (Apply duration e o ms) w k =
    applied_to_kept (int_at duration c.values) (object_at o c.values) (effect_at e c.values) (int_at ms c.values) w (object_fits c.values r.values o) (effect_fits c.values r.values e) k
done_kept c r (Remove o e) w k = removed_kept (object_at o c.values) (effect_at e c.values) w k
done_kept c r (Signal o e) w k = signalled_kept (object_at o c.values) (event_at e c.values) w (object_fits c.values r.values o) (event_fits c.values r.values e) k

field_fits : (f : IntField) (values : List Value) (o : AreaObject) → ObjectIsKept o → IsSigned (int_field f values o)
field_fits (LocalInt name) values o k = read_int (is_int (text_at name values)) o.vars k.vars

field_bytes : (f : TextField) (values : List Value) (o : AreaObject) → ObjectIsKept o → AreStateBytes (text_field f values o)
field_bytes Tag values o k = k.tag
field_bytes (LocalText name) values o k = read_text (is_text (text_at name values)) o.vars k.vars

answer_fits : (a : Answer) (values : List Value) (w : World Saved) → AllByRecursion ValueHasRoom values → WorldIsKept w → MaybeValueHasRoom (answer a values w)
answer_fits Nothing values w all k = tt
answer_fits (Random n) values w all k = (drawn_kept (int_at n values) w (int_fits values all n) k).0
answer_fits (ByTag tag n) values w all k = tag_number w.area (text_at tag values) (int_at n values) k.area
answer_fits (IsThere o) values w all k = test_fits (is_valid (object_at o values) w)
answer_fits (IntOf o f) values w all k =
    let own = object w.area (object_at o values) in
    either IsSigned (is_valid (object_at o values) w) (int_field f values own) (pos 0) (field_fits f values own (object_kept w.area (object_at o values) k.area)) zero_fits
answer_fits (TextOf o f) values w all k =
    let own = object w.area (object_at o values) in
    cut_text _ (read_bytes (object_at o values) (text_field f values own) w (field_bytes f values own (object_kept w.area (object_at o values) k.area)))
answer_fits (EventOf n) values w all k = int_fits values all n
answer_fits UserNumber values w all k = k.user

-- ---- any routine

world_gives : (n : ℕ) (t : Ty) (values : List Value) → IsNumber 2 n → AllByRecursion ValueHasRoom values → MaybeValueHasRoom (world_value n t values)
world_gives n ty.Effect values number all = (number, ints_fit values all)
world_gives n ty.Void values number all = tt
world_gives n ty.Int values number all = zero_fits
world_gives n ty.Text values number all = no_text
world_gives n ty.Object values number all = omega arith
world_gives n ty.Event values number all = zero_fits
world_gives n ty.Action values number all = tt
world_gives n (ty.Struct m) values number all = tt
world_gives n ty.Refused values number all = tt

pub calls_keep : CallsKeepValues
calls_keep cell table bytes is n caller values action w number room stored k =
    let c = call caller values action in
    let r : CallHasRoom c = record { caller = number; values = room; action = stored } in (
      engine_answers MaybeValueHasRoom tt c w table cell n (λ a. answer_fits a values w room k) (λ f. pure_gives cell bytes f values room)
          (λ own at. world_gives n own.result values (let below = slice_get_within table.routines n own at in let few = is.few in omega (arith, below, few)) room),
      engine_keeps WorldIsKept c table cell n (done_kept c r) (λ own at w k. told_kept caller (line.Call own.name values) w k) w k,
    )
