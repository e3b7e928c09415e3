-- The engine's own routines: each is a number, a name, a list of small changes that a call makes,
-- and what it answers. A number among these is the place of an argument, counted from 0.
use Prim.Native.String.{String}
use Rattle.std.specs.Prelude.{ℕ, ℤ, ◌+◌, pos, negsuc, zero, suc, ◌%◌, Bool, true, false, ◌==◌, not, if◌then◌else◌, List, [], ◌∷◌, Option, None, Some, codes, filter}
use Rattle.std.specs.List.{list_any}
use Rattle.action_queue.specs.declared.queue.Item.{Item}
use Rattle.action_queue.specs.declared.queue.Item.TheVariants.{Do, Wait, Speak}
use Rattle.area_rules.specs.Area.{by_tag, object, script_named}
use Rattle.area_rules.specs.Objects.{AreaObject, Script}
use Rattle.local_variables.specs.Variables.{Variable, IntVar, TextVar, int_named, text_named, is_int, is_text, put}
use Rattle.delay_agenda.specs.declared.entry.Kind.TheVariants.{Event, Stored, Turn, Unapply}
use Rattle.nwq_value.specs.Effect.{Effect}
use Rattle.nwq_value.specs.declared.value.Value.{Value}
use Rattle.nwq_value.specs.declared.value.Value.TheVariants as value
use Rattle.world_rules.specs.declared.data.Told.TheVariants as line
use Rattle.world_rules.specs.Arguments.{int_at, text_at, object_at, effect_at, event_at, string_value}
use Rattle.world_rules.specs.World.{World, is_valid, queue_of, effects_of}
use Rattle.world_rules.specs.Changes.{told, post, later, with_action, with_actions, with_busy, with_effect, with_effects, with_variables, has_turn, without_turn, without_first, is_effect}

-- A call: who calls, the arguments that are values, first to last, and the action, where the
-- routine takes one.
pub record Call (X : Type 0) : Type 0 where
  pub caller : ℕ
  pub values : List Value
  pub action : Option X

-- What a call gives: a value, where the routine has a result, and the world after the call.
pub record Answered (X : Type 0) : Type 0 where
  pub value : Option Value
  pub world : World X

-- a call that gives a value, and one that gives none
abbrev pub gives : {X : Type 0} → Value → World X → Answered X
gives v w = record { value = Some v; world = w }

abbrev pub leaves : {X : Type 0} → World X → Answered X
leaves w = record { value = None; world = w }

-- ---- random numbers

-- the next of the random numbers modulo n; 0 once they are used up
abbrev pub drawn_from : {X : Type 0} → List ℕ → ℕ → World X → Answered X
drawn_from [] n w = gives (value.Int (pos 0)) w
drawn_from (r ∷ rest) n w = gives (value.Int (pos (r % n))) (record w { random = rest })

-- below 1 nothing is taken
abbrev pub drawn : {X : Type 0} → ℤ → World X → Answered X
drawn (negsuc n) w = gives (value.Int (pos 0)) w
drawn (pos zero) w = gives (value.Int (pos 0)) w
drawn (pos (suc n)) w = drawn_from w.random (suc n) w

-- ---- stored actions

-- the action is to run as the target, where there is such an object
abbrev pub assigned : {X : Type 0} → ℕ → Option X → World X → World X
assigned target None w = w
assigned target (Some x) w = if is_valid target w then post w.clock (Stored target x) w else w

-- the action is to run as the caller, after a delay
abbrev pub delayed : {X : Type 0} → ℕ → ℤ → Option X → World X → World X
delayed caller ms None w = w
delayed caller ms (Some x) w = post (later ms w) (Stored caller x) w

-- ---- queues

-- an object that wasn't busy becomes so, and turns to its actions at once
abbrev pub awake : {X : Type 0} → ℕ → World X → World X
awake o w = if (queue_of o w).busy then w else post w.clock (Turn o) (with_busy o true w)

-- one action more for the caller to do, where it is an object
abbrev pub appended : {X : Type 0} → ℕ → Item X → World X → World X
appended o item w = if is_valid o w then awake o (with_action o item w) else w

abbrev pub appended_do : {X : Type 0} → ℕ → Option X → World X → World X
appended_do o None w = w
appended_do o (Some x) w = appended o (Do x) w

-- A Turn of the object that is on the agenda goes, and the busy mark with it. While a Do of the
-- object runs there is none, and the mark stays.
abbrev pub at_rest : {X : Type 0} → ℕ → World X → World X
at_rest o w = if has_turn o w then with_busy o false (without_turn o w) else w

-- The caller's queue is emptied. In version 1 a Turn that is on the agenda stays there, in version
-- 2 it goes. What was delayed stays in both.
abbrev pub cleared : {X : Type 0} → ℕ → World X → World X
cleared o w = if w.version == 2 then at_rest o (with_actions o [] w) else with_actions o [] w

-- ---- the area

-- an int of a test: 1 or 0
abbrev pub as_int : Bool → ℤ
as_int true = pos 1
as_int false = pos 0

-- what is read of an object, or the value for a number without an object
abbrev pub read : {X A : Type 0} → ℕ → A → A → World X → A
read o found missing w = if is_valid o w then found else missing

-- the change of an object's variables; a number without an object changes nothing
abbrev pub changed_variables : {X : Type 0} → ℕ → (List Variable → List Variable) → World X
    → World X
changed_variables o change w = if is_valid o w then with_variables o change w else w

-- ---- effects

-- The effect is told. One for a time stands until the agenda ends it, and a lasting one without
-- end.
abbrev pub applied : {X : Type 0} → ℤ → ℕ → Effect → ℤ → World X → World X
applied (pos zero) o e ms w = told o (line.Apply (pos 0) e) w
applied (pos (suc zero)) o e ms w =
    post (later ms w) (Unapply o)
    (with_effect o (Some w.agenda.next) e (told o (line.Apply (pos 1) e) w))
applied (pos (suc (suc zero))) o e ms w = with_effect o None e (told o (line.Apply (pos 2) e) w)
applied (pos (suc (suc (suc n)))) o e ms w = w
applied (negsuc n) o e ms w = w

abbrev pub applied_to : {X : Type 0} → ℤ → ℕ → Effect → ℤ → World X → World X
applied_to duration o e ms w = if is_valid o w then applied duration o e ms w else w

-- the first equal effect of the object goes, where there is one
abbrev pub removed : {X : Type 0} → ℕ → Effect → World X → World X
removed o e w =
    if list_any (is_effect e) (effects_of o w)
    then told o (line.Remove e)
    (with_effects o (without_first (is_effect e) (effects_of o w)) w) else w

-- ---- events

-- a name, or the second one where the first is empty
abbrev pub name_or : List ℕ → List ℕ → List ℕ
name_or [] second = second
name_or (b ∷ first) second = b ∷ first

-- the script of an object's own events
abbrev pub event_script : List Script → List ℕ
event_script scripts = name_or (script_named (codes "ScriptUserDefine") scripts)
    (script_named (codes "OnUserDefined") scripts)

-- the event of this user number comes to the object at once, where there is one
abbrev pub signalled : {X : Type 0} → ℕ → ℤ → World X → World X
signalled o user w = if is_valid o w then post w.clock
    (Event o (event_script (object w.area o).scripts) user) w else w

-- ---- small changes

-- an argument, by its type
pub data Argument : Type 0 where
  IntAt : ℕ → Argument
  TextAt : ℕ → Argument
  ObjectAt : ℕ → Argument

abbrev pub argument : Argument → List Value → Value
argument (IntAt i) values = value.Int (int_at i values)
argument (TextAt i) values = value.Text (text_at i values)
argument (ObjectAt i) values = value.Object (object_at i values)

-- what is queued: the call's action, a wait of so many milliseconds, a text to speak
pub data NewItem : Type 0 where
  TheAction : NewItem
  AWait : ℕ → NewItem
  ASpeech : ℕ → NewItem

abbrev pub queued : {X : Type 0} → NewItem → Call X → World X → World X
queued TheAction c w = appended_do c.caller c.action w
queued (AWait ms) c w = appended c.caller (Wait (int_at ms c.values)) w
queued (ASpeech text) c w = appended c.caller (Speak (text_at text c.values)) w

-- a change of an object's variables: one is set, by its name and what it is, or is deleted
pub data VariableChange : Type 0 where
  SetInt : ℕ → ℕ → VariableChange
  SetText : ℕ → ℕ → VariableChange
  DeleteInt : ℕ → VariableChange
  DeleteText : ℕ → VariableChange

abbrev pub varied : VariableChange → List Value → List Variable → List Variable
varied (SetInt name n) values = put (IntVar (text_at name values) (int_at n values))
varied (SetText name text) values = put (TextVar (text_at name values) (text_at text values))
varied (DeleteInt name) values = filter (λ v. not (is_int (text_at name values) v))
varied (DeleteText name) values = filter (λ v. not (is_text (text_at name values) v))

-- A small change of the world.
pub data Change : Type 0 where
  -- the caller's line with an argument, and the one with a text that it speaks
  Print : Argument → Change
  Say : ℕ → Change
  -- a random number below an int is drawn
  Draw : ℕ → Change
  -- the call's action is to run as an object, or as the caller after a time
  Assign : ℕ → Change
  Delay : ℕ → Change
  -- the caller's queue: one action more, or none
  Queue : NewItem → Change
  Clear : Change
  -- an object's variables
  Vary : ℕ → VariableChange → Change
  -- an effect is applied, by its duration type, itself, its object and its time, or is removed
  Apply : ℕ → ℕ → ℕ → ℕ → Change
  Remove : ℕ → ℕ → Change
  -- an event comes to an object
  Signal : ℕ → ℕ → Change

abbrev pub done : {X : Type 0} → Change → Call X → World X → World X
done (Print a) c w = told c.caller (line.Print (argument a c.values)) w
done (Say text) c w = told c.caller (line.Speak (text_at text c.values)) w
done (Draw n) c w = (drawn (int_at n c.values) w).world
done (Assign o) c w = assigned (object_at o c.values) c.action w
done (Delay ms) c w = delayed c.caller (int_at ms c.values) c.action w
done (Queue item) c w = queued item c w
done Clear c w = cleared c.caller w
done (Vary o change) c w = changed_variables (object_at o c.values) (varied change c.values) w
done (Apply duration e o ms) c w =
    applied_to (int_at duration c.values) (object_at o c.values) (effect_at e c.values)
    (int_at ms c.values) w
done (Remove o e) c w = removed (object_at o c.values) (effect_at e c.values) w
done (Signal o e) c w = signalled (object_at o c.values) (event_at e c.values) w

abbrev pub all_done : {X : Type 0} → List Change → Call X → World X → World X
all_done [] c w = w
all_done (x ∷ changes) c w = all_done changes c (done x c w)

-- how many agenda entries a change posts at most
abbrev pub posts : Change → ℕ
posts (Print a) = 0
posts (Say text) = 0
posts (Draw n) = 0
posts (Assign o) = 1
posts (Delay ms) = 1
posts (Queue item) = 1
posts Clear = 0
posts (Vary o change) = 0
posts (Apply duration e o ms) = 1
posts (Remove o e) = 0
posts (Signal o e) = 1

abbrev pub all_posts : List Change → ℕ
all_posts [] = 0
all_posts (x ∷ changes) = posts x + all_posts changes

-- ---- answers

-- what is read of an object: an int variable, by its name
pub data IntField : Type 0 where
  LocalInt : ℕ → IntField

abbrev pub int_field : IntField → List Value → AreaObject → ℤ
int_field (LocalInt name) values o = int_named (text_at name values) o.vars

-- its tag, and a string variable by its name
pub data TextField : Type 0 where
  Tag : TextField
  LocalText : ℕ → TextField

abbrev pub text_field : TextField → List Value → AreaObject → List ℕ
text_field Tag values o = o.tag
text_field (LocalText name) values o = text_named (text_at name values) o.vars

-- What a call answers, of the world that it begins in.
pub data Answer : Type 0 where
  Nothing : Answer
  -- the random number below an int that is drawn
  Random : ℕ → Answer
  -- the object of a tag that so many others of it are before
  ByTag : ℕ → ℕ → Answer
  -- 1 where there is such an object, else 0
  IsThere : ℕ → Answer
  -- what is read of an object: 0 and the empty string where there is none
  IntOf : ℕ → IntField → Answer
  TextOf : ℕ → TextField → Answer
  -- the event of a user number
  EventOf : ℕ → Answer
  -- the user number of the running entry's event
  UserNumber : Answer

abbrev pub answer : {X : Type 0} → Answer → List Value → World X → Option Value
answer Nothing values w = None
answer (Random n) values w = (drawn (int_at n values) w).value
answer (ByTag tag n) values w = Some
    (value.Object (by_tag w.area (text_at tag values) (int_at n values)))
answer (IsThere o) values w = Some (value.Int (as_int (is_valid (object_at o values) w)))
answer (IntOf o f) values w =
    Some (value.Int (read (object_at o values)
    (int_field f values (object w.area (object_at o values))) (pos 0) w))
answer (TextOf o f) values w =
    Some (string_value (read (object_at o values)
    (text_field f values (object w.area (object_at o values))) [] w))
answer (EventOf n) values w = Some (value.Event (int_at n values))
answer UserNumber values w = Some (value.Int w.user)

-- ---- the rows

-- a routine's number in the built-in header, its name there, and what a call changes and answers
pub record Row : Type 0 where
  pub number : ℕ
  pub name : List ℕ
  pub changes : List Change
  pub answers : Answer

abbrev pub row : ℕ → String → List Change → Answer → Row
row number name changes answers = record {
  number = number;
  name = codes name;
  changes = changes;
  answers = answers;
}

abbrev pub rows : List Row
rows =
    row 0 "Random" (Draw 0 ∷ []) (Random 0) ∷
    row 1 "PrintString" (Print (TextAt 0) ∷ []) Nothing ∷
    row 4 "PrintInteger" (Print (IntAt 0) ∷ []) Nothing ∷
    row 5 "PrintObject" (Print (ObjectAt 0) ∷ []) Nothing ∷
    row 6 "AssignCommand" (Assign 0 ∷ []) Nothing ∷
    row 7 "DelayCommand" (Delay 0 ∷ []) Nothing ∷
    row 9 "ClearAllActions" (Clear ∷ []) Nothing ∷
    row 10 "ActionDoCommand" (Queue TheAction ∷ []) Nothing ∷
    row 11 "ActionWait" (Queue (AWait 0) ∷ []) Nothing ∷
    row 12 "ActionSpeakString" (Queue (ASpeech 0) ∷ []) Nothing ∷
    row 13 "SpeakString" (Say 0 ∷ []) Nothing ∷
    row 14 "GetObjectByTag" [] (ByTag 0 1) ∷
    row 15 "GetTag" [] (TextOf 0 Tag) ∷
    row 16 "GetIsObjectValid" [] (IsThere 0) ∷
    row 17 "GetLocalInt" [] (IntOf 0 (LocalInt 1)) ∷
    row 18 "SetLocalInt" (Vary 0 (SetInt 1 2) ∷ []) Nothing ∷
    row 19 "GetLocalString" [] (TextOf 0 (LocalText 1)) ∷
    row 20 "SetLocalString" (Vary 0 (SetText 1 2) ∷ []) Nothing ∷
    row 21 "DeleteLocalInt" (Vary 0 (DeleteInt 1) ∷ []) Nothing ∷
    row 22 "DeleteLocalString" (Vary 0 (DeleteText 1) ∷ []) Nothing ∷
    row 23 "ApplyEffectToObject" (Apply 0 1 2 3 ∷ []) Nothing ∷
    row 24 "RemoveEffect" (Remove 0 1 ∷ []) Nothing ∷
    row 38 "EventUserDefined" [] (EventOf 0) ∷
    row 39 "SignalEvent" (Signal 0 1 ∷ []) Nothing ∷
    row 40 "GetUserDefinedEventNumber" [] UserNumber ∷
    []

-- what a call of a row gives
abbrev pub called : {X : Type 0} → Row → Call X → World X → Answered X
called r c w = record { value = answer r.answers c.values w; world = all_done r.changes c w }
