-- The small changes of a world that routines and entries are made of. Each leaves the rest of the
-- world as it is.
use Rattle.std.specs.Prelude.{ℕ, ℤ, ◌+◌, min, zero, suc, Bool, true, false, ◌&&◌, not, ◌==◌, if◌then◌else◌, List, [], ◌∷◌, ◌++◌, Option}
use Rattle.std.specs.Ordering.{int_eq}
use Rattle.action_queue.specs.Queued.{Queued}
use Rattle.action_queue.specs.declared.queue.Item.{Item}
use Rattle.area_rules.specs.Area.{changed}
use Rattle.local_variables.specs.Variables.{Variable}
use Rattle.delay_agenda.specs.declared.entry.Kind.{Kind}
use Rattle.delay_agenda.specs.Waiting.{posted, turn_count, without_turns}
use Rattle.nwq_value.specs.Effect.{Effect}
use Rattle.world_rules.specs.declared.data.Stood.{Stood}
use Rattle.world_rules.specs.declared.data.Things.{Things}
use Rattle.world_rules.specs.declared.data.Told.{Told}
use Rattle.world_rules.specs.Arguments.{at_least_zero}
use Rattle.world_rules.specs.Standing.{is_number}
use Rattle.world_rules.specs.World.{World, queue_of, effects_of}

-- one line more, at the clock's time
abbrev pub told : {X : Type 0} → ℕ → Told → World X → World X
told o what w = record w {
  trace = w.trace
      ++ record { clock = w.clock; object = o; told = what } ∷ [];
}

-- one agenda entry more, under the next number
abbrev pub post : {X : Type 0} → ℕ → Kind X → World X → World X
post due kind w = record w { agenda = posted due kind w.agenda }

-- the longest delay in milliseconds: the greatest int
abbrev pub longest_delay : ℕ
longest_delay = 2147483647

-- so many milliseconds from now; a negative number is no delay
abbrev pub later : {X : Type 0} → ℤ → World X → ℕ
later ms w = w.clock + min (at_least_zero ms) longest_delay

-- the list with another element at a place; past the end nothing changes
abbrev pub changed_at : {A : Type 0} → ℕ → (A → A) → List A → List A
changed_at i change [] = []
changed_at zero change (x ∷ xs) = change x ∷ xs
changed_at (suc i) change (x ∷ xs) = x ∷ changed_at i change xs

-- what is kept of the object is changed; there is no object 0
abbrev pub changed_object : {X : Type 0} → ℕ → (Things X → Things X) → List (Things X)
    → List (Things X)
changed_object zero change things = things
changed_object (suc i) change things = changed_at i change things

abbrev pub with_queue : {X : Type 0} → ℕ → Queued X → World X → World X
with_queue o q w = record w { things = changed_object o (λ t. record t { queue = q }) w.things }

abbrev pub with_effects : {X : Type 0} → ℕ → List Stood → World X → World X
with_effects o effects w = record w {
  things = changed_object o
      (λ t. record t { effects = effects }) w.things;
}

-- the object has these actions to do, and its mark stays
abbrev pub with_actions : {X : Type 0} → ℕ → List (Item X) → World X → World X
with_actions o actions w = with_queue o (record (queue_of o w) { actions = actions }) w

-- the object's mark is set, and its actions stay
abbrev pub with_busy : {X : Type 0} → ℕ → Bool → World X → World X
with_busy o busy w = with_queue o (record (queue_of o w) { busy = busy }) w

-- one action more in an object's queue
abbrev pub with_action : {X : Type 0} → ℕ → Item X → World X → World X
with_action o item w = with_actions o ((queue_of o w).actions ++ item ∷ []) w

-- one effect more on an object, the last of all
abbrev pub with_effect : {X : Type 0} → ℕ → Option ℕ → Effect → World X → World X
with_effect o number e w = with_effects o
    (effects_of o w ++ record { number = number; effect = e } ∷ []) w

-- the area's variables of an object are changed
abbrev pub with_variables : {X : Type 0} → ℕ → (List Variable → List Variable) → World X → World X
with_variables o change w = record w { area = changed w.area o change }

-- has the object a Turn on the agenda?
abbrev pub has_turn : {X : Type 0} → ℕ → World X → Bool
has_turn o w = not (turn_count o w.agenda.entries == 0)

-- no Turn of the object is on the agenda
abbrev pub without_turn : {X : Type 0} → ℕ → World X → World X
without_turn o w = record w { agenda = record w.agenda { entries = without_turns o w.agenda.entries } }

-- ---- lists of effects

-- the list without the first element that passes a test
abbrev pub without_first : {A : Type 0} → (A → Bool) → List A → List A
without_first test [] = []
without_first test (x ∷ xs) = if test x then xs else x ∷ without_first test xs

abbrev pub same_ints : List ℤ → List ℤ → Bool
same_ints [] [] = true
same_ints (m ∷ ms) (n ∷ ns) = int_eq m n && same_ints ms ns
same_ints _ _ = false

-- have two effects one routine and the same ints?
abbrev pub same_effect : Effect → Effect → Bool
same_effect e f = (e.routine == f.routine) && same_ints e.ints f.ints

abbrev pub is_effect : Effect → Stood → Bool
is_effect e s = same_effect e s.effect

-- has the effect this number?
abbrev pub is_numbered : ℕ → Stood → Bool
is_numbered number s = is_number number s.number
