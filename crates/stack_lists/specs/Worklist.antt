-- Where to look next.
use Rattle.std.specs.Prelude.{◌≡◌, ◌≢◌, ◌≤◌, ◌+◌, ◌⊎◌, ℕ, List, ◌∷◌, ◌++◌, length, map, get_or, Contains}
use Rattle.stack_lists.specs.declared.lists.Node.{Node}
use Rattle.stack_lists.specs.declared.todo.Again.{Again}
use Rattle.stack_lists.specs.declared.todo.Call.{Call}
use Rattle.stack_lists.specs.declared.todo.Spot.{Spot}
use Rattle.stack_lists.specs.declared.todo.Side.{Side}
use Rattle.stack_lists.specs.declared.todo.Side.TheVariants.{Cells, Under}
use Rattle.stack_lists.specs.Shared.{read}

pub record Worklist : Type 0 where
  -- what is looked at first, the last one next
  pub first : List Spot
  -- once there is nothing of that, calls, and those that were handed in since
  pub soon : List Again
  pub later : List Again
  -- the calls of all routines, as shared lists, and the number of each routine's list by the place
  -- at which it begins
  pub calls : List (Node Call)
  pub called : List ℕ
  -- by the number of a call's row: the number of the list whose top it is
  pub marks : List ℕ
  -- by that number: whether the call waits
  pub waits : List ℕ
  -- by trial: the places of the calls that made its windows grow last, 0 where no call did
  pub cells : List ℕ
  pub under : List ℕ

abbrev pub spot_of : Again → Spot
spot_of again = again.spot

-- what is to be looked at, the last one next
abbrev pub waiting : Worklist → List Spot
waiting w = map spot_of (w.later ++ w.soon) ++ w.first

-- the calls that are kept of a routine, the newest first
abbrev pub calls_of : Worklist → ℕ → List Call
calls_of w target = read w.calls (get_or w.called target 0)

-- each routine's list is there
pub record AreThere (calls : List (Node Call)) (called : List ℕ) : Type 0 where
  pub by : (target : ℕ) → get_or called target 0 ≤ length calls

-- The call is the top of the list with this number.
pub record IsTop (calls : List (Node Call)) (number : ℕ) (call : Call) : Type 0 where
  pub inside : number ≤ length calls
  pub older : List Call
  pub is : read calls number ≡ call ∷ older

-- the mark of a row says that the call is kept
abbrev pub IsMarked : Worklist → ℕ → Call → Type 0
IsMarked w row call = IsTop w.calls (get_or w.marks row 0) call

-- Each call that a mark says to be kept is.
pub record AreMarked (calls : List (Node Call)) (called marks : List ℕ) : Type 0 where
  pub there : (row : ℕ) → get_or marks row 0 ≤ length calls
  pub by : (row : ℕ) (call : Call) → IsTop calls (get_or marks row 0) call
      → Contains (read calls (get_or called call.target 0)) call

-- ---- calls that wait

-- one of these has the number
pub record HasNumber (all : List Again) (number : ℕ) : Type 0 where
  pub again : Again
  pub among : Contains all again
  pub is : again.number ≡ number

pub record StandsAt (calls : List (Node Call)) (again : Again) : Type 0 where
  pub call : Call
  pub top : IsTop calls again.number call
  pub spot : call.spot ≡ again.spot

-- These are calls, with where they stand, and each call that is marked so is one of them.
pub record AllWait (calls : List (Node Call)) (waits : List ℕ) (all : List Again) : Type 0 where
  pub here : (number : ℕ) → get_or waits number 0 ≢ 0 → HasNumber all number
  pub tops : (again : Again) → Contains all again → StandsAt calls again

-- so it stays, whatever others wait
pub record KeepsWaiting (calls : List (Node Call)) (before : List Again) (waits : List ℕ)
    (after : List Again) (waits' : List ℕ) : Type 0 where
  pub by : (others : List Again) → AllWait calls waits (others ++ before)
      → AllWait calls waits' (others ++ after)

-- All of these calls wait, those that did among them.
pub record CallsPut (calls : List (Node Call)) (before : List Again) (waits : List ℕ)
    (after : List Again) (these : List Call) : Type 0 where
  pub added : List Again
  pub is : after ≡ before ++ added
  -- each is put once at most
  pub few : length added ≤ length these
  pub by : (others : List Again) → AllWait calls waits (others ++ before) → (call : Call)
      → Contains these call → Contains (map spot_of (others ++ after)) call.spot

-- ---- what is kept

-- where a call stands
abbrev pub stands_at : Call → Spot
stands_at call = call.spot

pub record SameCalls (before after : Worklist) : Type 0 where
  pub by : (target : ℕ) → calls_of after target ≡ calls_of before target
  pub count : length after.calls ≡ length before.calls
  -- with the same marks
  pub calls : after.calls ≡ before.calls
  pub marks : after.marks ≡ before.marks

abbrev pub growths : Worklist → Side → List ℕ
growths w Cells = w.cells
growths w Under = w.under

-- another call is marked for the row
pub record HasOther (w : Worklist) (row : ℕ) (call : Call) : Type 0 where
  pub other : Call
  pub marked : IsMarked w row other
  pub differs : other ≢ call

-- One call more is kept, and the row's mark is its own: it had none, or was another call's.
pub record IsMarkedAnew (before after : Worklist) (row : ℕ) (call : Call) : Type 0 where
  pub more : length after.calls ≡ length before.calls + 1
  pub had : (get_or before.marks row 0 ≡ 0) ⊎ HasOther before row call
  pub others : (k : ℕ) → k ≢ row → get_or after.marks k 0 ≡ get_or before.marks k 0
  pub tops : (k : ℕ) (c : Call) → k ≢ row → IsMarked after k c → IsMarked before k c

-- A call is kept of its routine and marked, beside those that were kept. One that is marked isn't
-- kept again.
pub record CallKept (before after : Worklist) (row : ℕ) (call : Call) : Type 0 where
  pub here : Contains (calls_of after call.target) call
  pub marked : IsMarked after row call
  pub added : (calls_of after call.target ≡ calls_of before call.target)
      ⊎ (calls_of after call.target ≡ call ∷ calls_of before call.target)
  pub once : IsMarked before row call → after ≡ before
  pub anew : (after ≡ before) ⊎ IsMarkedAnew before after row call
  pub others : (t : ℕ) → t ≢ call.target → calls_of after t ≡ calls_of before t
  pub longer : length before.calls ≤ length after.calls

-- The calls of a routine are to be looked at, after all that is looked at first. They stay kept.
pub record CallersAdded (before after : Worklist) (target : ℕ) : Type 0 where
  pub first : after.first ≡ before.first
  pub soon : after.soon ≡ before.soon
  pub added : List Again
  pub later : after.later ≡ before.later ++ added
  -- no more than all calls that are kept
  pub few : length added ≤ length before.calls
  pub all : (call : Call) → Contains (calls_of before target) call
      → Contains (waiting after) call.spot
  pub calls : SameCalls before after
