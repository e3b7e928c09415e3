-- What holds of every run.
use Rattle.std.specs.Prelude.{◌≡◌, ◌↔◌, ℕ, ◌+◌, ◌≤◌, List, ◌∷◌, ◌++◌, length, map, take, drop, slice_get, Some, IsTrue}
use Rattle.ncs_code.specs.Plain.{PlainOp, StoreState}
use Rattle.ncs_code.specs.File.{resume_place}
use Rattle.nwq_value.specs.declared.engine.Routine.{Routine}
use Rattle.saved_state.specs.declared.saved.Saved.{Saved}
use Rattle.saved_state.specs.declared.cell.Cell.{Cell}
use Rattle.saved_state.specs.Cells.{StackView, cells_beneath, resumed}
use Rattle.stack_shape.specs.declared.store.StoredTypes.{StoredTypes}
use Rattle.stack_shape.specs.declared.effect.StackEffect.{StackEffect}
use Rattle.stack_shape.specs.StackEffects.{stack_effect}
use Rattle.stack_shape.specs.Calls.{action_count, argument_types, call_effect, result_types}
use Rattle.stack_shape.specs.Stored.{stored_types}
use Rattle.nwq_value.specs.declared.value.Value.{Value}
use Rattle.nwq_value.specs.Operators.{value_eq}
use Rattle.machine_rules.specs.Cells.{value_types}
use Rattle.machine_rules.specs.Frames.{Frame}
use Rattle.machine_rules.specs.Calls.{Taken, arguments}
use Rattle.machine_rules.specs.Act.{Moves, cells_after, next_place, stored}
use Rattle.machine_rules.specs.Outlines.{Typed, Keeps, outlines, outlines_after, slots, slots_under}
use Rattle.machine_rules.specs.Machine.{Host, State, Goes, waiting_limit, step}
use Rattle.machine_rules.specs.Runs.{Ending, OutOfInstructions, Ran, run}

-- the test of two values tells whether they are equal
abbrev pub EqualityIsTested : Type 0
EqualityIsTested = (v w : Value) → IsTrue (value_eq v w) ↔ (v ≡ w)

-- no more scripts wait than may
abbrev pub FewWait : Type 0 → Type 0
FewWait W = (host : Host W) (s t : State W) → length s.waiting ≤ waiting_limit
    → step host s ≡ Some (Goes t) → length t.waiting ≤ waiting_limit

-- a run takes no more instructions than its limit, and as many where it is out of them
abbrev pub CountsInstructions : Type 0 → Type 0
CountsInstructions W = (host : Host W) (limit : ℕ) (s : State W) →
    ((run host limit s).count ≤ limit)
    × ((run host limit s).ending ≡ OutOfInstructions → (run host limit s).count ≡ limit)

-- a run that may go on where it was out of instructions
abbrev pub run_on : {W : Type 0} → Host W → ℕ → Ending → Ran W → Ran W
run_on host more OutOfInstructions r = record
    (run host more r.last) { count = r.count + (run host more r.last).count }
run_on host more _ r = r

-- A greater limit changes no run that was over, and lets one go on that was out of instructions.
abbrev pub RunsGoOn : Type 0 → Type 0
RunsGoOn W = (host : Host W) (limit more : ℕ) (s : State W)
    → run host (limit + more) s ≡ run_on host more (run host limit s).ending (run host limit s)

-- ---- the machine and the rules of shapes

-- cells that stand in the stack's place after an instruction with this effect
pub record HasEffect (op : PlainOp) (self : ℕ) (s : StackView) (e : StackEffect) : Type 0 where
  pub cells : List Cell
  pub are : cells_after op self s ≡ Some cells
  pub outlines : outlines cells ≡ outlines_after e (outlines s.cells)

-- Where an instruction has a stack effect on the slots of a stack, it has a case there, and its
-- effect is this one.
abbrev pub EffectsAreFollowed : Type 0
EffectsAreFollowed = (op : PlainOp) (self : ℕ) (s : StackView) (e : StackEffect)
    → s.bp ≤ length s.cells
    → stack_effect op (slots_under s) (slots s.cells) ≡ Some e → HasEffect op self s e

-- What a call with this effect takes: values of its parameters' types, so many of the pending
-- states, and of these the newest as its action.
pub record TakesArguments (r : Routine) (count : ℕ) (cells : List Cell) (pending : List Saved)
    (e : StackEffect) : Type 0 where
  pub taken : Taken
  pub are : arguments r count cells pending ≡ Some taken
  pub values : value_types taken.values ≡ argument_types r.params
  pub action : taken.action ≡ slice_get (take (action_count r.params) pending) 0
  pub pending_left : taken.pending ≡ drop (action_count r.params) pending
  pub cells_left : outlines taken.cells ≡ drop e.pops (outlines cells)
  pub pushes : e.pushes ≡ result_types r.result

-- Where a call has a stack effect on the slots of cells and the count of pending states, what it
-- takes is there.
abbrev pub CallsAreFollowed : Type 0
CallsAreFollowed = (r : Routine) (count : ℕ) (cells : List Cell) (pending : List Saved)
    (e : StackEffect)
    → call_effect r count (length pending) (slots cells) ≡ Some e
    → TakesArguments r count cells pending e

-- What STORE_STATE captures where it finds these types: a state that resumes on cells of these
-- types, the globals beneath BP.
pub record CapturesTypes (globals locals : ℕ) (f : Frame) (t : StoredTypes) : Type 0 where
  pub saved : Saved
  pub is : stored globals locals f
      ≡ Some (Moves (record f {
        place = next_place f.place (StoreState globals locals);
        pending = saved ∷ f.pending;
      }))
  pub script : saved.script ≡ f.script
  pub place : saved.place ≡ resume_place f.place
  pub cells : outlines (resumed saved).cells ≡ map Typed t.locals ++ Keeps 0 ∷ map Typed t.globals
  pub under : outlines (cells_beneath (resumed saved).bp (resumed saved).cells)
      ≡ map Typed t.globals

abbrev pub StoresAreFollowed : Type 0
StoresAreFollowed = (globals locals : ℕ) (f : Frame) (t : StoredTypes)
    → f.stack.bp ≤ length f.stack.cells
    → stored_types globals locals (slots_under f.stack) (slots f.stack.cells) ≡ Some t
    → CapturesTypes globals locals f t
