-- Rings of calls: a window that grows by its own growth grows for ever, and no table has it.
use Rattle.std.specs.Prelude.{◌≡◌, ◌≤◌, ◌+◌, ℕ, List, [], length, Some, slice_get}
use Rattle.nwq_value.specs.Engine.{EngineTable}
use Rattle.ncs_code.specs.Plain.{PlainOp}
use Rattle.stack_shape.specs.declared.shape.Slot.{Slot}
use Rattle.stack_shape.specs.declared.shape.Entry.TheVariants.{Called}
use Rattle.stack_rules.specs.Tables.{ShapeTable}
use Rattle.stack_rules.specs.Rules.{MeetsRules}
use Rattle.stack_lists.specs.declared.held.Held.{Held}
use Rattle.stack_lists.specs.declared.held.Heap.{Heap}
use Rattle.stack_lists.specs.declared.todo.Side.{Side}
use Rattle.stack_lists.specs.declared.todo.Side.TheVariants.{Cells, Under}
use Rattle.stack_lists.specs.Shared.{read}
use Rattle.stack_check.specs.declared.facts.Trial.{Trial}
use Rattle.stack_check.specs.declared.facts.Facts.{Facts}
use Rattle.stack_check.specs.declared.rings.Edge.{Edge}
use Rattle.stack_check.specs.declared.rings.Way.{Way}
use Rattle.stack_check.specs.Facts.{current}
use Rattle.stack_check.specs.Inference.{IsCall, TrialFits}

-- how many slots a list of a shape has
abbrev pub held_length : Heap → Held → Side → ℕ
held_length heap held Cells = length (read heap.slots held.cells)
held_length heap held Under = length (read heap.slots held.under)

-- and the list with which a trial began
abbrev pub first_length : Heap → Trial → Side → ℕ
first_length heap trial Cells = length (read heap.slots trial.taken)
first_length heap trial Under = length (read heap.slots trial.under)

-- how many slots lie beneath a table's own
abbrev pub beneath : List Slot → List Slot → Side → ℕ
beneath x y Cells = length x
beneath x y Under = length y

-- On which of the caller's lists that of the called routine lies: what is beneath BP lies on the
-- caller's own cells once a list was saved.
abbrev pub LiesOn : Heap → Held → Side → Side → Type 0
LiesOn heap held Cells Cells = Unit {0}
LiesOn heap held Cells Under = read heap.saved held.saved ≡ [] → ⊥
LiesOn heap held Under Cells = ⊥
LiesOn heap held Under Under = read heap.saved held.saved ≡ []

pub record IsEdge (heap : Heap) (held : Held) (callee : Trial) (side : Side)
    (edge : Edge) : Type 0 where
  pub of : edge.side ≡ side
  pub up : edge.up ≡ held_length heap held side
  pub down : edge.down ≡ first_length heap callee side

pub record IsEdgeFrom (heap : Heap) (held : Held) (callee : Trial) (side : Side)
    (edge : Edge) : Type 0 where
  pub lies : LiesOn heap held side edge.side
  pub is : IsEdge heap held callee edge.side edge

-- the trial that counts for the routine that is called at a place
pub record IsCalledAt (code : List PlainOp) (facts : Facts) (place number : ℕ) : Type 0 where
  pub target : ℕ
  pub call : IsCall code place target
  pub counts : current facts (Called target) ≡ Some number

-- In every table the slots beneath the one list's own and so many more are no more than those
-- beneath the other's and so many more.
pub record IsWay (header : EngineTable) (code : List PlainOp) (heap : Heap) (facts : Facts)
    (way : Way) : Type 0 where
  pub first : Trial
  pub has_first : slice_get facts.trials way.from.trial ≡ Some first
  pub last : Trial
  pub has_last : slice_get facts.trials way.to.trial ≡ Some last
  pub by : (table : ShapeTable) → MeetsRules header code table
      → (f : TrialFits table heap facts way.from.trial first)
      → (g : TrialFits table heap facts way.to.trial last)
      → beneath f.x f.y way.from.side + way.down ≤ way.up + beneath g.x g.y way.to.side
