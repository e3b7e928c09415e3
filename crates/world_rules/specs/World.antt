-- The world in which scripts run.
use Rattle.std.specs.Prelude.{ℕ, ℤ, zero, suc, Bool, false, ◌&&◌, nat_lt, nat_le, List, [], length, Option, None, Some, slice_get}
use Rattle.action_queue.specs.Queued.{Queued}
use Rattle.area_rules.specs.Area.{PlainArea}
use Rattle.delay_agenda.specs.Waiting.{Waiting}
use Rattle.world_rules.specs.declared.data.Stood.{Stood}
use Rattle.world_rules.specs.declared.data.Things.{Things}
use Rattle.world_rules.specs.declared.data.Line.{Line}

-- A world, whose stored actions are of any type: nothing looks inside them.
pub record World (X : Type 0) : Type 0 where
  pub clock : ℕ
  pub area : PlainArea
  -- what is kept of each object beside the area, in the order of the objects' numbers
  pub things : List (Things X)
  pub agenda : Waiting X
  -- the lines that were told, in order
  pub trace : List Line
  -- the random numbers that are left
  pub random : List ℕ
  -- the user number of the running entry's event, 0 in every other entry
  pub user : ℤ
  -- the plan's version, 1 or 2
  pub version : ℕ

-- how many objects there are; they are numbered from 1
abbrev pub count : {X : Type 0} → World X → ℕ
count w = length w.area.objects

-- is there an object of this number?
abbrev pub is_valid : {X : Type 0} → ℕ → World X → Bool
is_valid o w = nat_lt 0 o && nat_le o (count w)

-- what is kept of an object
abbrev pub things_at : {X : Type 0} → ℕ → List (Things X) → Option (Things X)
things_at zero things = None
things_at (suc i) things = slice_get things i

abbrev pub queue_in : {X : Type 0} → Option (Things X) → Queued X
queue_in None = record { actions = []; busy = false }
queue_in (Some t) = t.queue

abbrev pub effects_in : {X : Type 0} → Option (Things X) → List Stood
effects_in None = []
effects_in (Some t) = t.effects

abbrev pub queue_of : {X : Type 0} → ℕ → World X → Queued X
queue_of o w = queue_in (things_at o w.things)

abbrev pub effects_of : {X : Type 0} → ℕ → World X → List Stood
effects_of o w = effects_in (things_at o w.things)
