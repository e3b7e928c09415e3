-- What a queue holds.
use Rattle.std.specs.Prelude.{Bool, List}
use Rattle.action_queue.specs.declared.queue.Item.{Item}

-- the actions in the order in which they are taken, and whether the object is busy: a Turn of it is
-- posted, or its Do is being run
pub record Queued (X : Type 0) : Type 0 where
  pub actions : List (Item X)
  pub busy : Bool
