-- How many looks an inference takes.
use Rattle.std.specs.Prelude.{◌≡◌, ◌≢◌, ◌≤◌, ◌+◌, ◌-◌, ◌*◌, ◌^◌, ℕ, List, length}
use Rattle.nwq_value.specs.Engine.{EngineTable}
use Rattle.ncs_code.specs.Plain.{PlainOp}
use Rattle.stack_lists.specs.declared.held.Heap.{Heap}
use Rattle.stack_lists.specs.Worklist.{Worklist, waiting}
use Rattle.stack_check.specs.declared.facts.Facts.{Facts}
use Rattle.stack_check.specs.Facts.{found}
use Rattle.stack_check.specs.Inference.{Keeps}

-- What one turn counts. The look that ends it hands in each call that is kept at most, and four
-- spots; the others hand in nothing.
pub record CountsTurn (before after : Worklist) (looks looks' : ℕ) : Type 0 where
  pub few : looks' + length (waiting after)
      ≤ looks + length (waiting before) + length after.calls + 4
  pub longer : length before.calls ≤ length after.calls

-- So many looks at most, where one spot waits at first.
unfoldable pub most_looks : ℕ → ℕ → ℕ
most_looks turns calls = turns * (calls + 4)

-- How many looks it took, whatever was found: with the facts that were known before the last turn.
pub record LooksAreFew (header : EngineTable) (code : List PlainOp) (first : Facts)
    (before after : Worklist) (turns turns' looks looks' : ℕ) : Type 0 where
  pub heap : Heap
  pub known : Facts
  pub keeps : Keeps header code heap known
  -- each turn but the last found something
  pub finds : turns' + found first ≤ turns + found known + 1
  pub few : looks' + length (waiting after) ≤ looks + length (waiting before)
      + most_looks (turns' - turns) (length after.calls)
