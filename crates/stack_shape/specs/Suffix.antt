-- What two lists of slots have in common from the top.
use Rattle.std.specs.Prelude.{◌≡◌, ◌≤◌, List, ◌++◌, length}
use Rattle.stack_shape.specs.declared.shape.Slot.{Slot}

-- the list ends with this one
abbrev pub HasSuffix : List Slot → List Slot → Type 0
HasSuffix slots end = (prefix : List Slot) × (slots ≡ prefix ++ end)

-- both lists end with it, and with no longer one
pub record LongestSuffix (a b common : List Slot) : Type 0 where
  pub first : HasSuffix a common
  pub second : HasSuffix b common
  pub longest : (end : List Slot) → HasSuffix a end → HasSuffix b end → length end ≤ length common
