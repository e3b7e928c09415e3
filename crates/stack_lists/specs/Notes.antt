-- How a list is found again by its top and the list beneath: so equal lists have one number.
use Rattle.std.specs.Prelude.{◌≡◌, ◌≤◌, ◌-◌, ◌⊎◌, ℕ, zero, suc, List, ◌∷◌, length, get_or, Some, slice_get}
use Rattle.stack_shape.specs.declared.shape.Slot.{Slot}
use Rattle.stack_lists.specs.declared.lists.Node.{Node}
use Rattle.stack_lists.specs.declared.stacks.Link.{Link}
use Rattle.stack_lists.specs.Shared.{read}

-- ---- equal lists

-- Each list has one number.
pub record AreOne (nodes : List (Node Slot)) : Type 0 where
  pub by : (m n : ℕ) → m ≤ length nodes → n ≤ length nodes → read nodes m ≡ read nodes n → m ≡ n

-- No list is this slot on this list.
pub record IsFresh (nodes : List (Node Slot)) (below : ℕ) (slot : Slot) : Type 0 where
  pub by : (number : ℕ) → number ≤ length nodes → read nodes number ≡ slot ∷ read nodes below → ⊥

-- ---- notes

-- The list with this number is the slot on the list.
pub record IsOn (links : List Link) (number below : ℕ) (slot : Slot) : Type 0 where
  pub k : ℕ
  pub next : number ≡ suc k
  pub link : Link
  pub has : slice_get links k ≡ Some link
  pub below_is : link.below ≡ below
  pub slot_is : link.slot ≡ slot

-- the list that is so many older
abbrev pub back : ℕ → List ℕ → ℕ → ℕ
back zero older number = number
back (suc steps) older number = back steps older (get_or older number 0)

-- The list is the newest one on the other list, or one that is older.
pub record IsNoted (newest older : List ℕ) (below number : ℕ) : Type 0 where
  pub steps : ℕ
  pub is : back steps older (get_or newest below 0) ≡ number

-- Each list has the number next to that of the list on which it lies, or is noted there.
pub record AreNoted (links : List Link) (newest older : List ℕ) : Type 0 where
  pub by : (k : ℕ) (l : Link) → slice_get links k ≡ Some l
      → (k ≡ l.below) ⊎ IsNoted newest older l.below (suc k)
  pub there : (below : ℕ) → get_or newest below 0 ≤ length links
  pub earlier : (number : ℕ) → get_or older number 0 ≤ number - 1
