-- How the slots are kept. No public clause speaks of it.
use Rattle.std.specs.Prelude.{◌≡◌, ℕ, zero, suc, ◌+◌, ◌*◌, ◌≤◌, ◌==◌, List, [], ◌∷◌, length, Bool, false, not, is_some, Option, None, Some, nat_lt, if◌then◌else◌}
use Rattle.stamped_slots.specs.declared.slots.Slot.{Slot}

-- what stands in a slot, if it isn't empty, before these
abbrev pub seen_before : {T : Type 0} → ℕ → Option T → List (ℕ × T) → List (ℕ × T)
seen_before stamp None es = es
seen_before stamp (Some x) es = (stamp, x) ∷ es

-- what stands in the slots
abbrev pub seen : {T : Type 0} → List (Slot T) → List (ℕ × T)
seen [] = []
seen (s ∷ slots) = seen_before s.stamp s.item (seen slots)

-- each stamp is above those before it, the first at least this
abbrev pub Ascend : {T : Type 0} → ℕ → List (Slot T) → Type 0
Ascend low [] = Unit {0}
Ascend low (s ∷ slots) = (low ≤ s.stamp) × Ascend (s.stamp + 1) slots

-- how many slots stand before the place of a stamp
abbrev pub below : {T : Type 0} → ℕ → List (Slot T) → ℕ
below stamp [] = 0
below stamp (s ∷ slots) = if nat_lt s.stamp stamp then suc (below stamp slots) else 0

-- is the slot at a place of this stamp?
abbrev pub has_stamp : {T : Type 0} → ℕ → ℕ → List (Slot T) → Bool
has_stamp stamp i [] = false
has_stamp stamp zero (s ∷ slots) = s.stamp == stamp
has_stamp stamp (suc i) (s ∷ slots) = has_stamp stamp i slots

-- what stands in the slot at a place
abbrev pub item_at : {T : Type 0} → ℕ → List (Slot T) → Option T
item_at i [] = None
item_at zero (s ∷ slots) = s.item
item_at (suc i) (s ∷ slots) = item_at i slots

-- the slots once this stands in the one at a place
abbrev pub written : {T : Type 0} → ℕ → Option T → List (Slot T) → List (Slot T)
written i item [] = []
written zero item (s ∷ slots) = record s { item = item } ∷ slots
written (suc i) item (s ∷ slots) = s ∷ written i item slots

abbrev pub is_full : {T : Type 0} → Slot T → Bool
is_full s = is_some s.item

-- is the first slot empty?
abbrev pub front_is_empty : {T : Type 0} → List (Slot T) → Bool
front_is_empty [] = false
front_is_empty (s ∷ slots) = not (is_full s)

-- what is kept of the slots, of which so many aren't empty, in memory for so many
pub record IsKept {T : Type 0} (live : ℕ) (slots : List (Slot T)) (room : ℕ) : Type 0 where
  pub ascend : Ascend 0 slots
  pub counted : live ≡ length (seen slots)
  pub first : front_is_empty slots ≡ false
  pub few : length slots ≤ 2 * live
  pub gone : live ≡ 0 → room ≡ 0
