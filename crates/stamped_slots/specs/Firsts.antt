-- The first item that passes a test, by its stamp.
use Rattle.std.specs.Prelude.{◌≡◌, ℕ, ◌<◌, Bool, true, false, List, Option, None, Some}
use Rattle.stamped_slots.specs.Stamps.{at}

-- does what stands somewhere pass the test?
abbrev pub passes : {T : Type 0} → (T → Bool) → Option T → Bool
passes test None = false
passes test (Some x) = test x

-- no item of a lesser stamp passes the test
abbrev pub NoneBefore : {T : Type 0} → (T → Bool) → ℕ → List (ℕ × T) → Type 0
NoneBefore test stamp items = (s : ℕ) → s < stamp → passes test (at s items) ≡ false

-- the stamp of the first item that passes the test, if one does
abbrev pub IsFirst : {T : Type 0} → (T → Bool) → Option ℕ → List (ℕ × T) → Type 0
IsFirst test None items = (s : ℕ) → passes test (at s items) ≡ false
IsFirst test (Some stamp) items = (passes test (at stamp items) ≡ true)
    × NoneBefore test stamp items
