-- The order in which entries are taken.
use Rattle.std.specs.Prelude.{◌≡◌, ◌≢◌, ◌<◌, ◌≤◌, ◌⊎◌, ℕ, Bool, true, false, List, [], ◌∷◌, Option, None, Some, nat_eq, nat_lt, slice_get, if◌then◌else◌}
use Rattle.delay_agenda.specs.declared.entry.Entry.{Entry}

-- a is taken before b: it is due earlier, or at the same time with a lesser number
abbrev pub IsBefore : {X : Type 0} → Entry X → Entry X → Type 0
IsBefore a b = (a.due < b.due) ⊎ ((a.due ≡ b.due) × (a.number < b.number))

-- whether what is due then, under this number, is taken before b
abbrev pub comes_before : {X : Type 0} → ℕ → ℕ → Entry X → Bool
comes_before due number b = if nat_lt due b.due then true else
    (if nat_eq due b.due then nat_lt number b.number else false)

-- a is taken before b, as a test
abbrev pub is_before : {X : Type 0} → Entry X → Entry X → Bool
is_before a b = comes_before a.due a.number b

-- the entry that is taken next: no member is due earlier, and none at its due time has a lesser
-- number
pub record IsNext {X : Type 0} (e : Entry X) (es : List (Entry X)) : Type 0 where
  pub member : (i : ℕ) × (slice_get es i ≡ Some e)
  pub least_due : (i : ℕ) (a : Entry X) → slice_get es i ≡ Some a → e.due ≤ a.due
  pub least_number : (i : ℕ) (a : Entry X) → slice_get es i ≡ Some a → a.due ≡ e.due
      → e.number ≤ a.number

-- one entry more, behind those that are taken before it
abbrev pub put_entry : {X : Type 0} → Entry X → List (Entry X) → List (Entry X)
put_entry e [] = e ∷ []
put_entry e (a ∷ rest) = if is_before a e then a ∷ put_entry e rest else e ∷ a ∷ rest

-- the due time of the head
abbrev pub first_due : {X : Type 0} → List (Entry X) → Option ℕ
first_due [] = None
first_due (e ∷ es) = Some e.due

-- e is taken before each of these
abbrev pub IsBeforeAll : {X : Type 0} → Entry X → List (Entry X) → Type 0
IsBeforeAll e [] = Unit {0}
IsBeforeAll e (a ∷ rest) = IsBefore e a × IsBeforeAll e rest

-- each entry is taken before those behind it
abbrev pub AreInOrder : {X : Type 0} → List (Entry X) → Type 0
AreInOrder [] = Unit {0}
AreInOrder (e ∷ es) = IsBeforeAll e es × AreInOrder es

-- each number is below this one
abbrev pub AreBelow : {X : Type 0} → ℕ → List (Entry X) → Type 0
AreBelow next [] = Unit {0}
AreBelow next (e ∷ es) = (e.number < next) × AreBelow next es

-- none of these has this number
abbrev pub HasNone : {X : Type 0} → ℕ → List (Entry X) → Type 0
HasNone number [] = Unit {0}
HasNone number (e ∷ es) = (e.number ≢ number) × HasNone number es

-- no two have one number
abbrev pub AreDistinct : {X : Type 0} → List (Entry X) → Type 0
AreDistinct [] = Unit {0}
AreDistinct (e ∷ es) = HasNone e.number es × AreDistinct es
