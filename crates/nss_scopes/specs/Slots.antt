-- The names that are declared, as code keeps them: each with the place of the declaration that it
-- hides.
use Rattle.std.specs.Prelude.{◌≡◌, ℕ, ◌+◌, List, [], ◌∷◌, ◌++◌, Option, None, Some, bytes_eq, if◌then◌else◌}
use Rattle.std.specs.Option.{option_map}
use Rattle.nwq_value.specs.Index.{number_under}
use Rattle.nss_scopes.specs.declared.names.Entry.{Entry}
use Rattle.nss_scopes.specs.declared.names.Meaning.{Meaning}
use Rattle.nss_scopes.specs.declared.names.Meaning.TheVariants.{Variable, Constant}
use Rattle.nss_scopes.specs.declared.names.Slot.{Slot}
use Rattle.typing_rules.specs.Sight as sight

abbrev pub meaning_of : Meaning → sight.Meaning
meaning_of (Variable n is_local t) = sight.variable n is_local t
meaning_of (Constant k) = sight.constant k

abbrev pub entry_of : Entry → sight.Entry
entry_of e = record { called = e.called; means = option_map meaning_of e.means }

abbrev pub entry_in : Slot → sight.Entry
entry_in s = entry_of s.entry

-- the place of the last of a name, counted from a number on
abbrev pub last_from : Option ℕ → ℕ → List ℕ → List Slot → Option ℕ
last_from found n x [] = found
last_from found n x (s ∷ ss) = last_from (if bytes_eq x s.entry.called then Some n else found)
    (n + 1) x ss

abbrev pub last_place : List ℕ → List Slot → Option ℕ
last_place x ss = last_from None 0 x ss

-- each hides the last one of its name before it
abbrev pub Shadows : List Slot → List Slot → Type 0
Shadows before [] = Unit {0}
Shadows before (s ∷ ss) = (s.hidden ≡ last_place s.entry.called before)
    × Shadows (before ++ s ∷ []) ss

-- the index has the place of the last of each name
pub record HasLast (slots : List Slot) (index : List (List ℕ × ℕ)) : Type 0 where
  pub last : (x : List ℕ) → number_under x index ≡ last_place x slots
  pub shadows : Shadows [] slots
