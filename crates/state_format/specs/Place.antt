-- At which place bytes stop being those of a state.
use Rattle.std.specs.Prelude.{◌≡◌, ◌<◌, ◌≤◌, ℕ, List, ◌++◌, length}
use Rattle.state_format.specs.declared.fault.ReadFault.{ReadFault}
use Rattle.state_format.specs.declared.fault.ReadFault.TheVariants as fault
use Rattle.nwq_value.specs.Limits.{file_limit}
use Rattle.state_format.specs.declared.fault.SaveFault.{SaveFault}
use Rattle.state_format.specs.declared.fault.SaveFault.TheVariants as unsaved
use Rattle.state_format.specs.declared.parts.Parts.{Parts}
use Rattle.state_format.specs.Parts.{HasForm}
use Rattle.state_format.specs.Fields.{Fields, joined, parts_fields, parts_bytes}

-- the bytes are those of these parts
pub record StateOf (bytes : List ℕ) (s : Parts) : Type 0 where
  pub form : HasForm s
  pub is : bytes ≡ parts_bytes s

-- bytes are those of one state at most
abbrev pub BytesAreOne : Type 0
BytesAreOne = (bytes : List ℕ) (s t : Parts) → StateOf bytes s → StateOf bytes t → s ≡ t

-- the bytes begin with the first fields of some state, whole, which end at this place
pub record BeginsWith (bytes : List ℕ) (place : ℕ) : Type 0 where
  pub state : Parts
  pub form : HasForm state
  pub front : Fields
  pub back : Fields
  pub rest : List ℕ
  pub fields : parts_fields state ≡ front ++ back
  pub begins : bytes ≡ joined front ++ rest
  pub ends : length (joined front) ≡ place

-- The bytes are those of no state. This is the farthest place up to which they begin as those of
-- one do: the field that begins there isn't there whole or has no such form, or bytes follow the
-- last one.
pub record StateStopsAt (bytes : List ℕ) (place : ℕ) : Type 0 where
  pub none : (s : Parts) → StateOf bytes s → ⊥
  pub begins : BeginsWith bytes place
  pub farthest : (further : ℕ) → BeginsWith bytes further → further ≤ place

-- why bytes are refused
abbrev pub Refuses : List ℕ → ReadFault → Type 0
Refuses bytes (fault.Place at) = StateStopsAt bytes at
Refuses bytes fault.NoMemory = Unit {0}

-- why a state isn't written: it has so many bytes, more than a file may have
abbrev pub IsTooLarge : List ℕ → SaveFault → Type 0
IsTooLarge bytes (unsaved.Large size) = (file_limit < length bytes) × (size ≡ length bytes)
IsTooLarge bytes unsaved.NoMemory = Unit {0}
