-- What the write of a whole file leaves of the names of a disk.
use Rattle.std.specs.Prelude.{◌≡◌, ◌≢◌, ◌⊎◌, ℕ, true, false, List, ◌++◌, None, decimal}
use Rattle.std.specs.FinMap as map
use Rattle.std.specs.String.{string_bytes}
use Rattle.real_files.specs.Disk.{Names, SameKind, SameOthers, Removes, StaysWhole, KeepsMode, beside, own_ending, is_own_name, is_lasting}
use Rattle.real_files.specs.declared.disk.Failure.{Failure}
use Rattle.real_files.specs.declared.links.Place.{Place}
use Rattle.real_files.specs.declared.links.Place.TheVariants.{Into, Over}
use Rattle.real_files.specs.declared.whole.Wrote.{Wrote}
use Rattle.real_files.specs.declared.whole.Wrote.TheVariants as wrote

-- the new name of this number, beside a name
abbrev pub new_name : ℕ → List ℕ → List ℕ
new_name number name = beside name (decimal number ++ own_ending)

-- Where the bytes are to go that are written at this place: into what is there and can't be
-- replaced, or over a regular file of this mode, or over nothing.
abbrev pub IsPlace : Names → (place : List ℕ) → Place → Type 0
IsPlace names place (Into at) = (string_bytes at ≡ place)
    × ((map.get names.modes place ≡ None) × (names.fixed place ≡ true))
IsPlace names place (Over at like) = (string_bytes at ≡ place) × (map.get names.modes place ≡ like)

-- the name has the bytes and its mode, and every other name what it had
pub record Replaces (before after : Names) (name bytes : List ℕ) : Type 0 where
  pub kind : SameKind before after
  pub files : after.files ≡ map.insert before.files name bytes
  pub mode : KeepsMode before after name

-- and so where the disk has the bytes that are to last
pub record ReplacesFor (before after : Names) (name bytes : List ℕ) : Type 0 where
  pub replaces : Replaces before after name bytes
  pub written : is_lasting name ≡ true → after.written name ≡ true

-- every name has what it had
pub record KeepsAll (before after : Names) (name : List ℕ) : Type 0 where
  pub kind : SameKind before after
  pub files : after.files ≡ before.files
  pub mode : map.get after.modes name ≡ map.get before.modes name

-- a new file beside a name is left over, and every other name has what it had
pub record LeavesOne (before after : Names) (name : List ℕ) : Type 0 where
  pub new : List ℕ
  pub own : is_own_name new ≡ true
  pub apart : name ≢ new
  pub was_none : map.get before.files new ≡ None
  pub others : SameOthers before after new

-- What the write of a whole file leaves, which was made under a new name first. The file is whole,
-- or the old one is: then the new one is gone, but where it could not be removed either.
abbrev pub WritesWhole : Names → Names → (name bytes : List ℕ) → Wrote → Type 0
WritesWhole before after name bytes wrote.Whole = ReplacesFor before after name bytes
WritesWhole before after name bytes wrote.Taken = after ≡ before
WritesWhole before after name bytes wrote.Fixed = KeepsAll before after name
    × (before.fixed name ≡ true)
WritesWhole before after name bytes (wrote.Refused why) = KeepsAll before after name
WritesWhole before after name bytes (wrote.Left why) = LeavesOne before after name

-- what came of a write whose new file was to be removed: that one is gone, or else nothing changed
abbrev pub GivesUp : Names → Names → (new : List ℕ) → (outcome result : Wrote) → Type 0
GivesUp before after new outcome result =
    ((result ≡ outcome) × Removes before after new)
    ⊎ ((why : Failure) × ((result ≡ wrote.Left why) × (after ≡ before)))

-- what a write leaves that failed: of the other names only new ones of its own have changed
pub record FallsShort (before after : Names) (place bytes : List ℕ) : Type 0 where
  pub kind : SameKind before after
  pub whole : StaysWhole before after place bytes
  pub mode : KeepsMode before after place
  pub others : (other : List ℕ) → other ≢ place → is_own_name other ≡ false
      → map.get after.files other ≡ map.get before.files other
