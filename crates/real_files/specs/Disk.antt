-- What the names of a disk hold, and what each call on them answers and leaves.
use Rattle.std.specs.Prelude.{◌≡◌, ◌≢◌, ◌⊎◌, ℕ, zero, suc, Bool, true, false, cond, not, ◌||◌, nat_eq, List, [], ◌∷◌, ◌++◌, codes, take, Option, Some, None, IsSomeAnd}
use Rattle.std.specs.FinMap as map
use Rattle.std.specs.Cmp.Lexicographic.{slice_cmp}
use Rattle.std.specs.List.{ends_with}
use Rattle.std.specs.Ordering.{nat_cmp}
use Rattle.std.specs.Path.{slash, rsplit_once}
use Rattle.std.specs.Str.{bytes_eq}
use Rattle.nwq_outside.specs.Outside.{Held, Contents, plain}
use Rattle.real_files.specs.declared.disk.Failure.{Failure}
use Rattle.real_files.specs.declared.disk.Failure.TheVariants.{Absent}
use Rattle.real_files.specs.declared.disk.Thing.{Thing}
use Rattle.real_files.specs.declared.disk.Thing.TheVariants as thing
use Rattle.real_files.specs.declared.disk.Made.{Made}
use Rattle.real_files.specs.declared.disk.Made.TheVariants as made
use Rattle.real_files.specs.declared.disk.Moved.{Moved}
use Rattle.real_files.specs.declared.disk.Moved.TheVariants as moved

-- the modes of files
abbrev pub Modes : Type 0
Modes = map.FinMap (slice_cmp nat_cmp) ℕ

-- What stands under the names of a disk: the bytes that a read gives, of what is no link; the modes
-- of the regular files; the texts of the links. What no call changes: which names can't be replaced
-- (a device, a mount point, a file of a closed folder), and whether files have modes. Which files
-- may be written. And what stays where the power fails: the names whose bytes the disk has, and
-- those whose folder it has as it is.
pub record Names : Type 0 where
  pub files : Held
  pub modes : Modes
  pub links : Held
  pub fixed : List ℕ → Bool
  pub writable : List ℕ → Bool
  pub has_modes : Bool
  pub written : List ℕ → Bool
  pub listed : List ℕ → Bool

-- the names of a disk that tells none
abbrev pub no_names : Names
no_names = record {
  files = map.empty;
  modes = map.empty;
  links = map.empty;
  fixed = λ name. false;
  writable = λ name. false;
  has_modes = false;
  written = λ name. false;
  listed = λ name. false;
}

-- ---- where a name leads

abbrev pub front_of : Option (List ℕ × List ℕ) → List ℕ
front_of None = []
front_of (Some parts) = parts.0 ++ slash ∷ []

-- the folder of a name: all up to its last slash, with that
abbrev pub folder_of : List ℕ → List ℕ
folder_of name = front_of (rsplit_once slash name)

abbrev pub is_from_root : List ℕ → Bool
is_from_root [] = false
is_from_root (byte ∷ bytes) = nat_eq byte slash

-- the name that the text of a link leads to, where the link has this name: a text from the root is
-- the name itself, any other leads on from the link's folder
abbrev pub beside : (name text : List ℕ) → List ℕ
beside name text = cond (is_from_root text) text (folder_of name ++ text)

abbrev pub next_of : Option (List ℕ) → List ℕ → (List ℕ → List ℕ) → List ℕ
next_of None name goes = name
next_of (Some text) name goes = goes (beside name text)

-- the name that at most so many links of a name lead to
unfoldable pub follow : ℕ → Held → List ℕ → List ℕ
follow zero links name = name
follow (suc more) links name = next_of (map.get links name) name (follow more links)

-- how many links are followed: as many as the system follows
abbrev pub link_limit : ℕ
link_limit = 40

-- the place that a name leads to
abbrev pub place_in : Names → List ℕ → List ℕ
place_in names name = follow link_limit names.links name

-- ---- new files of a write's own

-- whether a name ends in these bytes
abbrev pub ends_in : (ending name : List ℕ) → Bool
ends_in ending [] = bytes_eq ending []
ends_in ending (byte ∷ bytes) = bytes_eq ending (byte ∷ bytes) || ends_in ending bytes

-- what the name of a new file ends in, which a write makes beside the old one
abbrev pub own_ending : List ℕ
own_ending = codes ".nwq-new.tmp"

abbrev pub is_own_name : List ℕ → Bool
is_own_name name = ends_in own_ending name

-- what a disk's names tell as the contents of files
abbrev pub contents_in : Names → Contents
contents_in names = record { held = names.files; place = place_in names; spare = is_own_name }

-- what files tell over a disk that tells its names, or over one that doesn't
abbrev pub told : Bool → Names → Contents
told true names = contents_in names
told false names = plain map.empty

-- ---- what the calls answer and leave

-- no call makes or removes a link, nor changes what can be replaced
pub record SameKind (before after : Names) : Type 0 where
  pub links : after.links ≡ before.links
  pub fixed : after.fixed ≡ before.fixed
  pub has_modes : after.has_modes ≡ before.has_modes

-- every other name has the bytes and the mode that it had
pub record SameOthers (before after : Names) (name : List ℕ) : Type 0 where
  pub kind : SameKind before after
  pub files : (other : List ℕ) → other ≢ name
      → map.get after.files other ≡ map.get before.files other
  pub modes : (other : List ℕ) → other ≢ name
      → map.get after.modes other ≡ map.get before.modes other

-- the file of this name has this mode, if one is asked for, and where files have modes
abbrev pub HasMode : Names → List ℕ → Option ℕ → Type 0
HasMode names name None = Unit {0}
HasMode names name (Some mode) = names.has_modes ≡ true → map.get names.modes name ≡ Some mode

-- what a name itself is, links not followed
abbrev pub IsThing : Names → List ℕ → Thing → Type 0
IsThing names name thing.Nothing = (map.get names.links name ≡ None)
    × ((map.get names.files name ≡ None) × (map.get names.modes name ≡ None))
IsThing names name (thing.File mode) = (map.get names.links name ≡ None)
    × (map.get names.modes name ≡ Some mode)
IsThing names name (thing.Link text) = map.get names.links name ≡ Some text.items
IsThing names name thing.Other = (map.get names.links name ≡ None)
    × ((map.get names.modes name ≡ None) × (names.fixed name ≡ true))

-- a file of a name that wasn't there, whose bytes the disk has if they are to last
pub record MakesWhole (before after : Names) (new : List ℕ) (like : Option ℕ) (bytes : List ℕ)
    (lasting : Bool) : Type 0 where
  pub was_none : map.get before.files new ≡ None
  pub files : after.files ≡ map.insert before.files new bytes
  pub mode : HasMode after new like
  pub written : lasting ≡ true → after.written new ≡ true
  pub others : SameOthers before after new

pub record MakesPart (before after : Names) (new : List ℕ) : Type 0 where
  pub was_none : map.get before.files new ≡ None
  pub others : SameOthers before after new

-- What the making of a new file beside a name leaves: the file with its bytes and mode, or
-- something else under the new name where the call broke off, or nothing changed. A folder in
-- which nothing can be made is one whose files can't be replaced.
abbrev pub Makes : Names → Names → (new name : List ℕ) → Option ℕ → List ℕ → Bool → Made → Type 0
Makes before after new name like bytes lasting made.Whole = MakesWhole before after new like bytes lasting
Makes before after new name like bytes lasting made.Taken = after ≡ before
Makes before after new name like bytes lasting made.Closed = (after ≡ before)
    × (before.fixed name ≡ true)
Makes before after new name like bytes lasting (made.Refused why) = after ≡ before
Makes before after new name like bytes lasting (made.Broken why) = MakesPart before after new

-- the second name has the bytes and the mode that the first one had, which is gone, on the disk if
-- they were, and every other name what it had
pub record Renames (before after : Names) (from to : List ℕ) : Type 0 where
  pub kind : SameKind before after
  pub moved : map.get after.files to ≡ map.get before.files from
  pub mode : map.get after.modes to ≡ map.get before.modes from
  pub written : after.written to ≡ before.written from
  pub gone : from ≢ to → map.get after.files from ≡ None
  pub files : (other : List ℕ) → other ≢ from → other ≢ to
      → map.get after.files other ≡ map.get before.files other
  pub modes : (other : List ℕ) → other ≢ from → other ≢ to
      → map.get after.modes other ≡ map.get before.modes other

abbrev pub Moves : Names → Names → (from to : List ℕ) → Moved → Type 0
Moves before after from to moved.Done = Renames before after from to
Moves before after from to moved.Fixed = (after ≡ before) × (before.fixed to ≡ true)
Moves before after from to (moved.Refused why) = after ≡ before

-- the name is gone, and every other name has what it had
pub record Removes (before after : Names) (name : List ℕ) : Type 0 where
  pub gone : map.get after.files name ≡ None
  pub others : SameOthers before after name

-- the name may have other bytes, and every name has its mode and every other name what it had
pub record WritesPart (before after : Names) (name : List ℕ) : Type 0 where
  pub files : (other : List ℕ) → other ≢ name
      → map.get after.files other ≡ map.get before.files other
  pub modes : after.modes ≡ before.modes
  pub kind : SameKind before after

-- the name has these bytes and its mode, and every other name what it had
pub record WritesInto (before after : Names) (name bytes : List ℕ) : Type 0 where
  pub files : after.files ≡ map.insert before.files name bytes
  pub modes : after.modes ≡ before.modes
  pub kind : SameKind before after

-- the disk has the folder of this name as it is, and nothing else changed
pub record Syncs (before after : Names) (name : List ℕ) : Type 0 where
  pub same : after ≡ record before { listed = after.listed }
  pub listed : after.listed name ≡ true

-- ---- what a whole write leaves under a name, also where it fails

-- the old bytes or the new ones, whole, but for what can't be replaced
abbrev pub StaysWhole : Names → Names → (place bytes : List ℕ) → Type 0
StaysWhole before after place bytes =
    (before.fixed place ≡ true)
    ⊎ ((map.get after.files place ≡ map.get before.files place)
    ⊎ (map.get after.files place ≡ Some bytes))

-- the mode that a file has, where files have modes
abbrev pub KeepsMode : Names → Names → (place : List ℕ) → Type 0
KeepsMode before after place =
    (mode : ℕ) → map.get before.modes place ≡ Some mode → before.has_modes ≡ true
    → map.get after.modes place ≡ Some mode

-- a file that may not be written has the bytes that it had
abbrev pub KeepsForbidden : Names → Names → (place : List ℕ) → Type 0
KeepsForbidden before after place =
    (mode : ℕ) → map.get before.modes place ≡ Some mode → before.writable place ≡ false
    → map.get after.files place ≡ map.get before.files place

-- whether the disk is to have a file before the program goes on: all but compiled scripts, which the
-- next compile makes again, and of which there are many
abbrev pub is_lasting : List ℕ → Bool
is_lasting name = not (ends_with nat_eq name (codes ".ncs"))

-- the disk has a file that is to last, with its name, but for what can't be replaced
abbrev pub Lasts : Names → Names → (place : List ℕ) → Type 0
Lasts before after place =
    before.fixed place ≡ false → is_lasting place ≡ true
    → (after.written place ≡ true) × (after.listed place ≡ true)
