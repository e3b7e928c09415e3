-- What the answers of files and of a sink say of their contents and of their counts.
use Rattle.std.specs.Prelude.{◌≡◌, ◌≢◌, ℕ, ◌+◌, ◌-◌, ◌^◌, ◌<◌, ◌≤◌, min, max, Bool, true, false, All, List, ◌++◌, length, Option, Some, None, IsSomeAnd}
use Rattle.std.specs.Ordering.{nat_cmp}
use Rattle.std.specs.Cmp.Lexicographic.{slice_cmp}
use Rattle.std.specs.FinMap as map
use Rattle.nwq_value.specs.Limits.{file_limit}
use Rattle.nwq_outside.specs.declared.counts.CountOf.{CountOf}
use Rattle.nwq_outside.specs.declared.counts.CountOf.TheVariants.{Faults, Absences, Longs}
use Rattle.nwq_outside.specs.declared.counts.FileCounts.{FileCounts}
use Rattle.nwq_outside.specs.declared.answer.Read.{Read}
use Rattle.nwq_outside.specs.declared.answer.Read.TheVariants.{Bytes, Missing, Failed, Long, NoMemory}
use Rattle.nwq_outside.specs.declared.answer.Done.{Done}
use Rattle.nwq_outside.specs.declared.answer.Done.TheVariants as done

-- bytes at places, a place being the bytes of a name that is no link
abbrev pub Held : Type 0
Held = map.FinMap (slice_cmp nat_cmp) (List ℕ)

-- What files hold: bytes at places, the place that each name leads to, which is another one where
-- the name is a link, and at which places a write that fails may leave a new file of its own.
pub record Contents : Type 0 where
  pub held : Held
  pub place : List ℕ → List ℕ
  pub spare : List ℕ → Bool

-- files of which each name is its own place, and that leave no new file of their own
abbrev pub plain : Held → Contents
plain held = record { held = held; place = λ name. name; spare = λ place. false }

-- what is under a name, if anything is
abbrev pub content : Contents → List ℕ → Option (List ℕ)
content c name = map.get c.held (c.place name)

-- the contents where these bytes are under a name
abbrev pub with_content : Contents → (name bytes : List ℕ) → Contents
with_content c name bytes = record c { held = map.insert c.held (c.place name) bytes }

-- the number after a count, which stays where it is from the greatest `u64` on
abbrev pub next : ℕ → ℕ
next count = max count (min (count + 1) (2 ^ 64 - 1))

-- a count rose by one, or stands at the greatest `u64`
abbrev pub Rises : ℕ → ℕ → Type 0
Rises before now = now ≡ next before

-- the counts of files before any call
abbrev pub no_counts : FileCounts
no_counts = record { faults = 0; absences = 0; longs = 0 }

-- the counts of files where this one rose by one
abbrev pub with_next : CountOf → FileCounts → FileCounts
with_next Faults counts = record {
  faults = next counts.faults;
  absences = counts.absences;
  longs = counts.longs;
}
with_next Absences counts = record {
  faults = counts.faults;
  absences = next counts.absences;
  longs = counts.longs;
}
with_next Longs counts = record {
  faults = counts.faults;
  absences = counts.absences;
  longs = next counts.longs;
}

-- no count of files rose
abbrev pub NoneRose : FileCounts → FileCounts → Type 0
NoneRose before now = now ≡ before

-- this count of files rose by one, and no other
abbrev pub Rose : CountOf → FileCounts → FileCounts → Type 0
Rose which before now = now ≡ with_next which before

-- what the counts of files are after a read with this answer
abbrev pub CountsRead : Read → FileCounts → FileCounts → Type 0
CountsRead (Bytes bytes) before now = NoneRose before now
CountsRead Missing before now = Rose Absences before now
CountsRead Failed before now = Rose Faults before now
CountsRead Long before now = Rose Longs before now
CountsRead NoMemory before now = NoneRose before now

-- what they are after a write with this answer
abbrev pub CountsWrite : Done → FileCounts → FileCounts → Type 0
CountsWrite done.Ok before now = NoneRose before now
CountsWrite done.Failed before now = Rose Faults before now
CountsWrite done.NoMemory before now = NoneRose before now

-- what a sink's count of faults is after a put with this answer
abbrev pub CountsDone : Done → ℕ → ℕ → Type 0
CountsDone done.Ok before now = now ≡ before
CountsDone done.Failed before now = Rises before now
CountsDone done.NoMemory before now = now ≡ before

-- what stands under each name are bytes
unfoldable pub ContentsAreBytes : Contents → Type 0
ContentsAreBytes c = (name bytes : List ℕ) → content c name ≡ Some bytes → All (λ b. b < 256) bytes

-- an answer to a read of a name with this content, or with none
abbrev pub ReadsContent : Option (List ℕ) → Read → Type 0
ReadsContent held (Bytes bytes) = held ≡ Some bytes.items
ReadsContent held Missing = held ≡ None
ReadsContent held Failed = Unit {0}
ReadsContent held Long = IsSomeAnd held (λ bytes. file_limit < length bytes)
ReadsContent held NoMemory = Unit {0}

-- what is read is no longer than a file can be
abbrev pub IsFileSize : Read → Type 0
IsFileSize (Bytes bytes) = length bytes.items ≤ file_limit
IsFileSize Missing = Unit {0}
IsFileSize Failed = Unit {0}
IsFileSize Long = Unit {0}
IsFileSize NoMemory = Unit {0}

-- each name leads where it led, and new files of a write's own are left where they were
pub record SameWays (before after : Contents) : Type 0 where
  pub place : after.place ≡ before.place
  pub spare : after.spare ≡ before.spare

-- a name leads to another place than this one, and not to one at which a new file may be left
pub record IsApart (c : Contents) (name other : List ℕ) : Type 0 where
  pub place : c.place other ≢ c.place name
  pub own : c.spare (c.place other) ≡ false

-- every name that leads to another place than this one has what it had
pub record KeepsOthers (name : List ℕ) (before after : Contents) : Type 0 where
  pub ways : SameWays before after
  pub others : (other : List ℕ) → IsApart before name other
      → content after other ≡ content before other

-- what a write leaves: the bytes under the name, or under it something that is not told
abbrev pub Leaves : Contents → Contents → List ℕ → List ℕ → Done → Type 0
Leaves before after name bytes done.Ok = after ≡ with_content before name bytes
Leaves before after name bytes done.Failed = Unit {0}
Leaves before after name bytes done.NoMemory = Unit {0}

-- some prefix of the piece was taken
pub record TookPrefix (piece before after : List ℕ) : Type 0 where
  pub prefix : List ℕ
  pub rest : List ℕ
  pub parts : piece ≡ prefix ++ rest
  pub taken : after ≡ before ++ prefix

-- what a put takes: the whole piece, or a prefix of it
abbrev pub Takes : List ℕ → List ℕ → List ℕ → Done → Type 0
Takes piece before after done.Ok = after ≡ before ++ piece
Takes piece before after done.Failed = TookPrefix piece before after
Takes piece before after done.NoMemory = TookPrefix piece before after
