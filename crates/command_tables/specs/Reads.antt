-- How often files are read for the tables that a command is given: the list once, and then the file
-- of each table once, in the order of the list.
use Rattle.std.specs.Prelude.{◌≡◌, ◌⊎◌, ℕ, List, [], ◌∷◌, ◌++◌, Option, None, Some}
use Rattle.nwq_outside.specs.Outside.{Contents, content, next}
use Rattle.command_tables.specs.Lists.{HasNames}

-- there was one read, or none
abbrev pub AtMostOnce : ℕ → ℕ → Type 0
AtMostOnce before now = (now ≡ before) ⊎ (now ≡ next before)

-- the count of reads after one more for each of these names
abbrev pub after_each : List (List ℕ) → ℕ → ℕ
after_each [] count = count
after_each (name ∷ names) count = after_each names (next count)

-- there was one read for each name of a front of these, and no other
pub record ReadsFront (names : List (List ℕ)) (before now : ℕ) : Type 0 where
  pub front : List (List ℕ)
  pub rest : List (List ℕ)
  pub parts : names ≡ front ++ rest
  pub once : now ≡ after_each front before

-- the file of this name lists these names
pub record ListsNames (c : Contents) (list : List ℕ) (names : List (List ℕ)) : Type 0 where
  pub bytes : List ℕ
  pub held : content c list ≡ Some bytes
  pub has : HasNames bytes names

-- there was one read for the list, and one for each table that it names
pub record ReadsListed (list : List ℕ) (c : Contents) (before now : ℕ) : Type 0 where
  pub names : List (List ℕ)
  pub lists : ListsNames c list names
  pub once : now ≡ after_each names (next before)

-- there was one for the list, and perhaps one for each table of a front of it
pub data ReadsPart (list : List ℕ) (c : Contents) (before now : ℕ) : Type 0 where
  alone : now ≡ next before → ReadsPart list c before now
  some : (names : List (List ℕ)) → ListsNames c list names → ReadsFront names (next before) now
      → ReadsPart list c before now

-- the reads for the tables that a command is given, which has a list or none
abbrev pub ReadsTables : Option (List ℕ) → Contents → ℕ → ℕ → Type 0
ReadsTables None c before now = now ≡ before
ReadsTables (Some list) c before now = ReadsListed list c before now

-- those that there were where the list or a table is refused
abbrev pub ReadsSomeTables : Option (List ℕ) → Contents → ℕ → ℕ → Type 0
ReadsSomeTables None c before now = now ≡ before
ReadsSomeTables (Some list) c before now = ReadsPart list c before now
