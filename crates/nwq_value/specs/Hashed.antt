-- How an index keeps its names: by a fixed hash the first of each hash, and by name the others.
use Rattle.std.specs.Prelude.{◌≡◌, ℕ, Bool, true, false, List, ◌++◌, map, Option, None, Some, IfSome, Vec, if◌then◌else◌}
use Rattle.std.specs.BTreeMap.{BTreeMap, get, IsOrdered}
use Rattle.std.specs.Hash.FoldHasher as folding
use Rattle.std.specs.Ordering.{nat_cmp}
use Rattle.std.specs.Str.{bytes_eq}
use Rattle.std.specs.declared.alloc.Global.{Global}
use Rattle.nwq_value.specs.Index.{entry}
use Rattle.nwq_value.specs.declared.index.Numbered.{Numbered}

-- the hash of a name
abbrev pub hash_of : List ℕ → ℕ
hash_of name = folding.finish (folding.write folding.initial name)

-- the number of a name, if it is the one that stands under its hash
abbrev pub number_in : List ℕ → Option Numbered → Option ℕ
number_in name None = None
number_in name (Some held) = if bytes_eq name held.name.items then Some held.number else None

-- whether no other name stands under its hash
abbrev pub is_free : List ℕ → Option Numbered → Bool
is_free name None = true
is_free name (Some held) = bytes_eq name held.name.items

-- a name with its number
abbrev pub numbered : ℕ × Numbered → List ℕ × ℕ
numbered e = (e.1.name.items, e.1.number)

-- the names of both trees
abbrev pub names_of : BTreeMap ℕ Numbered → BTreeMap (Vec ℕ Global) ℕ → List (List ℕ × ℕ)
names_of first others = map numbered first.entries ++ map entry others.entries

-- each name stands under its hash
abbrev pub AreHashed : BTreeMap ℕ Numbered → Type 0
AreHashed first = IsOrdered nat_cmp first
    × ((hash : ℕ) → IfSome (get nat_cmp first hash) (λ held. hash_of held.name.items ≡ hash))

-- what a name has in the tree of hashes
abbrev pub first_of : BTreeMap ℕ Numbered → List ℕ → Option ℕ
first_of first name = number_in name (get nat_cmp first (hash_of name))

-- the new tree has this for the name, and for each other name what the old one has
abbrev pub PutsFirst : List ℕ → Option ℕ → BTreeMap ℕ Numbered → BTreeMap ℕ Numbered → Type 0
PutsFirst name number old new = AreHashed new
    × ((x : List ℕ) → first_of new x ≡ (if bytes_eq x name then number else first_of old x))

-- another name stands under the hash of a name, and all stays as it was
pub record IsTaken (name : List ℕ) (old new : BTreeMap ℕ Numbered) : Type 0 where
  pub taken : is_free name (get nat_cmp old (hash_of name)) ≡ false
  pub same : new.entries ≡ old.entries
  pub hashed : AreHashed new
