-- What stands under a name in an index.
use Rattle.std.specs.Prelude.{◌≡◌, ℕ, suc, List, [], ◌∷◌, Option, None, Some, Vec, if◌then◌else◌}
use Rattle.std.specs.Map.{lookup}
use Rattle.std.specs.Option.{option_map}
use Rattle.std.specs.Str.{bytes_eq}
use Rattle.std.specs.declared.alloc.Global.{Global}

-- an entry of the map that code keeps, as a name with its number
abbrev pub entry : Vec ℕ Global × ℕ → List ℕ × ℕ
entry e = (e.0.items, e.1)

-- the number under a name, if there is one
abbrev pub number_under : List ℕ → List (List ℕ × ℕ) → Option ℕ
number_under name index = lookup (bytes_eq name) index

-- the new index has this under the name, and under each other name what the old one has
abbrev pub Puts : List ℕ → Option ℕ → List (List ℕ × ℕ) → List (List ℕ × ℕ) → Type 0
Puts name number old new = (x : List ℕ)
    → number_under x new ≡ (if bytes_eq x name then number else number_under x old)

-- both indexes have the same under each name
abbrev pub IsSame : List (List ℕ × ℕ) → List (List ℕ × ℕ) → Type 0
IsSame old new = (x : List ℕ) → number_under x new ≡ number_under x old

-- the place of the first of these names that is equal to this one
abbrev pub first_place : List ℕ → List (List ℕ) → Option ℕ
first_place x [] = None
first_place x (y ∷ ys) = if bytes_eq x y then Some 0 else option_map suc (first_place x ys)
