-- Which variables are compared by their names: those that share a place. No public clause speaks of
-- it.
use Rattle.std.specs.Prelude.{◌≡◌, ◌<◌, ℕ, zero, suc, Bool, nat_eq, nat_lt, ◌%◌, List, [], ◌∷◌, length, get_or, Some, slice_get, if◌then◌else◌}
use Rattle.std.specs.Option.{option_map}
use Rattle.std.specs.Hash.FoldHasher as folding
use Rattle.state_format.specs.declared.parts.Variable.{Variable}
use Rattle.state_format.specs.declared.parts.Variable.TheVariants as variable

-- a fixed hash of a type's number and a name
unfoldable pub hash_under : ℕ → List ℕ → ℕ
hash_under form name = folding.finish
    (folding.write (folding.write folding.initial (form ∷ [])) name)

-- the hash of a variable's type and name
abbrev pub hash_of : Variable → ℕ
hash_of (variable.Int name n) = hash_under 1 name
hash_of (variable.Text name text) = hash_under 3 name

-- the place of a variable among so many
abbrev pub place_of : ℕ → Variable → ℕ
place_of places v = hash_of v % places

-- a count of none, of one, or of more, with one more
abbrev pub once_more : ℕ → ℕ
once_more zero = 1
once_more (suc n) = 2

-- how many variables have a place among so many: none, one, or more, which is 2
abbrev pub count_at : ℕ → ℕ → List Variable → ℕ
count_at places place [] = 0
count_at places place (v ∷ vars) = if nat_eq place (place_of places v)
    then once_more (count_at places place vars) else count_at places place vars

-- under each place how many variables have it
abbrev pub CountsPlaces : List ℕ → List Variable → Type 0
CountsPlaces counts vars = (place : ℕ) → place < length counts
    → slice_get counts place ≡ Some (count_at (length counts) place vars)

-- one count more, at the place of the variable
abbrev pub CountsPlace : List ℕ → Variable → List ℕ → Type 0
CountsPlace before v after = (place : ℕ)
    → slice_get after place ≡ option_map
    (λ (n : ℕ). if nat_eq place (place_of (length before) v) then once_more n else n)
    (slice_get before place)

-- another variable has its place too
abbrev pub shares_place : List ℕ → Variable → Bool
shares_place counts v = nat_lt 1 (get_or counts (place_of (length counts) v) 0)
