-- How the effects of an object are kept: each under a stamp, and the stamps by the numbers of those
-- for a time, and by the hash of what each is. Public clauses speak of `is_number` alone.
use Rattle.std.specs.Prelude.{◌≡◌, ◌==◌, ℕ, List, [], ◌∷◌, Option, None, Some, Bool, false, Box}
use Rattle.std.specs.declared.alloc.Global.{Global}
use Rattle.std.specs.Hash as fed
use Rattle.std.specs.Hash.FoldHasher as folding
use Rattle.std.specs.List.{flat_map, fold}
use Rattle.nwq_value.specs.Effect.{Effect}
use Rattle.stamped_slots.specs.Stamps.{at, AreUnder}
use Rattle.stamped_slots.specs.Index.{Marks, is_under}
use Rattle.world_rules.specs.declared.data.Stood.{Stood}

-- the effects, in the order of their stamps
abbrev pub stood_in : List (ℕ × Stood) → List Stood
stood_in [] = []
stood_in (e ∷ items) = e.1 ∷ stood_in items

-- those of an object that may have none
abbrev pub boxed : Option (Box (List Stood) Global) → List Stood
boxed None = []
boxed (Some all) = all.value

-- those that a walk has left
abbrev pub walked : Option (List (ℕ × Stood)) → List Stood
walked None = []
walked (Some items) = stood_in items

-- the hash of an effect: of its routine and its integers
unfoldable pub content_hash : Effect → ℕ
content_hash e = folding.finish
    (fold folding.write (fold folding.write folding.initial (fed.u16 e.routine))
    (flat_map fed.i32 e.ints))

-- the keys under which the stamp of an effect is kept
abbrev pub number_key : Stood → Option ℕ
number_key s = s.number

abbrev pub content_key : Stood → Option ℕ
content_key s = Some (content_hash s.effect)

-- is this the number, where there is one?
abbrev pub is_number : ℕ → Option ℕ → Bool
is_number number None = false
is_number number (Some own) = own == number

-- has what stands somewhere this key?
abbrev pub has_key : (Stood → Option ℕ) → ℕ → Option Stood → Bool
has_key key k None = false
has_key key k (Some s) = is_number k (key s)

-- under each key are the stamps of the effects that have it
abbrev pub IsIndex : (Stood → Option ℕ) → List (ℕ × Stood) → List (ℕ × ℕ) → Type 0
IsIndex key items index = (k s : ℕ) → is_under k s index ≡ has_key key k (at s items)

-- the new index has the stamp under the key, if there is one, or hasn't
abbrev pub MarksMaybe : Option ℕ → ℕ → Bool → List (ℕ × ℕ) → List (ℕ × ℕ) → Type 0
MarksMaybe None stamp there old new = new ≡ old
MarksMaybe (Some key) stamp there old new = Marks key stamp there old new

-- what is kept of an object's effects
pub record AreKept (next : ℕ) (items : List (ℕ × Stood))
    (numbers contents : List (ℕ × ℕ)) : Type 0 where
  pub under : AreUnder next items
  pub by_number : IsIndex number_key items numbers
  pub by_content : IsIndex content_key items contents
