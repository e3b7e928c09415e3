-- What is promised of steps, and of the fields of structs.
use Rattle.std.specs.Prelude.{◌≡◌, ℕ, ◌+◌, List, [], ◌∷◌, ◌++◌, length}
use Rattle.nwq_value.specs.declared.value.Ty.{Ty}
use Rattle.nwq_value.specs.declared.value.Value.{Value}
use Rattle.typing_rules.specs.Cells.{Structs, cells}
use Rattle.world_rules.specs.World.{World}
use Rattle.source_meaning.specs.Values.{parts_of, with_parts}
use Rattle.source_meaning.specs.Evaluation.{Deferred, Progress, Outcome, Gives, Divides, OutOfSteps}
use Rattle.source_meaning.specs.Expressions.{all_parts}
use Rattle.source_meaning.specs.Fields.{IsMember}
use Rattle.source_meaning.specs.Scripts.{Setting, run_script, run_deferred}

-- ---- steps

-- so many steps more are left
abbrev pub with_more : ℕ → Progress → Progress
with_more m p = record p { left = m + p.left }

-- An evaluation, by the steps that it may take, is out of them only where none is left. Where it
-- ends, it ends equally with more steps, and these are left besides.
pub record SpendsSteps (run : ℕ → Outcome (List Value)) : Type 0 where
  pub none_left : (n : ℕ) (p : Progress) → run n ≡ OutOfSteps p → p.left ≡ 0
  pub given : (n m : ℕ) (parts : List Value) (p : Progress) → run n ≡ Gives parts p
      → run (m + n) ≡ Gives parts (with_more m p)
  pub divided : (n m self : ℕ) (p : Progress) → run n ≡ Divides self p
      → run (m + n) ≡ Divides self (with_more m p)

-- so every entry, one that starts a script and one that runs a deferred call
abbrev pub EntriesSpendSteps : Type 0
EntriesSpendSteps =
    (s : Setting) (self : ℕ) (world : World Deferred)
    → ((script : ℕ) → SpendsSteps (λ n. run_script s n script self world))
    × ((d : Deferred) → SpendsSteps (λ n. run_deferred s n d self world))

-- ---- fields

-- A struct's value is that of its fields in a row. What is read of it behind the parts of the
-- fields in front of one is that field's value, and a value that is written there takes the field's
-- place, and no other.
abbrev pub FieldsAreParts : Type 0
FieldsAreParts =
    (front : List (List Value)) (field : List Value) (back : List (List Value))
    → (parts_of (length (all_parts front)) (length field) (all_parts (front ++ field ∷ back))
    ≡ field)
    × ((new : List Value) → length new ≡ length field
    → with_parts (length (all_parts front)) new (all_parts (front ++ field ∷ back))
    ≡ all_parts (front ++ new ∷ back))

-- each value has as many parts as its type has cells
abbrev pub HaveCells : Structs → List Ty → List (List Value) → Type 0
HaveCells structs [] [] = Unit {0}
HaveCells structs (t ∷ ts) (v ∷ vs) = (length v ≡ cells structs t) × HaveCells structs ts vs
HaveCells structs (t ∷ ts) [] = ⊥
HaveCells structs [] (v ∷ vs) = ⊥

-- So a member, as an expression reads and writes it, is a field of its struct: of a value that has
-- the fields' values in a row it reads that field's, and a new one takes that field's place.
abbrev pub MembersAreFields : Type 0
MembersAreFields =
    (structs : Structs) (fields : List (List Ty)) (whole part : Ty) (before : ℕ)
    (m : IsMember structs fields whole part before)
    (front : List (List Value)) (field : List Value) (back : List (List Value))
    → HaveCells structs m.front front → length field ≡ cells structs part
    → (parts_of before (cells structs part) (all_parts (front ++ field ∷ back)) ≡ field)
    × ((new : List Value) → length new ≡ cells structs part
    → with_parts before new (all_parts (front ++ field ∷ back))
    ≡ all_parts (front ++ new ∷ back))
