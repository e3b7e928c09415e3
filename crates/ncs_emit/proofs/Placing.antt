-- Where the labels of labelled code stand.
use Rattle.std.proofs.Common.{◌≡◌, ◌≤◌, ◌+◌, ◌∷◌, [], ℕ, List, length, get_or, drop, ◌∙◌, ap, arith, refl, true, false, Bool, eqb, cond, ℤ, Option, None}
use Rattle.std.specs.Prelude.{unwrap_or}
use Rattle.std.specs.List.{AllByRecursion}
use Rattle.ncs_code.specs.Spelling.{HasRow, has_type}
use Rattle.ncs_emit.specs.declared.jump.Jump.{Jump}
use Rattle.ncs_emit.specs.declared.jump.Jump.TheVariants.{Jmp, Jsr, Jz, Jnz}
use Rattle.ncs_emit.specs.declared.line.Kept.{Kept}
use Rattle.ncs_emit.specs.declared.line.Kept.TheVariants as kept
use Rattle.ncs_emit.specs.Labelled.{jump_over, place_from}
use Rattle.ncs_emit.specs.Emitting.{lines_of, HasLabels, KeptFits, kept_place, kept_total}

-- a label has the same place in what is kept as in the lines
pub kept_place_is : (labels : ℕ) (bytes : List ℕ) (all : List Kept) (at label : ℕ) → KeptFits labels bytes all → kept_place at all label ≡ place_from at (lines_of bytes all) label
kept_place_is labels bytes [] at label fits = refl
kept_place_is labels bytes (kept.Instruction size ∷ all) at label fits =
    kept_place_is labels (drop size bytes) all (at + size) label fits.1 ∙ ap (λ n. place_from (at + n) (lines_of (drop size bytes) all) label) fits.0.size
kept_place_is labels bytes (kept.Jump kind other ∷ all) at label fits = kept_place_is labels bytes all (at + 6) label fits.1
kept_place_is labels bytes (kept.Label other ∷ all) at label fits = ap (λ p. cond (eqb other label) at p) (kept_place_is labels bytes all at label fits.1)

pub cond_below : (b : Bool) (m n k : ℕ) → m ≤ k → n ≤ k → cond b m n ≤ k
cond_below true m n k f g = f
cond_below false m n k f g = g

-- no label stands behind the end
pub kept_place_below : (all : List Kept) (at label : ℕ) → kept_place at all label ≤ at + kept_total all
kept_place_below [] at label = omega arith
kept_place_below (kept.Instruction size ∷ all) at label = omega (arith, kept_place_below all (at + size) label)
kept_place_below (kept.Jump kind other ∷ all) at label = omega (arith, kept_place_below all (at + 6) label)
kept_place_below (kept.Label other ∷ all) at label = cond_below (eqb other label) at (kept_place at all label) _ (omega arith) (omega (arith, kept_place_below all at label))

-- the places that were met, and where the next line stands
pub record PlacedSoFar (all : List Kept) (i labels : ℕ) (places : List (Option ℕ)) (at : ℕ) : Type 0 where
  pub len : length places ≡ labels
  pub size : at + kept_total (drop i all) ≡ 13 + kept_total all
  pub labelled : AllByRecursion (HasLabels labels) (drop i all)
  pub found : (label : ℕ) → unwrap_or (get_or places label None) (kept_place at (drop i all) label) ≡ kept_place 13 all label

pub has_row_jump : (kind : Jump) (distance : ℤ) → HasRow (jump_over kind distance)
unfolding has_type
has_row_jump Jmp distance = record { kind = refl; sizes = tt }
has_row_jump Jsr distance = record { kind = refl; sizes = tt }
has_row_jump Jz distance = record { kind = refl; sizes = tt }
has_row_jump Jnz distance = record { kind = refl; sizes = tt }
