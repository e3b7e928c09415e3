-- Tests of the top cell, and where jumps lead.
use Rattle.std.proofs.Common.{arith, ◌≡◌, List, [], ◌∷◌, length, Some, false, ap, refl}
use Rattle.std.specs.Prelude.{slice_get}
use Rattle.nwq_value.specs.declared.value.Value.TheVariants.{Int, Text, Object, Effect, Event}
use Rattle.saved_state.specs.declared.cell.Cell.{Cell}
use Rattle.saved_state.specs.declared.cell.Cell.TheVariants.{Value as Holds, Base}
use Rattle.machine_rules.specs.Cells.{zero_on_top}

-- the top cell decides
pub top_tells : (cells : List Cell) (c : Cell) → slice_get cells 0 ≡ Some c → zero_on_top cells ≡ zero_on_top (c ∷ [])
top_tells [] c h = absurd cc
top_tells (Holds (Int n) ∷ cells) c h = on cc
  where
    on : Holds (Int n) ≡ c → zero_on_top (Holds (Int n) ∷ cells) ≡ zero_on_top (c ∷ [])
    on e = ap (λ (c : Cell). zero_on_top (c ∷ [])) e
top_tells (Holds (Text t) ∷ cells) c h = on cc
  where
    on : Holds (Text t) ≡ c → zero_on_top (Holds (Text t) ∷ cells) ≡ zero_on_top (c ∷ [])
    on e = ap (λ (c : Cell). zero_on_top (c ∷ [])) e
top_tells (Holds (Object o) ∷ cells) c h = on cc
  where
    on : Holds (Object o) ≡ c → zero_on_top (Holds (Object o) ∷ cells) ≡ zero_on_top (c ∷ [])
    on e = ap (λ (c : Cell). zero_on_top (c ∷ [])) e
top_tells (Holds (Effect f) ∷ cells) c h = on cc
  where
    on : Holds (Effect f) ≡ c → zero_on_top (Holds (Effect f) ∷ cells) ≡ zero_on_top (c ∷ [])
    on e = ap (λ (c : Cell). zero_on_top (c ∷ [])) e
top_tells (Holds (Event n) ∷ cells) c h = on cc
  where
    on : Holds (Event n) ≡ c → zero_on_top (Holds (Event n) ∷ cells) ≡ zero_on_top (c ∷ [])
    on e = ap (λ (c : Cell). zero_on_top (c ∷ [])) e
top_tells (Base bp ∷ cells) c h = on cc
  where
    on : Base bp ≡ c → zero_on_top (Base bp ∷ cells) ≡ zero_on_top (c ∷ [])
    on e = ap (λ (c : Cell). zero_on_top (c ∷ [])) e

pub none_on_top : (cells : List Cell) → length cells ≡ 0 → zero_on_top cells ≡ false
none_on_top [] e = refl
none_on_top (c ∷ cells) e = absurd (omega arith)

pub ruleset zero_lemmas = (top_tells, none_on_top)
