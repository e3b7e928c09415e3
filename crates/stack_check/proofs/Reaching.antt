-- Shapes that are reached.
use Rattle.std.proofs.Common.{◌≡◌, ℕ, Some, sym, ◌∙◌, ap}
use Rattle.stack_lists.specs.declared.held.Held.{Held}
use Rattle.stack_lists.specs.declared.held.Heap.{Heap}
use Rattle.stack_check.specs.declared.facts.Facts.{Facts}
use Rattle.stack_lists.specs.Held.{shape_of}
use Rattle.stack_lists.specs.Rows.{row_in}
use Rattle.stack_check.specs.Inference.{RowIs}

some_is : (a b : Held) → Some a ≡ Some b → a ≡ b
some_is a b h = cc

pub row_is : (heap : Heap) (facts : Facts) (n p : ℕ) (held found : Held) → Some found ≡ row_in facts.rows n p → shape_of heap found ≡ shape_of heap held
    → RowIs heap facts n p (shape_of heap held)
row_is heap facts n p held found r e = record { held = found; row = sym r; is = e }

pub row_isnt : (heap : Heap) (facts : Facts) (n p : ℕ) (held found : Held) → Some found ≡ row_in facts.rows n p → (shape_of heap found ≡ shape_of heap held → ⊥)
    → RowIs heap facts n p (shape_of heap held) → ⊥
row_isnt heap facts n p held found r ne is = ne (ap (shape_of heap) (some_is found is.held (r ∙ is.row)) ∙ is.is)

pub ruleset reaching = (row_is, row_isnt)
