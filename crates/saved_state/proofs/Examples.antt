-- The definitions at the stack of docs/STATE.md: two globals under the base cell, two locals over
-- it.
use Rattle.std.proofs.Common.{◌≡◌, ℕ, [], ◌∷◌, Some, refl}
use Rattle.std.specs.Prelude.{pos}
use Rattle.nwq_value.specs.declared.value.Value.TheVariants.{Int}
use Rattle.saved_state.specs.declared.cell.Cell.{Cell}
use Rattle.saved_state.specs.declared.cell.Cell.TheVariants.{Value as ValueCell, Base}
use Rattle.saved_state.specs.declared.saved.Saved.{Saved}
use Rattle.saved_state.specs.Cells.{StackView, cell_at, with_cell, captured, resumed}

abbrev int : ℕ → Cell
int n = ValueCell (Int (pos n))

abbrev stack : StackView
stack = record { cells = int 8 ∷ int 7 ∷ Base 0 ∷ int 6 ∷ int 5 ∷ []; bp = 2 }

abbrev saved : Saved
saved = record { script = 1; place = 45; globals = int 6 ∷ []; locals = int 7 ∷ int 8 ∷ [] }

one_global : captured 1 45 1 2 stack ≡ saved
one_global = refl

again : resumed saved ≡ record { cells = int 8 ∷ int 7 ∷ Base 0 ∷ int 6 ∷ []; bp = 1 }
again = refl

at_three : cell_at stack.cells 3 ≡ Some (int 7)
at_three = refl

written : with_cell stack.cells 1 (int 9) ≡ int 8 ∷ int 7 ∷ Base 0 ∷ int 9 ∷ int 5 ∷ []
written = refl
