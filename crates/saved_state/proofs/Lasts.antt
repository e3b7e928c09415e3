-- The last cell of a list, where it owns no memory.
use Rattle.std.proofs.Common.{arith, ◌≡◌, ◌<◌, ◌-◌, ℕ, List, length, slice_get, get_or, Some, Bool, true, sym, ap, ◌∙◌}
use Rattle.std.specs.Prelude.{IsTrue}
use Rattle.std.proofs.lemmas.Option.{slice_get-get_or, slice_get_within}
use Rattle.saved_state.specs.declared.cell.Cell.{Cell}
use Rattle.saved_state.specs.Kept.{EndsPlainly, owns_nothing}

pub int_ends : (cells : List Cell) (k : ℕ) (cell : Cell) (test : Bool) → k < length cells → k ≡ length cells - 1 → cell ≡ get_or cells k cell
    → (IsTrue test → owns_nothing cell ≡ true) → IsTrue test → EndsPlainly cells
int_ends cells k cell test less at is plain h = record {
  cell = cell;
  is = ap (slice_get cells) (sym at) ∙ slice_get-get_or cells k cell less ∙ ap Some (sym is);
  plain = plain h;
}

pub ruleset int_lemmas = (int_ends)

pub some_last : (cells : List Cell) → EndsPlainly cells → 0 < length cells
some_last cells h = let inside = slice_get_within cells (length cells - 1) h.cell h.is in omega (arith, inside)
