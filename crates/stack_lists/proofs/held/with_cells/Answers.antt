use Rattle.std.proofs.Common.{refl}
use Rattle.stack_lists.proofs.Heaps.{cells_changed}
use Rattle.stack_lists.proofs.held.with_cells.Goals as goal

pub returns : goal.returns
returns c = record {
  holds = cells_changed _ _ _ _ _ _ c.requires.inside c.in_ok-cells.ensures.grows refl refl refl refl c.in_ok-cells.ensures.inside c.in_ok-cells.ensures.reads;
}
