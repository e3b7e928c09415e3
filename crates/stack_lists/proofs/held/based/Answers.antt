use Rattle.std.proofs.Common.{refl}
use Rattle.stack_lists.proofs.Heaps.{base_set}
use Rattle.stack_lists.proofs.held.based.Goals as goal

pub returns : goal.returns
returns c =
    base_set _ _ _ _ c.requires.inside c.in_ok-cells.ensures.grows c.in_ok-saved.ensures.grows refl refl c.in_ok-cells.ensures.inside
    c.in_ok-saved.ensures.inside c.in_ok-cells.ensures.reads c.in_ok-saved.ensures.reads
