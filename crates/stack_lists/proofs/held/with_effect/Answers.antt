use Rattle.std.proofs.Common.{map, ◌++◌, ◌∙◌, ap, refl}
use Rattle.stack_shape.specs.declared.shape.Slot.TheVariants.{Of}
use Rattle.stack_lists.specs.Shared.{read}
use Rattle.stack_lists.proofs.Heaps.{cells_changed, effect_reads}
use Rattle.stack_lists.proofs.held.with_effect.Goals as goal

pub returns : goal.returns
returns c =
    cells_changed _ _ _ _ _ _ c.requires.inside c.in_ok-cells.ensures.grows refl refl refl refl c.in_ok-cells.ensures.inside
    (effect_reads _ _ _ _ _ c.args.effect.now c.lower-below.ensures.reads
    (c.in_ok-cells.ensures.reads ∙ ap (λ types. map Of types ++ read c.args.heap.now.slots c.lower-below.result) c.as_slice.ensures.items))
