use Rattle.gff_read.proofs.ChargeLemmas.{leaf_is_scalar}
use Rattle.gff_read.proofs.row.read_shape.Goals as goal

pub charge_data-requires : goal.charge_data-requires
charge_data-requires c = leaf_is_scalar _ _ _ _ _ c.in_ok-value-in_default.ensures
