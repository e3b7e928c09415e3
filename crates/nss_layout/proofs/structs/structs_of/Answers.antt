use Rattle.nss_layout.proofs.Loops.{structs_step}
use Rattle.nss_layout.proofs.structs.structs_of.Goals as goal

pub loop-item-preserved : goal.loop-item-preserved
loop-item-preserved c = structs_step c.args.items.now c.loop-item.item-index c.item-item.result _ _ _ c.item-item.is c.loop-item-test.true c.in_ok-put_struct.ensures c.loop-item.invariant
