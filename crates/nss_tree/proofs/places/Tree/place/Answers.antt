use Rattle.nss_tree.specs.Places.{places_item}
use Rattle.nss_tree.specs.Reading.{plain_item}
use Rattle.nss_tree.proofs.SeekLaws.{each_step}
use Rattle.nss_tree.proofs.places.Tree.place.Goals as goal

pub loop-item-preserved : goal.loop-item-preserved
loop-item-preserved c =
    each_step (λ x. places_item (plain_item x)) _ _ c.item-item.result _ _ _ c.item-item.is c.loop-item-test.true c.seek_item-seek.ensures c.loop-item.invariant
