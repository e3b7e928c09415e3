use Rattle.nss_tree.specs.Places.{places_declared}
use Rattle.nss_tree.specs.Reading.{plain_name}
use Rattle.nss_tree.proofs.SeekLaws.{each_step, one}
use Rattle.nss_tree.proofs.places.seek_names.Goals as goal

pub loop-name-preserved : goal.loop-name-preserved
loop-name-preserved c =
    each_step (λ x. places_declared (plain_name x)) _ _ c.name-item.result _ _ _ c.name-item.is c.loop-name-test.true (one _ _ _ _ _ c.pass.ensures c.seek_optional-seek.ensures) c.loop-name.invariant
