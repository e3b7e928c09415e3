use Rattle.nss_tree.specs.Places.{places_parameter}
use Rattle.nss_tree.proofs.SeekLaws.{each_step, one}
use Rattle.nss_tree.proofs.places.seek_parameters.Goals as goal

pub loop-parameter-preserved : goal.loop-parameter-preserved
loop-parameter-preserved c =
    each_step (places_parameter) _ _ c.parameter-item.result _ _ _ c.parameter-item.is c.loop-parameter-test.true (one _ _ _ _ _ c.pass.ensures c.seek_default-seek.ensures) c.loop-parameter.invariant
