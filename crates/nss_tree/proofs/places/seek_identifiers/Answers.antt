use Rattle.std.proofs.Common.{[], sym}
use Rattle.nss_tree.specs.Places.{places_identifier}
use Rattle.nss_tree.proofs.SeekLaws.{sought_none}
use Rattle.nss_tree.proofs.SeekLaws.{each_step, one}
use Rattle.nss_tree.proofs.places.seek_identifiers.Goals as goal

pub loop-name-preserved : goal.loop-name-preserved
loop-name-preserved c =
    each_step (places_identifier) _ _ c.name-item.result _ _ _ c.name-item.is c.loop-name-test.true (one [] _ _ _ _ c.pass-seek.ensures (sym (sought_none _))) c.loop-name.invariant
