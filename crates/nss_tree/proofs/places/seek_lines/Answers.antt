use Rattle.std.proofs.Common.{rules}
use Rattle.nss_tree.specs.Places.{places_line}
use Rattle.nss_tree.proofs.SeekLaws.{each_step, one}
use Rattle.nss_tree.proofs.places.seek_lines.Goals as goal

pub loop-line-preserved : goal.loop-line-preserved
loop-line-preserved c =
    each_step (places_line) _ _ c.line-item.result _ _ _ c.line-item.is c.loop-line-test.true (search (rules, one _ _ _ _ _ c.pass.ensures c.seek_identifiers-seek.ensures)) c.loop-line.invariant
