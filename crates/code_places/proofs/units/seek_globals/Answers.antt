use Rattle.std.proofs.Common.{ap, sym}
use Rattle.typing_rules.specs.UnitReading.{typed_items}
use Rattle.code_places.specs.Marks as marks
use Rattle.code_places.specs.Seeking.{sought}
use Rattle.code_places.proofs.Loops.{done, step}
use Rattle.code_places.proofs.Seeking.{parts, sought_none}
use Rattle.code_places.proofs.units.seek_globals.Goals as goal

pub loop-item-preserved : goal.loop-item-preserved
loop-item-preserved c =
    step (λ ys. sought (marks.globals_marks c.args.layout.now c.loop-item.node (typed_items ys)) c.loop-item.seek)
    (λ ys. sought (marks.globals_marks c.args.layout.now c.behind_item-node.result (typed_items ys)) c.seek_global-seek.result) _ _ c.item-item.result _
    c.item-item.is c.loop-item-test.true
    (λ ys. sym (parts c.loop-item.seek _ _ c.seek_global-seek.ensures
    (ap (λ n. sought (marks.globals_marks c.args.layout.now n (typed_items ys)) c.seek_global-seek.result) c.behind_item-node.ensures)))
    c.loop-item.invariant

pub returns : goal.returns
returns c = done (λ ys. sought (marks.globals_marks c.args.layout.now c.loop-item.node (typed_items ys)) c.loop-item.seek) _ _ _ _ c.loop-item-test.false (sought_none c.loop-item.seek)
    c.loop-item.invariant
