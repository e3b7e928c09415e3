use Rattle.std.proofs.Common.{◌∙◌, ◌+◌, refl, sym}
use Rattle.typing_rules.specs.UnitReading.{typed_item, typed_items}
use Rattle.code_places.specs.Functions.{function_among}
use Rattle.code_places.proofs.Functions.{past}
use Rattle.code_places.proofs.Loops.{done, step}
use Rattle.code_places.proofs.units.function_among.Goals as goal

pub loop-i-preserved : goal.loop-i-preserved
loop-i-preserved c =
    step (λ ys. function_among c.args.layout.now c.loop-i.node c.loop-i.i (typed_items ys) c.loop-i.seek)
    (λ ys. function_among c.args.layout.now c.behind_item-node.result (c.loop-i.i + 1) (typed_items ys) c.seek_item-seek.result) _ _ c.index-items-i.result _
    c.index-items-i.is c.loop-i-test.true
    (λ ys. past c.args.layout.now c.loop-i.node c.behind_item-node.result c.loop-i.i (typed_item c.index-items-i.result) (typed_items ys) c.loop-i.seek c.seek_item-seek.result
    c.seek_item-seek.ensures (sym c.is_found.ensures ∙ c.if-is_found.false) c.behind_item-node.ensures)
    c.loop-i.invariant

pub returns : goal.returns
returns c = done (λ ys. function_among c.args.layout.now c.loop-i.node c.loop-i.i (typed_items ys) c.loop-i.seek) _ _ _ _ c.loop-i-test.false refl c.loop-i.invariant
