use Rattle.std.proofs.Common.{arith, drop, sym, ◌∙◌, ◌+◌}
use Rattle.typing_rules.specs.UnitReading.{typed_items}
use Rattle.emission_rules.specs.Units as units
use Rattle.codegen_expr.specs.Emitted.{extended}
use Rattle.codegen_unit.proofs.Listed.{functions_open, functions_rest, items_next}
use Rattle.codegen_unit.proofs.units.emit_functions.Goals as goal

pub loop-item-preserved : goal.loop-item-preserved
loop-item-preserved c = (
  functions_rest c.args.layout.now c.args.items.now c.loop-item.item-index c.item-item.result c.item-item.is c.loop-item-test.true c.loop-item.out.labels _ c.loop-item.invariant.0
      c.in_ok-number.ensures.labels,
  functions_open c.args.layout.now c.args.items.now c.loop-item.item-index c.item-item.result c.item-item.is c.loop-item-test.true c.loop-item.out.labels _ c.loop-item.number _
      c.loop-item.out.lines _ c.loop-item.invariant.1
      (omega (arith, c.in_ok-number.ensures.labels)) c.in_ok-number.ensures.number c.in_ok-number.ensures.others,
  sym (c.in_ok-number.ensures.code (typed_items (drop (c.loop-item.item-index + 1) c.args.items.now)))
      ∙ (sym (items_next (λ ys. extended c.loop-item.out
      (units.emit_functions c.args.layout.now c.loop-item.out.labels c.loop-item.number ys)
      (units.functions_labels ys)) c.args.items.now c.loop-item.item-index c.item-item.result
      c.item-item.is c.loop-item-test.true) ∙ c.loop-item.invariant.2),
)
