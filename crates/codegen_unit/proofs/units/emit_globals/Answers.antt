use Rattle.std.proofs.Common.{sym, ◌∙◌}
use Rattle.typing_rules.specs.UnitReading.{typed_items}
use Rattle.std.proofs.Common.{drop, ◌+◌}
use Rattle.emission_rules.specs.Units as units
use Rattle.codegen_expr.specs.Emitted.{extended}
use Rattle.codegen_unit.proofs.Listed.{globals_rest, items_next}
use Rattle.codegen_unit.proofs.units.emit_globals.Goals as goal

pub loop-item-preserved : goal.loop-item-preserved
loop-item-preserved c = (
  globals_rest c.args.layout.now c.args.items.now c.loop-item.item-index c.item-item.result c.item-item.is c.loop-item-test.true c.loop-item.out.labels _ c.loop-item.depth _ c.loop-item.invariant.0
      c.in_ok-depth.ensures.labels c.in_ok-depth.ensures.depth,
  sym (c.in_ok-depth.ensures.code (typed_items (drop (c.loop-item.item-index + 1) c.args.items.now)))
      ∙ (sym (items_next (λ ys. extended c.loop-item.out
      (units.emit_globals c.args.layout.now c.loop-item.out.labels c.loop-item.depth ys)
      (units.globals_labels ys)) c.args.items.now c.loop-item.item-index c.item-item.result
      c.item-item.is c.loop-item-test.true) ∙ c.loop-item.invariant.1),
)
