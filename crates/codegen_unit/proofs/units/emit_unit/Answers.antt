use Rattle.std.proofs.Common.{arith, ap, ◌∙◌, ◌++◌}
use Rattle.ncs_emit.specs.Labelled.{LabelledCode}
use Rattle.typing_rules.specs.UnitReading.{typed_items, typed_unit}
use Rattle.emission_rules.specs.Units as units
use Rattle.codegen_unit.proofs.Listed.{unit_functions, unit_globals, unit_open}
use Rattle.codegen_unit.proofs.units.emit_unit.Goals as goal

pub emit_start-requires-clause-ready : goal.emit_start-requires-clause-ready
emit_start-requires-clause-ready c =
    rw c.as_slice-items.ensures.items
    (unit_globals (typed_unit c.args.unit.now) c.args.layout.now c.requires.bounded c.requires.few c.requires.laid _
    (omega (
      arith,
      ap (λ (d : LabelledCode). d.labels) c.in_ok-make_labels.ensures.made,
      c.requires.labels,
      c.body_count.ensures,
      ap (λ ys. units.body_count (typed_items ys)) c.as_slice-items.ensures.items,
    )))

pub emit_functions-requires-clause-ready : goal.emit_functions-requires-clause-ready
emit_functions-requires-clause-ready c =
    rw c.as_slice-items.ensures.items
    (unit_functions (typed_unit c.args.unit.now) c.args.layout.now c.requires.bounded c.requires.few c.requires.laid _
    (omega (
      arith,
      ap (λ (d : LabelledCode). d.labels) c.in_ok-emit_start.ensures,
      ap (λ (d : LabelledCode). d.labels) c.in_ok-make_labels.ensures.made,
      c.requires.labels,
      c.body_count.ensures,
      ap (λ ys. units.body_count (typed_items ys)) c.as_slice-items.ensures.items,
      ap (λ ys. units.start_labels (units.has_globals (typed_items ys)) (typed_items ys)) c.as_slice-items.ensures.items,
    )))

pub emit_functions-requires-clause-open : goal.emit_functions-requires-clause-open
emit_functions-requires-clause-open c =
    rw c.as_slice-items.ensures.items
    (unit_open (typed_unit c.args.unit.now) c.args.layout.now c.requires.bounded c.requires.few c.requires.laid c.part_laws.ensures.parts.placements c.places_above.ensures.above.names
    c.make_labels.new.out.labels _ c.make_labels.new.out.lines _
    (omega (
      arith,
      ap (λ (d : LabelledCode). d.labels) c.in_ok-make_labels.ensures.made,
      c.requires.labels,
      c.body_count.ensures,
      ap (λ ys. units.body_count (typed_items ys)) c.as_slice-items.ensures.items,
    ))
    (omega (arith, ap (λ (d : LabelledCode). d.labels) c.in_ok-emit_start.ensures))
    (ap (λ (d : LabelledCode). d.lines) c.in_ok-make_labels.ensures.made ∙ c.requires.lines)
    (ap (λ (d : LabelledCode). d.lines) c.in_ok-emit_start.ensures
    ∙ ap (λ ys. c.make_labels.new.out.lines
    ++ units.emit_start c.args.layout.now c.make_labels.new.out.labels (units.has_globals (typed_items ys))
    (typed_items ys) c.args.unit.now.entry) c.as_slice-items.ensures.items))
