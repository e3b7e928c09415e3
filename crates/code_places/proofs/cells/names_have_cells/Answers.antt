use Rattle.std.proofs.Common.{◌||◌}
use Rattle.typing_rules.specs.UnitReading.{typed_names}
use Rattle.typing_rules.specs.Cells.{cells}
use Rattle.emission_rules.specs.Layout.{names_cells}
use Rattle.code_places.specs.Marks.{some}
use Rattle.code_places.proofs.Loops.{done, step}
use Rattle.code_places.proofs.Seeking.{one_of, or_none}
use Rattle.code_places.proofs.cells.names_have_cells.Goals as goal

pub loop-name-preserved : goal.loop-name-preserved
loop-name-preserved c =
    step (λ ys. c.loop-name.any || some (names_cells c.args.layout.now.structs (typed_names ys)))
    (λ ys. c.either-any.result || some (names_cells c.args.layout.now.structs (typed_names ys))) _ _ c.name-item.result _
    c.name-item.is c.loop-name-test.true
    (λ ys. one_of c.loop-name.any c.has_cells.result c.either-any.result (cells c.args.layout.now.structs c.name-item.result.name.ty)
    (names_cells c.args.layout.now.structs (typed_names ys)) c.has_cells.ensures c.either-any.ensures)
    c.loop-name.invariant

pub returns : goal.returns
returns c = done (λ ys. c.loop-name.any || some (names_cells c.args.layout.now.structs (typed_names ys))) _ _ c.loop-name.any _ c.loop-name-test.false (or_none c.loop-name.any) c.loop-name.invariant
