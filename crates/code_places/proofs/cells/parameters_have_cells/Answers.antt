use Rattle.std.proofs.Common.{◌||◌}
use Rattle.typing_rules.specs.Cells.{cells}
use Rattle.emission_rules.specs.Layout.{params_cells}
use Rattle.code_places.specs.Marks.{some}
use Rattle.code_places.proofs.Loops.{done, step}
use Rattle.code_places.proofs.Seeking.{one_of, or_none}
use Rattle.code_places.proofs.cells.parameters_have_cells.Goals as goal

pub loop-parameter-preserved : goal.loop-parameter-preserved
loop-parameter-preserved c =
    step (λ ys. c.loop-parameter.any || some (params_cells c.args.layout.now.structs ys)) (λ ys. c.either-any.result || some (params_cells c.args.layout.now.structs ys)) _ _ c.parameter-item.result _
    c.parameter-item.is c.loop-parameter-test.true
    (λ ys. one_of c.loop-parameter.any c.has_cells.result c.either-any.result (cells c.args.layout.now.structs c.parameter-item.result.ty)
    (params_cells c.args.layout.now.structs ys) c.has_cells.ensures c.either-any.ensures)
    c.loop-parameter.invariant

pub returns : goal.returns
returns c = done (λ ys. c.loop-parameter.any || some (params_cells c.args.layout.now.structs ys)) _ _ c.loop-parameter.any _ c.loop-parameter-test.false (or_none c.loop-parameter.any)
    c.loop-parameter.invariant
