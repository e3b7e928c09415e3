use Rattle.std.proofs.Common.{◌∙◌, ◌||◌, ap}
use Rattle.nss_tree.specs.Readings.{stmts_more}
use Rattle.nss_tree.specs.Reading.{tree_of_stmts}
use Rattle.nss_tree.specs.Statements.{map_stmts}
use Rattle.typing_rules.specs.Reading.{plain}
use Rattle.typing_rules.specs.UnitReading.{typed_stmt, typed_stmts}
use Rattle.emission_rules.specs.Layout.{all_declared_cells, declared_cells}
use Rattle.code_places.specs.Marks.{some}
use Rattle.code_places.proofs.Loops.{done, step}
use Rattle.code_places.proofs.Seeking.{one_of, or_none}
use Rattle.code_places.proofs.cells.all_declare.Goals as goal

pub loop-stmt-preserved : goal.loop-stmt-preserved
loop-stmt-preserved c =
    step (λ ys. c.loop-stmt.any || some (all_declared_cells c.args.layout.now.structs (typed_stmts ys)))
    (λ ys. c.either-any.result || some (all_declared_cells c.args.layout.now.structs (typed_stmts ys))) _ _ c.stmt-item.result _
    c.stmt-item.is c.loop-stmt-test.true
    (λ ys. ap (λ zs. c.loop-stmt.any || some (all_declared_cells c.args.layout.now.structs (map_stmts plain zs)))
    (stmts_more c.stmt-item.result ys) ∙ one_of c.loop-stmt.any c.declares.result c.either-any.result (declared_cells c.args.layout.now.structs (typed_stmt c.stmt-item.result))
    (all_declared_cells c.args.layout.now.structs (typed_stmts ys)) c.declares.ensures c.either-any.ensures)
    c.loop-stmt.invariant

pub returns : goal.returns
unfolding tree_of_stmts
returns c = done (λ ys. c.loop-stmt.any || some (all_declared_cells c.args.layout.now.structs (typed_stmts ys))) _ _ c.loop-stmt.any _ c.loop-stmt-test.false (or_none c.loop-stmt.any)
    c.loop-stmt.invariant
