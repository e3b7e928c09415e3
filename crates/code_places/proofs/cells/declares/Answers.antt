use Rattle.std.proofs.Common.{ap, sym}
use Rattle.nss_tree.specs.Readings.{tree_block, tree_do_loop, tree_for_loop, tree_if_else, tree_if_only, tree_switch, tree_while_loop}
use Rattle.nss_tree.specs.Statements.{map_stmt}
use Rattle.typing_rules.specs.Reading.{plain}
use Rattle.emission_rules.specs.Layout.{declared_cells}
use Rattle.code_places.specs.Marks.{some}
use Rattle.code_places.proofs.cells.declares.Goals as goal

pub returns-in-Block : goal.returns-in-Block
returns-in-Block c = ap (λ s. some (declared_cells c.args.layout.now.structs (map_stmt plain s))) (sym (tree_block _ _ _ c.in-Block.is))

pub returns-in-If : goal.returns-in-If
returns-in-If c = ap (λ s. some (declared_cells c.args.layout.now.structs (map_stmt plain s))) (sym (tree_if_only _ _ _ _ c.in-If.is))

pub returns-in-IfElse : goal.returns-in-IfElse
returns-in-IfElse c = ap (λ s. some (declared_cells c.args.layout.now.structs (map_stmt plain s))) (sym (tree_if_else _ _ _ _ _ c.in-IfElse.is))

pub returns-in-While : goal.returns-in-While
returns-in-While c = ap (λ s. some (declared_cells c.args.layout.now.structs (map_stmt plain s))) (sym (tree_while_loop _ _ _ _ c.in-While.is))

pub returns-in-Do : goal.returns-in-Do
returns-in-Do c = ap (λ s. some (declared_cells c.args.layout.now.structs (map_stmt plain s))) (sym (tree_do_loop _ _ _ _ c.in-Do.is))

pub returns-in-For : goal.returns-in-For
returns-in-For c = ap (λ s. some (declared_cells c.args.layout.now.structs (map_stmt plain s))) (sym (tree_for_loop _ _ _ _ _ _ c.in-For.is))

pub returns-in-Switch : goal.returns-in-Switch
returns-in-Switch c = ap (λ s. some (declared_cells c.args.layout.now.structs (map_stmt plain s))) (sym (tree_switch _ _ _ _ c.in-Switch.is))
