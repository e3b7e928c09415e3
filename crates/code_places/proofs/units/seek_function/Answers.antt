use Rattle.std.proofs.Common.{◌∙◌, ap, refl}
use Rattle.code_places.specs.Numbers as numbers
use Rattle.code_places.specs.Marks as marks
use Rattle.code_places.proofs.Seeking.{last, parts}
use Rattle.code_places.proofs.Stmts.{if_at, stmts_at}
use Rattle.code_places.proofs.units.seek_function.Goals as goal

pub returns : goal.returns
returns c =
    parts c.args.seek _ _
    (stmts_at c.args.layout.now _ _ _ _ c.args.body.now c.args.body.now c.args.seek _ (c.first_frame.ensures ∙ ap marks.first_frame c.parameters_have_cells-any.ensures) refl
    (c.behind_parameters-first.ensures ∙ ap (λ n. numbers.behind_parameters n c.args.parameters.now) c.next.ensures) c.seek_stmts-seek.ensures)
    (parts c.seek_stmts-seek.result _ _ (if_at _ _ 6 c.args.node c.seek_stmts-seek.result _ c.all_declare.ensures c.pass_if-seek.ensures)
    (parts c.pass_if-seek.result _ _ (if_at _ _ 6 c.args.node c.pass_if-seek.result _ c.parameters_have_cells-any.ensures c.pass_if.ensures)
    (last c.pass_if.result _ c.pass.ensures)))
