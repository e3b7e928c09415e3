use Rattle.std.proofs.Common.{◌∙◌, ◌||◌, ap, sym, option_map}
use Rattle.typing_rules.specs.Reading.{plain}
use Rattle.code_places.specs.Marks as marks
use Rattle.code_places.specs.Seeking.{sought}
use Rattle.code_places.proofs.Seeking.{one_more, parts}
use Rattle.code_places.proofs.Stmts.{expr_at, if_at, typed_cells}
use Rattle.code_places.proofs.statements.seek_returned.Goals as goal

pub returns-in-Some : goal.returns-in-Some
returns-in-Some c =
    parts c.args.seek _ _ (expr_at c.args.layout.now _ _ (plain c.in-Some.e) c.args.seek _ c.next.ensures c.seek_expr.ensures)
    (one_more c.seek_expr.result _ _ c.pass-seek.ensures
    (if_at _ _ 6 c.args.node c.pass-seek.result _ (c.either.ensures ∙ ap (λ b. c.args.filled || b)
    (typed_cells c.args.layout.now.structs c.ty.result (plain c.in-Some.e) c.has_cells.result c.has_cells.ensures c.ty.ensures.ty)) c.pass_if-in-Some.ensures))
    ∙ ap (λ o. sought (marks.returned_marks c.args.layout.now c.args.filled c.args.node (option_map plain o)) c.args.seek) (sym c.in-Some.is)
