use Rattle.typing_rules.specs.Reading.{plain}
use Rattle.code_places.proofs.Seeking.{parts}
use Rattle.code_places.proofs.Stmts.{if_at, typed_cells}
use Rattle.code_places.proofs.statements.seek_dropped.Goals as goal

pub returns : goal.returns
returns c =
    parts c.args.seek _ _ c.seek_expr-seek.ensures
    (if_at _ _ 6 c.args.of c.seek_expr-seek.result _ (typed_cells c.args.layout.now.structs c.ty.result (plain c.args.e.now) c.has_cells.result c.has_cells.ensures c.ty.ensures.ty) c.pass_if.ensures)
