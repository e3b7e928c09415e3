-- The nodes of arguments as a row.
use Rattle.std.proofs.Common.{List, [], ◌∷◌, refl, ap}
use Rattle.nss_tree.specs.declared.expressions.Expr.{Expr}
use Rattle.nss_tree.specs.Reading.{plain_expr, plain_exprs}
use Rattle.nss_tree.specs.Readings.{plain_exprs_none, plain_exprs_more}
use Rattle.nwq_value.specs.declared.engine.Param.{Param}
use Rattle.typing_rules.specs.Rules.{others, takes_action}
use Rattle.typing_rules.specs.Sight.{Head, Sight}
use Rattle.expression_reasons.specs.Reasons.{nodes, all_nodes}
use Rattle.expression_reasons.specs.Rows.{RowLaws}

abbrev others_after : List Param → List Expr → List Param
others_after ps [] = ps
others_after ps (e ∷ es) = others_after (others ps) es

pub argument_laws : (hs : List Head) (s : Sight) → RowLaws
    (λ (ps : List Param) (e : Expr). others ps)
    (λ ps e. nodes hs s (takes_action ps) (plain_expr e))
    (λ ps es. all_nodes hs s ps (plain_exprs es))
    others_after
argument_laws hs s = record {
  nodes_more = λ ps e es. ap (all_nodes hs s ps) (plain_exprs_more e es);
  nodes_none = λ ps. ap (all_nodes hs s ps) plain_exprs_none;
  after_more = λ ps e es. refl;
  after_none = λ ps. refl;
}
