use Rattle.std.proofs.Common.{false}
use Rattle.nss_tree.specs.Reading.{plain_expr}
use Rattle.nss_expressions.specs.Views.{heads_in, sight_in}
use Rattle.expression_reasons.specs.Reasons.{nodes}
use Rattle.expression_reasons.specs.Seen.{own}
use Rattle.expression_reasons.specs.Walked.{one_found}
use Rattle.expression_reasons.proofs.expression.condition.Goals as goal

pub returns : goal.returns
returns c = record {
  found = one_found c.own_condition.result c.args.k c.args.found.now c.expression.new.found c.own_condition.new.found
      (nodes (heads_in c.args.given.now) (sight_in c.args.given.now c.args.c.now) false (plain_expr c.args.e.now)) (own c.args.token _)
      c.in_ok-expression.ensures.found c.own_condition.ensures.found;
}
