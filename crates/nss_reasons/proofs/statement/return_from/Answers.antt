use Rattle.std.specs.Option.{option_map}
use Rattle.nss_tree.specs.Reading.{plain_expr}
use Rattle.nss_expressions.specs.Views.{heads_in, sight_in}
use Rattle.expression_reasons.specs.Reasons.{nodes_there, value_nodes}
use Rattle.expression_reasons.specs.Seen.{own}
use Rattle.expression_reasons.specs.Walked.{one_found}
use Rattle.nss_reasons.proofs.statement.return_from.Goals as goal

pub returns : goal.returns
returns c = record {
  found = one_found c.own_return.result c.args.k c.args.found.now c.value_there.new.found c.own_return.new.found
      (nodes_there (value_nodes (heads_in c.args.given.now) (sight_in c.args.given.now c.args.sight.now)) (option_map plain_expr c.args.value.now)) (own c.args.token _)
      c.in_ok-value_there.ensures.found c.own_return.ensures.found;
}
