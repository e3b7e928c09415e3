use Rattle.std.proofs.Common.{◌≡◌, ◌∙◌, ap, subst}
use Rattle.std.specs.Option.{option_map}
use Rattle.std.specs.Result.{OnOk}
use Rattle.nss_tree.specs.Reading.{plain_expr}
use Rattle.nss_expressions.specs.Views.{heads_in, sight_in}
use Rattle.expression_reasons.specs.Reasons.{condition_nodes, nodes_there, value_nodes}
use Rattle.expression_reasons.specs.Seen.{seen}
use Rattle.nss_reasons.proofs.statement.for_head.Goals as goal

pub returns : goal.returns
returns c =
    let hs = heads_in c.args.given.now in
    let s = sight_in c.args.given.now c.args.sight.now in
    record {
      found = subst (λ o. OnOk c.value_there-2.result (c.value_there-2.new.found ≡ seen c.args.k o (nodes_there (value_nodes hs s) (option_map plain_expr c.args.step.now))))
          (c.in_ok-condition_there.ensures.found
          ∙ ap (λ o. seen c.args.k o (nodes_there (condition_nodes hs s c.args.token) (option_map plain_expr c.args.e.now))) c.in_ok-value_there.ensures.found) c.value_there-2.ensures.found;
    }
