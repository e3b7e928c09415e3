use Rattle.std.proofs.Common.{◌≡◌, map, subst, None}
use Rattle.std.specs.Result.{IfOk}
use Rattle.nss_tree.specs.Reading.{plain_item}
use Rattle.typing_rules.specs.Sight.{start}
use Rattle.typing_rules.specs.Verdicts.{heads}
use Rattle.nss_reasons.specs.Reasons.{items_nodes}
use Rattle.expression_reasons.specs.Seen.{seen}
use Rattle.nss_reasons.proofs.unit.explain.Goals as goal

pub returns : goal.returns
returns c = record {
  reason = subst (λ ys. IfOk c.reason_in.result (λ r. r ≡ seen c.args.token None
      (items_nodes (heads c.args.table.now (map plain_item ys)) (start c.args.table.now) (map plain_item ys)))) c.as_slice.ensures.items c.reason_in.ensures;
}
