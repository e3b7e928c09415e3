use Rattle.std.proofs.Common.{◌≡◌, map, subst, None}
use Rattle.std.specs.Result.{IfOk}
use Rattle.nss_tree.specs.Reading.{plain_item}
use Rattle.typing_rules.specs.Sight.{start}
use Rattle.nss_reasons.specs.Reasons.{items_nodes}
use Rattle.expression_reasons.specs.Seen.{seen}
use Rattle.nss_reasons.proofs.unit.reason_in.Goals as goal

pub returns : goal.returns
returns c = subst (λ h. IfOk c.reason_by-reason.result (λ r. r ≡ seen c.args.token None (items_nodes h (start c.args.table.now) (map plain_item c.args.xs.now)))) c.in_ok-declared.ensures
    c.reason_by-reason.ensures
