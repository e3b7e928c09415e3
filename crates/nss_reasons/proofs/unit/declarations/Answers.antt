use Rattle.std.proofs.Common.{◌≡◌, map, subst}
use Rattle.std.specs.Result.{IfOk}
use Rattle.nss_tree.specs.Reading.{plain_item}
use Rattle.typing_rules.specs.Verdicts.{after_items}
use Rattle.nss_reasons.proofs.unit.declarations.Goals as goal

pub returns : goal.returns
returns c = subst (λ k. IfOk c.seen_behind-seen.result (λ h. h ≡ (after_items k (map plain_item c.args.xs.now)).seen)) (c.start-c.ensures.start c.args.table.now) c.seen_behind-seen.ensures
