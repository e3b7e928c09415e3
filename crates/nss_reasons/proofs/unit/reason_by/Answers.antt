use Rattle.std.proofs.Common.{◌∙◌, map, ap, None}
use Rattle.nss_tree.specs.Reading.{plain_item}
use Rattle.nss_reasons.specs.Reasons.{items_nodes}
use Rattle.expression_reasons.specs.Seen.{seen}
use Rattle.nss_reasons.proofs.unit.reason_by.Goals as goal

pub returns-in-Ok : goal.returns-in-Ok
returns-in-Ok c = c.in-Ok.ensures.found
    ∙ ap (λ s. seen c.args.token None (items_nodes c.args.declared.now s (map plain_item c.args.xs.now))) (c.start-c.ensures.start c.args.table.now)
