use Rattle.std.proofs.Common.{◌∙◌, ap}
use Rattle.typing_rules.specs.Sight.{declaration_seen}
use Rattle.nss_reasons.proofs.statement.declaration.Goals as goal

pub returns-clause-sight : goal.returns-clause-sight
returns-clause-sight c =
    c.see_declaration.ensures.seen c.args.given.now.table.now
    ∙ ap declaration_seen c.in_ok-line.ensures.sight
