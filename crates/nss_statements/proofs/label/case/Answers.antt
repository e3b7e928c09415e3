use Rattle.std.proofs.Common.{◌≡◌, ◌∙◌, sym, subst, Some}
use Rattle.std.specs.Result.{OnOk}
use Rattle.typing_rules.specs.Sight.{case_seen}
use Rattle.nss_scopes.specs.Views.{in_sight}
use Rattle.nss_statements.specs.Nodes.{on_ok_at}
use Rattle.nss_statements.proofs.label.case.Goals as goal

pub returns-in-Some-clause-sight : goal.returns-in-Some-clause-sight
returns-in-Some-clause-sight c =
    subst (λ o. OnOk c.case_of.result (in_sight c.args.table.now c.case_of.new.sight ≡ case_seen (in_sight c.args.table.now c.args.sight.now) o)) (sym c.in-Some.is ∙ c.in_ok-value.ensures.value)
    (on_ok_at c.case_of.result (λ t. in_sight t c.case_of.new.sight ≡ case_seen (in_sight t c.args.sight.now) (Some c.in-Some.value)) c.args.table.now c.case_of.ensures.sight)
