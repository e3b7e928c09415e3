use Rattle.std.proofs.Common.{◌≡◌, ◌∙◌, ap, sym, subst, Some}
use Rattle.std.specs.Result.{OnOk}
use Rattle.typing_rules.specs.Rules.{case_rule}
use Rattle.typing_rules.specs.Sight.{case_seen}
use Rattle.nss_scopes.specs.Views.{in_sight}
use Rattle.nss_expressions.specs.Views.{sight_in}
use Rattle.expression_reasons.specs.Seen.{noted}
use Rattle.expression_reasons.specs.Why.{because}
use Rattle.nss_reasons.specs.Why.{case_reason}
use Rattle.nss_statements.specs.Nodes.{on_ok_at}
use Rattle.expression_reasons.specs.Walked.{none_noted}
use Rattle.nss_reasons.proofs.statement.case.Goals as goal

pub returns-in-None-clause-found : goal.returns-in-None-clause-found
returns-in-None-clause-found c =
    none_noted c.args.k c.args.found.now c.args.token
    ∙ ap (λ o. noted c.args.k c.args.found.now c.args.token
    (because (case_rule c.args.sight.now.labels c.args.token) (case_reason c.args.sight.now.labels) o)) (sym c.in-None.is ∙ c.in_ok-value.ensures.value)

pub returns-in-Some-clause-found : goal.returns-in-Some-clause-found
returns-in-Some-clause-found c =
    subst (λ o. OnOk c.case_of.result (c.case_of.new.found ≡ noted c.args.k c.args.found.now c.args.token
    (because (case_rule c.args.sight.now.labels c.args.token) (case_reason c.args.sight.now.labels) o))) (sym c.in-Some.is ∙ c.in_ok-value.ensures.value) c.case_of.ensures.found

pub returns-in-Some-clause-sight : goal.returns-in-Some-clause-sight
returns-in-Some-clause-sight c =
    subst (λ o. OnOk c.case_of.result (sight_in c.args.given.now c.case_of.new.sight ≡ case_seen (sight_in c.args.given.now c.args.sight.now) o)) (sym c.in-Some.is ∙ c.in_ok-value.ensures.value)
    (on_ok_at c.case_of.result (λ t. in_sight t c.case_of.new.sight ≡ case_seen (in_sight t c.args.sight.now) (Some c.in-Some.value)) c.args.given.now.table.now c.case_of.ensures.sight)
