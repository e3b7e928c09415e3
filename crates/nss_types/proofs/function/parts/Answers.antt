use Rattle.std.proofs.Common.{◌∙◌, false, ap}
use Rattle.std.specs.Option.{option_map}
use Rattle.nss_tree.specs.Reading.{plain_stmts}
use Rattle.typing_rules.specs.Nodes.{asked, at, fine, kept, three}
use Rattle.typing_rules.specs.Rules.{head_rows}
use Rattle.typing_rules.specs.Sight.{first_types}
use Rattle.typing_rules.specs.Verdicts.{after_body, body_faults, body_fine, after_params, params_fine}
use Rattle.nss_scopes.specs.Entries.{meant_of, signature_of}
use Rattle.nss_types.specs.Heads.{head_rule_by}
use Rattle.nss_expressions.specs.Views.{heads_in, sight_in}
use Rattle.nss_types.proofs.function.parts.Goals as goal

pub returns-in-Ok-body_there-clause-head : goal.returns-in-Ok-body_there-clause-head
returns-in-Ok-body_there-clause-head c = c.judge_head-head.ensures.value
    ∙ (ap (λ o. fine (asked head_rows (head_rule_by c.args.outside.is_taken c.args.outside.is_second)
    (three o (option_map meant_of c.args.outside.meant)
    (option_map (option_map (λ x. signature_of x.now)) c.first_types-first.result)))) c.in_ok-params.ensures.value
    ∙ ap (λ o. fine (asked head_rows (head_rule_by c.args.outside.is_taken c.args.outside.is_second)
    (three (params_fine (sight_in c.args.given.now c.args.c.now) false c.args.ps.now)
    (option_map meant_of c.args.outside.meant) o)))
    (c.first_types-first.ensures.signature
    ∙ (ap (λ x. first_types x c.parameters.new.c.seen) c.bytes.ensures.same
    ∙ ap (first_types c.args.name.now)
    (ap (λ x. x.seen) c.in_ok-params.ensures.sight
    ∙ ap (λ x. x.seen) (c.scopes_only_add.ensures.parameters
    (sight_in c.args.given.now c.args.c.now) c.args.ps.now).others))))

pub returns-in-Ok-body_there-clause-body : goal.returns-in-Ok-body_there-clause-body
returns-in-Ok-body_there-clause-body c =
    c.in-Ok-body_there.ensures.value ∙ ap (λ k. body_fine (heads_in c.args.given.now) k (option_map plain_stmts c.args.body.now)) c.in_ok-params.ensures.sight

pub returns-in-Ok-body_there-clause-least : goal.returns-in-Ok-body_there-clause-least
returns-in-Ok-body_there-clause-least c =
    c.in-Ok-body_there.ensures.least
    ∙ (ap (λ k. kept c.judge_head-head.new.least (body_faults (heads_in c.args.given.now) k (option_map plain_stmts c.args.body.now))) c.in_ok-params.ensures.sight
    ∙ ap (λ l. kept l (body_faults (heads_in c.args.given.now) (after_params (sight_in c.args.given.now c.args.c.now) c.args.ps.now) (option_map plain_stmts c.args.body.now)))
    (c.judge_head-head.ensures.least
    ∙ ((ap (λ o. kept c.parameters.new.least
    (at c.args.token (asked head_rows (head_rule_by c.args.outside.is_taken c.args.outside.is_second)
    (three o (option_map meant_of c.args.outside.meant)
    (option_map (option_map (λ x. signature_of x.now)) c.first_types-first.result))))) c.in_ok-params.ensures.value
    ∙ ap (λ o. kept c.parameters.new.least
    (at c.args.token (asked head_rows (head_rule_by c.args.outside.is_taken c.args.outside.is_second)
    (three (params_fine (sight_in c.args.given.now c.args.c.now) false c.args.ps.now)
    (option_map meant_of c.args.outside.meant) o))))
    (c.first_types-first.ensures.signature
    ∙ (ap (λ x. first_types x c.parameters.new.c.seen) c.bytes.ensures.same
    ∙ ap (first_types c.args.name.now)
    (ap (λ x. x.seen) c.in_ok-params.ensures.sight
    ∙ ap (λ x. x.seen) (c.scopes_only_add.ensures.parameters
    (sight_in c.args.given.now c.args.c.now) c.args.ps.now).others))))
    ∙ ap (λ l. kept l (at c.args.token
    (asked head_rows (head_rule_by c.args.outside.is_taken c.args.outside.is_second)
    (three (params_fine (sight_in c.args.given.now c.args.c.now) false c.args.ps.now)
    (option_map meant_of c.args.outside.meant)
    (first_types c.args.name.now c.args.c.now.seen))))) c.in_ok-params.ensures.least)))

pub returns-in-Ok-body_there-clause-sight : goal.returns-in-Ok-body_there-clause-sight
returns-in-Ok-body_there-clause-sight c =
    c.in-Ok-body_there.ensures.sight ∙ ap (λ k. after_body k (option_map plain_stmts c.args.body.now)) c.in_ok-params.ensures.sight
