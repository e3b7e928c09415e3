use Rattle.std.proofs.Common.{◌≡◌, ◌∙◌, ap, false, refl, subst}
use Rattle.std.specs.Option.{option_map}
use Rattle.std.specs.Result.{OnOk}
use Rattle.nss_tree.specs.Reading.{plain_stmts}
use Rattle.typing_rules.specs.Sight.{Sight, function_begun}
use Rattle.typing_rules.specs.Verdicts.{after_body, after_params, in_body, in_function}
use Rattle.nss_expressions.specs.Views.{heads_in, sight_in}
use Rattle.expression_reasons.specs.Reasons.{nodes_there}
use Rattle.nss_reasons.specs.Reasons.{params_nodes, stmts_nodes}
use Rattle.expression_reasons.specs.Seen.{seen}
use Rattle.nss_reasons.proofs.FunctionScope.{function_adds}
use Rattle.nss_statements.specs.Nodes.{on_ok}
use Rattle.nss_reasons.proofs.item.function.Goals as goal

pub returns-clause-found : goal.returns-clause-found
returns-clause-found c =
    let hs = heads_in c.args.given.now in
    let s = sight_in c.args.given.now c.args.c.now in
    let body = option_map plain_stmts c.args.body.now in
    let begun = c.begin-mark.ensures.begun c.args.given.now.table.now ∙ ap (function_begun s) c.result_type-ty.ensures.typed in
    subst (λ z. OnOk c.parts-walked.result (c.parts-walked.new.found ≡ seen c.args.k (seen c.args.k c.args.found.now (params_nodes z false c.args.ps.now))
    (nodes_there (stmts_nodes hs (after_params z c.args.ps.now)) body))) begun c.parts-walked.ensures.found

pub returns-clause-sight : goal.returns-clause-sight
returns-clause-sight c =
    let s = sight_in c.args.given.now c.args.c.now in
    let t = c.args.ty.now in
    let body = option_map plain_stmts c.args.body.now in
    let begun = c.begin-mark.ensures.begun c.args.given.now.table.now ∙ ap (function_begun s) c.result_type-ty.ensures.typed in
    on_ok c.parts-walked.result
    (λ behind. ap {A = Sight} {B = Sight} (λ z. record z { next = s.next })
    (c.scopes_are_left.ensures.left c.args.given.now.table.now c.args.c.now c.parts-walked.new.c c.leave.new.self c.begin-mark.result (in_function s t)
    (after_body (in_body s t c.args.ps.now) body) refl refl refl refl
    (function_adds c.scopes_only_add.ensures.parameters c.scopes_only_add.ensures.statements (in_function s t) c.args.ps.now body) c.leave.ensures.left c.begin-mark.ensures.mark
    (behind ∙ ap (λ z. after_body (after_params z c.args.ps.now) body) begun)))
    c.parts-walked.ensures.sight
