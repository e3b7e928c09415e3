use Rattle.std.proofs.Common.{◌∙◌, ap, refl}
use Rattle.std.specs.Option.{option_map}
use Rattle.nss_tree.specs.Reading.{plain_expr}
use Rattle.nss_tree.specs.Statements as tree
use Rattle.typing_rules.specs.Nodes.{asked, faults_there, fine, if_there, two}
use Rattle.typing_rules.specs.Reading.{plain}
use Rattle.typing_rules.specs.Rules.{return_rows, return_rule}
use Rattle.typing_rules.specs.UnitReading.{typed_stmt}
use Rattle.typing_rules.specs.Verdicts.{stmt_faults, stmt_verdict, value, value_faults}
use Rattle.nss_expressions.specs.Views.{heads_in, sight_in}
use Rattle.nss_expressions.specs.Walked.{answered, one_least}
use Rattle.nss_statements.proofs.statement.return_from.Goals as goal

pub returns-clause-value : goal.returns-clause-value
returns-clause-value c = c.judge_return.ensures.value ∙ ap (λ o. fine (asked return_rows (return_rule c.args.token) (two c.args.sight.now.result o))) c.in_ok-typed.ensures.value

pub returns-clause-least : goal.returns-clause-least
returns-clause-least c =
    let hs = heads_in c.args.given.now in
    let s = sight_in c.args.given.now c.args.sight.now in
    let e = option_map plain_expr c.args.value.now in
    one_least typed_stmt (stmt_verdict hs s) (stmt_faults hs s) c.args.token (answered c.judge_return.result) (tree.return_from c.args.token e) (tree.return_from c.args.token e) refl
    (λ o. asked return_rows (return_rule c.args.token) (two c.args.sight.now.result o)) (option_map (option_map plain) c.in_ok-typed.typed) (if_there (value hs s) e)
    c.args.least.now c.value_there.new.least c.judge_return.new.least (faults_there (value_faults hs s) e) c.in_ok-typed.ensures.value refl c.in_ok-typed.ensures.least c.judge_return.ensures.least
