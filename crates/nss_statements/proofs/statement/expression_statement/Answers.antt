use Rattle.std.proofs.Common.{◌∙◌, ap}
use Rattle.nss_tree.specs.Statements as tree
use Rattle.typing_rules.specs.Nodes.{fine, passed}
use Rattle.nss_statements.proofs.statement.expression_statement.Goals as goal

pub returns-clause-value : goal.returns-clause-value
returns-clause-value c = c.made_expression.ensures.made ∙ ap (λ o. fine (passed (tree.expression c.args.token) o)) c.in_ok-typed.ensures.value

pub returns-clause-least : goal.returns-clause-least
returns-clause-least c = c.in_ok-typed.ensures.least
