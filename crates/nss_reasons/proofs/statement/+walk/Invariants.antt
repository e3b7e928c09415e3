use Rattle.std.proofs.Common.{◌≡◌, ◌+◌, drop}
use Rattle.nss_tree.specs.Reading.{plain_stmt, plain_stmts}
use Rattle.typing_rules.specs.Verdicts.{afters}
use Rattle.nss_expressions.specs.Views.{heads_in, sight_in}
use Rattle.nss_reasons.specs.Reasons.{stmts_nodes}
use Rattle.expression_reasons.specs.Seen.{seen}
use Rattle.nss_statements.specs.Nodes.{all_size, size}
use Rattle.nss_reasons.proofs.statement.+walk.Given as goal

abbrev pub invariant-statements-loop-one : goal.invariant-statements-loop-one
invariant-statements-loop-one l =
    (seen l.k l.found (stmts_nodes (heads_in l.given) (sight_in l.given l.sight) (plain_stmts (drop l.one-index l.statements)))
    ≡ seen l.k l.initial.found (stmts_nodes (heads_in l.given) (sight_in l.given l.initial.sight) (plain_stmts l.statements)))
    × (afters (sight_in l.given l.sight) (plain_stmts (drop l.one-index l.statements)) ≡ afters (sight_in l.given l.initial.sight) (plain_stmts l.statements))

abbrev pub decreases-statement : goal.decreases-statement
decreases-statement l = size (plain_stmt l.statement.now)

abbrev pub decreases-statements : goal.decreases-statements
decreases-statements l = all_size (plain_stmts l.statements.now) + 1

abbrev pub decreases-in_branch : goal.decreases-in_branch
decreases-in_branch l = size (plain_stmt l.branch.now) + 1

abbrev pub decreases-in_loop : goal.decreases-in_loop
decreases-in_loop l = size (plain_stmt l.body.now) + 1

abbrev pub decreases-block : goal.decreases-block
decreases-block l = all_size (plain_stmts l.items.now) + 2

abbrev pub decreases-if_only : goal.decreases-if_only
decreases-if_only l = size (plain_stmt l.then.now) + 2

abbrev pub decreases-if_else : goal.decreases-if_else
decreases-if_else l = size (plain_stmt l.then.now) + size (plain_stmt l.otherwise.now) + 2

abbrev pub decreases-while_loop : goal.decreases-while_loop
decreases-while_loop l = size (plain_stmt l.body.now) + 2

abbrev pub decreases-do_loop : goal.decreases-do_loop
decreases-do_loop l = size (plain_stmt l.body.now) + 2

abbrev pub decreases-for_loop : goal.decreases-for_loop
decreases-for_loop l = size (plain_stmt l.body.now) + 2

abbrev pub decreases-switch : goal.decreases-switch
decreases-switch l = all_size (plain_stmts l.body.now) + 2
