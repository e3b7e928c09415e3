use Rattle.std.proofs.Common.{◌≡◌, ◌+◌, ◌-◌, ◌*◌}
use Rattle.nss_tree.specs.Statements.{no_stmt}
use Rattle.nss_tree.specs.Reading.{plain_stmts}
use Rattle.nss_parser.specs.ReadStatement as read
use Rattle.nss_parser.proofs.statement.+statement.Given as goal

abbrev pub decreases-else_part : goal.decreases-else_part
decreases-else_part l = 7 * l.depth + 1

abbrev pub decreases-if_rest : goal.decreases-if_rest
decreases-if_rest l = 7 * l.depth + 2

abbrev pub decreases-do_statement : goal.decreases-do_statement
decreases-do_statement l = 7 * l.depth + 1

abbrev pub decreases-entries : goal.decreases-entries
decreases-entries l = 7 * l.depth + 3

abbrev pub decreases-entry : goal.decreases-entry
decreases-entry l = 7 * l.depth + 2

abbrev pub decreases-for_statement : goal.decreases-for_statement
decreases-for_statement l = 7 * l.depth + 1

abbrev pub decreases-if_statement : goal.decreases-if_statement
decreases-if_statement l = 7 * l.depth + 3

abbrev pub decreases-some_statement : goal.decreases-some_statement
decreases-some_statement l = 7 * l.depth + 6

abbrev pub decreases-statement : goal.decreases-statement
decreases-statement l = 7 * l.depth

abbrev pub decreases-switch_body : goal.decreases-switch_body
decreases-switch_body l = 7 * l.depth + 4

abbrev pub decreases-switch_statement : goal.decreases-switch_statement
decreases-switch_statement l = 7 * l.depth + 5

abbrev pub decreases-while_statement : goal.decreases-while_statement
decreases-while_statement l = 7 * l.depth + 1

-- what is left to read gives what all gives
abbrev pub invariant-entries-loop-turn : goal.invariant-entries-loop-turn
invariant-entries-loop-turn l = read.entries_from l.fn.depth
    (read.statement l.fn.depth) l.fn.labels l.fn.depth no_stmt l.fn.tokens
    ≡ read.entries_from l.fn.depth (read.statement l.fn.depth) l.fn.labels (l.depth - l._turn)
    (plain_stmts l.all) l.tokens
