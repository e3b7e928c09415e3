use Rattle.std.proofs.Common.{rules, arith, ◌+◌, ◌-◌, true, false, sym, ap, ◌∙◌}
use Rattle.std.proofs.lemmas.Grind.{common_steps}
use Rattle.nss_tree.specs.Source.{SourceStmts}
use Rattle.nss_tree.specs.Reading.{plain_expr, plain_stmt, plain_stmts}
use Rattle.nss_parser.specs.ReadStatement as read
use Rattle.nss_parser.specs.ReadParts.{plain_head}
use Rattle.nss_parser.proofs.LoopTurns.{entry_more}
use Rattle.nss_parser.proofs.PartLaws.{if_is, do_is, for_after, for_is, label_is}
use Rattle.nss_parser.proofs.Turns.{one_more, deeper}
use Rattle.nss_parser.proofs.statement.+statement.Goals as goal

pub entries-loop-turn-preserved : goal.entries-loop-turn-preserved
entries-loop-turn-preserved t c =
    let e = one_more (λ n. read.entries_from c.args.depth (read.statement c.args.depth) c.args.labels n
    (plain_stmts c.loop-turn.all) c.loop-turn.tokens) c.args.depth _ c.loop-turn._turn c.loop-turn-test.true c.loop-turn.invariant in
    let more = entry_more c.args.depth (c.args.depth - (c.loop-turn._turn + 1)) (read.statement c.args.depth) c.args.labels (plain_stmts c.loop-turn.all) (plain_stmt c.in_ok-next.next)
    c.loop-turn.tokens c.entry.new.tokens (sym c.sees.ensures.next ∙ c.if-sees.false) c.in_ok-next.ensures in
    e ∙ more ∙ ap (λ (z : SourceStmts). read.entries_from c.args.depth (read.statement c.args.depth) c.args.labels
    (c.args.depth - (c.loop-turn._turn + 1)) z c.entry.new.tokens) (sym c.in_ok-push_stmt.ensures)

pub statement-returns : goal.statement-returns
unfolding read.statement
statement-returns t c =
    let e = deeper (λ n. read.statement n c.args.tokens.now) c.args.depth (omega arith) in
    first_of (search rules, grind (arith, common_steps))

pub if_statement-returns-in-Ok : goal.if_statement-returns-in-Ok
if_statement-returns-in-Ok t c =
    let e = if_is c.args.depth (read.statement c.args.depth) c.in_ok-number.number (plain_expr c.in_ok-value.value) (plain_stmt c.in-Ok.inner)
    c.args.tokens.now c.take.new.self c.condition.new.tokens c.statement.new.tokens c.in_ok-number.ensures.read c.in_ok-value.ensures c.in-Ok.ensures in
    rw e c.if_rest.ensures

pub do_statement-returns : goal.do_statement-returns
do_statement-returns t c =
    let e = do_is c.args.depth (read.statement c.args.depth) c.in_ok-number.number (plain_stmt c.in_ok-inner.inner)
    c.args.tokens.now c.take.new.self c.statement.new.tokens c.in_ok-number.ensures.read c.in_ok-inner.ensures in
    rw e c.do_rest.ensures

pub for_statement-returns-in-Err : goal.for_statement-returns-in-Err
for_statement-returns-in-Err t c = rw
    (for_after c.args.depth (read.statement c.args.depth) c.in_ok-number.number
    (plain_head c.in_ok-head.head) c.args.tokens.now c.take.new.self c.for_head.new.tokens c.in_ok-number.ensures.read c.in_ok-head.ensures) (search rules)

pub for_statement-returns-in_ok-for_of-in-Ok : goal.for_statement-returns-in_ok-for_of-in-Ok
for_statement-returns-in_ok-for_of-in-Ok t c = rw
    (for_after c.args.depth (read.statement c.args.depth) c.in_ok-number.number
    (plain_head c.in_ok-head.head) c.args.tokens.now c.take.new.self c.for_head.new.tokens c.in_ok-number.ensures.read c.in_ok-head.ensures) (search rules)

pub for_statement-returns-in_err-head : goal.for_statement-returns-in_err-head
for_statement-returns-in_err-head t c = rw (for_is c.args.depth (read.statement c.args.depth) c.args.tokens.now) (search rules)

pub for_statement-returns-in_err-number : goal.for_statement-returns-in_err-number
for_statement-returns-in_err-number t c = rw (for_is c.args.depth (read.statement c.args.depth) c.args.tokens.now) (search rules)

pub entry-returns-then-sees-2 : goal.entry-returns-then-sees-2
entry-returns-then-sees-2 t c =
    let none = ap read.type_begins (sym c.peek.ensures.same) ∙ sym c.begins_type.ensures ∙ c.if-begins_type.false in
    rw (label_is c.args.depth
    (read.statement c.args.depth) c.args.labels true c.args.tokens.now c.if-not-labels.false none
    (sym c.sees.ensures.next ∙ c.if-sees.false)
    (sym c.sees-else-sees.ensures.next ∙ c.if-sees-2.true)) c.default_label.ensures

pub entry-returns-else-sees-2 : goal.entry-returns-else-sees-2
entry-returns-else-sees-2 t c =
    let none = ap read.type_begins (sym c.peek.ensures.same) ∙ sym c.begins_type.ensures ∙ c.if-begins_type.false in
    rw (label_is c.args.depth
    (read.statement c.args.depth) c.args.labels false c.args.tokens.now c.if-not-labels.false none
    (sym c.sees.ensures.next ∙ c.if-sees.false)
    (sym c.sees-else-sees.ensures.next ∙ c.if-sees-2.false)) c.statement-else-sees-2.ensures
