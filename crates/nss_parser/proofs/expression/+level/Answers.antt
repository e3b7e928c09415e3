use Rattle.std.proofs.Common.{rules, arith, ◌+◌, ◌-◌, refl, sym, ap, ◌∙◌, Option}
use Rattle.nss_tree.specs.Expressions.{PlainExprs}
use Rattle.std.proofs.lemmas.Grind.{common_steps}
use Rattle.nss_tree.specs.Reading.{plain_expr, plain_exprs}
use Rattle.nss_parser.specs.ReadExpression as read
use Rattle.nss_parser.proofs.ExpressionSteps.{argument_more}
use Rattle.nss_parser.proofs.OperandLaws.{prefix_is, operation_is, assigned_is}
use Rattle.nss_parser.proofs.Turns.{one_more, deeper}
use Rattle.nss_symbols.specs.Symbols.{Symbol}
use Rattle.nss_parser.proofs.expression.+level.Goals.{primary-in_default-via-in-Some+in-Fixed+in_default, primary-in_default-via-in-Some+in_default, primary-in_default-via-in_default}
use Rattle.nss_parser.proofs.expression.+level.Goals as goal

pub climb-returns-then-level_of-least : goal.climb-returns-then-level_of-least
climb-returns-then-level_of-least t c =
    let e = one_more (λ n. read.climb c.args.depth (read.level c.args.depth) n c.args.least
    (plain_expr c.loop-turn.left) c.loop-turn.tokens) c.args.depth _ c.loop-turn._turn c.loop-turn-test.true c.loop-turn.invariant in
    first_of (search rules, grind (arith, common_steps))

pub climb-returns-in_err-longer : goal.climb-returns-in_err-longer
climb-returns-in_err-longer t c =
    let e = one_more (λ n. read.climb c.args.depth (read.level c.args.depth) n c.args.least
    (plain_expr c.loop-turn.left) c.loop-turn.tokens) c.args.depth _ c.loop-turn._turn c.loop-turn-test.true c.loop-turn.invariant in
    first_of (search rules, grind (arith, common_steps))

pub climb-loop-turn-preserved : goal.climb-loop-turn-preserved
climb-loop-turn-preserved t c =
    let e = one_more (λ n. read.climb c.args.depth (read.level c.args.depth) n c.args.least
    (plain_expr c.loop-turn.left) c.loop-turn.tokens) c.args.depth _ c.loop-turn._turn c.loop-turn-test.true c.loop-turn.invariant in
    first_of (search rules, grind (arith, common_steps))

pub some_arguments-loop-turn-preserved : goal.some_arguments-loop-turn-preserved
some_arguments-loop-turn-preserved t c =
    let e = one_more (λ n. read.arguments_from c.args.depth (read.level c.args.depth) n
    (plain_exprs c.loop-turn.all) c.loop-turn.tokens) c.args.depth _ c.loop-turn._turn c.loop-turn-test.true c.loop-turn.invariant in
    let more = argument_more c.args.depth (read.level c.args.depth) (c.args.depth - (c.loop-turn._turn + 1)) c.in_ok-take.field-0 (plain_exprs c.loop-turn.all) (plain_expr c.in_ok-argument.argument)
    c.loop-turn.tokens c.level.new.tokens c.take.new.self c.in_ok-argument.ensures (sym c.sees.ensures.next ∙ c.if-sees.true) c.in_ok-take.ensures.read in
    e ∙ more ∙ ap (λ (z : PlainExprs). read.arguments_from c.args.depth (read.level c.args.depth) (c.args.depth - (c.loop-turn._turn + 1)) z c.take.new.self) (sym c.in_ok-push_expr.ensures)

pub level-returns : goal.level-returns
unfolding read.level
level-returns t c =
    let e = deeper (λ n. read.level n c.args.least c.args.tokens.now) c.args.depth (omega arith) in
    first_of (search rules, grind (arith, common_steps))

pub primary-returns-in_default : goal.primary-returns-in_default
unfolding read.primary
primary-returns-in_default t c =
    ap (λ (z : Option Symbol). read.primary_by c.args.depth (read.level c.args.depth) z c.args.tokens.now) (sym c.peek.ensures.same)
    ∙ elim c.in_default.branch [ primary-in_default-via-in-Some+in-Fixed+in_default w ↦ search rules | primary-in_default-via-in-Some+in_default w ↦ search rules | primary-in_default-via-in_default w ↦ rw w.in_default.is refl ]

pub prefix-returns-in_err-number-in-Some : goal.prefix-returns-in_err-number-in-Some
prefix-returns-in_err-number-in-Some t c = rw
    (prefix_is c.args.depth (read.level c.args.depth) c.in-Some.operator c.args.tokens.now
    (ap read.prefix_of (sym c.peek.ensures.same) ∙ sym c.prefix_of.ensures ∙ c.in-Some.is)) (search rules)

pub prefix-returns-in_ok-prefix-in-Some : goal.prefix-returns-in_ok-prefix-in-Some
prefix-returns-in_ok-prefix-in-Some t c = rw
    (prefix_is c.args.depth (read.level c.args.depth) c.in-Some.operator c.args.tokens.now
    (ap read.prefix_of (sym c.peek.ensures.same) ∙ sym c.prefix_of.ensures ∙ c.in-Some.is)) (search rules)

pub operation-returns-in-Err : goal.operation-returns-in-Err
operation-returns-in-Err t c = rw (operation_is c.args.depth (read.level c.args.depth) c.args.operator (plain_expr c.args.left) c.args.tokens.now) (search rules)

pub operation-returns-in_ok-binary-in-Ok : goal.operation-returns-in_ok-binary-in-Ok
operation-returns-in_ok-binary-in-Ok t c = rw (operation_is c.args.depth (read.level c.args.depth) c.args.operator (plain_expr c.args.left) c.args.tokens.now) (search rules)

pub assigned-returns-in-Err : goal.assigned-returns-in-Err
assigned-returns-in-Err t c = rw
    (assigned_is c.args.depth (read.level c.args.depth) c.in-Some.operator (plain_expr c.args.left) c.args.tokens.now
    (ap read.assign_of (sym c.peek.ensures.same) ∙ sym c.assign_of.ensures ∙ c.in-Some.is)) (search rules)

pub assigned-returns-in_ok-assign-in-Ok : goal.assigned-returns-in_ok-assign-in-Ok
assigned-returns-in_ok-assign-in-Ok t c = rw
    (assigned_is c.args.depth (read.level c.args.depth) c.in-Some.operator (plain_expr c.args.left) c.args.tokens.now
    (ap read.assign_of (sym c.peek.ensures.same) ∙ sym c.assign_of.ensures ∙ c.in-Some.is)) (search rules)
