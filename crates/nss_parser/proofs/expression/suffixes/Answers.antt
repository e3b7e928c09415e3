use Rattle.std.proofs.Common.{rules, arith}
use Rattle.std.proofs.lemmas.Grind.{common_steps}
use Rattle.nss_tree.specs.Reading.{plain_expr}
use Rattle.nss_parser.specs.ReadExpression as read
use Rattle.nss_parser.proofs.Turns.{one_more}
use Rattle.nss_parser.proofs.expression.suffixes.Goals as goal

pub returns-in_err-longer : goal.returns-in_err-longer
returns-in_err-longer c =
    let e = one_more (λ n. read.suffixes n (plain_expr c.loop-turn.of) c.loop-turn.tokens) c.args.depth _ c.loop-turn._turn c.loop-turn-test.true c.loop-turn.invariant in
    first_of (search rules, grind (arith, common_steps))

pub loop-turn-preserved : goal.loop-turn-preserved
loop-turn-preserved c =
    let e = one_more (λ n. read.suffixes n (plain_expr c.loop-turn.of) c.loop-turn.tokens) c.args.depth _ c.loop-turn._turn c.loop-turn-test.true c.loop-turn.invariant in
    first_of (search rules, grind (arith, common_steps))
