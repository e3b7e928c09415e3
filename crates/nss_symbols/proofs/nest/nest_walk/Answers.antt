use Rattle.std.proofs.Common.{◌<◌, ◌≤◌, arith, subst, sym}
use Rattle.nss_symbols.specs.Nest.{total}
use Rattle.nss_symbols.proofs.WalkLaws.{walks_on, walked_all, walk_ends}
use Rattle.nss_symbols.proofs.nest.nest_walk.Goals as goal

pub loop-symbol-preserved : goal.loop-symbol-preserved
loop-symbol-preserved c =
    walks_on c.args.symbols.now c.loop-symbol.symbol-index _ c.loop-symbol.before c.loop-symbol.last c.terminal_in-next.result c.loop-symbol.nest _
    c.loop-symbol-test.true c.loop-symbol.invariant c.terminal_in-next.ensures c.in_ok-step.ensures
    (subst (λ n. n ≤ 256) c.total.ensures (omega (arith, c.if-total-gt-NEST.false)))

pub returns-then-total-gt-NEST : goal.returns-then-total-gt-NEST
returns-then-total-gt-NEST c =
    walk_ends c.args.symbols.now c.loop-symbol.symbol-index _ c.loop-symbol.before c.loop-symbol.last c.terminal_in-next.result c.loop-symbol.nest _
    c.loop-symbol-test.true c.loop-symbol.invariant c.terminal_in-next.ensures c.in_ok-step.ensures
    (subst (λ n. 256 < n) c.total.ensures c.if-total-gt-NEST.true)

pub returns : goal.returns
returns c =
    walked_all c.args.symbols.now c.loop-symbol.symbol-index c.loop-symbol.before c.loop-symbol.last c.loop-symbol.nest
    (omega (arith, c.loop-symbol-test.false)) c.loop-symbol.invariant
