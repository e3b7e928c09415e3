use Rattle.std.proofs.Common.{◌<◌, ◌≤◌, arith, map, subst}
use Rattle.nss_symbols.specs.Cursor.{plain_symbol}
use Rattle.nss_symbols.specs.Nest.{terminal_in}
use Rattle.nss_symbols.proofs.NestLaws.{all_within, goes_on, terminals_before, terminals_past, passes}
use Rattle.nss_symbols.proofs.nest.first_over.Goals as goal

pub returns-then-total-gt-NEST : goal.returns-then-total-gt-NEST
returns-then-total-gt-NEST c = record {
  first = passes (map plain_symbol c.args.symbols.now) c.loop-i.i c.loop-i.before c.loop-i.terminal c.terminal_at-after.result c.loop-i.nest _ c.loop-i.invariant
      (terminals_before c.args.symbols.now c.loop-i.i c.loop-i-test.true) c.terminal_at-after.ensures c.in_ok-step.ensures
      (subst (λ n. 256 < n) c.total.ensures c.if-total-gt-NEST.true);
}

pub loop-i-preserved : goal.loop-i-preserved
loop-i-preserved c =
    goes_on (map terminal_in (map plain_symbol c.args.symbols.now)) c.loop-i.i c.loop-i.before c.loop-i.terminal c.terminal_at-after.result c.loop-i.nest _ c.loop-i.invariant
    (terminals_before c.args.symbols.now c.loop-i.i c.loop-i-test.true) c.terminal_at-after.ensures c.in_ok-step.ensures
    (subst (λ n. n ≤ 256) c.total.ensures (omega (arith, c.if-total-gt-NEST.false)))

pub returns : goal.returns
returns c = record {
  first = all_within (map plain_symbol c.args.symbols.now) c.loop-i.i c.loop-i.before c.loop-i.terminal c.loop-i.nest c.loop-i.invariant
      (terminals_past c.args.symbols.now c.loop-i.i (omega (arith, c.loop-i-test.false)));
}
