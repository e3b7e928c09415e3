use Rattle.std.proofs.Common.{drop, arith, sym, ap, ◌∙◌}
use Rattle.nss_lexer.specs.Splitting.{nothing}
use Rattle.nss_lexer.specs.Reading.{pass}
use Rattle.nss_lexer.proofs.FirstLaws.{gap_further}
use Rattle.nss_lexer.proofs.gap.past_gap.Goals as goal

pub loop-n-init : goal.loop-n-init
loop-n-init c = (nothing (drop c.args.at c.args.bytes.now), omega arith, omega arith)

pub loop-n-preserved : goal.loop-n-preserved
loop-n-preserved c =
    let within = c.in-Some.ensures.within in (
      gap_further c.args.bytes.now c.args.at c.loop-n.place c.in-Some.n c.loop-n.invariant.0 (sym (c.in-Some.ensures.value ∙ ap pass c.tail.ensures.value)),
      omega arith,
      omega (arith, within.1, c.tail.ensures.count),
    )
