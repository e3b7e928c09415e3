use Rattle.std.proofs.Common.{arith}
use Rattle.play_save.proofs.Outcomes.{told_written, told_large}
use Rattle.play_save.proofs.play.state_bytes.Goals as goal

pub returns-then-size : goal.returns-then-size
returns-then-size c = record { exact = told_large c.args.play.now c.in_ok-size.size c.in_ok-size.ensures.told c.in_ok-size.ensures.size c.if-size.true }

pub returns : goal.returns
returns c = record {
  exact = told_written c.args.play.now c.in_ok-bytes.bytes.items c.in_ok-size.size c.in_ok-size.ensures.told c.in_ok-bytes.ensures.bytes c.in_ok-size.ensures.size
      (λ many. omega (arith, many, c.if-size.false));
}
