use Rattle.std.proofs.Common.{arith}
use Rattle.std.proofs.lemmas.Result.{on_ok_weaker}
use Rattle.state_parts.proofs.values.put_ints.Goals as goal

pub returns-clause-form : goal.returns-clause-form
returns-clause-form g c = on_ok_weaker c.put_numbers.result (λ all. (omega (arith, c.if-ints-gt-MOST.false), all)) c.put_numbers.ensures.form
