use Rattle.std.proofs.Common.{arith}
use Rattle.std.proofs.lemmas.Result.{on_ok_weaker}
use Rattle.state_format.specs.Fields.{variable_fields}
use Rattle.state_parts.specs.Told.{variable_part}
use Rattle.state_parts.specs.PuttingLemmas.{listed_put, listed_few}
use Rattle.state_parts.proofs.objects.put_variables.Goals as goal

pub returns-clause-put : goal.returns-clause-put
returns-clause-put g c = on_ok_weaker c.put_walk.result
    (listed_put variable_fields variable_part c.args.vars.now _ (g.W.Writer.taken c.args.out.now)
    (g.W.Writer.taken c.put_count.new.out) (g.W.Writer.taken c.put_walk.new.out) c.in_ok-put_count.ensures.put
    (c.len-2.ensures.len))
    c.put_walk.ensures.put

pub returns-clause-few : goal.returns-clause-few
returns-clause-few g c = on_ok_weaker c.put_walk.result (λ done. listed_few variable_part c.args.vars.now (omega (arith, c.if-len-gt-MOST.false, c.len.ensures.len))) c.put_walk.ensures.parts
