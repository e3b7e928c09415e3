use Rattle.std.proofs.Common.{arith}
use Rattle.std.proofs.lemmas.Result.{on_ok_weaker}
use Rattle.state_format.specs.Fields.{standing_fields}
use Rattle.state_parts.specs.Told.{stood_part}
use Rattle.state_parts.specs.PuttingLemmas.{listed_put, listed_few}
use Rattle.state_parts.proofs.objects.put_standing.Goals as goal

pub returns-clause-put : goal.returns-clause-put
returns-clause-put g c = on_ok_weaker c.put_effects.result
    (listed_put standing_fields stood_part c.args.effects.now _ (g.W.Writer.taken c.args.out.now)
    (g.W.Writer.taken c.put_count.new.out) (g.W.Writer.taken c.put_effects.new.out) c.in_ok-put_count.ensures.put
    (c.len-2.ensures.len))
    c.put_effects.ensures.put

pub returns-clause-few : goal.returns-clause-few
returns-clause-few g c = on_ok_weaker c.put_effects.result (λ done. listed_few stood_part c.args.effects.now (omega (arith, c.if-len-gt-MOST.false, c.len.ensures.len))) c.put_effects.ensures.parts
