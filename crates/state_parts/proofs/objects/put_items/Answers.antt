use Rattle.std.proofs.Common.{arith}
use Rattle.std.proofs.lemmas.Result.{on_ok_weaker}
use Rattle.state_format.specs.Fields.{item_fields}
use Rattle.state_parts.specs.Told.{item_part}
use Rattle.state_parts.specs.PuttingLemmas.{listed_put, listed_few}
use Rattle.state_parts.proofs.objects.put_items.Goals as goal

pub returns-clause-put : goal.returns-clause-put
returns-clause-put g c = on_ok_weaker c.put_actions.result
    (listed_put item_fields item_part c.args.queue.now.actions _ (g.W.Writer.taken c.args.out.now)
    (g.W.Writer.taken c.put_count.new.out) (g.W.Writer.taken c.put_actions.new.out) c.in_ok-put_count.ensures.put
    (c.in_ok-count.ensures.count))
    c.put_actions.ensures.put

pub returns-clause-few : goal.returns-clause-few
returns-clause-few g c = on_ok_weaker c.put_actions.result
    (λ done. listed_few item_part c.args.queue.now.actions
    (omega (arith, c.in_ok-count.ensures.few, c.in_ok-count.ensures.count))) c.put_actions.ensures.parts
