use Rattle.std.proofs.Common.{arith}
use Rattle.std.proofs.lemmas.Result.{on_ok_weaker}
use Rattle.std.proofs.Common.{refl}
use Rattle.state_format.specs.Fields.{entry_fields}
use Rattle.state_parts.specs.Told.{entry_part}
use Rattle.state_parts.specs.PuttingLemmas.{listed_put, listed_few}
use Rattle.state_parts.proofs.agenda.put_entries.Goals as goal

pub returns-clause-put : goal.returns-clause-put
returns-clause-put g c = on_ok_weaker c.put_row.result
    (listed_put entry_fields entry_part c.args.entries.now _ (g.W.Writer.taken c.args.out.now)
    (g.W.Writer.taken c.put_count.new.out)
    (g.W.Writer.taken c.put_row.new.out) c.in_ok-put_count.ensures.put (refl))
    c.put_row.ensures.put

pub returns-clause-few : goal.returns-clause-few
returns-clause-few g c = on_ok_weaker c.put_row.result (λ done. listed_few entry_part c.args.entries.now (omega (arith, c.if-entries-gt-MOST.false))) c.put_row.ensures.parts
