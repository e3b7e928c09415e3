use Rattle.std.proofs.Common.{arith}
use Rattle.std.proofs.lemmas.Result.{on_ok_weaker}
use Rattle.state_format.specs.Fields.{cell_fields}
use Rattle.state_parts.specs.Told.{cell_part}
use Rattle.state_parts.specs.PuttingLemmas.{listed_put, listed_few}
use Rattle.state_parts.proofs.values.put_cells.Goals as goal

pub returns-clause-put : goal.returns-clause-put
returns-clause-put g c = on_ok_weaker c.put_row.result
    (listed_put cell_fields cell_part c.args.cells.now _ (g.W.Writer.taken c.args.out.now)
    (g.W.Writer.taken c.put_count.new.out) (g.W.Writer.taken c.put_row.new.out) c.in_ok-put_count.ensures.put
    (c.len-2.ensures.count))
    c.put_row.ensures.put

pub returns-clause-few : goal.returns-clause-few
returns-clause-few g c = on_ok_weaker c.put_row.result (λ done. listed_few cell_part c.args.cells.now (omega (arith, c.if-len-gt-MOST.false, c.len.ensures.count))) c.put_row.ensures.parts
