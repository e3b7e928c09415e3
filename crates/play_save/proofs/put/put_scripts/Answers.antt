use Rattle.std.proofs.Common.{refl, arith}
use Rattle.std.proofs.lemmas.Result.{on_ok_weaker}
use Rattle.state_format.specs.Fields.{script_fields}
use Rattle.state_parts.specs.PuttingLemmas.{listed_put, listed_few}
use Rattle.play_save.specs.Scripts.{script_part}
use Rattle.play_save.proofs.put.put_scripts.Goals as goal

pub returns-clause-put : goal.returns-clause-put
returns-clause-put g c = on_ok_weaker c.put_loaded.result
    (listed_put script_fields script_part c.args.scripts.now _ (g.W.Writer.taken c.args.out.now) (g.W.Writer.taken c.put_count.new.out) (g.W.Writer.taken c.put_loaded.new.out)
    c.in_ok-put_count.ensures.put refl)
    c.put_loaded.ensures.put

pub returns-clause-form : goal.returns-clause-form
returns-clause-form g c = on_ok_weaker c.put_loaded.result (λ all. (listed_few script_part c.args.scripts.now (omega (arith, c.if-scripts-gt-MOST.false)), all)) c.put_loaded.ensures.form
