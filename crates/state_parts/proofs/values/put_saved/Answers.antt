use Rattle.std.proofs.lemmas.Result.{on_ok_weaker}
use Rattle.state_format.specs.WritingLemmas.{captured_put}
use Rattle.state_parts.specs.Told.{saved_part}
use Rattle.state_parts.proofs.values.put_saved.Goals as goal

pub returns-clause-put : goal.returns-clause-put
returns-clause-put g c = on_ok_weaker c.put_cells-2.result
    (captured_put (saved_part c.args.saved.now) _ _ _ _ _ c.in_ok-put_word.ensures.put c.in_ok-put_word-2.ensures.put c.in_ok-put_cells.ensures.put)
    c.put_cells-2.ensures.put
