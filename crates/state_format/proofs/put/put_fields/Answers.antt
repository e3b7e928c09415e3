use Rattle.std.proofs.lemmas.Result.{on_ok_weaker}
use Rattle.state_format.specs.WritingLemmas.{parts_put}
use Rattle.state_format.proofs.put.put_fields.Goals as goal

pub returns : goal.returns
returns g c = record {
  put = on_ok_weaker c.put_last.result (parts_put c.args.parts.now _ _ _ c.in_ok-put_first.ensures.put) c.put_last.ensures.put;
}
