use Rattle.std.proofs.lemmas.Result.{on_ok_weaker}
use Rattle.state_format.specs.WritingLemmas.{last_put}
use Rattle.state_format.proofs.put.put_last.Goals as goal

pub returns : goal.returns
returns g c = record {
  put = on_ok_weaker c.put_list-3.result
      (last_put c.args.parts.now _ _ _ _ c.in_ok-put_list.ensures.put c.in_ok-put_list-2.ensures.put)
      c.put_list-3.ensures.put;
}
