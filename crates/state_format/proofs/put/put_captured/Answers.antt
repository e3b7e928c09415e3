use Rattle.std.proofs.lemmas.Result.{on_ok_weaker}
use Rattle.state_format.specs.WritingLemmas.{captured_put}
use Rattle.state_format.proofs.put.put_captured.Goals as goal

pub returns : goal.returns
returns g c = record {
  put = on_ok_weaker c.put_list-2.result
      (captured_put c.args.state.now _ _ _ _ _ c.in_ok-put_word.ensures.put c.in_ok-put_word-2.ensures.put c.in_ok-put_list.ensures.put)
      c.put_list-2.ensures.put;
}
