use Rattle.std.proofs.lemmas.Result.{on_ok_weaker}
use Rattle.play_save.proofs.Telling.{header_put, header_form}
use Rattle.play_save.proofs.put.put_header.Goals as goal

pub returns-in_ok-put_tag-in-Some : goal.returns-in_ok-put_tag-in-Some
returns-in_ok-put_tag-in-Some g c = record {
  put = on_ok_weaker c.put_bytes.result
      (header_put c.args.header.now (λ text. text.items) c.in-Some.text c.as_slice.result.now
      (g.W.Writer.taken c.args.out.now) _ _ c.in-Some.is c.as_slice.ensures.value c.in_ok-put_tag-in-Some.ensures.put)
      c.put_bytes.ensures.put;
  form = on_ok_weaker c.put_bytes.result (header_form c.args.header.now (λ text. text.items) c.in-Some.text c.as_slice.result.now c.in-Some.is c.as_slice.ensures.value) c.put_bytes.ensures.form;
}
