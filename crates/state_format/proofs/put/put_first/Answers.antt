use Rattle.std.proofs.Common.{ℕ, List, ◌++◌, ap, ◌∙◌}
use Rattle.std.proofs.lemmas.Result.{on_ok_weaker}
use Rattle.state_format.specs.Fields.{blob}
use Rattle.state_format.specs.WritingLemmas.{first_put}
use Rattle.state_format.proofs.put.put_first.Goals as goal

pub returns : goal.returns
returns g c = record {
  put = on_ok_weaker c.put_counts.result
      (first_put c.args.parts.now _ _ _ _ _ _ c.in_ok-put_magic.ensures.put c.in_ok-put_header.ensures.put c.in_ok-put_list.ensures.put
      (c.in_ok-put_blob.ensures.put ∙ ap (λ (l : List ℕ). g.W.Writer.taken c.put_list.new.out ++ blob l) c.as_slice.ensures.items))
      c.put_counts.ensures.put;
}
