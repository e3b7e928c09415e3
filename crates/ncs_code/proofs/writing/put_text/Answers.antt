use Rattle.std.proofs.Common.{◌≡◌, ◌∙◌, ap, length, get_or, ◌++◌, ◌∷◌, append_assoc, rules}
use Rattle.ncs_code.specs.Spelling.{two}
use Rattle.ncs_code.proofs.Pieces.{taken_back_to}
use Rattle.ncs_code.proofs.writing.put_text.Goals as goal

pub returns-in-Ok-clause-ok : goal.returns-in-Ok-clause-ok
unfolding two
returns-in-Ok-clause-ok c =
    c.in-Ok.ensures.ok ∙ ap (λ m. m ++ c.args.text.now) c.in_ok-put.ensures.ok ∙ append_assoc c.args.out.now.items _ c.args.text.now
    ∙ ap (λ bs. c.args.out.now.items ++ 4 ∷ 5 ∷ get_or bs 0 0 ∷ get_or bs 1 0 ∷ c.args.text.now) c.to_be_bytes.ensures

pub returns-in-Err-clause-err : goal.returns-in-Err-clause-err
returns-in-Err-clause-err c =
    let size : c.len-start.result ≡ length c.args.out.now.items = search rules in
    c.truncate.ensures.items
    ∙ taken_back_to c.len-start.result c.args.out.now.items _ c.put-2.new.out.items size (c.in-Err.ensures.err ∙ c.in_ok-put.ensures.ok)
