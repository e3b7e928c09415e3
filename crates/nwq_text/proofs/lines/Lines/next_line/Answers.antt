use Rattle.std.proofs.Common.{◌≡◌, [], ap, sym, subst, ◌∙◌, IfNone}
use Rattle.nwq_text.specs.Lines.{lines_of}
use Rattle.nwq_text.specs.Laws.{lines_none}
use Rattle.nwq_text.proofs.lines.Lines.next_line.Goals as goal

pub returns-in_err-bytes-clause-none : goal.returns-in_err-bytes-clause-none
returns-in_err-bytes-clause-none c =
    let nothing : lines_of c.self.inside.rest.now ≡ [] = ap lines_of c.in_err-bytes.ensures.first ∙ lines_none in
    let left : c.args.self.now.left ≡ [] = ap (λ r. r.left) (sym c.self.view_is) ∙ nothing in
    subst (λ r. IfNone r (c.args.self.now.left ≡ [])) (sym c.from_residual.ensures) left
