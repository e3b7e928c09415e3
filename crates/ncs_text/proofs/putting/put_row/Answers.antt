use Rattle.std.proofs.Common.{ap, ◌∙◌, ◌≡◌, drop, length, arith, subst}
use Rattle.std.proofs.lemmas.List.{take_rest, drop_at}
use Rattle.ncs_text.specs.Arguments.{AreArguments}
use Rattle.ncs_text.specs.Steps.{Appends}
use Rattle.ncs_text.proofs.Rows.{row_puts}
use Rattle.ncs_text.proofs.putting.put_row.Goals as goal

pub returns-clause-puts : goal.returns-clause-puts
returns-clause-puts c =
    let start : length c.args.out.now.items ≡ c.len-start.result = omega (arith, c.len-start.ensures, c.args.out.now.ok.0)
    in row_puts _ _ _ _ c.args.out.now.items _ c.put_arguments.new.out.items _ _ _ c.arguments_of.ensures.arguments c.in_ok-extend_from_slice.ensures.items
    (subst (λ took. Appends (AreArguments c.args.at c.arguments_of.result.now c.args.text.now) c.extend_from_slice.new.self.items took c.put_arguments.new.out.items)
    c.if-not-branch.false c.in_ok-put_arguments.ensures.arguments)
    (λ bytes both. take_rest c.as_slice.result.now c.len-start.result ∙ ap (drop c.len-start.result) (c.as_slice.ensures.value ∙ both) ∙ drop_at c.args.out.now.items bytes c.len-start.result start)
    c.size_of.ensures.whole
