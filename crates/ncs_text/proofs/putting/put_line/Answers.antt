use Rattle.std.proofs.Common.{sym, ◌∙◌}
use Rattle.ncs_text.proofs.Ops.{remark_puts, op_line_puts}
use Rattle.ncs_text.proofs.putting.put_line.Goals as goal

pub returns-then-is_remark-clause-puts : goal.returns-then-is_remark-clause-puts
returns-then-is_remark-clause-puts c = remark_puts c.args.at c.args.line.now c.args.out.now.items (c.is_remark.ensures.yes c.if-is_remark.true)

pub returns-clause-puts : goal.returns-clause-puts
returns-clause-puts c =
    op_line_puts _ _ _ _ c.in_ok-size.size (λ remark. let h = c.is_remark.ensures.no remark in let e = sym h ∙ c.if-is_remark.false in absurd cc) (c.in_ok-size.ensures {u = tt}).puts
