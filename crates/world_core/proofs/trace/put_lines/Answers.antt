use Rattle.std.proofs.Common.{ℕ, List, ◌++◌, ap, take, ◌∙◌}
use Rattle.std.specs.List.{flat_map}
use Rattle.world_rules.specs.Trace.{line_text}
use Rattle.world_core.proofs.TakenBack.{taken_back_after}
use Rattle.world_core.proofs.TraceLemmas.{one_more_line, on_err}
use Rattle.world_core.proofs.trace.put_lines.Goals as goal

pub loop-line-preserved : goal.loop-line-preserved
loop-line-preserved c =
    one_more_line c.args.out.now.items c.put_line.new.out.items c.args.lines.now c.loop-line.line-index c.line-item.result c.line-item.result c.loop-line-test.true c.line-item.is
    (c.in_ok-put_line.ensures.ok ∙ ap (λ (bytes : List ℕ). bytes ++ line_text c.line-item.result) c.loop-line.invariant)

pub returns-in_err-put_line-clause-err : goal.returns-in_err-put_line-clause-err
returns-in_err-put_line-clause-err c =
    on_err c.from_residual.result _
    (taken_back_after c.args.out.now.items
    (flat_map line_text (take c.loop-line.line-index c.args.lines.now)) c.loop-line.out.items c.put_line.new.out.items c.loop-line.invariant c.in_err-put_line.ensures.err)
