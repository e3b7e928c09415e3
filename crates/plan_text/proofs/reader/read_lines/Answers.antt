use Rattle.std.proofs.Common.{◌+◌, subst, Ok, Err}
use Rattle.plan_text.specs.Drafts.{plain_draft}
use Rattle.plan_text.specs.Plans.{Reads}
use Rattle.plan_text.specs.Steps.{Took}
use Rattle.plan_text.proofs.LineLemmas.{no_lines, more_lines, bad_line}
use Rattle.plan_text.proofs.reader.read_lines.Goals as goal

pub returns-then-not-branch-clause-fault : goal.returns-then-not-branch-clause-fault
returns-then-not-branch-clause-fault c =
    c.loop-line.invariant (Err c.in-Some.line.number)
    (bad_line _ _ (plain_draft c.loop-line.draft) c.in-Some.line.bytes.now _ _ c.in-Some.ensures.first c.in-Some.ensures.number
    (subst (λ took. Took (Reads (plain_draft c.loop-line.draft) c.in-Some.line.bytes.now) took (plain_draft c.take.new.self)) c.if-not-branch.true (c.in_ok-take.ensures {u = tt})))

pub loop-line-preserved : goal.loop-line-preserved
loop-line-preserved c = λ end on.
    c.loop-line.invariant end
    (more_lines _ _ _ (plain_draft c.loop-line.draft) (plain_draft c.take.new.self) c.in-Some.line.bytes.now _ _ end
    c.in-Some.ensures.first c.in-Some.ensures.number c.in-Some.ensures.read
    (subst (λ took. Took (Reads (plain_draft c.loop-line.draft) c.in-Some.line.bytes.now) took (plain_draft c.take.new.self)) c.if-not-branch.false (c.in_ok-take.ensures {u = tt})) on)

pub returns-clause-plan : goal.returns-clause-plan
returns-clause-plan c =
    c.loop-line.invariant (Ok (plain_draft c.loop-line.draft))
    (no_lines (c.loop-line.lines.read + 1) (plain_draft c.loop-line.draft) c.loop-line.lines.left c.in_default.ensures.none)
