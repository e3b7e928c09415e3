use Rattle.std.proofs.Common.{◌+◌, ℕ, length, Result}
use Rattle.plan_text.specs.Drafts.{plain_draft}
use Rattle.plan_text.specs.Plans.{Draft, Comes, nothing}
use Rattle.plan_text.proofs.reader.read_lines.Given as goal

abbrev pub invariant-loop-line : goal.invariant-loop-line
invariant-loop-line l =
    (end : Result Draft ℕ) → Comes (l.lines.read + 1) (plain_draft l.draft) l.lines.left end → Comes 2 (nothing l.fn.version) l.fn.lines.left end

abbrev pub decreases-loop-line : goal.decreases-loop-line
decreases-loop-line l = length l.lines.left
