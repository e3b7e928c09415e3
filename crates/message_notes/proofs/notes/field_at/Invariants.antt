use Rattle.std.proofs.Common.{◌≡◌, ◌+◌, ◌-◌, ◌≤◌, drop}
use Rattle.message_notes.specs.Under.{field_place}
use Rattle.message_notes.proofs.notes.field_at.Given as goal

abbrev pub invariant-loop-i : goal.invariant-loop-i
invariant-loop-i l = (l.passed ≤ l.field) × (l.i + field_place (l.field - l.passed) (drop l.i l.line) ≡ field_place l.field l.line)
