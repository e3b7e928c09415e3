use Rattle.std.proofs.Common.{◌≡◌, ◌-◌}
use Rattle.state_format.specs.Reading.{many}
use Rattle.state_format.proofs.Members.{with_front}
use Rattle.state_format.proofs.stored.members.Given as goal

abbrev pub invariant-loop-done : goal.invariant-loop-done
invariant-loop-done g l = with_front l.all (many (l.count - l._done) g.T.Stored.read_at l.rest) ≡ many l.count g.T.Stored.read_at l.bytes
