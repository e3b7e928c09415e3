use Rattle.std.proofs.Common.{◌-◌, ◌+◌, arith}
use Rattle.state_format.proofs.Members.{members_step}
use Rattle.state_format.proofs.stored.members.Goals as goal

pub loop-done-preserved : goal.loop-done-preserved
loop-done-preserved g c =
    members_step g.T.Stored.read_at (c.args.count - c.loop-done._done) (c.args.count - (c.loop-done._done + 1)) c.loop-done.all c.push.new.self c.loop-done.rest.now c.in-Ok.next.now c.in-Ok.member _
    c.loop-done.invariant (omega arith) c.in-Ok.ensures.read c.in_ok-push-in-Ok.ensures.ok
