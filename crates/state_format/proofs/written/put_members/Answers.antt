use Rattle.std.proofs.Common.{arith}
use Rattle.state_format.proofs.Writing.{put_more}
use Rattle.state_format.proofs.written.put_members.Goals as goal

pub loop-member-preserved : goal.loop-member-preserved
loop-member-preserved g c =
    put_more g.T.Written.laid_out (g.W.Writer.taken c.args.out.now) (g.W.Writer.taken c.loop-member.out)
    (g.W.Writer.taken c.put.new.out) c.args.members.now c.loop-member.member-index c.member-item.result
    c.loop-member.invariant c.in_ok-put.ensures.put (omega arith) c.member-item.is
