use Rattle.std.proofs.Common.{◌≡◌, ◌++◌, take}
use Rattle.std.specs.List.{flat_map}
use Rattle.state_format.specs.Fields.{joined}
use Rattle.state_format.proofs.written.put_members.Given as goal

abbrev pub invariant-loop-member : goal.invariant-loop-member
invariant-loop-member g l = g.W.Writer.taken l.out ≡ g.W.Writer.taken l.fn.out ++ joined (flat_map g.T.Written.laid_out (take l.member-index l.members))
