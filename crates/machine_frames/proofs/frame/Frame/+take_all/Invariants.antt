use Rattle.std.proofs.Common.{length}
use Rattle.machine_frames.proofs.frame.Frame.+take_all.Given as goal

abbrev pub decreases-take_all : goal.decreases-take_all
decreases-take_all l = length l.params.now
