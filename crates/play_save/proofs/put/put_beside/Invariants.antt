use Rattle.play_save.proofs.Telling.{ObjectsArePut}
use Rattle.play_save.proofs.put.put_beside.Given as goal

abbrev pub invariant-loop-i : goal.invariant-loop-i
invariant-loop-i g l = ObjectsArePut l.area.objects l.things (g.W.Writer.taken l.fn.out) l.i (g.W.Writer.taken l.out)
