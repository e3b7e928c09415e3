use Rattle.std.specs.Int.{w32}
use Rattle.std.proofs.lemmas.Int.{to_z-of_z}
use Rattle.machine_frames.specs.Operations.{unary_of}
use Rattle.machine_frames.proofs.RangeLemmas.{at_end}
use Rattle.machine_frames.proofs.ranges.put_changed.Goals as goal

pub returns-clause-cells : goal.returns-clause-cells
returns-clause-cells c =
    at_end (unary_of c.args.op) c.args.depth c.args.stack.now c.put.new.stack c.args.n _ c.of_one.result _ c.requires.int
    (to_z-of_z w32 c.args.n c.ranges.n) c.of_one.ensures.value
    (to_z-of_z w32 c.of_one.result (record { sfits = c.of_one.type_inv })) c.in_ok-put.ensures.put
