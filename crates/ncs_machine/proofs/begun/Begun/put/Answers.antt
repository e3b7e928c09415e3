use Rattle.std.proofs.Common.{w32, to_z, of_z}
use Rattle.std.proofs.lemmas.Int.{to_z-of_z}
use Rattle.ncs_machine.proofs.BegunLemmas.{put_ints}
use Rattle.ncs_machine.proofs.begun.Begun.put.Goals as goal

pub returns : goal.returns
returns c = record {
  put = put_ints c.self.inside.spot c.self.inside.count c.self.inside.ints (to_z w32 (of_z w32 c.args.n)) c.args.n c.args.self.now
      (to_z-of_z w32 c.args.n c.ranges.n) c.self.told c.self.invariant c.requires.few c.self.view_is;
}
