use Rattle.std.proofs.Common.{refl, rules}
use Rattle.play_save.proofs.Holding.{no_tree}
use Rattle.play_save.proofs.prepare.tree.Goals as goal

pub returns-in-Err-read : goal.returns-in-Err-read
returns-in-Err-read c = record {
  tree = tt;
  small = tt;
  few = tt;
  broken = (refl, no_tree c.args.bytes.now c.in-Ok.view c.in-Err-read.field-0 c.in-Ok.ensures.exact.1 c.in-Err-read.ensures.only (search rules));
}
