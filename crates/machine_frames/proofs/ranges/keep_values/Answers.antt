use Rattle.machine_frames.proofs.RangeLemmas.{kept_lies}
use Rattle.machine_frames.proofs.ranges.keep_values.Goals as goal

pub drop_top-requires : goal.drop_top-requires
drop_top-requires c = record {
  inside = kept_lies c.args.total c.args.offset c.args.count c.args.stack.now c.copy_down.new.stack c.requires.case c.in_ok-copy_down.ensures.cells;
}
