use Rattle.std.specs.VecDeque.{deque_capacity}
use Rattle.stamped_slots.proofs.SlotLemmas.{kept_compact}
use Rattle.stamped_slots.proofs.slots.settle.Goals as goal

pub returns-then-live-len-clause-same : goal.returns-then-live-len-clause-same
returns-then-live-len-clause-same g c =
    (kept_compact c.args.live c.args.slots.now.items c.drop_front.new.slots.items c.compact.new.slots.items
    (deque_capacity c.compact.new.slots) c.requires.counted c.drop_front.ensures.same c.drop_front.ensures.ascend
    c.compact.ensures.full c.compact.ensures.gone).0

pub returns-then-live-len-clause-kept : goal.returns-then-live-len-clause-kept
returns-then-live-len-clause-kept g c =
    (kept_compact c.args.live c.args.slots.now.items c.drop_front.new.slots.items c.compact.new.slots.items
    (deque_capacity c.compact.new.slots) c.requires.counted c.drop_front.ensures.same c.drop_front.ensures.ascend
    c.compact.ensures.full c.compact.ensures.gone).1
