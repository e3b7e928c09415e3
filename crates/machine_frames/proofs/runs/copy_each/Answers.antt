use Rattle.std.proofs.Common.{arith, ◌≡◌, ◌<◌, ◌-◌, ℕ, suc}
use Rattle.machine_frames.proofs.RunLemmas.{copy_begins, from_fits, onto_fits, reads, writes, copied_one}
use Rattle.machine_frames.proofs.runs.copy_each.Goals as goal

pub loop-left-init : goal.loop-left-init
loop-left-init c = copy_begins c.args.from c.args.onto c.args.count c.args.stack.now c.requires.from c.requires.onto c.requires.order

last : (left : ℕ) → 0 < left → left ≡ suc (left - 1)
last left h = omega arith

pub overflow_add-from : goal.overflow_add-from
overflow_add-from c =
    let h = from_fits c.args.from c.args.onto c.args.count c.loop-left.left c.len-len.result (c.loop-left.left - 1) c.args.stack.now c.loop-left.stack c.loop-left.invariant
    (last c.loop-left.left c.loop-left-test.true) c.len-len.ensures.count in
    omega (arith, h, c.len-len.type_inv)

pub overflow_add-onto : goal.overflow_add-onto
overflow_add-onto c =
    let h = onto_fits c.args.from c.args.onto c.args.count c.loop-left.left c.len-len.result (c.loop-left.left - 1) c.args.stack.now c.loop-left.stack c.loop-left.invariant
    (last c.loop-left.left c.loop-left-test.true) c.len-len.ensures.count in
    omega (arith, h, c.len-len.type_inv)

pub copy_onto-requires : goal.copy_onto-requires
copy_onto-requires c = record {
  from = reads c.args.from c.args.onto c.args.count c.loop-left.left c.args.stack.now c.loop-left.stack (c.loop-left.left - 1) c.loop-left.invariant (last c.loop-left.left c.loop-left-test.true);
  onto = writes c.args.from c.args.onto c.args.count c.loop-left.left c.args.stack.now c.loop-left.stack (c.loop-left.left - 1) c.loop-left.invariant (last c.loop-left.left c.loop-left-test.true);
}

pub loop-left-preserved : goal.loop-left-preserved
loop-left-preserved c =
    copied_one c.args.from c.args.onto c.args.count c.loop-left.left c.args.stack.now c.loop-left.stack c.copy_onto.new.stack c.loop-left.invariant
    c.loop-left-test.true c.in_ok-copy_onto.ensures.cells
