use Rattle.std.proofs.Common.{arith, ◌∙◌}
use Rattle.machine_frames.proofs.RangeLemmas.{upper_has, lower_has, lower_lies, same_is, same_goes_on, same_ends}
use Rattle.machine_frames.proofs.ranges.same_runs.Goals as goal

pub value-requires : goal.value-requires
value-requires c = record { value = upper_has c.args.count c.loop-i.i c.args.stack.now.cells c.loop-i.invariant c.loop-i-test.true }

pub overflow_add-count : goal.overflow_add-count
overflow_add-count c =
    let h = lower_lies c.args.count c.loop-i.i c.args.stack.now.cells c.loop-i.invariant c.loop-i-test.true in
    let size = c.len-len.ensures.count in
    omega (arith, h, size, c.len-len.type_inv)

pub value-requires-in-loop-i : goal.value-requires-in-loop-i
value-requires-in-loop-i c = record { value = lower_has c.args.count c.loop-i.i c.args.stack.now.cells c.loop-i.invariant c.loop-i-test.true }

pub loop-i-preserved : goal.loop-i-preserved
loop-i-preserved c =
    same_goes_on c.args.count c.loop-i.i c.args.stack.now.cells c.value.result.now c.value-in-loop-i.result.now c.loop-i.invariant c.loop-i-test.true
    c.value.ensures.value c.value-in-loop-i.ensures.value
    (same_is c.equality_is_tested.ensures.tested c.value.result.now c.value-in-loop-i.result.now c.same.result c.same.ensures.equal ∙ c.if-not-same.false)

pub returns : goal.returns
returns c = record {
  same = same_ends c.args.count c.loop-i.i c.args.stack.now.cells c.loop-i.invariant (omega (arith, c.loop-i-test.false, c.loop-i.auto));
}
