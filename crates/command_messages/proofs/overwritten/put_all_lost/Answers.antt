use Rattle.command_messages.proofs.LostLemmas.{none_shown, one_more, all_shown}
use Rattle.command_messages.proofs.overwritten.put_all_lost.Goals as goal

pub loop-input-init : goal.loop-input-init
loop-input-init c = none_shown c.args.written.now c.args.sentence.now c.args.out.now.items

pub loop-input-preserved : goal.loop-input-preserved
loop-input-preserved c =
    one_more c.args.written.now c.args.sentence.now c.args.inputs.now c.loop-input.input-index _ c.args.out.now.items c.loop-input.out.items _
    c.loop-input-test.true c.loop-input.invariant c.in_ok-put_lost.ensures.shows

pub returns : goal.returns
returns c = record { shows = all_shown c.args.written.now c.args.sentence.now c.args.inputs.now c.loop-input.input-index c.args.out.now.items _ c.loop-input-test.false c.loop-input.invariant }
