use Rattle.state_parts.specs.ShortTexts.{is_short_entry}
use Rattle.state_objects.specs.ListLemmas.{test_at}
use Rattle.play_save.proofs.Agendas.{agenda_more, may_put}
use Rattle.play_save.proofs.entries.agenda.Goals as goal

pub entry-requires : goal.entry-requires
entry-requires c = record { short = test_at is_short_entry c.args.parts.now c.loop-part.part-index c.part-item.result c.requires.short c.loop-part-test.true c.part-item.is }

pub put-requires : goal.put-requires
put-requires c =
    let may = may_put c.args.parts.now c.loop-part.part-index c.part-item.result c.in_ok-held.held c.args.next c.loop-part.agenda.waiting c.requires.ordered c.loop-part.invariant
    c.in_ok-held.ensures.tells c.loop-part-test.true c.part-item.is in
    record { below = may.0; new = may.1 }

pub loop-part-preserved : goal.loop-part-preserved
loop-part-preserved c =
    agenda_more c.args.parts.now c.loop-part.part-index c.part-item.result _ c.args.next c.loop-part.agenda.waiting c.put.new.self.waiting c.requires.ordered c.loop-part.invariant
    c.in_ok-put.ensures.ok c.in_ok-held.ensures.tells c.loop-part-test.true c.part-item.is
