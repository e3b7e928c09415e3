use Rattle.std.proofs.Common.{ap}
use Rattle.delay_agenda.specs.Waiting.{AgendaView}
use Rattle.delay_agenda.proofs.Kept.{put_kept}
use Rattle.delay_agenda.proofs.agenda.Agenda.put.Goals as goal

pub invariant_of-self-in-Ok : goal.invariant_of-self-in-Ok
invariant_of-self-in-Ok g c =
    put_kept c.put.result c.empty_inbox.new.inbox.items c.self.inside.inbox.items c.self.inside.sorted c.empty_inbox.new.sorted
    c.put.new.self c.self.inside.next c.args.entry c.args.self.now.waiting (ap (λ (v : AgendaView _). v.waiting) c.self.view_is)
    c.self.invariant c.empty_inbox.ensures.entries c.in-Ok.ensures.empty c.put.ensures.ok c.put.ensures.err
    c.requires.below c.requires.new
