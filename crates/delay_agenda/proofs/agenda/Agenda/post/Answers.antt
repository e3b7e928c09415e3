use Rattle.std.proofs.Common.{ap, ◌∙◌}
use Rattle.delay_agenda.specs.Waiting.{AgendaView, posted}
use Rattle.delay_agenda.proofs.Kept.{posted_view, posted_kept}
use Rattle.delay_agenda.proofs.agenda.Agenda.post.Goals as goal

pub invariant_of-self : goal.invariant_of-self
invariant_of-self g c =
    posted_kept c.self.inside.inbox.items c.push_back_reserved.new.self.items c.self.inside.sorted c.self.inside.next c.args.due c.args.kind
    c.push_back_reserved.ensures.items c.self.invariant

pub returns-clause-posted : goal.returns-clause-posted
returns-clause-posted g c =
    posted_view c.self.inside.inbox.items c.push_back_reserved.new.self.items c.self.inside.sorted c.self.inside.next c.args.due c.args.kind
    c.push_back_reserved.ensures.items
    ∙ ap (λ (v : AgendaView _). posted c.args.due c.args.kind v.waiting) c.self.view_is
