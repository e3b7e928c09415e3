use Rattle.std.proofs.Common.{◌<◌, ◌≤◌, ap, sym, subst, refl}
use Rattle.delay_agenda.specs.Waiting.{AgendaView}
use Rattle.delay_agenda.proofs.Kept.{row_count, inbox_count, cancelled_kept, cancelled_view, inbox_left, queues_left}
use Rattle.delay_agenda.proofs.agenda.Agenda.cancel_turn.Goals as goal

pub cancel_turn-requires : goal.cancel_turn-requires
cancel_turn-requires g c = record {
  one =
      subst (λ n. n ≤ 1)
      (row_count c.args.object c.self.inside.next c.self.inside.inbox.items c.self.inside.sorted c.args.self.now.waiting
      (ap (λ (v : AgendaView _). v.waiting) c.self.view_is) c.in-None.ensures.turn)
      c.requires.one;
}

pub invariant_of-self : goal.invariant_of-self
invariant_of-self g c =
    let inbox = c.self.inside.inbox.items in
    let row = c.self.inside.sorted in
    cancelled_kept c.args.object c.self.inside.next inbox inbox row c.cancel_turn.new.self c.self.invariant
    (queues_left c.args.object inbox row c.cancel_turn.new.self c.keeps.ensures.sorted c.in-None.ensures.turn c.cancel_turn.ensures.left)

pub invariant_of-self-in-Some : goal.invariant_of-self-in-Some
invariant_of-self-in-Some g c =
    let inbox = c.self.inside.inbox.items in
    let row = c.self.inside.sorted in
    let now = c.take_from.new.queue.items in
    cancelled_kept c.args.object c.self.inside.next inbox now row row c.self.invariant
    (inbox_left c.args.object c.in-Some.at c.self.inside.next inbox now row c.args.self.now.waiting (ap (λ (v : AgendaView _). v.waiting) c.self.view_is)
    c.keeps.ensures.sorted c.in-Some.ensures.turn c.requires.one c.take_from.ensures.left)

pub returns-in-None-clause-found : goal.returns-in-None-clause-found
returns-in-None-clause-found g c =
    let same = row_count c.args.object c.self.inside.next c.self.inside.inbox.items c.self.inside.sorted c.args.self.now.waiting
    (ap (λ (v : AgendaView _). v.waiting) c.self.view_is) c.in-None.ensures.turn in
    ((λ t. subst (λ n. 0 < n) (sym same) (c.cancel_turn.ensures.found.0 t)), (λ some. c.cancel_turn.ensures.found.1 (subst (λ n. 0 < n) same some)))

pub returns-in-None-clause-left : goal.returns-in-None-clause-left
returns-in-None-clause-left g c =
    let inbox = c.self.inside.inbox.items in
    let row = c.self.inside.sorted in
    let after = c.cancel_turn.new.self in
    cancelled_view c.args.object c.self.inside.next inbox inbox row after c.args.self.now.waiting (ap (λ (v : AgendaView _). v.waiting) c.self.view_is)
    (queues_left c.args.object inbox row after c.keeps.ensures.sorted c.in-None.ensures.turn c.cancel_turn.ensures.left)

pub returns-in-Some-clause-found : goal.returns-in-Some-clause-found
returns-in-Some-clause-found g c = (
  (λ t. inbox_count c.args.object c.in-Some.at c.self.inside.next c.self.inside.inbox.items c.self.inside.sorted c.args.self.now.waiting
      (ap (λ (v : AgendaView _). v.waiting) c.self.view_is) c.in-Some.ensures.turn),
  (λ some. refl),
)

pub returns-in-Some-clause-left : goal.returns-in-Some-clause-left
returns-in-Some-clause-left g c =
    let inbox = c.self.inside.inbox.items in
    let row = c.self.inside.sorted in
    let now = c.take_from.new.queue.items in
    let is = ap (λ (v : AgendaView _). v.waiting) c.self.view_is in
    cancelled_view c.args.object c.self.inside.next inbox now row row c.args.self.now.waiting is
    (inbox_left c.args.object c.in-Some.at c.self.inside.next inbox now row c.args.self.now.waiting is
    c.keeps.ensures.sorted c.in-Some.ensures.turn c.requires.one c.take_from.ensures.left)
