use Rattle.std.proofs.Common.{ap}
use Rattle.delay_agenda.specs.Waiting.{AgendaView}
use Rattle.delay_agenda.proofs.Placing.{inbox_taken, queues_taken}
use Rattle.delay_agenda.proofs.Kept.{inbox_kept, queues_kept, left_view, taken_view, least_view}
use Rattle.delay_agenda.proofs.agenda.Agenda.take.Goals as goal

pub invariant_of-self : goal.invariant_of-self
invariant_of-self g c =
    inbox_kept c.in-Some.at c.self.inside.next c.self.inside.inbox.items c.take_from.new.queue.items c.self.inside.sorted c.self.invariant
    c.in-Some.ensures.first c.take_from.ensures.left

pub invariant_of-self-in-None : goal.invariant_of-self-in-None
invariant_of-self-in-None g c =
    queues_kept c.self.inside.next c.self.inside.inbox.items c.self.inside.sorted c.take.new.self c.self.invariant
    c.in-None.ensures.first c.take.ensures.left

pub returns-in-Some-clause-taken : goal.returns-in-Some-clause-taken
returns-in-Some-clause-taken g c =
    let inbox = c.self.inside.inbox.items in
    let row = c.self.inside.sorted in
    let all = inbox_taken c.in-Some.at inbox row c.take_from.new.queue.items c.in-Some.ensures.first c.take_from.ensures.left in
    taken_view inbox row c.self.inside.next c.args.self.now.waiting c.take_from.result _ (ap (λ (v : AgendaView _). v.waiting) c.self.view_is)
    c.take_from.ensures.entry all.0

pub returns-in-Some-clause-left : goal.returns-in-Some-clause-left
returns-in-Some-clause-left g c =
    let inbox = c.self.inside.inbox.items in
    let row = c.self.inside.sorted in
    let all = inbox_taken c.in-Some.at inbox row c.take_from.new.queue.items c.in-Some.ensures.first c.take_from.ensures.left in
    left_view inbox c.take_from.new.queue.items row row c.self.inside.next c.args.self.now.waiting
    (ap (λ (v : AgendaView _). v.waiting) c.self.view_is) all.1

pub returns-in-Some-clause-least : goal.returns-in-Some-clause-least
returns-in-Some-clause-least g c =
    let inbox = c.self.inside.inbox.items in
    let row = c.self.inside.sorted in
    let is = ap (λ (v : AgendaView _). v.waiting) c.self.view_is in
    let all = inbox_taken c.in-Some.at inbox row c.take_from.new.queue.items c.in-Some.ensures.first c.take_from.ensures.left in
    least_view inbox row c.self.inside.next c.args.self.now.waiting c.take_from.result is c.self.invariant
    (taken_view inbox row c.self.inside.next c.args.self.now.waiting c.take_from.result _ is c.take_from.ensures.entry all.0)

pub returns-in-None-clause-taken : goal.returns-in-None-clause-taken
returns-in-None-clause-taken g c =
    let inbox = c.self.inside.inbox.items in
    let row = c.self.inside.sorted in
    let all = queues_taken inbox row c.take.new.self c.in-None.ensures.first c.take.ensures.left in
    taken_view inbox row c.self.inside.next c.args.self.now.waiting c.take.result _ (ap (λ (v : AgendaView _). v.waiting) c.self.view_is)
    c.take.ensures.entry all.0

pub returns-in-None-clause-left : goal.returns-in-None-clause-left
returns-in-None-clause-left g c =
    let inbox = c.self.inside.inbox.items in
    let row = c.self.inside.sorted in
    let after = c.take.new.self in
    let all = queues_taken inbox row after c.in-None.ensures.first c.take.ensures.left in
    left_view inbox inbox row after c.self.inside.next c.args.self.now.waiting (ap (λ (v : AgendaView _). v.waiting) c.self.view_is) all.1

pub returns-in-None-clause-least : goal.returns-in-None-clause-least
returns-in-None-clause-least g c =
    let inbox = c.self.inside.inbox.items in
    let row = c.self.inside.sorted in
    let is = ap (λ (v : AgendaView _). v.waiting) c.self.view_is in
    let all = queues_taken inbox row c.take.new.self c.in-None.ensures.first c.take.ensures.left in
    least_view inbox row c.self.inside.next c.args.self.now.waiting c.take.result is c.self.invariant
    (taken_view inbox row c.self.inside.next c.args.self.now.waiting c.take.result _ is c.take.ensures.entry all.0)
