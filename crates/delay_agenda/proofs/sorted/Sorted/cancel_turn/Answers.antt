use Rattle.std.proofs.Common.{◌≤◌, ◌<◌, subst, sym}
use Rattle.delay_agenda.specs.Queues.{in_row}
use Rattle.delay_agenda.proofs.LineLemmas.{line_count, line_cancelled}
use Rattle.delay_agenda.proofs.sorted.Sorted.cancel_turn.Goals as goal

pub cancel_indexed-requires-clause-one : goal.cancel_indexed-requires-clause-one
cancel_indexed-requires-clause-one g c =
    subst (λ n. n ≤ 1)
    (line_count c.args.object c.self.inside.line.items (in_row c.self.inside.queues.entries) c.args.self.now c.self.view_is (c.self.invariant.bare c.args.object))
    c.requires.one

pub invariant_of-self : goal.invariant_of-self
invariant_of-self g c =
    (line_cancelled c.args.object c.self.inside.line.items c.self.inside.queues.entries c.cancel_indexed.new.queues.entries c.self.inside.turns c.cancel_indexed.new.index
    c.args.self.now c.self.invariant c.self.view_is c.cancel_indexed.ensures.queues c.cancel_indexed.ensures.indexed c.cancel_indexed.ensures.left).1

pub returns-clause-found : goal.returns-clause-found
returns-clause-found g c =
    let same = line_count c.args.object c.self.inside.line.items (in_row c.self.inside.queues.entries) c.args.self.now c.self.view_is (c.self.invariant.bare c.args.object) in
    ((λ t. subst (λ n. 0 < n) (sym same) (c.cancel_indexed.ensures.found.0 t)), (λ some. c.cancel_indexed.ensures.found.1 (subst (λ n. 0 < n) same some)))

pub returns-clause-left : goal.returns-clause-left
returns-clause-left g c =
    (line_cancelled c.args.object c.self.inside.line.items c.self.inside.queues.entries c.cancel_indexed.new.queues.entries c.self.inside.turns c.cancel_indexed.new.index
    c.args.self.now c.self.invariant c.self.view_is c.cancel_indexed.ensures.queues c.cancel_indexed.ensures.indexed c.cancel_indexed.ensures.left).0
