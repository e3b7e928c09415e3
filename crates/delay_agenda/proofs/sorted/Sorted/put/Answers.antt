use Rattle.delay_agenda.specs.Queues.{in_row}
use Rattle.delay_agenda.proofs.LineLemmas.{line_put, queues_put, new_row}
use Rattle.delay_agenda.proofs.sorted.Sorted.put.Goals as goal

pub invariant_of-self : goal.invariant_of-self
invariant_of-self g c =
    (line_put c.push_back.result c.self.inside.line.items c.push_back.new.self.items c.self.inside.queues.entries c.self.inside.turns c.args.self.now c.args.entry c.self.invariant c.self.view_is
    c.requires.new (c.goes_behind.ensures.behind c.if-goes_behind.true) (c.goes_behind.ensures.bare c.if-goes_behind.true) c.push_back.ensures.items).2

pub returns-then-goes_behind-clause-ok : goal.returns-then-goes_behind-clause-ok
returns-then-goes_behind-clause-ok g c =
    (line_put c.push_back.result c.self.inside.line.items c.push_back.new.self.items c.self.inside.queues.entries c.self.inside.turns c.args.self.now c.args.entry c.self.invariant c.self.view_is
    c.requires.new (c.goes_behind.ensures.behind c.if-goes_behind.true) (c.goes_behind.ensures.bare c.if-goes_behind.true) c.push_back.ensures.items).0

pub put_indexed-requires-clause-new : goal.put_indexed-requires-clause-new
put_indexed-requires-clause-new g c =
    new_row c.args.entry.number c.self.inside.line.items (in_row c.self.inside.queues.entries) c.args.self.now c.self.view_is c.requires.new

pub returns-clause-ok : goal.returns-clause-ok
returns-clause-ok g c =
    (queues_put c.put_indexed.result c.self.inside.line.items c.self.inside.queues.entries c.put_indexed.new.queues.entries c.self.inside.turns c.put_indexed.new.index c.args.self.now c.args.entry
    c.self.invariant c.self.view_is c.requires.new c.put_indexed.ensures.queues c.put_indexed.ensures.indexed c.put_indexed.ensures.ok c.put_indexed.ensures.err).0

pub invariant_of-self-2 : goal.invariant_of-self-2
invariant_of-self-2 g c =
    (queues_put c.put_indexed.result c.self.inside.line.items c.self.inside.queues.entries c.put_indexed.new.queues.entries c.self.inside.turns c.put_indexed.new.index c.args.self.now c.args.entry
    c.self.invariant c.self.view_is c.requires.new c.put_indexed.ensures.queues c.put_indexed.ensures.indexed c.put_indexed.ensures.ok c.put_indexed.ensures.err).2
