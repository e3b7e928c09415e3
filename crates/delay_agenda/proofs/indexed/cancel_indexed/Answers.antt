use Rattle.std.proofs.Common.{◌∙◌}
use Rattle.delay_agenda.specs.Queues.{in_row}
use Rattle.delay_agenda.proofs.Index.{turn_found, indexed_cancelled}
use Rattle.delay_agenda.proofs.indexed.cancel_indexed.Goals as goal

pub take_at-requires-clause-there : goal.take_at-requires-clause-there
take_at-requires-clause-there g c =
    (turn_found c.args.object c.in-Some.number c.in-Some.due c.args.queues.now.entries c.args.index.now c.requires.queues c.requires.indexed c.in-Some.ensures.turn).0

pub returns-in-Some-clause-indexed : goal.returns-in-Some-clause-indexed
returns-in-Some-clause-indexed g c =
    let found = turn_found c.args.object c.in-Some.number c.in-Some.due c.args.queues.now.entries c.args.index.now c.requires.queues c.requires.indexed c.in-Some.ensures.turn in
    indexed_cancelled c.args.object (in_row c.args.queues.now.entries)
    (in_row c.take_at.new.queues.entries) c.args.index.now c.forget_object.new.index c.requires.indexed c.forget_object.ensures.forgotten
    (c.take_at.ensures.left ∙ found.2 c.requires.one)
