use Rattle.delay_agenda.specs.Queues.{in_row}
use Rattle.delay_agenda.proofs.LineLemmas.{line_head, queues_head}
use Rattle.delay_agenda.proofs.sorted.Sorted.first.Goals as goal

pub returns-then-line_is_first : goal.returns-then-line_is_first
returns-then-line_is_first g c = record {
  first =
      line_head c.self.inside.line.items (in_row c.self.inside.queues.entries) c.args.self.now c.index-first.result.now c.self.view_is
      c.if-line_is_first.ensures.first c.index-first.ensures;
}

pub returns : goal.returns
returns g c = record {
  first =
      queues_head c.first_of.result c.self.inside.line.items (in_row c.self.inside.queues.entries) c.args.self.now c.self.view_is
      c.if-line_is_first.ensures.first c.first_of.ensures.first;
}
