use Rattle.std.proofs.Common.{ap, ◌∙◌, length}
use Rattle.delay_agenda.proofs.DueLemmas.{long_of, empty_test}
use Rattle.delay_agenda.proofs.due_queue.DueQueue.is_empty.Goals as goal

pub returns : goal.returns
returns g c = record {
  test = empty_test c.len.result c.args.self.now (c.len.ensures.len ∙ long_of c.self.inside.due c.self.inside.kinds.items ∙ ap length c.self.view_is);
}
