use Rattle.delay_agenda.proofs.LineLemmas.{lined_sorted}
use Rattle.delay_agenda.proofs.sorted.Sorted.keeps.Goals as goal

pub returns : goal.returns
returns g c =
    record { sorted = lined_sorted c.self.inside.line.items c.self.inside.queues.entries c.self.inside.turns c.args.self.now c.self.invariant c.self.view_is }
