use Rattle.command_save.proofs.FateLemmas.{state_stops}
use Rattle.command_save.proofs.resume.state_of_bytes.Goals as goal

pub returns-in-Err-Place-clause-does : goal.returns-in-Err-Place-clause-does
returns-in-Err-Place-clause-does g c = λ tells d.
    state_stops c.args.name.now c.args.bytes.now d c.in-Err-Place.at c.refuse_area.result (g.S.Sink.taken c.args.out.now) (g.S.Sink.taken c.refuse_area.new.out)
    (rw c.in-Err-Place.field-0-is at c.in-Err-Place.ensures.refused) (c.refuse_area.ensures.does tells)
