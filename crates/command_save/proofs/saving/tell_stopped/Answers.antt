use Rattle.ncs_machine.specs.Host.{scripts_of}
use Rattle.command_save.proofs.StateLemmas.{end_told}
use Rattle.command_save.proofs.saving.tell_stopped.Goals as goal

pub returns-in-Ok-clause-does : goal.returns-in-Ok-clause-does
returns-in-Ok-clause-does g c = λ tells d p ending.
    end_told (scripts_of c.args.scripts.now) p c.in-Ok.text.items c.tell_limit.result d (g.S.Sink.taken c.args.out.now) (g.S.Sink.taken c.tell_limit.new.out)
    (c.in-Ok.ensures.text p ending) (c.tell_limit.ensures.does tells d)
