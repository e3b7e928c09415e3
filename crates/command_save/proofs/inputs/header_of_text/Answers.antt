use Rattle.std.proofs.Common.{ℕ, List, Ok, subst}
use Rattle.nwq_value.specs.Engine.{EngineTable}
use Rattle.command_work.specs.Work.{Does, Gives}
use Rattle.command_work.specs.Parts.{then_ok}
use Rattle.command_work.specs.Comes.{gives_does}
use Rattle.command_sources.specs.Headers.{table_in}
use Rattle.command_save.specs.Inputs.{header_file}
use Rattle.command_save.proofs.inputs.header_of_text.Goals as goal

pub returns-in-Ok-clause-does : goal.returns-in-Ok-clause-does
unfolding Rattle.command_save.specs.Inputs.header_in
returns-in-Ok-clause-does g c = λ tells d.
    then_ok (table_in c.args.name.now c.args.text) (λ (table : EngineTable). Gives (header_file c.args.text table)) c.in-Ok.table d d d
    (g.S.Sink.taken c.args.out.now) (g.S.Sink.taken c.table_of_text.new.out) (g.S.Sink.taken c.table_of_text.new.out)
    (Ok (header_file c.args.text c.in-Ok.table))
    (subst (λ (text : List ℕ). Does (table_in c.args.name.now text) d (g.S.Sink.taken c.args.out.now)
    (Ok c.in-Ok.table) d (g.S.Sink.taken c.table_of_text.new.out))
    c.as_slice.ensures.items (c.in-Ok.ensures.does tells d))
    (gives_does (header_file c.args.text c.in-Ok.table) d (g.S.Sink.taken c.table_of_text.new.out))
