use Rattle.std.proofs.Common.{ℕ, List, Ok, subst}
use Rattle.area_rules.specs.Area.{PlainArea}
use Rattle.command_work.specs.Work.{Does, Gives}
use Rattle.command_work.specs.Parts.{then_ok}
use Rattle.command_work.specs.Comes.{gives_does}
use Rattle.play_inputs.specs.Areas.{area_of_bytes}
use Rattle.command_save.specs.Inputs.{area_file}
use Rattle.command_save.proofs.inputs.area_with.Goals as goal

pub returns-in-Ok-clause-does : goal.returns-in-Ok-clause-does
unfolding Rattle.command_save.specs.Inputs.area_in
returns-in-Ok-clause-does g c = λ tells d.
    then_ok (area_of_bytes c.args.name.now c.args.bytes) (λ (area : PlainArea). Gives (area_file c.args.bytes area)) c.in-Ok.area d d d
    (g.S.Sink.taken c.args.out.now) (g.S.Sink.taken c.area_of_bytes.new.out) (g.S.Sink.taken c.area_of_bytes.new.out)
    (Ok (area_file c.args.bytes c.in-Ok.area))
    (subst (λ (bytes : List ℕ). Does (area_of_bytes c.args.name.now bytes) d (g.S.Sink.taken c.args.out.now)
    (Ok c.in-Ok.area) d (g.S.Sink.taken c.area_of_bytes.new.out))
    c.as_slice.ensures.items (c.in-Ok.ensures.does tells d))
    (gives_does (area_file c.args.bytes c.in-Ok.area) d (g.S.Sink.taken c.area_of_bytes.new.out))
