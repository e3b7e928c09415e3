use Rattle.hook_table.specs.InHooks.{known_by}
use Rattle.world_core.specs.Calls.{cells_of}
use Rattle.command_save.proofs.RestOfLemmas.{may_go_on, opened_does}
use Rattle.command_save.proofs.resume.resume_state.Goals as goal

pub play_rest-requires-clause-opened : goal.play_rest-requires-clause-opened
play_rest-requires-clause-opened g c =
    may_go_on c.args.state c.in-Ok.opened c.keeps.ensures.accepted c.in-Ok.ensures.play c.in-Ok.ensures.come c.in-Ok.ensures.world c.in-Ok.ensures.few c.in-Ok.ensures.meets c.in-Ok.ensures.fit

pub returns-in-Ok-clause-does : goal.returns-in-Ok-clause-does
returns-in-Ok-clause-does g c = λ files_tell sink_tells.
    opened_does (cells_of (known_by c.args.hooks.now)) c.args.to.now c.args.state c.in-Ok.opened c.in-Ok.ensures.play c.in-Ok.ensures.come c.play_rest.result
    (g.F.Files.contents c.args.files.now) (g.F.Files.contents c.play_rest.new.files) (g.S.Sink.taken c.args.out.now) (g.S.Sink.taken c.play_rest.new.out) c.in-Ok.ensures.header
    c.in-Ok.ensures.world c.in-Ok.ensures.code (c.play_rest.ensures.does files_tell sink_tells)
