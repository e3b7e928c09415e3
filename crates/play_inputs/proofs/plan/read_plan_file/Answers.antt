use Rattle.std.proofs.Common.{Ok}
use Rattle.play_inputs.proofs.ReadLemmas.{plan_read}
use Rattle.play_inputs.proofs.plan.read_plan_file.Goals as goal

pub returns-in-Ok-read_plan-clause-has : goal.returns-in-Ok-read_plan-clause-has
returns-in-Ok-read_plan-clause-has g c = λ files_tell sink_tells.
    plan_read (Ok c.in-Ok-read_plan.plan) (g.F.Files.contents c.args.files.now) c.args.name.now c.in-Ok.bytes c.as_slice.result.now (g.S.Sink.taken c.args.out.now)
    (g.F.Files.contents c.read_file.new.files) (g.S.Sink.taken c.read_file.new.out) c.as_slice.ensures.items (c.in-Ok.ensures.does files_tell sink_tells)
    c.in-Ok-read_plan.ensures.plan

pub returns-in-Ok-read_plan-clause-keeps : goal.returns-in-Ok-read_plan-clause-keeps
returns-in-Ok-read_plan-clause-keeps g c = c.plans_keep.ensures.keep c.as_slice.result.now c.in-Ok-read_plan.plan c.in-Ok-read_plan.ensures.plan
