use Rattle.std.proofs.Common.{subst, sym}
use Rattle.ncs_machine.specs.Settings.{FitIn}
use Rattle.save_tests.proofs.Quiet.{rests}
use Rattle.save_tests.proofs.going.go_on_from.Goals as goal

pub go_on_by-played-requires-clause-fit : goal.go_on_by-played-requires-clause-fit
go_on_by-played-requires-clause-fit g c = subst (λ s. FitIn s c.in-Ok.opened.world.world) (sym c.of-setting.ensures.setting) c.in-Ok.ensures.fit

pub go_on_by-played-requires-clause-quiet : goal.go_on_by-played-requires-clause-quiet
go_on_by-played-requires-clause-quiet g c = rests c.args.state c.in-Ok.opened.world.world c.in-Ok.ensures.world
