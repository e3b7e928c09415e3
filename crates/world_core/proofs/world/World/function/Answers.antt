use Rattle.world_rules.specs.AlikeLaws.{call}
use Rattle.hook_table.specs.InHooks.{known_by}
use Rattle.world_core.specs.Calls.{cells_of}
use Rattle.world_core.proofs.WorldLemmas.{function_answers}
use Rattle.world_core.proofs.world.World.function.Goals as goal

pub returns : goal.returns
returns g c = record {
  ok = λ caller action.
      function_answers c.pure_call.result c.args.table.now (cells_of (known_by c.args.hooks.now)) c.args.number c.args.k c.args.routine.now
      (call caller c.args.args.now action) c.args.self.now.world c.requires.listed c.requires.role c.pure_call.ensures.value;
}
