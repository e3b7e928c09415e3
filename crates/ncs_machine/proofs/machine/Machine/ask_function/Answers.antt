use Rattle.std.proofs.Common.{reverse}
use Rattle.hook_table.specs.InHooks.{known_by}
use Rattle.ncs_machine.specs.Host.{engine_answer, engine_view}
use Rattle.ncs_machine.proofs.Calls.{lent_given, lent_none}
use Rattle.ncs_machine.proofs.machine.Machine.ask_function.Goals as goal

pub returns-in-None : goal.returns-in-None
returns-in-None g c = record {
  answered = λ action.
      lent_none (engine_answer (engine_view c.args.table.now (known_by c.args.hooks.now)) c.args.n c.args.self.now.running.self c.args.values.now action c.args.world.now.world)
      c.args.self.now c.args.world.now.world c.in_ok-function.field-0 (c.in_ok-function.ensures.ok c.args.self.now.running.self action) c.in-None.is;
}

pub returns-in-Some : goal.returns-in-Some
returns-in-Some g c = record {
  answered = λ action.
      lent_given c.give.result
      (engine_answer (engine_view c.args.table.now (known_by c.args.hooks.now)) c.args.n c.args.self.now.running.self c.args.values.now action c.args.world.now.world)
      c.args.self.now (record { running = c.self.inside.running; waiting = reverse c.self.inside.waiting.items }) c.give.new.self c.args.world.now.world
      c.in_ok-function.field-0 c.in-Some.value (c.in_ok-function.ensures.ok c.args.self.now.running.self action) c.in-Some.is c.self.view_is c.give.ensures.given;
}
