use Rattle.std.proofs.Common.{◌+◌, ◌∙◌, ap}
use Rattle.engine_table.specs.Turns.{known_of}
use Rattle.engine_table.proofs.KeepLemmas.{free_function}
use Rattle.engine_table.specs.Held.{params_held}
use Rattle.engine_table.proofs.HeldLemmas.{routine_counted}
use Rattle.engine_table.proofs.known.Known.declare_function.Goals as goal

pub push-requires-clause-no_routine : goal.push-requires-clause-no_routine
push-requires-clause-no_routine c = (free_function (known_of c.args.self.now) c.args.function.head c.requires.open.free).routine

pub push-requires-clause-no_constant : goal.push-requires-clause-no_constant
push-requires-clause-no_constant c = (free_function (known_of c.args.self.now) c.args.function.head c.requires.open.free).constant

pub push-requires-clause-room : goal.push-requires-clause-room
push-requires-clause-room c = (free_function (known_of c.args.self.now) c.args.function.head c.requires.open.free).room

pub returns-clause-counted : goal.returns-clause-counted
returns-clause-counted c =
    routine_counted c.args.self.now.words c.args.self.now c.push.new.self c.hold_defaults.new.text
    (record { name = c.args.function.head.name; result = c.args.function.head.ty; params = c.args.function.params; role = c.role_of-role.result }) c.push.result
    c.requires.counted (c.in_ok-hold_defaults.ensures.held ∙ ap (λ ps. c.args.self.now.text + params_held ps) c.as_slice.ensures.items) c.in_ok-hold_defaults.ensures.few c.push.ensures.ok
