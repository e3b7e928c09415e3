use Rattle.std.proofs.Common.{◌+◌, ◌∙◌, ap}
use Rattle.engine_table.specs.Turns.{known_of}
use Rattle.engine_table.proofs.KeepLemmas.{free_constant}
use Rattle.engine_table.proofs.HeldLemmas.{constant_counted}
use Rattle.engine_table.proofs.known.Known.define.Goals as goal

pub define-requires-clause-no_routine : goal.define-requires-clause-no_routine
define-requires-clause-no_routine c = free_constant (known_of c.args.self.now) c.args.head c.requires.free

pub returns-clause-counted : goal.returns-clause-counted
returns-clause-counted c =
    constant_counted c.args.self.now.words c.args.self.now c.define.new.self c.hold.new.text (record { name = c.args.head.name; value = c.args.value }) c.define.result
    c.requires.counted (c.in_ok-hold.ensures.held ∙ ap (λ n. c.args.self.now.text + n) c.text_bytes.ensures) c.in_ok-hold.ensures.few c.define.ensures.ok
