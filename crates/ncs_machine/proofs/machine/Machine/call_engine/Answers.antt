use Rattle.std.proofs.Common.{[], sym, ◌∙◌}
use Rattle.ncs_machine.specs.Host.{scripts_of}
use Rattle.ncs_machine.proofs.Calls.{asks_cut, asks_follow, call_case, call_typed, executes_both, executes_follow, on_err}
use Rattle.ncs_machine.proofs.machine.Machine.call_engine.Goals as goal

pub returns-then-executes-clause-called : goal.returns-then-executes-clause-called
returns-then-executes-clause-called g c =
    executes_follow (scripts_of c.args.scripts.now) _ c.args.number c.args.count c.in-Some.routine.now
    c.args.self.now c.take.new.self c.execute_named.new.self c.take.new.args c.args.world.now.world c.execute_named.new.world.world
    (sym c.in-Some.ensures.entry) (sym c.executes.ensures.test ∙ c.if-executes.true) c.requires.case c.in_ok-take-in-Some.ensures.call c.take.ensures.others
    (λ f name target are. c.in_ok-execute_named-in-Some.ensures.executed f name target are)

pub returns-clause-called : goal.returns-clause-called
returns-clause-called g c =
    asks_follow (scripts_of c.args.scripts.now) _ c.args.number c.args.count c.in-Some.routine.now
    c.args.self.now c.take.new.self c.ask.new.self c.take.new.args c.args.world.now.world c.ask.new.world.world
    (sym c.in-Some.ensures.entry) (sym c.executes.ensures.test ∙ c.if-executes.false) c.in_ok-take-in-Some.ensures.call c.take.ensures.others
    c.in_ok-ask-in-Some.ensures.answered

pub returns-in_err-ask-in-Some-clause-cut : goal.returns-in_err-ask-in-Some-clause-cut
returns-in_err-ask-in-Some-clause-cut g c = on_err c.from_residual-in_err-ask-in-Some.result _
    (asks_cut (scripts_of c.args.scripts.now) _ c.args.number c.args.count c.in-Some.routine.now
    c.args.self.now c.take.new.self c.take.new.args c.args.world.now.world c.ask.new.world.world
    (sym c.in-Some.ensures.entry) (sym c.executes.ensures.test ∙ c.if-executes.false) c.in_ok-take-in-Some.ensures.call
    c.in_err-ask-in-Some.ensures.cut)

pub ask-requires-clause-types : goal.ask-requires-clause-types
ask-requires-clause-types g c =
    call_typed (record {
      table = c.args.table.now;
      cell = λ name column row. [];
    }) c.args.number c.args.count c.in-Some.routine.now c.args.self.now.running c.take.new.self.running c.take.new.args
    (sym c.in-Some.ensures.entry) c.in_ok-take-in-Some.ensures.call

pub take-requires-clause-case : goal.take-requires-clause-case
take-requires-clause-case g c =
    call_case c.args.table.now c.args.number c.args.count c.in-Some.routine.now c.args.self.now.running (sym c.in-Some.ensures.entry) c.requires.case

pub execute_named-requires-clause-both : goal.execute_named-requires-clause-both
execute_named-requires-clause-both g c =
    executes_both (record {
      table = c.args.table.now;
      cell = λ name column row. [];
    }) c.args.number c.args.count c.in-Some.routine.now c.args.self.now.running c.take.new.self.running c.take.new.args
    (sym c.in-Some.ensures.entry) (sym c.executes.ensures.test ∙ c.if-executes.true) c.requires.case c.in_ok-take-in-Some.ensures.call
