use Rattle.std.proofs.Common.{arith, Some, slice_get, subst, sym, ap, ◌+◌, ◌∙◌}
use Rattle.hook_table.specs.InHooks.{known_by}
use Rattle.ncs_machine.specs.Host.{engine_view, scripts_of, tables_of}
use Rattle.ncs_machine.specs.Steps.{KeepsFrames, Remains, Stays, next_of, state}
use Rattle.ncs_machine.proofs.Typed.{answers_typed}
use Rattle.ncs_machine.proofs.Running.{cut_short, divided_last, divided_run, ended_run, goes_on, run_begins, steps_well, still_listed, stopped_last, stopped_run}
use Rattle.ncs_machine.proofs.entry.run_machine.Goals.{in-Enters, in-Goes}
use Rattle.ncs_machine.proofs.entry.run_machine.Goals as goal

pub script-script-requires : goal.script-script-requires
script-script-requires g c = record {
  listed = still_listed c.args.scripts.now
      (engine_view c.args.table.now (known_by c.args.hooks.now))
      (tables_of c.args.scripts.now) c.args.limit
      (state c.args.machine.now c.args.world.now.world) 0 c.args.machine.now c.args.world.now.world
      (run_begins (scripts_of c.args.scripts.now) _ (tables_of c.args.scripts.now) c.args.limit c.args.machine.now c.args.world.now.world
      c.steps_are_safe.ensures.steps c.calls_keep_worlds.ensures.engine c.calls_keep_worlds.ensures.no_script c.calls_keep_worlds.ensures.too_deep
      c.tables_type_execute_script.ensures.typed c.keeps-2.ensures.table c.keeps.ensures.kept c.requires.set.checked.meets
      (answers_typed _ c.answers_have_types.ensures.typed c.keeps-2.ensures.table)
      c.requires.begins.safe c.requires.begins.alone c.requires.runs.caller);
}

pub loop-done-init : goal.loop-done-init
loop-done-init g c = record {
  running = run_begins (scripts_of c.args.scripts.now) _ (tables_of c.args.scripts.now) c.args.limit c.args.machine.now c.args.world.now.world
      c.steps_are_safe.ensures.steps c.calls_keep_worlds.ensures.engine c.calls_keep_worlds.ensures.no_script c.calls_keep_worlds.ensures.too_deep
      c.tables_type_execute_script.ensures.typed c.keeps-2.ensures.table c.keeps.ensures.kept c.requires.set.checked.meets
      (answers_typed _ c.answers_have_types.ensures.typed c.keeps-2.ensures.table)
      c.requires.begins.safe c.requires.begins.alone c.requires.runs.caller;
  script = c.script-script.ensures.script;
  own = c.own-own.ensures.own;
  room = omega arith;
}

pub step-requires-clause-well : goal.step-requires-clause-well
step-requires-clause-well g c =
    steps_well (scripts_of c.args.scripts.now) _ (tables_of c.args.scripts.now) c.args.limit
    (state c.args.machine.now c.args.world.now.world) c.loop-done.done (state c.loop-done.machine c.loop-done.world.world) c.loop-done.invariant.running

pub returns-in-Err-clause-cut : goal.returns-in-Err-clause-cut
returns-in-Err-clause-cut g c =
    cut_short (scripts_of c.args.scripts.now) _ (tables_of c.args.scripts.now) c.args.limit (state c.args.machine.now c.args.world.now.world)
    c.loop-done.done c.loop-done.own (state c.loop-done.machine c.loop-done.world.world) c.step.new.world.world
    c.loop-done.invariant.running c.loop-done.invariant.own c.in-Err.ensures.cut

pub returns-in-Ends-clause-run : goal.returns-in-Ends-clause-run
returns-in-Ends-clause-run g c =
    ended_run (scripts_of c.args.scripts.now) _ (tables_of c.args.scripts.now) c.args.limit c.loop-done.machine c.args.machine.now c.args.world.now.world c.loop-done.world.world c.step.new.world.world
    c.loop-done.done c.loop-done.own c.loop-done.invariant.running c.loop-done-test.true
    (c.in-Ok.ensures.next ∙ ap (λ n. Some (next_of n (state c.step.new.self c.step.new.world.world))) c.in-Ends.is)
    c.loop-done.invariant.own
    (subst (λ n. Stays n c.loop-done.world.world c.step.new.world.world) c.in-Ends.is c.in-Ok.ensures.stays)

pub returns-in-Divides-clause-run : goal.returns-in-Divides-clause-run
returns-in-Divides-clause-run g c =
    divided_run (scripts_of c.args.scripts.now) _
    (tables_of c.args.scripts.now) c.args.limit c.loop-done.machine c.args.machine.now c.args.world.now.world c.loop-done.world.world c.step.new.world.world
    c.loop-done.done c.loop-done.own c.loop-done.invariant.running c.loop-done-test.true
    (c.in-Ok.ensures.next ∙ ap (λ n. Some (next_of n (state c.step.new.self c.step.new.world.world))) c.in-Divides.is)
    c.loop-done.invariant.own
    (subst (λ n. Stays n c.loop-done.world.world c.step.new.world.world) c.in-Divides.is c.in-Ok.ensures.stays)

pub returns-in-Divides-clause-last : goal.returns-in-Divides-clause-last
returns-in-Divides-clause-last g c =
    divided_last (scripts_of c.args.scripts.now) _
    (tables_of c.args.scripts.now) c.args.limit c.loop-done.machine c.step.new.self c.args.machine.now c.args.world.now.world c.loop-done.world.world c.step.new.world.world
    c.loop-done.done c.loop-done.invariant.running c.loop-done-test.true
    (c.in-Ok.ensures.next ∙ ap (λ n. Some (next_of n (state c.step.new.self c.step.new.world.world))) c.in-Divides.is)
    (subst (λ n. KeepsFrames n c.loop-done.machine c.step.new.self) c.in-Divides.is c.in-Ok.ensures.frames)
    (subst (λ n. Stays n c.loop-done.world.world c.step.new.world.world) c.in-Divides.is c.in-Ok.ensures.stays)

pub script-script-requires-in-Enters : goal.script-script-requires-in-Enters
script-script-requires-in-Enters g c = record {
  listed = still_listed c.args.scripts.now _ (tables_of c.args.scripts.now) c.args.limit (state c.args.machine.now c.args.world.now.world)
      (c.loop-done.done + 1) c.step.new.self c.step.new.world.world
      (goes_on (scripts_of c.args.scripts.now) _ (tables_of c.args.scripts.now) c.args.limit (state c.args.machine.now c.args.world.now.world)
      c.loop-done.done (state c.loop-done.machine c.loop-done.world.world) (state c.step.new.self c.step.new.world.world) c.loop-done.invariant.running c.loop-done-test.true
      (c.in-Ok.ensures.next ∙ ap (λ n. Some (next_of n (state c.step.new.self c.step.new.world.world))) c.in-Enters.is));
}

pub loop-done-preserved : goal.loop-done-preserved
loop-done-preserved g c =
    elim c.match-next.branch [
      | in-Goes w ↦ record {
        running = goes_on (scripts_of c.args.scripts.now) _ (tables_of c.args.scripts.now) c.args.limit (state c.args.machine.now c.args.world.now.world)
            c.loop-done.done (state c.loop-done.machine c.loop-done.world.world) (state c.step.new.self c.step.new.world.world) c.loop-done.invariant.running c.loop-done-test.true
            (c.in-Ok.ensures.next ∙ ap (λ n. Some (next_of n (state c.step.new.self c.step.new.world.world))) w.in-Goes.is);
        script = ap (slice_get c.args.scripts.now) (subst (λ n. Remains n c.loop-done.machine.running.script c.step.new.self.running.script) w.in-Goes.is c.in-Ok.ensures.remains)
            ∙ c.loop-done.invariant.script ∙ sym (ap (λ r. Some r.now) w.script-is);
        own = w.own-is ∙ c.loop-done.invariant.own
            ∙ sym (subst (λ n. Remains n c.loop-done.machine.running.self c.step.new.self.running.self) w.in-Goes.is c.in-Ok.ensures.own);
        room = omega (arith, c.loop-done.invariant.room, c.step.ensures.room);
      }
      | in-Enters w ↦ record {
        running = goes_on (scripts_of c.args.scripts.now) _ (tables_of c.args.scripts.now) c.args.limit (state c.args.machine.now c.args.world.now.world)
            c.loop-done.done (state c.loop-done.machine c.loop-done.world.world) (state c.step.new.self c.step.new.world.world) c.loop-done.invariant.running c.loop-done-test.true
            (c.in-Ok.ensures.next ∙ ap (λ n. Some (next_of n (state c.step.new.self c.step.new.world.world))) w.in-Enters.is);
        script = w.script-script-in-Enters.ensures.script ∙ sym (ap (λ r. Some r.now) w.script-is);
        own = w.own-is ∙ w.own-own-in-Enters.ensures.own;
        room = omega (arith, c.loop-done.invariant.room, c.step.ensures.room);
      }
    ]

pub returns-clause-run : goal.returns-clause-run
returns-clause-run g c =
    stopped_run (scripts_of c.args.scripts.now) _ (tables_of c.args.scripts.now) c.args.limit c.loop-done.machine c.args.machine.now c.args.world.now.world c.loop-done.world.world
    c.loop-done.done c.loop-done.own c.loop-done.invariant.running (omega (arith, c.loop-done-test.false, c.loop-done.auto)) c.loop-done.invariant.own

pub returns-clause-last : goal.returns-clause-last
returns-clause-last g c =
    stopped_last (scripts_of c.args.scripts.now) _ (tables_of c.args.scripts.now) c.args.limit c.loop-done.machine c.args.machine.now c.args.world.now.world c.loop-done.world.world
    c.loop-done.done c.loop-done.invariant.running (omega (arith, c.loop-done-test.false, c.loop-done.auto))
