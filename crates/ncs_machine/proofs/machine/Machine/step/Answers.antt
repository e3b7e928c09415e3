use Rattle.std.proofs.Common.{◌≡◌, ◌≢◌, None, subst, sym}
use Rattle.std.specs.Prelude.{IfSome}
use Rattle.ncs_code.specs.File.{op_at}
use Rattle.decoded_code.specs.Steps.{kept, op_of}
use Rattle.ncs_machine.specs.Steps.{next_of, state}
use Rattle.ncs_machine.proofs.Stepping.{begins_here, decoded_case, decoded_cut, decoded_deep, decoded_next, decoded_small, next_is}
use Rattle.ncs_machine.proofs.Calls.{on_err}
use Rattle.ncs_machine.proofs.machine.Machine.step.Goals as goal

pub step_at-decoded-requires : goal.step_at-decoded-requires
step_at-decoded-requires g c =
    let l = c.args.script.now in
    let listed = c.requires.script in
    record {
      begins = subst (λ n. op_at l.code.code n ≢ None) (sym c.place.ensures.place)
          (begins_here c.args.scripts.now _ c.args.self.now c.args.world.now.world l listed c.requires.well);
    }

pub act-requires : goal.act-requires
act-requires g c =
    let l = c.args.script.now in
    let listed = c.requires.script in
    let some = begins_here c.args.scripts.now _ c.args.self.now c.args.world.now.world l listed c.requires.well in
    let there = subst (λ n. IfSome (op_at l.code.code n) (λ op. op_of c.step_at-decoded.result.now ≡ kept op)) c.place.ensures.place c.step_at-decoded.ensures.step in
    let next = next_is l c.args.self.now.running.place c.step_at-decoded.result.now some there in
    record {
      few = c.requires.few;
      early = c.requires.early;
      caller = c.requires.caller;
      hooks = c.requires.hooks;
      case = decoded_case c.args.scripts.now _ c.args.self.now c.args.world.now.world l c.step_at-decoded.result.now listed next c.requires.well;
      deep = λ f moves. decoded_deep c.args.scripts.now _ c.args.self.now c.args.world.now.world l c.step_at-decoded.result.now f listed next c.requires.well moves;
      small = decoded_small c.place_laws.ensures.places l c.args.self.now.running.place c.step_at-decoded.result.now c.sound.ensures.code next;
    }

pub returns-clause-next : goal.returns-clause-next
returns-clause-next g c =
    let l = c.args.script.now in
    let listed = c.requires.script in
    let some = begins_here c.args.scripts.now _ c.args.self.now c.args.world.now.world l listed c.requires.well in
    let there = subst (λ n. IfSome (op_at l.code.code n) (λ op. op_of c.step_at-decoded.result.now ≡ kept op)) c.place.ensures.place c.step_at-decoded.ensures.step in
    let next = next_is l c.args.self.now.running.place c.step_at-decoded.result.now some there in
    decoded_next c.args.scripts.now _ c.args.self.now c.args.world.now.world l c.step_at-decoded.result.now
    (next_of c.in_ok-next.next (state c.act.new.self c.act.new.world.world)) listed next c.requires.well c.in_ok-next.ensures.next

pub returns-in_err-next-clause-cut : goal.returns-in_err-next-clause-cut
returns-in_err-next-clause-cut g c =
    let l = c.args.script.now in
    let listed = c.requires.script in
    let some = begins_here c.args.scripts.now _ c.args.self.now c.args.world.now.world l listed c.requires.well in
    let there = subst (λ n. IfSome (op_at l.code.code n) (λ op. op_of c.step_at-decoded.result.now ≡ kept op)) c.place.ensures.place c.step_at-decoded.ensures.step in
    let next = next_is l c.args.self.now.running.place c.step_at-decoded.result.now some there in
    on_err c.from_residual.result _
    (decoded_cut c.args.scripts.now _ c.args.self.now c.args.world.now.world c.act.new.world.world l c.step_at-decoded.result.now listed next c.in_err-next.ensures.cut)
