use Rattle.std.proofs.Common.{ℕ, List, sym, subst}
use Rattle.ncs_machine.specs.Host.{scripts_of}
use Rattle.state_format.specs.declared.fault.SaveFault.{SaveFault}
use Rattle.play_save.specs.States.{IsWrittenState, IsLargeState}
use Rattle.command_work.specs.declared.flaw.AreaFlaw.TheVariants as flaw
use Rattle.command_work.specs.Refusal.{BadArea}
use Rattle.command_work.specs.Parts.{Refuses}
use Rattle.command_save.specs.Saves.{IsStateAt}
use Rattle.command_save.proofs.StateLemmas.{at_written, at_large}
use Rattle.command_save.proofs.saving.save_state.Goals as goal

pub returns-in-Ok-clause-does : goal.returns-in-Ok-clause-does
returns-in-Ok-clause-does g c = λ files_tell sink_tells p is.
    let plan = c.args.listed.now.plan.now in
    let scripts = scripts_of c.args.listed.now.scripts.now in
    at_written c.args.header c.args.file plan scripts c.args.name.now p c.as_slice.result.now c.args.broken.played c.args.broken.world.world
    c.write_bytes.result (g.F.Files.contents c.args.files.now) (g.F.Files.contents c.write_bytes.new.files) (g.S.Sink.taken c.args.out.now) (g.S.Sink.taken c.write_bytes.new.out) is
    (subst (λ (bytes : List ℕ). IsWrittenState (IsStateAt c.args.header c.args.file plan scripts p) bytes) (sym c.as_slice.ensures.value) (c.in-Ok.ensures.saved p is))
    (c.write_bytes.ensures.does files_tell sink_tells)

pub returns-in-Err-Large-clause-does : goal.returns-in-Err-Large-clause-does
returns-in-Err-Large-clause-does g c = λ files_tell sink_tells p is.
    let plan = c.args.listed.now.plan.now in
    let scripts = scripts_of c.args.listed.now.scripts.now in
    let told = g.S.Sink.taken c.args.out.now in
    let after = g.S.Sink.taken c.refuse_area.new.out in
    at_large c.args.header c.args.file plan scripts c.args.name.now p c.in-Err-Large.size c.refuse_area.result (g.F.Files.contents c.args.files.now) told after
    (subst (λ (e : SaveFault). IsLargeState (IsStateAt c.args.header c.args.file plan scripts p) e) c.in-Err-Large.field-0-is (c.in-Err-Large.ensures.saved p is))
    (subst (λ (name : List ℕ). Refuses (BadArea name (flaw.Large c.in-Err-Large.size)) told c.refuse_area.result after) c.as_bytes.ensures.value (c.refuse_area.ensures.does sink_tells))
