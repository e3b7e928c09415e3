use Rattle.std.proofs.Common.{subst}
use Rattle.state_format.specs.declared.parts.Parts.{Parts}
use Rattle.play_save.specs.Breaking.{BreaksFirst}
use Rattle.play_save.proofs.Opening.{memory_only}
use Rattle.play_save.proofs.state.read_state.Goals as goal

pub returns-in-Err-clause-only : goal.returns-in-Err-clause-only
returns-in-Err-clause-only c =
    λ s of accepted. memory_only s c.in-Err.fault accepted
    (subst (λ (x : Parts). BreaksFirst x c.in-Err.fault) (c.one_state.ensures.one c.args.bytes.now c.in-Ok.parts s c.in-Ok.ensures.exact of) c.in-Err.ensures.kept)

pub returns-in-Ok-test_parts-clause-only : goal.returns-in-Ok-test_parts-clause-only
returns-in-Ok-test_parts-clause-only c = λ s of accepted. c.one_state.ensures.one c.args.bytes.now c.in-Ok.parts s c.in-Ok.ensures.exact of
