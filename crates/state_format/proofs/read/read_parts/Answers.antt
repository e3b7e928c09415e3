use Rattle.std.proofs.Common.{arith}
use Rattle.state_format.specs.Parts.{AreStateBytes}
use Rattle.state_format.proofs.StateLaws.{state_sound, state_stops, state_left, are_bytes}
use Rattle.state_format.proofs.read.read_parts.Goals as goal

pub overflow_sub-result : goal.overflow_sub-result
overflow_sub-result c =
    let h : AreStateBytes c.args.bytes.now = are_bytes c.args.bytes.now (λ k. omega (arith, c.type_inv.bytes k)) in
    state_left c.args.bytes.now c.in-Err-Left.left h (rw c.in-Err-Left.field-0-is at c.in-Err-Left.ensures.read)

pub returns-in-Ok : goal.returns-in-Ok
returns-in-Ok c =
    let h : AreStateBytes c.args.bytes.now = are_bytes c.args.bytes.now (λ k. omega (arith, c.type_inv.bytes k)) in
    record { exact = state_sound c.args.bytes.now c.in-Ok.parts h c.in-Ok.ensures.read }

pub returns-in-Err-Left : goal.returns-in-Err-Left
returns-in-Err-Left c =
    let h : AreStateBytes c.args.bytes.now = are_bytes c.args.bytes.now (λ k. omega (arith, c.type_inv.bytes k)) in
    record { exact = state_stops c.args.bytes.now c.in-Err-Left.left h (rw c.in-Err-Left.field-0-is at c.in-Err-Left.ensures.read) }
