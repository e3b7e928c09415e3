use Rattle.std.proofs.Common.{◌∙◌, ◌≡◌, ◌++◌, ◌+◌, ap, sym, arith, List, ℕ, get_or, Option, None}
use Rattle.std.specs.Prelude.{unwrap_or}
use Rattle.ncs_code.specs.File.{file_length}
use Rattle.ncs_emit.specs.Labelled.{program}
use Rattle.ncs_emit.specs.Emitting.{kept_total, kept_place, lines_of}
use Rattle.ncs_emit.proofs.Lines.{labels_made}
use Rattle.ncs_emit.proofs.Putting.{length_program, file_is}
use Rattle.ncs_emit.proofs.Standing.{file_size}
use Rattle.ncs_emit.proofs.emitter.Emitter.finish.Goals as goal

pub returns-then-size-clause-fault : goal.returns-then-size-clause-fault
returns-then-size-clause-fault c = (c.size-size.ensures ∙ file_size c.self.inside.tally ∙ ap (λ d. file_length (program d.lines)) c.self.view_is, omega (arith, c.if-size.true))

pub places_of-requires-clause-bounded : goal.places_of-requires-clause-bounded
places_of-requires-clause-bounded c =
    let whole = c.self.invariant.whole (omega (arith, c.size-size.ensures, c.if-size.false)) in
    let size = length_program _ _ _ _ whole.fits whole.same in
    omega (arith, size, file_size c.self.inside.tally, ap kept_total c.as_slice.ensures.value, c.size-size.ensures, c.if-size.false)

pub places_of-requires-clause-labelled : goal.places_of-requires-clause-labelled
places_of-requires-clause-labelled c =
    let whole = c.self.invariant.whole (omega (arith, c.size-size.ensures, c.if-size.false)) in
    rw (c.as_slice.ensures.value, c.len.ensures, c.self.inside.placed.ok.0) (labels_made _ _ _ whole.fits)

pub put_lines-requires-clause-whole : goal.put_lines-requires-clause-whole
put_lines-requires-clause-whole c =
    let whole = c.self.invariant.whole (omega (arith, c.size-size.ensures, c.if-size.false)) in
    let size = length_program _ _ _ _ whole.fits whole.same in
    omega (arith, size, file_size c.self.inside.tally, ap kept_total c.as_slice-3.ensures.value, c.size-size.ensures)

pub put_lines-requires-clause-placed : goal.put_lines-requires-clause-placed
put_lines-requires-clause-placed c =
    let whole = c.self.invariant.whole (omega (arith, c.size-size.ensures, c.if-size.false)) in
    let long = length_program _ _ _ _ whole.fits whole.same in
    let size : c.size-size.result ≡ 13 + kept_total c.as_slice.result.now = omega (arith, long, file_size c.self.inside.tally, ap kept_total c.as_slice.ensures.value, c.size-size.ensures) in
    λ label. ap (λ (ps : List (Option ℕ)). unwrap_or (get_or ps label None) c.size-size.result) c.as_slice-4.ensures.value
    ∙ ap (λ n. unwrap_or (get_or c.in_ok-places.places.items label None) n) size ∙ c.in_ok-places.ensures.places label
    ∙ ap (λ ks. kept_place 13 ks label) (c.as_slice.ensures.value ∙ sym c.as_slice-3.ensures.value)

pub returns-clause-file : goal.returns-clause-file
returns-clause-file c =
    let whole = c.self.invariant.whole (omega (arith, c.size-size.ensures, c.if-size.false)) in
    let header = c.in_ok-extend_from_slice.ensures.items ∙ ap (λ (f : List ℕ). f ++ c.header.result) c.in_ok-file.ensures.items ∙ c.header.ensures.header in
    let lines = ap (λ b. lines_of b c.as_slice-3.result.now) c.as_slice-2.ensures.value
    ∙ ap (lines_of c.self.inside.bytes.items) c.as_slice-3.ensures.value ∙ whole.same
    ∙ ap (λ d. d.lines) c.self.view_is in
    file_is _ _ _ _ _ c.in_ok-put_lines.ensures header lines (c.size-size.ensures ∙ file_size c.self.inside.tally ∙ ap (λ d. file_length (program d.lines)) c.self.view_is)

pub returns-clause-bounded : goal.returns-clause-bounded
returns-clause-bounded c = omega (arith, c.size-size.ensures, file_size c.self.inside.tally, ap (λ d. file_length (program d.lines)) c.self.view_is, c.if-size.false)
