use Rattle.std.proofs.Common.{arith, subst, sym, ◌≡◌, ◌∷◌, [], ◌++◌, refl}
use Rattle.std.specs.Vec.{vec_capacity}
use Rattle.ncs_code.specs.Plain.{plain}
use Rattle.ncs_emit.specs.Labelled.{Line, Instruction}
use Rattle.ncs_emit.specs.Emitting.{IsKept}
use Rattle.ncs_emit.specs.declared.emitter.Emitter.TheInside.{Inside}
use Rattle.ncs_emit.proofs.Counting.{kept_op, kept_counted}
use Rattle.ncs_emit.proofs.emitter.Emitter.op.Goals as goal
use Rattle.ncs_emit.proofs.emitter.Emitter.op.Goals.{then-size+in_ok-reserve+in_ok-encode, else-size}

pub invariant_of-self-2 : goal.invariant_of-self-2
invariant_of-self-2 c =
    let line : Line = Instruction (plain c.args.op.now) in
    let P : Inside → Type 0 = λ e. c.tell.new.self ≡ e.tally ++ line ∷ [] → IsKept c.tell.new.self e.bytes.items e.kept.items (vec_capacity e.kept) e.placed.items e.missing in
    let kept : P c.if-size.self-inside =
    elim c.if-size.branch [
      | then-size+in_ok-reserve+in_ok-encode w ↦ subst P (sym w.self-inside-is) (λ told.
          let items = rw w.unwrap.ensures at w.push.ensures.items in
          rw (told, w.in_ok-encode.ensures.ok, items, w.in_ok-reserve.ensures.items)
          (kept_op c.spelling_laws.ensures.spelling.again c.size_laws.ensures.sizes.op _ _ _ _ _ _ _ (plain c.args.op.now) _ c.self.invariant c.requires.row c.op_fits.ensures w.size-then-size.ensures
          (omega (arith, c.in_ok-size.ensures, c.size.ensures, w.if-size.true)) (omega (arith, w.in_ok-reserve.ensures.ok, w.in_ok-reserve.ensures.len, w.push.ensures.capacity))))
      | else-size w ↦ subst P (sym w.self-inside-is) (λ told.
          rw told
          (kept_counted _ _ _ _ _ _ line c.self.invariant (record { row = c.requires.row; fits = c.op_fits.ensures }) (λ label. refl)
          (omega (arith, c.in_ok-size.ensures, c.size.ensures, w.if-size.false))))
    ] in
    kept c.tell.ensures
