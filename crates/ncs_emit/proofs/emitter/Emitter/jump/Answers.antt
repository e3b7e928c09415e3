use Rattle.std.proofs.Common.{arith, subst, sym, ap, ◌≡◌, ◌<◌, ◌∷◌, [], ◌++◌, refl, length}
use Rattle.std.specs.Vec.{vec_capacity}
use Rattle.ncs_emit.specs.Labelled.{Line, JumpTo}
use Rattle.ncs_emit.specs.Emitting.{IsKept}
use Rattle.ncs_emit.specs.declared.emitter.Emitter.TheInside.{Inside}
use Rattle.ncs_emit.proofs.Counting.{kept_jump, kept_counted}
use Rattle.ncs_emit.proofs.emitter.Emitter.jump.Goals as goal
use Rattle.ncs_emit.proofs.emitter.Emitter.jump.Goals.{then-size+in_ok-reserve, else-size}

pub invariant_of-self-2 : goal.invariant_of-self-2
invariant_of-self-2 c =
    let line : Line = JumpTo c.args.jump c.args.label in
    let made : c.args.label < length c.self.inside.placed.items = omega (arith, ap (λ d. d.labels) c.self.view_is, c.requires.made) in
    let P : Inside → Type 0 = λ e. c.tell.new.self ≡ e.tally ++ line ∷ [] → IsKept c.tell.new.self e.bytes.items e.kept.items (vec_capacity e.kept) e.placed.items e.missing in
    let kept : P c.if-size.self-inside =
    elim c.if-size.branch [
      | then-size+in_ok-reserve w ↦ subst P (sym w.self-inside-is) (λ told.
          let items = rw w.unwrap.ensures at w.push.ensures.items in
          rw (told, items, w.in_ok-reserve.ensures.items)
          (kept_jump _ _ _ _ _ _ _ _ _ c.self.invariant made
          (omega (arith, c.in_ok-size.ensures, w.if-size.true)) (omega (arith, w.in_ok-reserve.ensures.ok, w.in_ok-reserve.ensures.len, w.push.ensures.capacity))))
      | else-size w ↦ subst P (sym w.self-inside-is) (λ told.
          rw told (kept_counted _ _ _ _ _ _ line c.self.invariant made (λ label. refl) (omega (arith, c.in_ok-size.ensures, w.if-size.false))))
    ] in
    kept c.tell.ensures
