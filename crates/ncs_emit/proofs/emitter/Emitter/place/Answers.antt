use Rattle.std.proofs.Common.{arith, ap, subst, sym, ◌∙◌, ◌≡◌, ◌<◌, ◌≤◌, ◌-◌, ◌∷◌, [], ◌++◌, length, true, set}
use Rattle.std.specs.Vec.{vec_capacity}
use Rattle.ncs_emit.specs.Labelled.{Label, placements}
use Rattle.ncs_emit.specs.Emitting.{IsKept}
use Rattle.ncs_emit.specs.declared.emitter.Emitter.TheInside.{Inside}
use Rattle.ncs_emit.proofs.Counting.{kept_placed, counted_placed, label_fits, missing_some}
use Rattle.ncs_emit.proofs.emitter.Emitter.place.Goals as goal
use Rattle.ncs_emit.proofs.emitter.Emitter.place.Goals.{then-size, else-size}

pub unwrap-requires : goal.unwrap-requires
unwrap-requires c =
    let made : c.args.label < length c.self.inside.placed.items = omega (arith, ap (λ d. d.labels) c.self.view_is, c.requires.made) in
    let none : placements c.self.inside.tally c.args.label ≡ 0 = ap (λ d. placements d.lines c.args.label) c.self.view_is ∙ c.requires.unplaced in
    c.push.ensures.succeeds (omega (arith, label_fits _ _ _ _ _ _ _ c.self.invariant (omega (arith, c.size-size.ensures, c.if-size.true)) made none))

pub overflow_sub-self : goal.overflow_sub-self
overflow_sub-self c =
    let made : c.args.label < length c.self.inside.placed.items = omega (arith, ap (λ d. d.labels) c.self.view_is, c.requires.made) in
    let none : placements c.self.inside.tally c.args.label ≡ 0 = ap (λ d. placements d.lines c.args.label) c.self.view_is ∙ c.requires.unplaced in
    let P : Inside → Type 0 = λ e. 1 ≤ e.missing in
    elim c.if-size.branch [
      | then-size w ↦ subst P (sym w.self-inside-is) (missing_some _ _ _ _ _ _ _ c.self.invariant made none)
      | else-size w ↦ subst P (sym w.self-inside-is) (missing_some _ _ _ _ _ _ _ c.self.invariant made none)
    ]

pub invariant_of-self : goal.invariant_of-self
invariant_of-self c =
    let made : c.args.label < length c.self.inside.placed.items = omega (arith, ap (λ d. d.labels) c.self.view_is, c.requires.made) in
    let none : placements c.self.inside.tally c.args.label ≡ 0 = ap (λ d. placements d.lines c.args.label) c.self.view_is ∙ c.requires.unplaced in
    let some = missing_some _ _ _ _ _ _ _ c.self.invariant made none in
    let P : Inside → Type 0 = λ e. (told : c.tell.new.self ≡ e.tally ++ Label c.args.label ∷ [])
    → IsKept c.tell.new.self e.bytes.items e.kept.items (vec_capacity e.kept) (set e.placed.items c.args.label true) (e.missing - 1) in
    let kept : P c.if-size.self-inside =
    elim c.if-size.branch [
      | then-size w ↦ subst P (sym w.self-inside-is) (λ told.
          let items = rw w.unwrap.ensures at w.push.ensures.items in
          rw (told, items)
          (kept_placed _ _ _ _ _ _ _ _ c.args.label c.self.invariant made none (omega (arith, some)) w.push.ensures.capacity (omega (arith, c.size-size.ensures, w.if-size.true))))
      | else-size w ↦ subst P (sym w.self-inside-is) (λ told.
          rw told (counted_placed _ _ _ _ _ _ _ c.args.label c.self.invariant made none (omega (arith, some)) (omega (arith, c.size-size.ensures, w.if-size.false))))
    ] in
    kept c.tell.ensures
