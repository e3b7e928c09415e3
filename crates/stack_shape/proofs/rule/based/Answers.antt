use Rattle.std.proofs.Common.{◌≡◌, ◌∙◌, ap, List, [], ◌∷◌, ◌++◌, map, reverse}
use Rattle.std.proofs.lemmas.List.{reverse-append}
use Rattle.stack_shape.specs.declared.shape.Slot.{Slot}
use Rattle.stack_shape.specs.declared.shape.Slot.TheVariants.{Base}
use Rattle.stack_shape.specs.declared.shape.Shape.{Shape}
use Rattle.stack_shape.specs.Rule.{top_first, based}
use Rattle.stack_shape.proofs.rule.based.Goals as goal

based_is : (s after : Shape) → after.cells ≡ s.cells ++ Base ∷ [] → after.under ≡ s.cells → after.saved ≡ s.saved ++ s.under ∷ [] → after.pending ≡ s.pending
    → top_first after ≡ based (top_first s)
based_is s after cells under saved pending =
    let p = ap reverse cells ∙ reverse-append s.cells (Base ∷ []) in
    let q = ap reverse under in
    let r = ap (λ (us : List (List Slot)). map reverse (reverse us)) saved ∙ ap (map reverse) (reverse-append s.saved (s.under ∷ [])) in
    λ k. record { cells = p k; under = q k; saved = r k; pending = pending k }

pub returns : goal.returns
returns c =
    let cells = c.in_ok-cells.ensures.ok ∙ c.as_slice.ensures.items in
    let saved = c.in_ok-saved.ensures ∙ c.as_slice-2.ensures.items in
    let under = c.in_ok-of_slice.ensures.ok ∙ c.as_slice-3.ensures.items in
    based_is c.args.shape.now _ (c.in_ok-push.ensures.ok ∙ ap (λ (xs : List Slot). xs ++ Base ∷ []) cells)
    (c.in_ok-of_slice-2.ensures.ok ∙ c.as_slice-4.ensures.items) (c.in_ok-push-2.ensures.ok ∙ λ k. saved k ++ under k ∷ []) (λ k. c.args.shape.now.pending)
