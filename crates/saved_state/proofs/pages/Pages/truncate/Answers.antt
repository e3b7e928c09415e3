use Rattle.std.proofs.Common.{◌≡◌, ◌≤◌, ◌+◌, ◌-◌, length, get_or, ap, subst, ◌∙◌, arith}
use Rattle.std.proofs.lemmas.List.{get_or-take}
use Rattle.saved_state.specs.Pages.{Part, IsPlace}
use Rattle.saved_state.proofs.Rows.{row_kept}
use Rattle.saved_state.proofs.pages.Pages.truncate.Goals as goal

pub invariant_of-self-2 : goal.invariant_of-self-2
invariant_of-self-2 c =
    let k = c.locate-k.result.0 in
    let ps = c.self.inside.pieces.items in
    let p = c.index_mut-piece.result.now in
    let found = subst (λ ps. IsPlace (c.args.n - 1) k c.locate-k.result.1 ps) c.as_slice.ensures.value c.locate-k.ensures.place in
    let here : p ≡ get_or ps k p =
    c.index_mut-piece.ensures.value ∙ ap (λ ts. get_or ts k p) c.truncate.ensures.items ∙ get_or-take (k + 1) ps k p (omega arith) in
    let kept = c.keep.ensures.kept in
    let next : c.args.n ≡ c.args.n - 1 + 1 = omega (arith, c.if-n-eq0.false) in
    let size = ap length c.self.view_is in
    let fits : c.args.n ≤ c.self.inside.len = omega (arith, c.requires.inside, c.self.invariant.count, size) in
    rw c.truncate.ensures.items
    (row_kept c.self.inside.len (c.args.n - 1) k c.locate-k.result.1 c.args.n ps p c.keep.new.self c.self.invariant found here
    (ap (λ (p : Part). p.cells) kept) (ap (λ (p : Part). p.start) kept) next fits)
