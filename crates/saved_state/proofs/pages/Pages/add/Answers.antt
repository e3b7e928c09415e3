use Rattle.std.proofs.Common.{◌≡◌, ◌+◌, length, ap, arith}
use Rattle.saved_state.specs.Pages.{Part}
use Rattle.saved_state.proofs.Rows.{row_more}
use Rattle.saved_state.proofs.pages.Pages.add.Goals as goal

pub invariant_of-self-2 : goal.invariant_of-self-2
invariant_of-self-2 c =
    let moved = c.set_start.ensures.moved in
    let count = ap (λ (p : Part). length p.cells) moved in
    let sum : c.in-Some.len ≡ c.self.inside.len + length c.set_start.new.self.cells = grind (arith, count, c.len.ensures.count, c.in-Some.ensures) in
    rw (sum, c.in_ok-push.ensures.items)
    (row_more c.self.inside.len c.self.inside.pieces.items c.set_start.new.self c.self.invariant (ap (λ (p : Part). p.start) moved))
