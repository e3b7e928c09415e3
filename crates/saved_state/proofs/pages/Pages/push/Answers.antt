use Rattle.std.proofs.Common.{◌≡◌, ◌+◌, suc, length, ap, arith}
use Rattle.saved_state.specs.Pages.{Part}
use Rattle.saved_state.proofs.Rows.{row_pushed}
use Rattle.saved_state.proofs.pages.Pages.push.Goals as goal

pub invariant_of-self-in-Some : goal.invariant_of-self-in-Some
invariant_of-self-in-Some c =
    let pushed = c.in_ok-push-in-Some.ensures.ok in
    let sum : c.in-Some-checked_add.len ≡ c.self.inside.len + 1 = grind (arith, c.in-Some-checked_add.ensures) in
    let same = ap length c.as_slice.ensures.value in
    let top : suc c.in-Some.k ≡ length c.self.inside.pieces.items = omega (arith, c.in-Some.ensures.top.last, same) in
    rw sum
    (row_pushed c.self.inside.len c.in-Some.k c.self.inside.pieces.items c.index_mut-piece.result.now c.push.new.self c.args.cell
    c.self.invariant top c.index_mut-piece.ensures.value (ap (λ (p : Part). p.cells) pushed) (ap (λ (p : Part). p.start) pushed))
