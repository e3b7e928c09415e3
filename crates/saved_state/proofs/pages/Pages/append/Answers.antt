use Rattle.std.proofs.Common.{◌≡◌, ◌++◌, ◌∙◌, take, length, drop, ap}
use Rattle.saved_state.specs.Pages.{Part, flat}
use Rattle.saved_state.proofs.Rows.{appended}
use Rattle.saved_state.proofs.pages.Pages.append.Goals as goal

pub loop-piece-preserved : goal.loop-piece-preserved
loop-piece-preserved c =
    let p = c.piece-item.result in
    let q = c.in_ok-part.field-0 in
    let all : q.cells ≡ drop 0 (take (length p.cells) p.cells) =
    ap (λ (r : Part). r.cells) c.in_ok-part.ensures.part ∙ ap (λ n. drop 0 (take n p.cells)) c.len.ensures.count in
    let now : c.add.new.self ≡ (c.args.self.now ++ flat (take c.loop-piece.piece-index c.as_slice-pieces.result.now)) ++ q.cells =
    c.in_ok-add.ensures.ok ∙ ap (λ t. t ++ q.cells) c.loop-piece.invariant in
    appended c.args.self.now c.add.new.self c.as_slice-pieces.result.now c.loop-piece.piece-index p q c.loop-piece-test.true c.piece-item.is all now
