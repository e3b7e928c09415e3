-- The events of a plan, posted one after the other.
use Rattle.std.proofs.Common.{◌≡◌, ◌<◌, ◌≤◌, ◌+◌, ℕ, suc, List, [], ◌∷◌, map, length, get_or, drop, refl, sym, ap, ◌∙◌, arith}
use Rattle.std.specs.List.{fold}
use Rattle.std.proofs.Math.Seq.{drop-cons}
use Rattle.world_rules.specs.World.{World}
use Rattle.world_rules.specs.Turns.{with_planned}
use Rattle.world_core.specs.declared.start.Start.{Start}
use Rattle.world_core.specs.Calls.{planned}

-- one more event is posted
pub one_more_start : {X : Type 0} → (w v : World X) (starts : List Start) (i : ℕ) (x d : Start) → i < length starts → x ≡ get_or starts i d → v ≡ with_planned w (planned x) →
    fold with_planned v (map planned (drop (i + 1) starts)) ≡ fold with_planned w (map planned (drop i starts))
one_more_start {X = X} w v starts i x d lt is posted =
    let next : i + 1 ≡ suc i = omega arith in
    let rest : drop i starts ≡ x ∷ drop (suc i) starts = drop-cons starts i d lt ∙ ap (λ (y : Start). y ∷ drop (suc i) starts) (sym is) in
    ap (λ (k : ℕ). fold with_planned v (map planned (drop k starts))) next
    ∙ (ap (λ (u : World X). fold with_planned u (map planned (drop (suc i) starts))) posted
    ∙ ap (λ (ss : List Start). fold with_planned w (map planned ss)) (sym rest))

drop_all : (starts : List Start) → drop (length starts) starts ≡ []
drop_all [] = refl
drop_all (s ∷ starts) = drop_all starts

-- all are posted
pub all_posted : {X : Type 0} → (w : World X) (starts : List Start) (i : ℕ) → length starts ≤ i → i ≤ length starts → fold with_planned w (map planned (drop i starts)) ≡ w
all_posted {X = X} w starts i over under =
    let same : i ≡ length starts = omega (arith, over, under) in
    ap (λ (k : ℕ). fold with_planned w (map planned (drop k starts))) same ∙ ap (λ (ss : List Start). fold with_planned w (map planned ss)) (drop_all starts)

pub ruleset posted_all = (one_more_start, all_posted)
