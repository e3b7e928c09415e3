-- Loops over lists, a member at a time.
use Rattle.std.proofs.Common.{◌≡◌, ◌∙◌, ◌<◌, ◌≤◌, ◌+◌, ◌-◌, ap, sym, arith, ℕ, List, [], ◌∷◌, length, drop, get_or}
use Rattle.std.proofs.lemmas.List.{at_drop_more, drop_all}

-- what is left, from here, leads where the whole list leads; so it does behind one more member
pub step : {X Y : Type 0} (now later : List X → Y) (xs : List X) (i : ℕ) (x : X) (end : Y) → x ≡ get_or xs i x → i < length xs
    → ((ys : List X) → now (x ∷ ys) ≡ later ys) → now (drop i xs) ≡ end → later (drop (i + 1) xs) ≡ end
step now later xs i x end is lt computes before =
    sym (computes (drop (i + 1) xs))
    ∙ (ap (λ y. now (y ∷ drop (i + 1) xs)) is ∙ (sym (at_drop_more now xs i x lt) ∙ before))

pub done : {X Y : Type 0} (now : List X → Y) (xs : List X) (i : ℕ) (left end : Y) → length xs ≤ i → now [] ≡ left → now (drop i xs) ≡ end → left ≡ end
done now xs i left end le none before = sym none ∙ (ap now (sym (drop_all i xs le)) ∙ before)

-- the same of a loop that doesn't look at its members
pub step_any : {X Y : Type 0} (now later : List X → Y) (xs : List X) (i : ℕ) (d : X) (end : Y) → i < length xs
    → ((x : X) (ys : List X) → now (x ∷ ys) ≡ later ys) → now (drop i xs) ≡ end → later (drop (i + 1) xs) ≡ end
step_any now later xs i d end lt computes before =
    sym (computes (get_or xs i d) (drop (i + 1) xs)) ∙ (sym (at_drop_more now xs i d lt) ∙ before)

-- one member more from the end
pub back : {X Y : Type 0} (F : List X → Y) (xs : List X) (i : ℕ) (x : X) → x ≡ get_or xs (i - 1) x → 0 < i → i ≤ length xs → F (drop (i - 1) xs) ≡ F (x ∷ drop i xs)
back F xs i x is more le =
    let e : i - 1 + 1 ≡ i = omega (arith, more) in
    at_drop_more F xs (i - 1) x (omega (arith, more, le))
    ∙ (ap (λ y. F (y ∷ drop (i - 1 + 1) xs)) (sym is) ∙ ap (λ j. F (x ∷ drop j xs)) e)
