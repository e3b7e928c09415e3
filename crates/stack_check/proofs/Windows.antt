-- What lies beneath a shape, and how much of it an instruction has looked at.
use Rattle.std.proofs.Common.{arith, ◌≡◌, ◌≤◌, ◌<◌, ◌+◌, ◌-◌, ℕ, zero, suc, List, [], ◌∷◌, ◌++◌, length, take, drop, Bool, true, false, inl, inr, sym, subst, ◌∙◌, ap, refl}
use Rattle.std.specs.Prelude.{min}
use Rattle.std.proofs.lemmas.List.{append_assoc, append-nil, length-append, length-drop, take-append-drop}
use Rattle.std.proofs.Math.Seq.{take-append_seam}
use Rattle.stack_shape.specs.declared.shape.Slot.{Slot}
use Rattle.stack_shape.specs.declared.reach.Reach.{Reach}
use Rattle.stack_shape.specs.Stored.{TopShape}
use Rattle.stack_shape.specs.Laws.{beneath_under, deeper_saved, deeper}
use Rattle.stack_check.specs.declared.facts.Unseen.{Unseen}
use Rattle.stack_check.specs.Facts.{lowest, without, cut_saved, cut}
use Rattle.stack_check.specs.Inference.{IsThere, SeesMore, is_nil, narrowed, unseen_after}
use Rattle.stack_lists.specs.Growth.{same_shape}

-- ---- in two steps

under_then : (a b x y : List Slot) (us : List (List Slot)) → beneath_under (a ++ x) (b ++ y) us ≡ beneath_under a b us ++ beneath_under x y us
under_then a b x y [] = refl
under_then a b x y (u ∷ us) = refl

under_of : (a b x y : List Slot) (us : List (List Slot)) → beneath_under x y (deeper_saved a b us) ≡ beneath_under x y us
under_of a b x y [] = refl
under_of a b x y (u ∷ us) = refl

list_then : (a b x y u : List Slot) (us : List (List Slot))
    → u ++ beneath_under (a ++ x) (b ++ y) us ≡ (u ++ beneath_under a b us) ++ beneath_under x y (deeper_saved a b us)
list_then a b x y u us =
    ap (λ z. u ++ z) (under_then a b x y us) ∙ sym (append_assoc u (beneath_under a b us) (beneath_under x y us))
    ∙ ap (λ z. (u ++ beneath_under a b us) ++ z) (sym (under_of a b x y us))

saved_then : (a b x y : List Slot) (us : List (List Slot)) → deeper_saved (a ++ x) (b ++ y) us ≡ deeper_saved x y (deeper_saved a b us)
saved_then a b x y [] = refl
saved_then a b x y (u ∷ us) =
    ap (λ z. z ∷ deeper_saved (a ++ x) (b ++ y) us) (list_then a b x y u us)
    ∙ ap (λ rest. ((u ++ beneath_under a b us) ++ beneath_under x y (deeper_saved a b us)) ∷ rest) (saved_then a b x y us)

pub deeper_then : (a b x y : List Slot) (s : TopShape) → deeper (a ++ x) (b ++ y) s ≡ deeper x y (deeper a b s)
deeper_then a b x y s =
    same_shape _ _ _ _ _ _ _ _ (sym (append_assoc s.cells a x)) (list_then a b x y s.under s.saved) (saved_then a b x y s.saved) refl

-- ---- nothing beneath

under_none : (us : List (List Slot)) → beneath_under [] [] us ≡ []
under_none [] = refl
under_none (u ∷ us) = refl

saved_none : (saved : List (List Slot)) → deeper_saved [] [] saved ≡ saved
saved_none [] = refl
saved_none (u ∷ us) =
    ap (λ z. z ∷ deeper_saved [] [] us) (ap (λ z. u ++ z) (under_none us) ∙ append-nil u) ∙ ap (λ rest. u ∷ rest) (saved_none us)

pub deeper_none : (s : TopShape) → deeper [] [] s ≡ s
deeper_none s = same_shape _ _ _ _ _ _ _ _ (append-nil s.cells) (ap (λ z. s.under ++ z) (under_none s.saved) ∙ append-nil s.under) (saved_none s.saved) refl

-- ---- without what lies beneath

pub without_on : (l x : List Slot) → without x (l ++ x) ≡ l
without_on l x = subst (λ n. take n (l ++ x) ≡ l) (there (length-append l x)) (take-append_seam l x)
  where
    there : length (l ++ x) ≡ length l + length x → length l ≡ length (l ++ x) - length x
    there e = omega (arith, e)

cut_list : (x y u : List Slot) (us : List (List Slot)) → without (beneath_under x y (deeper_saved x y us)) (u ++ beneath_under x y us) ≡ u
cut_list x y u us = ap (λ z. without z (u ++ beneath_under x y us)) (under_of x y x y us) ∙ without_on u (beneath_under x y us)

cut_all : (x y : List Slot) (us : List (List Slot)) → cut_saved x y (deeper_saved x y us) ≡ us
cut_all x y [] = refl
cut_all x y (u ∷ us) = ap (λ z. z ∷ cut_saved x y (deeper_saved x y us)) (cut_list x y u us) ∙ ap (λ rest. u ∷ rest) (cut_all x y us)

pub cut_deeper : (x y : List Slot) (s : TopShape) → cut x y (deeper x y s) ≡ s
cut_deeper x y s = same_shape _ _ _ _ _ _ _ _ (without_on s.cells x) (cut_list x y s.under s.saved) (cut_all x y s.saved) refl

-- ---- the lowest slots

pub lowest_length : (n : ℕ) (l : List Slot) → n ≤ length l → length (lowest n l) ≡ n
lowest_length n l h = omega (arith, h, length-drop (length l - n) l)

pub lowest_none : (l : List Slot) → lowest 0 l ≡ []
lowest_none l = none (drop (length l - 0) l) (omega (arith, length-drop (length l - 0) l))
  where
    none : (xs : List Slot) → length xs ≡ 0 → xs ≡ []
    none [] h = refl
    none (x ∷ xs) h = absurd (omega (arith, h))

drop_none : (n : ℕ) → drop n [] ≡ (let xs : List Slot = [] in xs)
drop_none zero = refl
drop_none (suc n) = refl

drop_then : (a b : ℕ) (l : List Slot) → drop a (drop b l) ≡ drop (b + a) l
drop_then a zero l = ap (λ n. drop n l) (there a)
  where
    there : (a : ℕ) → a ≡ zero + a
    there a = omega arith
drop_then a (suc b) [] = drop_none a ∙ sym (drop_none (suc b + a))
drop_then a (suc b) (x ∷ l) = drop_then a b l ∙ ap (λ n. drop n (x ∷ l)) (there a b)
  where
    there : (a b : ℕ) → suc (b + a) ≡ suc b + a
    there a b = omega arith

-- the lowest slots are more of them on fewer
pub lowest_fewer : (m n : ℕ) (l : List Slot) → m ≤ n → n ≤ length l → lowest n l ≡ take (n - m) (lowest n l) ++ lowest m l
lowest_fewer m n l h i =
    sym (take-append-drop (n - m) (lowest n l))
    ∙ ap (λ z. take (n - m) (lowest n l) ++ z) (drop_then (n - m) (length l - n) l ∙ ap (λ k. drop k l) (omega (arith, h, i)))

-- ---- lengths of a deeper shape

pub deeper_cells : (x y : List Slot) (s own : TopShape) → s ≡ deeper x y own → length s.cells ≡ length own.cells + length x
deeper_cells x y s own e = ap (λ (s : TopShape). length s.cells) e ∙ length-append own.cells x

pub under_length : (x y : List Slot) (s own : TopShape) → s ≡ deeper x y own → length s.under ≡ length own.under + length (beneath_under x y own.saved)
under_length x y s own e = ap (λ (s : TopShape). length s.under) e ∙ length-append own.under (beneath_under x y own.saved)

min_least : (a b c : ℕ) → c ≤ a → c ≤ b → c ≤ min a b
min_least a b c h i = grind (arith, h, i)

min_left : (a b : ℕ) → min a b ≤ a
min_left a b = grind arith

min_right : (a b : ℕ) → min a b ≤ b
min_right a b = grind arith

-- ---- in every table

abbrev Seen : List Slot → List Slot → Unseen → Type 0
Seen x y unseen = (length x ≤ unseen.cells) × (length y ≤ unseen.under)

-- what lies beneath a table's shape is not looked at by what is looked at of that shape
fits_narrow : (x y : List Slot) (unseen : Unseen) (s own : TopShape) (reach : Reach) (us : List (List Slot)) → own.saved ≡ us → Seen x y unseen
    → s ≡ deeper x y own → IsThere own reach → Seen x y (unseen_after unseen s reach)
fits_narrow x y unseen s own reach [] e f is t =
    let c = deeper_cells x y s own is in
    let u : length s.under ≡ length own.under + length y = under_length x y s own is ∙ ap (λ us. length own.under + length (beneath_under x y us)) e in
    subst (λ b. Seen x y (narrowed unseen b (length s.cells - reach.cells) (length s.under - reach.under)))
    (sym (ap (λ (s : TopShape). is_nil s.saved) is ∙ ap (λ us. is_nil (deeper_saved x y us)) e)) (
      min_least unseen.cells (length s.cells - reach.cells) (length x) f.0 (omega (arith, c, t.cells)),
      min_least unseen.under (length s.under - reach.under) (length y) f.1 (omega (arith, u, t.under)),
    )
fits_narrow x y unseen s own reach (v ∷ us) e f is t =
    let c = deeper_cells x y s own is in
    let u : length s.under ≡ length own.under + length x = under_length x y s own is ∙ ap (λ us. length own.under + length (beneath_under x y us)) e in
    subst (λ b. Seen x y (narrowed unseen b (length s.cells - reach.cells) (length s.under - reach.under)))
    (sym (ap (λ (s : TopShape). is_nil s.saved) is ∙ ap (λ us. is_nil (deeper_saved x y us)) e)) (
      min_least (min unseen.cells (length s.cells - reach.cells)) (length s.under - reach.under) (length x)
          (min_least unseen.cells (length s.cells - reach.cells) (length x) f.0 (omega (arith, c, t.cells))) (omega (arith, u, t.under)),
      f.1,
    )

pub fits_after : (x y : List Slot) (unseen : Unseen) (s own : TopShape) (reach : Reach) → Seen x y unseen → s ≡ deeper x y own → IsThere own reach
    → Seen x y (unseen_after unseen s reach)
fits_after x y unseen s own reach f is t = fits_narrow x y unseen s own reach own.saved refl f is t

-- ---- where all was looked at before

within_narrow : (x y : List Slot) (unseen : Unseen) (s own : TopShape) (reach : Reach) (us : List (List Slot)) → own.saved ≡ us → length x ≡ unseen.cells
    → length y ≡ unseen.under → s ≡ deeper x y own → IsThere s reach → unseen_after unseen s reach ≡ unseen → IsThere own reach
within_narrow x y unseen s own reach [] e lx ly is t same =
    let c = deeper_cells x y s own is in
    let u : length s.under ≡ length own.under + length y = under_length x y s own is ∙ ap (λ us. length own.under + length (beneath_under x y us)) e in
    let w : narrowed unseen true (length s.cells - reach.cells) (length s.under - reach.under) ≡ unseen =
    ap (λ b. narrowed unseen b (length s.cells - reach.cells) (length s.under - reach.under))
    (sym (ap (λ (s : TopShape). is_nil s.saved) is ∙ ap (λ us. is_nil (deeper_saved x y us)) e)) ∙ same in
    let wc : min unseen.cells (length s.cells - reach.cells) ≡ unseen.cells = ap (λ (w : Unseen). w.cells) w in
    let wu : min unseen.under (length s.under - reach.under) ≡ unseen.under = ap (λ (w : Unseen). w.under) w in
    record {
      cells = let h = min_right unseen.cells (length s.cells - reach.cells) in omega (arith, c, lx, wc, h, t.cells);
      under = let h = min_right unseen.under (length s.under - reach.under) in omega (arith, u, ly, wu, h, t.under);
    }
within_narrow x y unseen s own reach (v ∷ us) e lx ly is t same =
    let c = deeper_cells x y s own is in
    let u : length s.under ≡ length own.under + length x = under_length x y s own is ∙ ap (λ us. length own.under + length (beneath_under x y us)) e in
    let w : narrowed unseen false (length s.cells - reach.cells) (length s.under - reach.under) ≡ unseen =
    ap (λ b. narrowed unseen b (length s.cells - reach.cells) (length s.under - reach.under))
    (sym (ap (λ (s : TopShape). is_nil s.saved) is ∙ ap (λ us. is_nil (deeper_saved x y us)) e)) ∙ same in
    let wc : min (min unseen.cells (length s.cells - reach.cells)) (length s.under - reach.under) ≡ unseen.cells = ap (λ (w : Unseen). w.cells) w in
    let h = min_right (min unseen.cells (length s.cells - reach.cells)) (length s.under - reach.under) in
    let i = min_left (min unseen.cells (length s.cells - reach.cells)) (length s.under - reach.under) in
    let j = min_right unseen.cells (length s.cells - reach.cells) in
    record { cells = omega (arith, c, lx, wc, i, j, t.cells); under = omega (arith, u, lx, wc, h, t.under) }

pub within_same : (x y : List Slot) (unseen : Unseen) (s own : TopShape) (reach : Reach) → length x ≡ unseen.cells → length y ≡ unseen.under
    → s ≡ deeper x y own → IsThere s reach → unseen_after unseen s reach ≡ unseen → IsThere own reach
within_same x y unseen s own reach lx ly is t same = within_narrow x y unseen s own reach own.saved refl lx ly is t same

unseen_is : (a b : Unseen) → a.cells ≡ b.cells → a.under ≡ b.under → a ≡ b
unseen_is a b c u = ap (λ c. let w : Unseen = record { cells = c; under = a.under } in w) c ∙ ap (λ u. let w : Unseen = record { cells = b.cells; under = u } in w) u

-- where nothing is unseen, it stays so
pub whole_same : (unseen : Unseen) (s : TopShape) (reach : Reach) → unseen.cells ≡ 0 → unseen.under ≡ 0 → unseen_after unseen s reach ≡ unseen
whole_same unseen s reach c u = narrowed_whole (is_nil s.saved) (length s.cells - reach.cells) (length s.under - reach.under)
  where
    least_none : (a b : ℕ) → a ≡ 0 → min a b ≡ a
    least_none a b z = grind (arith, z)

    narrowed_whole : (first : Bool) (cells under : ℕ) → narrowed unseen first cells under ≡ unseen
    narrowed_whole true cells under = unseen_is _ _ (least_none unseen.cells cells c) (least_none unseen.under under u)
    narrowed_whole false cells under =
        unseen_is _ _ (ap (λ n. min n under) (least_none unseen.cells cells c) ∙ least_none unseen.cells under c) refl

-- ---- less is unseen

less_or_same : (a b : Unseen) → a.cells ≤ b.cells → a.under ≤ b.under → (a ≡ b → ⊥) → a.cells + a.under < b.cells + b.under
less_or_same a b c u ne = elim (Rattle.std.proofs.lemmas.Bool.cases_lt (a.cells + a.under) (b.cells + b.under)) [
  | inl lt ↦ lt
  | inr ge ↦ absurd (ne (unseen_is a b (omega (arith, c, u, ge)) (omega (arith, c, u, ge))))
]

sees_more : (before after : Unseen) → after.cells ≤ before.cells → after.under ≤ before.under → (after ≡ before → ⊥) → SeesMore before after
sees_more before after c u ne = record { cells = c; under = u; less = less_or_same after before c u ne }

narrow_less : (unseen : Unseen) (first : Bool) (c u : ℕ) → ((narrowed unseen first c u).cells ≤ unseen.cells) × ((narrowed unseen first c u).under ≤ unseen.under)
narrow_less unseen true c u = (min_left unseen.cells c, min_left unseen.under u)
narrow_less unseen false c u = (
  (let h = min_left (min unseen.cells c) u in let i = min_left unseen.cells c in omega (arith, h, i)),
  omega arith,
)

pub after_less : (unseen : Unseen) (s : TopShape) (reach : Reach) → (unseen_after unseen s reach ≡ unseen → ⊥) → SeesMore unseen (unseen_after unseen s reach)
after_less unseen s reach ne =
    let l = narrow_less unseen (is_nil s.saved) (length s.cells - reach.cells) (length s.under - reach.under) in
    sees_more unseen (unseen_after unseen s reach) l.0 l.1 ne
