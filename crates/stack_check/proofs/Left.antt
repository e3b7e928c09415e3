-- How much was found, and how much is left to be.
use Rattle.std.proofs.Common.{arith, ◌≡◌, ◌≤◌, ◌<◌, ◌+◌, ◌-◌, ◌*◌, ◌^◌, ℕ, zero, suc, List, [], ◌∷◌, ◌++◌, length, None, Some, slice_get, slice_set, sym, subst, ◌∙◌, ap, refl}
use Rattle.stack_lists.specs.declared.rows.ShapeRow.{ShapeRow}
use Rattle.stack_check.specs.declared.facts.Trial.{Trial}
use Rattle.stack_check.specs.declared.facts.Facts.{Facts}
use Rattle.stack_check.specs.Facts.{FindsMore, found, given_open, left, open_of, seen_of, total}

some_is : {A : Type 0} (a b : A) → Some a ≡ Some b → a ≡ b
some_is a b h = cc

total_more : (of : Trial → ℕ) (trials : List Trial) (trial : Trial) → total of (trials ++ trial ∷ []) ≡ total of trials + of trial
total_more of [] trial = omega arith
total_more of (t ∷ trials) trial = let e = total_more of trials trial in omega (arith, e)

total_set : (of : Trial → ℕ) (trials : List Trial) (n : ℕ) (old new : Trial) → slice_get trials n ≡ Some old
    → total of (slice_set trials n new) + of old ≡ total of trials + of new
total_set of [] n old new h = absurd cc
total_set of (t ∷ trials) zero old new h = let e : of t ≡ of old = ap of (some_is t old h) in omega (arith, e)
total_set of (t ∷ trials) (suc n) old new h = let e = total_set of trials n old new h in omega (arith, e)

pub total_under : (low high : Trial → ℕ) (trials : List Trial) → ((n : ℕ) (t : Trial) → slice_get trials n ≡ Some t → low t ≤ high t) → total low trials ≤ total high trials
total_under low high [] h = omega arith
total_under low high (t ∷ trials) h =
    let a = h 0 t refl in let b = total_under low high trials (λ n t e. h (suc n) t e) in omega (arith, a, b)

numbers_row : (r s o : ℕ) → s ≡ r + 1 → r < 33554432 → 67108866 * (33554432 - s) + o < 67108866 * (33554432 - r) + o
numbers_row r s o e h = omega (arith, e, h)

pub more_row : (before after : Facts) → length after.rows ≡ length before.rows + 1 → length before.rows < 2 ^ 25 → after.trials ≡ before.trials
    → FindsMore before after
unfolding left found
more_row before after e h t = record {
  left = subst (λ o. 67108866 * (33554432 - length after.rows) + o < 67108866 * (33554432 - length before.rows) + total open_of before.trials)
      (sym (ap (total open_of) t)) (numbers_row (length before.rows) (length after.rows) (total open_of before.trials) e h);
  found = let s : total seen_of after.trials ≡ total seen_of before.trials = ap (total seen_of) t in omega (arith, e, s);
  rows = omega (arith, e);
}

numbers_trial : (r s o p q : ℕ) → s ≡ r + 1 → r < 33554432 → q ≡ o + p → p ≤ 67108865 → 67108866 * (33554432 - s) + q < 67108866 * (33554432 - r) + o
numbers_trial r s o p q e h i j = omega (arith, e, h, i, j)

pub more_trial : (before after : Facts) (trial : Trial) → length after.rows ≡ length before.rows + 1 → length before.rows < 2 ^ 25
    → after.trials ≡ before.trials ++ trial ∷ [] → trial.given ≡ None → trial.unseen.cells ≤ 2 ^ 25 → trial.unseen.under ≤ 2 ^ 25 → FindsMore before after
unfolding left found
more_trial before after trial e h t g c u = record {
  left = numbers_trial (length before.rows) (length after.rows) (total open_of before.trials) (open_of trial) (total open_of after.trials) e h
      (ap (total open_of) t ∙ total_more open_of before.trials trial)
      (let o : given_open trial.given ≡ 1 = ap given_open g in omega (arith, o, c, u));
  found = let s : total seen_of after.trials ≡ total seen_of before.trials + seen_of trial = ap (total seen_of) t ∙ total_more seen_of before.trials trial in
      omega (arith, e, s);
  rows = omega (arith, e);
}

pub more_set : (before after : Facts) (n : ℕ) (old new : Trial) → slice_get before.trials n ≡ Some old → after.trials ≡ slice_set before.trials n new
    → after.rows ≡ before.rows → open_of new < open_of old → seen_of old < seen_of new → FindsMore before after
unfolding left found
more_set before after n old new h t r o s =
    let f = ap (total open_of) t in
    let k = ap (total seen_of) t in
    let g : length after.rows ≡ length before.rows = ap (λ (rs : List ShapeRow). length rs) r in
    record {
      left = let e = total_set open_of before.trials n old new h in omega (arith, e, f, g, o);
      found = let e = total_set seen_of before.trials n old new h in omega (arith, e, k, g, s);
      rows = omega (arith, g);
    }
