-- Lists that share their lower parts.
use Rattle.std.proofs.Common.{arith, ◌≡◌, ◌≤◌, ◌<◌, ◌+◌, ◌-◌, ℕ, zero, suc, List, [], ◌∷◌, ◌++◌, length, Option, None, Some, slice_get, sym, subst, inl, inr, ◌∙◌, ap, refl}
use Rattle.std.proofs.lemmas.Bool.{cases_lt}
use Rattle.stack_lists.specs.declared.lists.Node.{Node}
use Rattle.stack_lists.specs.Budget.{most_numbers}
use Rattle.stack_lists.specs.Shared.{with_node, read_within, read, AreOlder, Grows}

one_before : (number k : ℕ) → 0 < number → k ≡ number - 1 → number ≡ suc k
one_before number k p e = omega (arith, p, e)

module _ {A : Type 0} where
  get_fits : (nodes : List (Node A)) (k : ℕ) (n : Node A) → slice_get nodes k ≡ Some n → k < length nodes
  get_fits [] k n h = absurd cc
  get_fits (m ∷ nodes) zero n h = omega arith
  get_fits (m ∷ nodes) (suc k) n h = omega (arith, get_fits nodes k n h)

  -- the node at a place, whatever is added behind
  get_more : (nodes more : List (Node A)) (k : ℕ) → k < length nodes → slice_get (nodes ++ more) k ≡ slice_get nodes k
  get_more [] more k h = absurd (omega (arith, h))
  get_more (m ∷ nodes) more zero h = refl
  get_more (m ∷ nodes) more (suc k) h = get_more nodes more k (omega (arith, h))

  get_last : (nodes : List (Node A)) (n : Node A) → slice_get (nodes ++ n ∷ []) (length nodes) ≡ Some n
  get_last [] n = refl
  get_last (m ∷ nodes) n = get_last nodes n

  -- enough is enough
  on_same : (o : Option (Node A)) (f g : ℕ → List A) → ((n : Node A) → o ≡ Some n → f n.below ≡ g n.below) → with_node o f ≡ with_node o g
  on_same None f g h = refl
  on_same (Some n) f g h = ap (λ rest. n.item ∷ rest) (h n refl)

  enough : (nodes : List (Node A)) → AreOlder nodes → (a b number : ℕ) → number ≤ a → number ≤ b → read_within a nodes number ≡ read_within b nodes number
  enough nodes older zero zero number h i = refl
  enough nodes older zero (suc b) zero h i = refl
  enough nodes older zero (suc b) (suc k) h i = absurd (omega (arith, h))
  enough nodes older (suc a) zero zero h i = refl
  enough nodes older (suc a) zero (suc k) h i = absurd (omega (arith, i))
  enough nodes older (suc a) (suc b) zero h i = refl
  enough nodes older (suc a) (suc b) (suc k) h i =
      on_same (slice_get nodes k) (read_within a nodes) (read_within b nodes)
      (λ n e. enough nodes older a b n.below (omega (arith, older.by k n e, h)) (omega (arith, older.by k n e, i)))

  read_top : (nodes : List (Node A)) → AreOlder nodes → (k : ℕ) (n : Node A) → slice_get nodes k ≡ Some n → read nodes (suc k) ≡ n.item ∷ read nodes n.below
  unfolding read
  read_top nodes older k n h =
      ap (λ o. with_node o (read_within k nodes)) h
      ∙ ap (λ rest. n.item ∷ rest) (enough nodes older k n.below n.below (older.by k n h) (omega arith))

  pub pop_top : (nodes : List (Node A)) (number k : ℕ) (n : Node A) → AreOlder nodes → 0 < number → k ≡ number - 1 → slice_get nodes k ≡ Some n
      → read nodes number ≡ n.item ∷ read nodes n.below
  pop_top nodes number k n older p e h = ap (read nodes) (one_before number k p e) ∙ read_top nodes older k n h

  pub pop_older : (nodes : List (Node A)) (number k : ℕ) (n : Node A) → AreOlder nodes → 0 < number → k ≡ number - 1 → slice_get nodes k ≡ Some n
      → n.below < number
  pop_older nodes number k n older p e h = omega (arith, p, e, older.by k n h)

  pub pop_inside : (nodes : List (Node A)) (k : ℕ) (n : Node A) → AreOlder nodes → slice_get nodes k ≡ Some n → n.below ≤ length nodes
  pop_inside nodes k n older h = omega (arith, older.by k n h, get_fits nodes k n h)

  none_at : (nodes : List (Node A)) (k : ℕ) → slice_get nodes k ≡ None → read nodes (suc k) ≡ []
  unfolding read
  none_at nodes k h = ap (λ o. with_node o (read_within k nodes)) h

  pub pop_none : (nodes : List (Node A)) (number k : ℕ) → 0 < number → k ≡ number - 1 → slice_get nodes k ≡ None → read nodes number ≡ []
  pop_none nodes number k p e h = ap (read nodes) (one_before number k p e) ∙ none_at nodes k h

  pub read_zero : (nodes : List (Node A)) (number : ℕ) → number ≡ 0 → read nodes number ≡ []
  unfolding read
  read_zero nodes number h = subst (λ n. read_within n nodes n ≡ []) (sym h) refl

  -- more nodes
  within_more : (nodes more : List (Node A)) → AreOlder nodes → (a number : ℕ) → number ≤ length nodes
      → read_within a (nodes ++ more) number ≡ read_within a nodes number
  within_more nodes more older zero number h = refl
  within_more nodes more older (suc a) zero h = refl
  within_more nodes more older (suc a) (suc k) h =
      ap (λ o. with_node o (read_within a (nodes ++ more))) (get_more nodes more k (omega (arith, h)))
      ∙ on_same (slice_get nodes k) (read_within a (nodes ++ more)) (read_within a nodes)
      (λ n e. within_more nodes more older a n.below (omega (arith, older.by k n e, h)))

  length_one : (nodes : List (Node A)) (n : Node A) → length (nodes ++ n ∷ []) ≡ length nodes + 1
  length_one [] n = refl
  length_one (m ∷ nodes) n = let e = length_one nodes n in omega (arith, e)

  pub grows_one : (nodes after : List (Node A)) (n : Node A) → AreOlder nodes → after ≡ nodes ++ n ∷ [] → Grows nodes after
  unfolding read
  grows_one nodes after n older e = subst (λ after. Grows nodes after) (sym e) (record {
    longer = omega (arith, length_one nodes n);
    same = λ number h. within_more nodes (n ∷ []) older number number h;
  })

  some_is : (x y : Node A) → Some x ≡ Some y → x ≡ y
  some_is x y h = cc

  pub older_one : (nodes after : List (Node A)) (n : Node A) → AreOlder nodes → after ≡ nodes ++ n ∷ [] → n.below ≤ length nodes → AreOlder after
  older_one nodes after n older is h = record { by = λ k m e. at k m (subst (λ xs. slice_get xs k ≡ Some m) is e) }
    where
      last : (k : ℕ) (m : Node A) → k ≡ length nodes → slice_get (nodes ++ n ∷ []) k ≡ Some m → m.below ≤ k
      last k m f e = subst (λ (x : Node A). x.below ≤ k)
          (some_is n m (sym (get_last nodes n) ∙ ap (slice_get (nodes ++ n ∷ [])) (sym f) ∙ e)) (omega (arith, h, f))

      at : (k : ℕ) (m : Node A) → slice_get (nodes ++ n ∷ []) k ≡ Some m → m.below ≤ k
      at k m e = elim (cases_lt k (length nodes)) [
        | inl lt ↦ older.by k m (sym (get_more nodes (n ∷ []) k lt) ∙ e)
        | inr ge ↦ last k m (let f = get_fits (nodes ++ n ∷ []) k m e in omega (arith, ge, f, length_one nodes n)) e
      ]

  pub pushed_reads : (nodes after : List (Node A)) (item : A) (below : ℕ) → AreOlder nodes → after ≡ nodes ++ record { item = item; below = below } ∷ []
      → below ≤ length nodes → read after (length nodes + 1) ≡ item ∷ read nodes below
  pushed_reads nodes after item below older is h =
      let n : Node A = record { item = item; below = below } in
      ap (read after) (plus_one (length nodes))
      ∙ read_top after (older_one nodes after n older is h) (length nodes) n (ap (λ xs. slice_get xs (length nodes)) is ∙ get_last nodes n)
      ∙ ap (λ rest. item ∷ rest) ((grows_one nodes after n older is).same below h)
    where
      plus_one : (k : ℕ) → k + 1 ≡ suc k
      plus_one k = omega arith

  pub pushed_inside : (nodes after : List (Node A)) (n : Node A) → after ≡ nodes ++ n ∷ [] → length nodes + 1 ≤ length after
  pushed_inside nodes after n is = subst (λ xs. length nodes + 1 ≤ length xs) (sym is) (omega (arith, length_one nodes n))

  -- where there was a number for one more
  pub numbers_one : (nodes after : List (Node A)) (n : Node A) (count : ℕ) → after ≡ nodes ++ n ∷ [] → count ≡ length nodes → count < most_numbers
      → length after ≤ most_numbers
  numbers_one nodes after n count is e h = subst (λ xs. length xs ≤ most_numbers) (sym is) (omega (arith, length_one nodes n, e, h))

pub ruleset pushing = (grows_one, older_one, pushed_reads, pushed_inside, numbers_one)

pub ruleset popping = (pop_top, pop_older, pop_inside, pop_none, read_zero)
