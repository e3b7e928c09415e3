-- The instructions of a node's code are of nodes in it.
use Rattle.std.proofs.Common.{◌≡◌, ◌<◌, ◌≤◌, ◌+◌, sym, refl, subst, arith, ℕ, zero, suc, List, [], ◌∷◌, ◌++◌, length, drop, slice_get, None, Some, ◌⊎◌, inl, inr}
use Rattle.std.proofs.lemmas.List.{append-nil}
use Rattle.std.proofs.lemmas.Option.{same_Some}
use Rattle.nss_tree.specs.Units.{function}
use Rattle.ncs_emit.specs.Labelled.{Line}
use Rattle.emission_rules.specs.Layout.{Layout}
use Rattle.code_places.specs.Nodes.{Node, Bare, nodes_expr, nodes_item}
use Rattle.code_places.specs.Marks.{Mark}
use Rattle.code_places.specs.Laws.{HasCode, IsCodeOf, NodesOwn, StandsIn, of_expression, of_function, of_name, of_statement, owner}
use Rattle.code_places.proofs.Owned.{Marked}
use Rattle.code_places.proofs.Owners.{From, expr_marked, function_marked}

-- so many nodes without code before these
pub pad : ℕ → List Node → List Node
pad zero xs = xs
pad (suc k) xs = Bare ∷ pad k xs

pad_drop : (k : ℕ) (xs : List Node) → drop k (pad k xs) ≡ xs
unfolding pad
pad_drop zero xs = refl
pad_drop (suc k) xs = pad_drop k xs

inside : (xs : List Node) (j : ℕ) (node : Node) → slice_get xs j ≡ Some node → j < length xs
inside [] j node h = absurd cc
inside (x ∷ xs) zero node h = omega arith
inside (x ∷ xs) (suc j) node h = let lt = inside xs j node h in omega (arith, lt)

in_pad : (k : ℕ) (xs : List Node) (j : ℕ) (node : Node) → slice_get (pad k xs) j ≡ Some node → (node ≡ Bare) ⊎ ((k ≤ j) × (j < k + length xs))
unfolding pad
in_pad zero xs j node h = let lt = inside xs j node h in inr (omega arith, omega (arith, lt))
in_pad (suc k) xs zero node h = inl (sym (same_Some _ _ h))
in_pad (suc k) xs (suc j) node h = on (in_pad k xs j node h)
  where
    on : (node ≡ Bare) ⊎ ((k ≤ j) × (j < k + length xs)) → (node ≡ Bare) ⊎ ((suc k ≤ suc j) × (suc j < suc k + length xs))
    on (inl e) = inl e
    on (inr (le, lt)) = inr (omega (arith, le), omega (arith, lt))

no_code : (l : Layout) (node : Node) (code : List Line) → node ≡ Bare → IsCodeOf l node code → ⊥
no_code l node code is (of_expression n depth e same code-is) = absurd cc
no_code l node code is (of_statement out n depth x same code-is) = absurd cc
no_code l node code is (of_name n depth d same code-is) = absurd cc
no_code l node code is (of_function n f m t x ps body same code-is) = absurd cc

pub from_pad : (k : ℕ) (xs : List Node) → From (pad k (xs ++ [])) (Some k) (xs ++ [])
from_pad k xs = record { is = λ j e. subst (λ m. drop m (pad k (xs ++ [])) ≡ xs ++ []) (same_Some k j e) (pad_drop k (xs ++ [])) }

in_range : (l : Layout) (k : ℕ) (xs : List Node) (lines : List Line) (ms : List Mark) → Marked (HasCode l (pad k (xs ++ []))) None lines ms
    → (i j : ℕ) → owner ms i ≡ Some j → (k ≤ j) × (j < k + length xs)
in_range l k xs lines ms f i j h = on (f.owners i j h)
  where
    decide : (node : Node) (code : List Line) → IsCodeOf l node code → (node ≡ Bare) ⊎ ((k ≤ j) × (j < k + length (xs ++ []))) → (k ≤ j) × (j < k + length xs)
    decide node code is (inl e) = absurd (no_code l node code e is)
    decide node code is (inr (le, lt)) = (le, subst (λ ys. j < k + length ys) (append-nil xs) lt)

    on : (None ≡ Some j) ⊎ StandsIn (HasCode l (pad k (xs ++ []))) lines i j → (k ≤ j) × (j < k + length xs)
    on (inl e) = absurd cc
    on (inr r) = decide r.is.node r.code r.is.is (in_pad k (xs ++ []) j r.is.node r.is.numbered)

pub nodes_own : NodesOwn
nodes_own = record {
  exprs = λ l k e i j h. in_range l k (nodes_expr e) _ _ (expr_marked l (pad k (nodes_expr e ++ [])) 0 0 (Some k) e [] (from_pad k (nodes_expr e))) i j h;
  functions = λ l k m t x ps body i j h.
      in_range l k (nodes_item (function m t x ps (Some body))) _ _
      (function_marked l (pad k (nodes_item (function m t x ps (Some body)) ++ [])) 0 0 (Some k) m t x ps body [] (from_pad k (nodes_item (function m t x ps (Some body))))) i j h;
}
