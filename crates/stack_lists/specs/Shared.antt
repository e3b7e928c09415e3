-- Lists that share their lower parts, as numbers of nodes: 0 is the empty list, and k + 1 the list
-- whose top is node k.
use Rattle.std.specs.Prelude.{◌≡◌, ◌≤◌, ℕ, zero, suc, List, [], ◌∷◌, length, Option, None, Some, slice_get}
use Rattle.stack_lists.specs.declared.lists.Node.{Node}

abbrev pub with_node : {A : Type 0} → Option (Node A) → (ℕ → List A) → List A
with_node None go = []
with_node (Some n) go = n.item ∷ go n.below

-- the list with a number, where no more than so many nodes are gone through
abbrev pub read_within : {A : Type 0} → ℕ → List (Node A) → ℕ → List A
read_within zero nodes number = []
read_within (suc limit) nodes zero = []
read_within (suc limit) nodes (suc k) = with_node (slice_get nodes k) (read_within limit nodes)

-- the list with a number, its top first
unfoldable pub read : {A : Type 0} → List (Node A) → ℕ → List A
read nodes number = read_within number nodes number

-- each node lies on a list of older nodes
pub record AreOlder {A : Type 0} (nodes : List (Node A)) : Type 0 where
  pub by : (k : ℕ) (n : Node A) → slice_get nodes k ≡ Some n → n.below ≤ k

-- Nodes are only added, and the lists that were there stay as they were.
pub record Grows {A : Type 0} (before after : List (Node A)) : Type 0 where
  pub longer : length before ≤ length after
  pub same : (number : ℕ) → number ≤ length before → read after number ≡ read before number
