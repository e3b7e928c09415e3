-- The area that is made breaks no rule of areas, and its structs are few.
use Rattle.std.proofs.Common.{◌≡◌, ◌≤◌, ◌<◌, ◌+◌, ℕ, List, [], ◌∷◌, ◌++◌, map, length, refl, ap, sym, ◌∙◌, arith}
use Rattle.std.proofs.lemmas.List.FromFn.{length-range_with_len}
use Rattle.gff_tree.specs.Tree.{nodes_in, nodes_from}
use Rattle.gff_tree.specs.Whole.{PlainGff}
use Rattle.gff_tree.specs.Count.{node_count, nodes_count}
use Rattle.area_rules.specs.Area.{PlainArea, area_of}
use Rattle.area_rules.specs.Broken.{Place, broken_places, members_places}
use Rattle.play_generator.specs.Made.{below, creature_node, area_tree}

-- ---- the rules

whole_members : (list : ℕ) (numbers : List ℕ) (first : ℕ) → members_places list first (nodes_in (nodes_from (map creature_node numbers))) ≡ []
whole_members list [] first = refl
whole_members list (n ∷ numbers) first = whole_members list numbers (first + 1)

pub whole_area : (creatures : ℕ) → broken_places (area_tree creatures).top ≡ []
unfolding area_tree
whole_area creatures = ap (λ (places : List Place). places ++ []) (whole_members 0 (below creatures) 1)

-- ---- how many structs

count_nodes : (numbers : List ℕ) → nodes_count (nodes_from (map creature_node numbers)) ≡ length numbers
count_nodes [] = refl
count_nodes (n ∷ numbers) = let rest = count_nodes numbers in omega (arith, rest)

count_area : (creatures : ℕ) → node_count (area_tree creatures).top ≡ 1 + creatures
unfolding area_tree
count_area creatures = let nodes = count_nodes (below creatures) in let all = length-range_with_len 0 creatures in omega (arith, nodes, all)

module _ (tree : PlainGff) (creatures : ℕ) (is : tree ≡ area_tree creatures) where
  pub few_nodes : creatures ≤ 1000 → node_count tree.top < 4294967296
  few_nodes few = let count = ap (λ (t : PlainGff). node_count t.top) is in let all = count_area creatures in omega (arith, count, all, few)

  pub not_broken : (place : Place) (rest : List Place) → broken_places tree.top ≡ place ∷ rest → ⊥
  not_broken place rest broken =
      let none : broken_places tree.top ≡ [] = ap (λ (t : PlainGff). broken_places t.top) is ∙ whole_area creatures in
      let same : [] ≡ place ∷ rest = sym none ∙ broken in cc

  pub area_is : (area : PlainArea) → area ≡ area_of tree → area ≡ area_of (area_tree creatures)
  area_is area of = of ∙ ap area_of is

pub ruleset areas = (few_nodes, not_broken, area_is)
