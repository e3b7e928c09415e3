-- The area's creatures one after the other, and that its tree is sound.
use Rattle.std.proofs.Common.{◌≡◌, ℕ, ◌+◌, true, List, [], ◌∷◌, ◌++◌, map, refl, sym, ap, arith, ◌∙◌, append_assoc}
use Rattle.std.specs.List.{list_all}
use Rattle.std.proofs.lemmas.List.FromFn.{map-range_with_len_more}
use Rattle.gff_tree.specs.Tree.{PlainNode, is_sound, is_sound_node}
use Rattle.gff_tree.specs.Fields.{ListIsSound}
use Rattle.play_generator.specs.Made.{below, creature_node, area_tree}

-- one more creature
pub one_more : (n : ℕ) (before out now : List PlainNode) → out ≡ before ++ map creature_node (below n) → now ≡ out ++ creature_node n ∷ []
    → now ≡ before ++ map creature_node (below (n + 1))
one_more n before out now so e =
    e ∙ ap (λ l. l ++ creature_node n ∷ []) so ∙ append_assoc before (map creature_node (below n)) (creature_node n ∷ [])
    ∙ ap (λ l. before ++ l) (sym (map-range_with_len_more creature_node 0 n n (omega arith)))

all_sound : (numbers : List ℕ) → list_all (is_sound_node 63) (map creature_node numbers) ≡ true
all_sound [] = refl
all_sound (n ∷ numbers) = all_sound numbers

pub area_sound : ListIsSound → (creatures : ℕ) → is_sound (area_tree creatures).top ≡ true
unfolding area_tree is_sound
area_sound list creatures = rw (list 63 (map creature_node (below creatures)), all_sound (below creatures)) refl
