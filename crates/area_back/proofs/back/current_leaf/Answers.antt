use Rattle.std.specs.Int.{w32}
use Rattle.std.proofs.Common.{◌∙◌, ap}
use Rattle.std.proofs.lemmas.Int.{to_z-of_z}
use Rattle.gff_tree.specs.Tree.{Holds, Int, Str}
use Rattle.area_back.proofs.BackLemmas.{leaf_along}
use Rattle.area_back.proofs.back.current_leaf.Goals as goal

pub returns-in-Int : goal.returns-in-Int
returns-in-Int c = rw c.in-Int.is (ap (λ n. Holds (Int n)) (to_z-of_z w32 c.int.result (record { sfits = c.int.type_inv }) ∙ c.int.ensures.value))

pub returns-in-Text : goal.returns-in-Text
returns-in-Text c = rw c.in-Text.is (leaf_along _ _ c.text_leaf.result (ap (λ t. Holds (Str t)) c.text.ensures.value) c.text_leaf.ensures)
