-- One thing comes of a tree.
use Rattle.std.proofs.Common.{◌≡◌, ℕ, List, [], ◌∷◌, Result, Ok, Err, refl, ap}
use Rattle.gff_tree.specs.Tree.{PlainNode}
use Rattle.gff_tree.specs.Whole.{PlainGff}
use Rattle.gff_write.specs.declared.fault.WriteFault.{WriteFault}
use Rattle.gff_write.specs.declared.fault.WriteFault.TheVariants as fault
use Rattle.gff_write.specs.File.{written, outcome_of}
use Rattle.area_rules.specs.Broken.{Place, broken_places}
use Rattle.command_work.specs.Outcomes.{IsSure, sure_then, sure_writes}
use Rattle.command_files.specs.Trees.{tree_named}
use Rattle.command_files.specs.Laws.{SureTrees}
use Rattle.play_inputs.specs.Areas.{AreaFate, Whole, Broken, IsAreaFate, whole, broken, area_by, area_in, area_named}
use Rattle.play_inputs.specs.Finals.{final_by, final_written}
use Rattle.play_inputs.specs.Laws.{SureAreas, SureFinals}

none_some : (place : Place) (rest xs : List Place) → xs ≡ [] → xs ≡ place ∷ rest → ⊥
none_some place rest xs p q = let none : ⊥ = cc in none

same_place : (a b : Place) (rest others xs : List Place) → xs ≡ a ∷ rest → xs ≡ b ∷ others → a ≡ b
same_place a b rest others xs p q = cc

module _ (top : PlainNode) where
  one_fate : {a b : AreaFate} → IsAreaFate top a → IsAreaFate top b → a ≡ b
  one_fate (whole p) (whole q) = refl
  one_fate (whole p) (broken place rest q) = absurd (none_some place rest (broken_places top) p q)
  one_fate (broken place rest p) (whole q) = absurd (none_some place rest (broken_places top) q p)
  one_fate (broken a rest p) (broken b others q) = ap Broken (same_place a b rest others (broken_places top) p q)

sure_by : (name : List ℕ) (tree : PlainGff) (fate : AreaFate) → IsSure (area_by name tree fate)
sure_by name tree Whole = tt
sure_by name tree (Broken place) = tt

sure_in : (name : List ℕ) (tree : PlainGff) → IsSure (area_in name tree)
unfolding area_in
sure_in name tree = (λ c a b p q. one_fate tree.top p q, sure_by name tree)

pub sure_areas : SureTrees → SureAreas
unfolding area_named
sure_areas trees name = sure_then (tree_named name) (area_in name) (trees name) (sure_in name)

sure_final : (name : List ℕ) (outcome : Result (List ℕ) WriteFault) → IsSure (final_by name outcome)
sure_final name (Ok bytes) = sure_writes name bytes
sure_final name (Err (fault.Large size)) = tt
sure_final name (Err fault.NoMemory) = tt

pub sure_finals : SureFinals
unfolding final_written
sure_finals name tree = sure_final name (outcome_of (written tree))
