-- One thing comes of a GFF file.
use Rattle.std.proofs.Common.{◌≡◌, ℕ, List, Option, Some, None, Result, Err, sym, ap, ◌∙◌}
use Rattle.gff_bytes.specs.declared.rows.OpenFault.{OpenFault}
use Rattle.gff_read.specs.declared.fault.TreeFault.{TreeFault}
use Rattle.gff_read.specs.Stands.{OneTree}
use Rattle.gff_tree.specs.Whole.{PlainGff}
use Rattle.command_work.specs.declared.flaw.AreaFlaw.{AreaFlaw}
use Rattle.command_work.specs.Outcomes.{IsSure, sure_then, sure_file}
use Rattle.command_work.specs.Work.{file_named}
use Rattle.command_files.specs.Trees.{tree_flaw, open_flaw, IsBroken, TreeFate, Whole, Faulty, IsTreeFate, whole, unopened, broken, tree_by, tree_in, tree_named}
use Rattle.command_files.specs.Laws.{SureTrees}

same_open : (a b : OpenFault) (o : Option OpenFault) → o ≡ Some a → o ≡ Some b → a ≡ b
same_open a b o p q = cc

none_open : (a : OpenFault) (o : Option OpenFault) → o ≡ Some a → o ≡ None → ⊥
none_open a o p q = let none : ⊥ = cc in none

same_fault : (a b : TreeFault) (r : Result PlainGff TreeFault) → r ≡ Err a → r ≡ Err b → a ≡ b
same_fault a b r p q = cc

same_flaw : (a b : AreaFlaw) (o : Option AreaFlaw) → o ≡ Some a → o ≡ Some b → a ≡ b
same_flaw a b o p q = cc

module _ (bytes : List ℕ) where
  one_flaw : (a b : AreaFlaw) → IsBroken bytes a → IsBroken bytes b → a ≡ b
  one_flaw a b h k =
      let same : h.fails ≡ k.fails = same_fault h.fails k.fails _ h.first k.first in
      same_flaw a b (tree_flaw k.fails) (sym (ap tree_flaw same) ∙ h.is) k.is

  module _ (one : OneTree) where
    one_fate : {a b : TreeFate} → IsTreeFate bytes a → IsTreeFate bytes b → a ≡ b
    one_fate (whole x h) (whole y k) = ap Whole (one bytes x y h k)
    one_fate (whole x h) (unopened f k) = absurd (none_open f _ k h.opens)
    one_fate (whole x h) (broken why k) = absurd (k.none x h)
    one_fate (unopened f h) (whole y k) = absurd (none_open f _ h k.opens)
    one_fate (unopened f h) (unopened g k) = ap (λ x. Faulty (open_flaw x)) (same_open f g _ h k)
    one_fate (unopened f h) (broken why k) = absurd (none_open f _ h k.opens)
    one_fate (broken why h) (whole y k) = absurd (h.none y k)
    one_fate (broken why h) (unopened g k) = absurd (none_open g _ k h.opens)
    one_fate (broken why h) (broken because k) = ap Faulty (one_flaw why because h k)

sure_by : (name : List ℕ) (fate : TreeFate) → IsSure (tree_by name fate)
sure_by name (Whole tree) = tt
sure_by name (Faulty why) = tt

module _ (one : OneTree) where
  sure_in : (name bytes : List ℕ) → IsSure (tree_in name bytes)
  unfolding tree_in
  sure_in name bytes = (λ c a b p q. one_fate bytes one p q, sure_by name)

  pub sure_trees : SureTrees
  unfolding tree_named
  sure_trees name = sure_then (file_named name) (tree_in name) (sure_file name) (sure_in name)
