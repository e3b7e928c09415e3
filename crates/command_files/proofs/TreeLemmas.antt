-- What comes of a GFF file's bytes does the work of its tree.
use Rattle.std.proofs.Common.{◌≡◌, ℕ, List, Some, None, Result, Ok, Err, refl, sym}
use Rattle.nwq_outside.specs.Outside.{Contents}
use Rattle.gff_bytes.specs.declared.rows.OpenFault.{OpenFault}
use Rattle.gff_bytes.specs.File.{open_fault}
use Rattle.gff_read.specs.declared.fault.TreeFault.{TreeFault}
use Rattle.gff_read.specs.declared.fault.TreeFault.TheVariants as fault
use Rattle.gff_read.specs.Rows.{TreeFails}
use Rattle.gff_read.specs.Stands.{Stands}
use Rattle.gff_read.specs.Walk as walk
use Rattle.gff_tree.specs.Whole.{PlainGff}
use Rattle.command_work.specs.declared.flaw.AreaFlaw.{AreaFlaw}
use Rattle.command_work.specs.declared.status.Status.{Status}
use Rattle.command_work.specs.declared.status.Status.TheVariants.{Memory}
use Rattle.command_work.specs.Refusal.{BadArea}
use Rattle.command_work.specs.Work.{Does}
use Rattle.command_work.specs.Parts.{Refuses, cut_here, finds_one, refused}
use Rattle.command_files.specs.Trees.{open_flaw, tree_flaw, IsBroken, TreeFate, Whole, Faulty, IsTreeFate, whole, unopened, broken, tree_by, tree_in}

none_some : (why : AreaFlaw) → None ≡ Some why → ⊥
none_some why e = let none : ⊥ = cc in none

ok_err : (r : Result PlainGff TreeFault) (tree : PlainGff) (fails : TreeFault) → r ≡ Ok tree → r ≡ Err fails → ⊥
ok_err r tree fails p q = let none : ⊥ = cc in none

-- where something is wrong, that is why it failed
fails_so : (fails : TreeFault) (why : AreaFlaw) (r : Result PlainGff TreeFault) → tree_flaw fails ≡ Some why → TreeFails fails r → r ≡ Err fails
fails_so (fault.Range range) why r is h = h
fails_so (fault.Kind field) why r is h = h
fails_so (fault.Shared at) why r is h = h
fails_so (fault.Deep at) why r is h = h
fails_so (fault.Label field) why r is h = h
fails_so fault.NoMemory why r is h = absurd (none_some why is)

module _ (name bytes : List ℕ) (c : Contents) where
  goes : (fate : TreeFate) (r : Result PlainGff Status) (t t' : List ℕ) → IsTreeFate bytes fate → Does (tree_by name fate) c t r c t'
      → Does (tree_in name bytes) c t r c t'
  unfolding tree_in
  goes fate r t t' is does = finds_one (λ (d : Contents) (f : TreeFate). IsTreeFate bytes f) (tree_by name) fate c c t t' r is does

  pub tree_does : (tree : PlainGff) (t : List ℕ) → Stands bytes tree → Does (tree_in name bytes) c t (Ok tree) c t
  tree_does tree t stands = goes (Whole tree) (Ok tree) t t (whole tree stands) (refl, (refl, refl))

  pub unopened_does : (fails : OpenFault) (answer : Status) (t t' : List ℕ) → open_fault bytes ≡ Some fails → Refuses (BadArea name (open_flaw fails)) t answer t'
      → Does (tree_in name bytes) c t (Err answer) c t'
  unopened_does fails answer t t' is h =
      goes (Faulty (open_flaw fails)) (Err answer) t t' (unopened fails is) (refused (BadArea name (open_flaw fails)) answer c t t' h)

  pub broken_does : (fails : TreeFault) (why : AreaFlaw) (answer : Status) (t t' : List ℕ) → open_fault bytes ≡ None → TreeFails fails (walk.tree_of bytes)
      → ((tree : PlainGff) → Stands bytes tree → TreeFails {Y = PlainGff} fails (Ok tree)) → Some why ≡ tree_flaw fails → Refuses (BadArea name why) t answer t'
      → Does (tree_in name bytes) c t (Err answer) c t'
  broken_does fails why answer t t' opens walks none is h =
      let fault : IsBroken bytes why = record {
        opens = opens;
        none = λ tree stands. ok_err (Ok tree) tree fails refl (fails_so fails why (Ok tree) (sym is) (none tree stands));
        fails = fails;
        first = fails_so fails why (walk.tree_of bytes) (sym is) walks;
        is = sym is;
      } in
      goes (Faulty why) (Err answer) t t' (broken why fault) (refused (BadArea name why) answer c t t' h)

  pub tree_cut : (t : List ℕ) → Does (tree_in name bytes) c t (Err Memory) c t
  unfolding tree_in
  tree_cut t = cut_here (tree_in name bytes) Memory c c t t tt tt refl refl

pub ruleset trees = (tree_does, broken_does, tree_cut)
