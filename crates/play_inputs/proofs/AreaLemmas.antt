-- What comes of a tree does the work of its area.
use Rattle.std.proofs.Common.{◌≡◌, ℕ, List, [], ◌∷◌, Some, None, Result, Ok, Err, refl, sym, ap, subst}
use Rattle.nwq_outside.specs.Outside.{Contents}
use Rattle.gff_tree.specs.declared.tree.Gff.{Gff}
use Rattle.gff_tree.specs.Whole.{PlainGff, plain_gff}
use Rattle.area_rules.specs.declared.fault.AreaFault.{AreaFault}
use Rattle.area_rules.specs.declared.fault.AreaFault.TheVariants as fault
use Rattle.area_rules.specs.Broken.{Place, broken_places, IsFirst}
use Rattle.area_rules.specs.Area.{PlainArea, area_of}
use Rattle.command_work.specs.declared.flaw.AreaFlaw.{AreaFlaw}
use Rattle.command_work.specs.declared.status.Status.{Status}
use Rattle.command_work.specs.declared.status.Status.TheVariants.{Memory}
use Rattle.command_work.specs.Refusal.{BadArea}
use Rattle.command_work.specs.Work.{Does}
use Rattle.command_work.specs.Parts.{Refuses, cut_here, finds_one, refused}
use Rattle.play_inputs.specs.Areas.{area_flaw, place_flaw, AreaFate, Whole, Broken, IsAreaFate, whole, broken, area_by, area_in, TellsArea}
use Rattle.gff_read.specs.Stands.{Stands}

none_some : (why : AreaFlaw) → Some why ≡ None → ⊥
none_some why e = let none : ⊥ = cc in none

same_some : (why because : AreaFlaw) → Some why ≡ Some because → why ≡ because
same_some why because e = cc

module _ (name : List ℕ) (c : Contents) where
  goes : (tree : PlainGff) (fate : AreaFate) (r : Result PlainArea Status) (t t' : List ℕ) → IsAreaFate tree.top fate → Does (area_by name tree fate) c t r c t'
      → Does (area_in name tree) c t r c t'
  unfolding area_in
  goes tree fate r t t' is does = finds_one (λ (d : Contents) (f : AreaFate). IsAreaFate tree.top f) (area_by name tree) fate c c t t' r is does

  pub area_does : (tree : Gff) (area : PlainArea) (t : List ℕ) → (broken_places (plain_gff tree).top ≡ []) × (area ≡ area_of (plain_gff tree))
      → Does (area_in name (plain_gff tree)) c t (Ok area) c t
  area_does tree area t read = goes (plain_gff tree) Whole (Ok area) t t (whole read.0) (ap Ok read.1, (refl, refl))

  broken_at : (tree : PlainGff) (place : Place) (answer : Status) (t t' : List ℕ) → (others : List Place) × (broken_places tree.top ≡ place ∷ others)
      → Refuses (BadArea name (place_flaw place)) t answer t' → Does (area_in name tree) c t (Err answer) c t'
  broken_at tree place answer t t' first h =
      goes tree (Broken place) (Err answer) t t' (broken place first.0 first.1) (refused (BadArea name (place_flaw place)) answer c t t' h)

  pub area_broken : (tree : PlainGff) (fails : AreaFault) (why : AreaFlaw) (answer : Status) (t t' : List ℕ) → IsFirst fails (broken_places tree.top)
      → Some why ≡ area_flaw fails → Refuses (BadArea name why) t answer t' → Does (area_in name tree) c t (Err answer) c t'
  area_broken tree (fault.Shape list member entry) why answer t t' first is h =
      let place : Place = record { list = list; member = member; entry = entry } in
      broken_at tree place answer t t' first (subst (λ w. Refuses (BadArea name w) t answer t') (same_some why (place_flaw place) is) h)
  area_broken tree fault.NoMemory why answer t t' first is h = absurd (none_some why is)

  pub area_cut : (tree : PlainGff) (t : List ℕ) → Does (area_in name tree) c t (Err Memory) c t
  unfolding area_in
  area_cut tree t = cut_here (area_in name tree) Memory c c t t tt tt refl refl

-- what stands for a tree that breaks no rule tells its area
pub tells : (bytes : List ℕ) (tree : PlainGff) (area : PlainArea) → Stands bytes tree → (broken_places tree.top ≡ []) × (area ≡ area_of tree) → TellsArea bytes area
tells bytes tree area stands read = subst (TellsArea bytes) (sym read.1) (record { stands = stands; whole = read.0; is = refl })

pub ruleset areas = (area_does, area_broken, area_cut)
