-- That each file of a unit is read once.
use Rattle.std.proofs.Common.{◌≡◌, ℕ, suc, List, [], ◌∷◌, ◌++◌, length, refl, sym, ap, ◌∙◌}
use Rattle.nwq_outside.specs.Outside.{next}
use Rattle.nss_include.specs.declared.file.Source.{Source}
use Rattle.nss_include.specs.Units.{source}
use Rattle.nss_include.specs.View.{Gathered}
use Rattle.nss_include.specs.Gather.{after_reads, AreReadOnce}
use Rattle.nss_include.specs.Progress.{Opens}

longer : (files : List Source) (file : Source) → length (files ++ file ∷ []) ≡ suc (length files)
longer [] file = refl
longer (first ∷ files) file = ap suc (longer files file)

pub one_more : (old new : Gathered) (name : List ℕ) (before now : ℕ) → Opens old new name → now ≡ next before → (start : ℕ) → AreReadOnce old.files start before
    → AreReadOnce new.files start now
one_more old new name before now opens is start so =
    let more : length new.files ≡ suc (length old.files) = ap (λ (g : Gathered). length g.files) opens.is ∙ longer old.files (source name opens.bytes) in
    is ∙ ap next so ∙ ap (λ n. after_reads n start) (sym more)

-- the script's own file is the first
pub first_one : (old new : Gathered) (name : List ℕ) (before now : ℕ) → old ≡ record { files = []; tokens = [] } → Opens old new name → now ≡ next before
    → AreReadOnce new.files before now
first_one old new name before now empty opens is = one_more old new name before now opens is before (ap (λ (g : Gathered). after_reads (length g.files) before) (sym empty))
