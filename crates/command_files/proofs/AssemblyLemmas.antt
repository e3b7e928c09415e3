-- What comes of an assembler text does the work of its file.
use Rattle.std.proofs.Common.{◌≡◌, ℕ, List, Some, Result, Ok, Err, refl, sym}
use Rattle.nwq_outside.specs.Outside.{Contents}
use Rattle.ncs_text.specs.declared.fault.AsmFault.{AsmFault}
use Rattle.ncs_text.specs.Assembly.{IsAssembled, AssemblyFails}
use Rattle.command_work.specs.declared.flaw.CodeFlaw.{CodeFlaw}
use Rattle.command_work.specs.declared.status.Status.{Status}
use Rattle.command_work.specs.declared.status.Status.TheVariants.{Memory}
use Rattle.command_work.specs.Refusal.{BadCode}
use Rattle.command_work.specs.Work.{Does}
use Rattle.command_work.specs.Parts.{Refuses, cut_here, finds_one, refused}
use Rattle.command_files.specs.Assemblies.{asm_flaw, AssemblyFate, Whole, Faulty, IsAssemblyFate, whole, broken, assembly_by, assembly_in}

module _ (name text : List ℕ) (c : Contents) where
  goes : (fate : AssemblyFate) (r : Result (List ℕ) Status) (t t' : List ℕ) → IsAssemblyFate text fate → Does (assembly_by name fate) c t r c t'
      → Does (assembly_in name text) c t r c t'
  unfolding assembly_in
  goes fate r t t' is does = finds_one (λ (d : Contents) (f : AssemblyFate). IsAssemblyFate text f) (assembly_by name) fate c c t t' r is does

  pub assembly_does : (file : List ℕ) (t : List ℕ) → IsAssembled text file → Does (assembly_in name text) c t (Ok file) c t
  assembly_does file t is = goes (Whole file) (Ok file) t t (whole file is) (refl, (refl, refl))

  pub assembly_broken : (fails : AsmFault) (why : CodeFlaw) (answer : Status) (t t' : List ℕ) → AssemblyFails fails text → Some why ≡ asm_flaw fails
      → Refuses (BadCode name why) t answer t' → Does (assembly_in name text) c t (Err answer) c t'
  assembly_broken fails why answer t t' h is refuses =
      goes (Faulty why) (Err answer) t t' (broken fails why h (sym is)) (refused (BadCode name why) answer c t t' refuses)

  pub assembly_cut : (t : List ℕ) → Does (assembly_in name text) c t (Err Memory) c t
  unfolding assembly_in
  assembly_cut t = cut_here (assembly_in name text) Memory c c t t tt tt refl refl

pub ruleset assemblies = (assembly_does, assembly_broken, assembly_cut)
