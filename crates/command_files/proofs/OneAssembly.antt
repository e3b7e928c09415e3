-- One thing comes of an assembler text.
use Rattle.std.proofs.Common.{◌≡◌, ◌≢◌, ℕ, List, Option, Some, None, Result, Ok, Err, refl, sym, ap, ◌∙◌}
use Rattle.ncs_text.specs.declared.fault.AsmFault.{AsmFault}
use Rattle.ncs_text.specs.declared.fault.AsmFault.TheVariants.{NoMemory}
use Rattle.ncs_text.specs.Laws.{OneAnswer}
use Rattle.command_work.specs.declared.flaw.CodeFlaw.{CodeFlaw}
use Rattle.command_work.specs.Outcomes.{IsSure, sure_then, sure_file}
use Rattle.command_work.specs.Work.{file_named}
use Rattle.command_files.specs.Assemblies.{asm_flaw, AssemblyFate, Whole, Faulty, IsAssemblyFate, whole, broken, assembly_by, assembly_in, assembly_named}
use Rattle.command_files.specs.Laws.{SureAssemblies}

abbrev Answer : Type 0
Answer = Result (List ℕ) AsmFault

none_some : (why : CodeFlaw) (o : Option CodeFlaw) → o ≡ None → o ≡ Some why → ⊥
none_some why o p q = let none : ⊥ = cc in none

same_flaw : (a b : CodeFlaw) (o : Option CodeFlaw) → o ≡ Some a → o ≡ Some b → a ≡ b
same_flaw a b o p q = cc

err_is : (a b : AsmFault) (r : Answer) → r ≡ Err a → r ≡ Err b → a ≡ b
err_is a b r p q = cc

ok_is : (a b : List ℕ) (r : Answer) → r ≡ Ok a → r ≡ Ok b → a ≡ b
ok_is a b r p q = cc

ok_err : (file : List ℕ) (fails : AsmFault) (r : Answer) → r ≡ Ok file → r ≡ Err fails → ⊥
ok_err file fails r p q = let none : ⊥ = cc in none

-- what is wrong isn't want of memory
not_memory : (fails : AsmFault) (why : CodeFlaw) (r : Answer) → asm_flaw fails ≡ Some why → r ≡ Err fails → r ≢ Err NoMemory
not_memory fails why r is p q = none_some why (asm_flaw fails) (ap asm_flaw (err_is fails NoMemory r p q)) is

module _ (one : OneAnswer) (text : List ℕ) where
  one_fate : {a b : AssemblyFate} → IsAssemblyFate text a → IsAssemblyFate text b → a ≡ b
  one_fate (whole x h) (whole y k) =
      ap Whole (ok_is x y (Ok x) refl (one text (Ok x) (Ok y) h k (ok_err x NoMemory (Ok x) refl) (ok_err y NoMemory (Ok y) refl)))
  one_fate (whole x h) (broken f why k is) =
      absurd (ok_err x f (Ok x) refl (one text (Ok x) (Err f) h k (ok_err x NoMemory (Ok x) refl) (not_memory f why (Err f) is refl)))
  one_fate (broken f why h is) (whole y k) =
      absurd (ok_err y f (Ok y) refl (one text (Ok y) (Err f) k h (ok_err y NoMemory (Ok y) refl) (not_memory f why (Err f) is refl)))
  one_fate (broken f why h is) (broken g because k so) =
      let both = one text (Err f) (Err g) h k (not_memory f why (Err f) is refl) (not_memory g because (Err g) so refl) in
      ap Faulty (same_flaw why because (asm_flaw g) (sym (ap asm_flaw (err_is f g (Err f) refl both)) ∙ is) so)

sure_by : (name : List ℕ) (fate : AssemblyFate) → IsSure (assembly_by name fate)
sure_by name (Whole file) = tt
sure_by name (Faulty why) = tt

module _ (one : OneAnswer) where
  sure_in : (name text : List ℕ) → IsSure (assembly_in name text)
  unfolding assembly_in
  sure_in name text = (λ c a b p q. one_fate one text p q, sure_by name)

  pub sure_assemblies : SureAssemblies
  unfolding assembly_named
  sure_assemblies name = sure_then (file_named name) (assembly_in name) (sure_file name) (sure_in name)
