-- One thing comes of a file of bytecode.
use Rattle.std.proofs.Common.{◌≡◌, ◌≢◌, ℕ, List, length, drop, Option, Some, None, sym, ap, ◌∙◌, subst, refl, arith}
use Rattle.std.specs.List.{AllByRecursion}
use Rattle.ncs_code.specs.Plain.{PlainOp}
use Rattle.ncs_code.specs.Spelling.{IsOp, four}
use Rattle.ncs_code.specs.Reading.{ops_of}
use Rattle.ncs_code.specs.File.{IsCode, spellings, file_bytes}
use Rattle.ncs_code.specs.Laws.{SpellingLaws}
use Rattle.ncs_file.specs.declared.fault.LoadFault.{LoadFault}
use Rattle.ncs_file.specs.declared.fault.LoadFault.TheVariants.{NoMemory}
use Rattle.ncs_file.specs.Loading.{LoadFails}
use Rattle.ncs_file.specs.Laws.{OneFault, NoFaultInCode}
use Rattle.command_work.specs.declared.flaw.CodeFlaw.{CodeFlaw}
use Rattle.command_work.specs.Outcomes.{IsSure, sure_then, sure_file}
use Rattle.command_work.specs.Work.{file_named}
use Rattle.command_files.specs.Codes.{load_flaw, CodeFate, Whole, Faulty, IsCodeFate, whole, broken, code_by, code_in, code_named}
use Rattle.command_files.specs.Laws.{SureBytes, SureCodes}

drop_header : (ops : List PlainOp) → drop 13 (file_bytes ops) ≡ spellings ops
unfolding four
drop_header ops = refl

-- a file is that of one list of instructions
same_ops : SpellingLaws → (a b : List PlainOp) → AllByRecursion IsOp a → AllByRecursion IsOp b → file_bytes a ≡ file_bytes b → a ≡ b
same_ops spells a b f g same =
    let n : ℕ = length (spellings a) in
    let bytes : spellings a ≡ spellings b = sym (drop_header a) ∙ ap (drop 13) same ∙ drop_header b in
    sym (spells.listed n a f (omega arith)) ∙ ap (ops_of n) bytes ∙ spells.listed n b g (omega (arith, ap length bytes))

none_some : (why : CodeFlaw) (o : Option CodeFlaw) → o ≡ None → o ≡ Some why → ⊥
none_some why o p q = let none : ⊥ = cc in none

same_flaw : (a b : CodeFlaw) (o : Option CodeFlaw) → o ≡ Some a → o ≡ Some b → a ≡ b
same_flaw a b o p q = let same : Some a ≡ Some b = sym p ∙ q in cc

-- what is wrong isn't want of memory
not_memory : (fails : LoadFault) (why : CodeFlaw) → load_flaw fails ≡ Some why → fails ≢ NoMemory
not_memory fails why is e = none_some why (load_flaw fails) (ap load_flaw e) is

-- the laws that are joined
record Laws : Type 0 where
  spells : SpellingLaws
  fault : OneFault
  none : NoFaultInCode

module _ (laws : Laws) (bytes : List ℕ) where
  sound : (ops : List PlainOp) (fails : LoadFault) (why : CodeFlaw) → IsCode ops → bytes ≡ file_bytes ops → LoadFails fails bytes → load_flaw fails ≡ Some why → ⊥
  sound ops fails why code is h flaw = not_memory fails why flaw (laws.none ops fails code (subst (λ x. LoadFails fails x) is h))

  one_fate : {a b : CodeFate} → IsCodeFate bytes a → IsCodeFate bytes b → a ≡ b
  one_fate (whole x h p) (whole y k q) = ap Whole (same_ops laws.spells x y h.each k.each (sym p ∙ q))
  one_fate (whole x h p) (broken f why k is) = absurd (sound x f why h p k is)
  one_fate (broken f why h is) (whole y k q) = absurd (sound y f why k q h is)
  one_fate (broken f why h is) (broken g because k so) =
      let same : f ≡ g = laws.fault bytes f g h k (not_memory f why is) (not_memory g because so) in
      ap Faulty (same_flaw why because (load_flaw g) (sym (ap load_flaw same) ∙ is) so)

sure_by : (name : List ℕ) (fate : CodeFate) → IsSure (code_by name fate)
sure_by name (Whole ops) = tt
sure_by name (Faulty why) = tt

pub sure_bytes : SpellingLaws → OneFault → NoFaultInCode → SureBytes
unfolding code_in
sure_bytes spells fault none name bytes = (λ c a b p q. one_fate (record { spells = spells; fault = fault; none = none }) bytes p q, sure_by name)

pub sure_codes : SureBytes → SureCodes
unfolding code_named
sure_codes bytes name = sure_then (file_named name) (code_in name) (sure_file name) (bytes name)
