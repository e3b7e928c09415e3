-- What comes of the bytes of a file of bytecode does the work of its instructions.
use Rattle.std.proofs.Common.{◌≡◌, ℕ, List, Some, Result, Ok, Err, refl, sym}
use Rattle.nwq_outside.specs.Outside.{Contents}
use Rattle.ncs_code.specs.Plain.{PlainOp}
use Rattle.ncs_code.specs.File.{IsCode, file_bytes}
use Rattle.ncs_file.specs.declared.fault.LoadFault.{LoadFault}
use Rattle.ncs_file.specs.Loading.{LoadFails}
use Rattle.command_work.specs.declared.flaw.CodeFlaw.{CodeFlaw}
use Rattle.command_work.specs.declared.status.Status.{Status}
use Rattle.command_work.specs.declared.status.Status.TheVariants.{Memory}
use Rattle.command_work.specs.Refusal.{BadCode}
use Rattle.command_work.specs.Work.{Does}
use Rattle.command_work.specs.Parts.{Refuses, cut_here, finds_one, refused}
use Rattle.command_files.specs.Codes.{load_flaw, CodeFate, Whole, Faulty, IsCodeFate, whole, broken, code_by, code_in}

module _ (name bytes : List ℕ) (c : Contents) where
  goes : (fate : CodeFate) (r : Result (List PlainOp) Status) (t t' : List ℕ) → IsCodeFate bytes fate → Does (code_by name fate) c t r c t'
      → Does (code_in name bytes) c t r c t'
  unfolding code_in
  goes fate r t t' is does = finds_one (λ (d : Contents) (f : CodeFate). IsCodeFate bytes f) (code_by name) fate c c t t' r is does

  pub code_does : (ops : List PlainOp) (t : List ℕ) → IsCode ops × (bytes ≡ file_bytes ops) → Does (code_in name bytes) c t (Ok ops) c t
  code_does ops t loaded = goes (Whole ops) (Ok ops) t t (whole ops loaded.0 loaded.1) (refl, (refl, refl))

  pub code_broken : (fails : LoadFault) (why : CodeFlaw) (answer : Status) (t t' : List ℕ) → LoadFails fails bytes → Some why ≡ load_flaw fails
      → Refuses (BadCode name why) t answer t' → Does (code_in name bytes) c t (Err answer) c t'
  code_broken fails why answer t t' h is refuses =
      goes (Faulty why) (Err answer) t t' (broken fails why h (sym is)) (refused (BadCode name why) answer c t t' refuses)

  pub code_cut : (t : List ℕ) → Does (code_in name bytes) c t (Err Memory) c t
  unfolding code_in
  code_cut t = cut_here (code_in name bytes) Memory c c t t tt tt refl refl

pub ruleset codes = (code_does, code_broken, code_cut)
