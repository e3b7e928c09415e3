-- What the words `tree FILE`, `check HEADER FILE`, `dis FILE TO` and `asm FILE TO` mean.
use Rattle.std.specs.Prelude.{◌≡◌, ℕ, List, ◌++◌, length, Result, Ok}
use Rattle.nwq_value.specs.Engine.{EngineTable}
use Rattle.nwq_outside.specs.Outside.{Contents, with_content}
use Rattle.gff_text.specs.Text.{tree_text}
use Rattle.ncs_code.specs.Plain.{PlainOp}
use Rattle.ncs_text.specs.Listing.{listing}
use Rattle.command_work.specs.declared.status.Status.{Status}
use Rattle.command_work.specs.Refusal.{Refusal}
use Rattle.command_work.specs.Work.{Finished}
use Rattle.command_files.specs.Texts.{disassembled_line, assembled_line}
use Rattle.command_files.specs.Checks.{passed_line}
use Rattle.nwq_top.specs.Accepting.{HasHeader, HasCode, ReadsTree, ReadsCode, ReadsAssembly}
use Rattle.nwq_top.specs.Refusing.{RefusesHeader, RefusesTree, RefusesCode, RefusesBinary, RefusesAssembly, IsRefused}

-- ---- what such a command comes to

-- what is read is there, or is refused
pub data Comes {A : Type 0} (Has : A → Type 0) (Refuses : Refusal → Type 0) : Type 0 where
  has : (a : A) → Has a → Comes Has Refuses
  refuses : (why : Refusal) → Refuses why → Comes Has Refuses

-- the one or the other; where it is refused, its line is put and its status answered; and else this
-- is done with what is there
pub record MeansRead {A : Type 0} (Has : A → Type 0) (Refuses : Refusal → Type 0)
    (Done : A → Type 0) (c : Contents) (t : List ℕ) (r : Result Finished Status)
    (c' : Contents) (t' : List ℕ) : Type 0 where
  pub comes : Comes Has Refuses
  pub refused : (why : Refusal) → Refuses why → IsRefused why c t r c' t'
  pub done : (a : A) → Has a → Done a

-- a text was put, and no file has changed
pub record IsPut (text : List ℕ) (c : Contents) (t : List ℕ) (r : Result Finished Status)
    (c' : Contents) (t' : List ℕ) : Type 0 where
  pub answer : r ≡ Ok tt
  pub taken : t' ≡ t ++ text
  pub contents : c' ≡ c

-- a file was written, and a line put
pub record IsWritten (name bytes line : List ℕ) (c : Contents) (t : List ℕ)
    (r : Result Finished Status) (c' : Contents) (t' : List ℕ) : Type 0 where
  pub answer : r ≡ Ok tt
  pub taken : t' ≡ t ++ line
  pub contents : c' ≡ with_content c name bytes

-- ---- the four

-- the text of the tree that a GFF file stands for is put
abbrev pub MeansTree : List ℕ → Contents → List ℕ → Result Finished Status → Contents → List ℕ
    → Type 0
MeansTree file c t r c' t' = MeansRead (ReadsTree c file) (RefusesTree c file)
    (λ tree. IsPut (tree_text tree) c t r c' t') c t r c' t'

-- the header has a table, under which some table of shapes meets the rules for the file's
-- instructions
pub record PassesCheck (header file : List ℕ) (c : Contents) (ops : List PlainOp) : Type 0 where
  pub table : EngineTable
  pub has_header : HasHeader c header table
  pub code : HasCode table c file ops

pub data RefusesCheck (header file : List ℕ) (c : Contents) : Refusal → Type 0 where
  of_header : (why : Refusal) → RefusesHeader c header why → RefusesCheck header file c why
  of_code : (table : EngineTable) (why : Refusal) → HasHeader c header table
      → RefusesBinary table c file why → RefusesCheck header file c why

-- it is told that a file passed, with the number of its instructions
abbrev pub MeansCheck : List ℕ → List ℕ → Contents → List ℕ → Result Finished Status → Contents
    → List ℕ → Type 0
MeansCheck header file c t r c' t' =
    MeansRead (PassesCheck header file c) (RefusesCheck header file c)
    (λ ops. IsPut (passed_line (length ops)) c t r c' t') c t r c' t'

-- the text of a file's instructions is written
abbrev pub MeansDisassemble : List ℕ → List ℕ → Contents → List ℕ → Result Finished Status
    → Contents → List ℕ → Type 0
MeansDisassemble file to c t r c' t' =
    MeansRead (ReadsCode c file) (RefusesCode c file)
    (λ ops. IsWritten to (listing ops)
    (disassembled_line to (length ops)) c t r c' t') c t r c' t'

-- the file of an assembler text is written
abbrev pub MeansAssemble : List ℕ → List ℕ → Contents → List ℕ → Result Finished Status → Contents
    → List ℕ → Type 0
MeansAssemble file to c t r c' t' =
    MeansRead (ReadsAssembly c file) (RefusesAssembly c file)
    (λ bytes. IsWritten to bytes (assembled_line to (length bytes)) c t r c' t') c t r c' t'
