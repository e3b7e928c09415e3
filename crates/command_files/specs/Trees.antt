-- The tree of the GFF file that a command names.
use Rattle.std.specs.Prelude.{◌≡◌, ℕ, List, Option, Some, None, Result, Ok, Err}
use Rattle.nwq_outside.specs.Outside.{Contents}
use Rattle.gff_bytes.specs.declared.rows.OpenFault.{OpenFault}
use Rattle.gff_bytes.specs.declared.rows.OpenFault.TheVariants as opening
use Rattle.gff_bytes.specs.File.{open_fault}
use Rattle.gff_read.specs.declared.fault.TreeFault.{TreeFault}
use Rattle.gff_read.specs.declared.fault.TreeFault.TheVariants as fault
use Rattle.gff_tree.specs.declared.tree.Gff.{Gff}
use Rattle.gff_read.specs.Stands.{Stands}
use Rattle.gff_read.specs.Walk as walk
use Rattle.gff_tree.specs.Whole.{PlainGff, plain_gff}
use Rattle.command_work.specs.declared.flaw.AreaFlaw.{AreaFlaw}
use Rattle.command_work.specs.declared.flaw.AreaFlaw.TheVariants as flaw
use Rattle.command_work.specs.declared.status.Status.{Status}
use Rattle.command_work.specs.Refusal.{BadArea}
use Rattle.command_work.specs.Work.{Work, Gives, Refused, Finds, then, file_named}

-- what is wrong with bytes that are no GFF file
abbrev pub open_flaw : OpenFault → AreaFlaw
open_flaw opening.Short = flaw.Short
open_flaw opening.Version = flaw.Version
open_flaw (opening.Section number) = flaw.Section number

-- what is wrong with a GFF file that has no tree
abbrev pub tree_flaw : TreeFault → Option AreaFlaw
tree_flaw (fault.Range range) = Some (flaw.Range range.part range.at)
tree_flaw (fault.Kind field) = Some (flaw.Type field)
tree_flaw (fault.Shared at) = Some (flaw.Shared at)
tree_flaw (fault.Deep at) = Some (flaw.Deep at)
tree_flaw (fault.Label field) = Some (flaw.Label field)
tree_flaw fault.NoMemory = None

-- a GFF file stands for no tree, and this is the first test of the walk over it that fails
pub record IsBroken (bytes : List ℕ) (why : AreaFlaw) : Type 0 where
  pub opens : open_fault bytes ≡ None
  pub none : (tree : PlainGff) → Stands bytes tree → ⊥
  pub fails : TreeFault
  pub first : walk.tree_of bytes ≡ Err fails
  pub is : tree_flaw fails ≡ Some why

-- what comes of a file's bytes: the tree that they stand for, or what is wrong with them
pub data TreeFate : Type 0 where
  Whole : (tree : PlainGff) → TreeFate
  Faulty : (why : AreaFlaw) → TreeFate

pub data IsTreeFate (bytes : List ℕ) : TreeFate → Type 0 where
  whole : (tree : PlainGff) → Stands bytes tree → IsTreeFate bytes (Whole tree)
  unopened : (fails : OpenFault) → open_fault bytes ≡ Some fails
      → IsTreeFate bytes (Faulty (open_flaw fails))
  broken : (why : AreaFlaw) → IsBroken bytes why → IsTreeFate bytes (Faulty why)

abbrev pub tree_by : List ℕ → TreeFate → Work PlainGff
tree_by name (Whole tree) = Gives tree
tree_by name (Faulty why) = Refused (BadArea name why)

-- the tree in the bytes of the file of this name
unfoldable pub tree_in : List ℕ → List ℕ → Work PlainGff
tree_in name bytes = Finds (λ (c : Contents) fate. IsTreeFate bytes fate) (tree_by name)

-- the tree of the GFF file of this name
unfoldable pub tree_named : List ℕ → Work PlainGff
tree_named name = then (file_named name) (tree_in name)

-- an answer, its tree seen as plain data
abbrev pub plain_tree_answer : Result Gff Status → Result PlainGff Status
plain_tree_answer (Ok tree) = Ok (plain_gff tree)
plain_tree_answer (Err status) = Err status
