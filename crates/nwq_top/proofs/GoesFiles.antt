-- Trees, bytecode and assembler texts: what reads them comes to an end that is no cut. Of what
-- checks code it can't be that it has none.
use Rattle.std.proofs.Common.{◌≡◌, ◌≢◌, ◌⊎◌, inl, inr, ℕ, ◌≤◌, List, length, Option, Some, None, Result, Ok, Err, refl, sym, subst, ◌∙◌}
use Rattle.std.specs.List.{AllByRecursion}
use Rattle.std.proofs.lemmas.List.Elements.{recursion_from_All}
use Rattle.nwq_value.specs.Limits.{file_limit}
use Rattle.nwq_value.specs.Engine.{EngineTable}
use Rattle.nwq_outside.specs.Outside.{Contents, ContentsAreBytes, content}
use Rattle.gff_bytes.specs.File.{open_fault}
use Rattle.gff_bytes.specs.declared.rows.OpenFault.{OpenFault}
use Rattle.gff_tree.specs.Whole.{PlainGff}
use Rattle.gff_read.specs.declared.fault.TreeFault.{TreeFault}
use Rattle.gff_read.specs.declared.fault.TreeFault.TheVariants as fault
use Rattle.gff_read.specs.Walk as walk
use Rattle.gff_read.specs.Stands.{Stands}
use Rattle.ncs_code.specs.Plain.{PlainOp}
use Rattle.ncs_code.specs.Spelling.{IsByte}
use Rattle.ncs_code.specs.File.{IsCode, file_bytes}
use Rattle.ncs_code.specs.Laws.{SpellingLaws, SizeLaws, PlaceLaws}
use Rattle.ncs_code.specs.declared.fault.CodeFault.TheVariants as op_fault
use Rattle.ncs_file.specs.declared.fault.LoadFault.{LoadFault}
use Rattle.ncs_file.specs.declared.fault.LoadFault.TheVariants as load
use Rattle.ncs_text.specs.declared.fault.AsmFault.{AsmFault}
use Rattle.ncs_text.specs.declared.fault.AsmFault.TheVariants as asm
use Rattle.stack_rules.specs.Rules.{WellStacked}
use Rattle.engine_table.specs.Headers.{OneHeader}
use Rattle.command_work.specs.declared.flaw.CodeFlaw.{CodeFlaw}
use Rattle.command_work.specs.declared.flaw.CodeFlaw.TheVariants as code_flaw
use Rattle.command_work.specs.declared.flaw.AreaFlaw.{AreaFlaw}
use Rattle.command_work.specs.declared.flaw.AreaFlaw.TheVariants as area_flaw
use Rattle.command_work.specs.Work.{file_named, puts, writes}
use Rattle.command_work.specs.Reading.{IsRead}
use Rattle.command_sources.specs.Headers.{table_of_word}
use Rattle.command_files.specs.Trees.{TreeFate, IsTreeFate, open_flaw, tree_flaw, tree_by, tree_in, tree_named}
use Rattle.command_files.specs.Trees as trees
use Rattle.command_files.specs.Codes.{CodeFate, IsCodeFate, load_flaw, code_by, code_in, code_named}
use Rattle.command_files.specs.Codes as codes_of
use Rattle.command_files.specs.Checks.{IsCheckFate, CheckFate, check_by, checked_in, checked_named, puts_passed, checks_under, checks}
use Rattle.command_files.specs.Checks as check
use Rattle.command_files.specs.Assemblies.{AssemblyFate, IsAssemblyFate, asm_flaw, assembly_by, assembly_in, assembly_named}
use Rattle.command_files.specs.Assemblies as assemblies
use Rattle.command_files.specs.Commands.{puts_tree, shows_tree, writes_and_puts, writes_listing, disassembles, writes_assembly, assembles}
use Rattle.nwq_top.specs.Accepting.{HasHeader, HasCode, ReadsCode}
use Rattle.nwq_top.proofs.Undeniable.{Undeniable, surely, with_it, either_way}
use Rattle.nwq_top.proofs.Going.{Goes, Anything, Still, goes_weaker, goes_next, goes_both, file_goes}
use Rattle.nwq_top.proofs.CodeFates.{CodeComes, code, broken, code_comes}
use Rattle.nwq_top.proofs.AssemblyFates.{AssemblyComes, assembly_comes}
use Rattle.nwq_top.proofs.AssemblyFates as texts
use Rattle.nwq_top.proofs.TreeFates.{IsNamed, TreeLaws, tree_named as walk_named, unread_stands_not}
use Rattle.nwq_top.proofs.GoesSources.{table_goes}

-- ---- trees

tree_flawed : (fails : TreeFault) → IsNamed {A = PlainGff} (Err fails) → (why : AreaFlaw) × (tree_flaw fails ≡ Some why)
tree_flawed (fault.Range range) h = (area_flaw.Range range.part range.at, refl)
tree_flawed (fault.Kind field) h = (area_flaw.Type field, refl)
tree_flawed (fault.Shared at) h = (area_flaw.Shared at, refl)
tree_flawed (fault.Deep at) h = (area_flaw.Deep at, refl)
tree_flawed (fault.Label field) h = (area_flaw.Label field, refl)
tree_flawed fault.NoMemory h = absurd h

module _ (laws : TreeLaws) where
  module _ (bytes : List ℕ) where
    abbrev TreeFated : Type 0
    TreeFated = (fate : TreeFate) × IsTreeFate bytes fate

    walked_fated : open_fault bytes ≡ None → (r : Result PlainGff TreeFault) → walk.tree_of bytes ≡ r → IsNamed r → TreeFated
    walked_fated clear (Ok tree) e named = (trees.Whole tree, trees.whole tree (laws.stand bytes tree clear e))
    walked_fated clear (Err fails) e named =
        let flaw = tree_flawed fails named in
        (trees.Faulty flaw.0, trees.broken flaw.0 (record { opens = clear; none = unread_stands_not laws.read bytes fails e; fails = fails; first = e; is = flaw.1 }))

    opened_fated : (o : Option OpenFault) → open_fault bytes ≡ o → TreeFated
    opened_fated None e = walked_fated e (walk.tree_of bytes) refl (walk_named bytes)
    opened_fated (Some fails) e = (trees.Faulty (open_flaw fails), trees.unopened fails e)

    pub tree_fated : TreeFated
    tree_fated = opened_fated (open_fault bytes) refl

  tree_in_goes : (name bytes : List ℕ) (c : Contents) → Goes (tree_in name bytes) c (Still c (Stands bytes))
  unfolding tree_in
  tree_in_goes name bytes c = let f = tree_fated bytes in (f.0, f.1, by_fate f.0 f.1)
    where
      by_fate : (fate : TreeFate) → IsTreeFate bytes fate → Goes (tree_by name fate) c (Still c (Stands bytes))
      by_fate (trees.Whole tree) (trees.whole _ stands) = (refl, stands)
      by_fate (trees.Faulty why) h = tt

  pub tree_goes : (name : List ℕ) (c : Contents) → Goes (tree_named name) c (λ tree d. d ≡ c)
  unfolding tree_named
  tree_goes name c =
      goes_next (file_named name) (tree_in name) c (Still c (IsRead c name)) (λ tree d. d ≡ c) (file_goes name c)
      (λ bytes d is. goes_weaker (tree_in name bytes) d (Still d (Stands bytes)) (λ tree e. e ≡ c) (tree_in_goes name bytes d) (λ tree e k. k.0 ∙ is.0))

  pub shows_tree_goes : (name : List ℕ) (c : Contents) → Goes (shows_tree name) c Anything
  unfolding shows_tree puts
  shows_tree_goes name c = goes_next (tree_named name) puts_tree c (λ tree d. d ≡ c) Anything (tree_goes name c) (λ tree d is. tt)

-- ---- bytecode

load_flawed : (fails : LoadFault) → fails ≢ load.NoMemory → (why : CodeFlaw) × (load_flaw fails ≡ Some why)
load_flawed load.Magic h = (code_flaw.Magic, refl)
load_flawed load.Length h = (code_flaw.Length, refl)
load_flawed (load.At at op_fault.Opcode) h = (code_flaw.Opcode at, refl)
load_flawed (load.At at op_fault.TypeByte) h = (code_flaw.TypeByte at, refl)
load_flawed (load.At at op_fault.Short) h = (code_flaw.Short at, refl)
load_flawed (load.Target at) h = (code_flaw.Target at, refl)
load_flawed load.NoMemory h = absurd (h refl)

-- the bytes are those of files: bytes, or instructions that are spelled
pub data IsSomeFile (bytes : List ℕ) : Type 0 where
  are_bytes : AllByRecursion IsByte bytes → IsSomeFile bytes
  is_code : (ops : List PlainOp) → IsCode ops → bytes ≡ file_bytes ops → IsSomeFile bytes

-- so is each file
abbrev pub AreFiles : Contents → Type 0
AreFiles c = (name bytes : List ℕ) → content c name ≡ Some bytes → IsSomeFile bytes

pub files_of_bytes : (c : Contents) → ContentsAreBytes c → AreFiles c
unfolding ContentsAreBytes
files_of_bytes c held name bytes is = are_bytes (recursion_from_All IsByte bytes (held name bytes is))

module _ (sizes : SizeLaws) (places : PlaceLaws) where
  abbrev CodeFated : List ℕ → Type 0
  CodeFated bytes = (fate : CodeFate) × IsCodeFate bytes fate

  code_fate_of : (bytes : List ℕ) → CodeComes bytes → CodeFated bytes
  code_fate_of bytes (code ops is e) = (codes_of.Whole ops, codes_of.whole ops is e)
  code_fate_of bytes (broken fails own h) = let flaw = load_flawed fails own in (codes_of.Faulty flaw.0, codes_of.broken fails flaw.0 h flaw.1)

  code_fated : (bytes : List ℕ) → length bytes ≤ file_limit → IsSomeFile bytes → CodeFated bytes
  code_fated bytes small (are_bytes held) = code_fate_of bytes (code_comes sizes places bytes held small)
  code_fated bytes small (is_code ops is e) = (codes_of.Whole ops, codes_of.whole ops is e)

  pub code_goes : (name : List ℕ) (c : Contents) → AreFiles c → Goes (code_named name) c (Still c (ReadsCode c name))
  unfolding code_named code_in
  code_goes name c held =
      goes_next (file_named name) (code_in name) c (Still c (IsRead c name)) (Still c (ReadsCode c name)) (file_goes name c)
      (λ bytes d is. let f = code_fated bytes is.1.small (held name bytes is.1.held) in (f.0, f.1, by_fate bytes is.1 f.0 f.1 d is.0))
    where
      by_fate : (bytes : List ℕ) → IsRead c name bytes → (fate : CodeFate) → IsCodeFate bytes fate → (d : Contents) → d ≡ c
          → Goes (code_by name fate) d (Still c (ReadsCode c name))
      by_fate bytes read (codes_of.Whole ops) (codes_of.whole _ is e) d same = (same, record { read = subst (IsRead c name) e read; code = is })
      by_fate bytes read (codes_of.Faulty why) h d same = tt

  pub disassemble_goes : (name to : List ℕ) (c : Contents) → AreFiles c → Goes (disassembles name to) c Anything
  unfolding disassembles writes_and_puts writes puts
  disassemble_goes name to c held =
      goes_next (code_named name) (writes_listing to) c (Still c (ReadsCode c name)) Anything (code_goes name c held) (λ ops d is. tt)

  -- ---- a check

  checked_goes : (header : EngineTable) (name : List ℕ) (ops : List PlainOp) (c : Contents) → ReadsCode c name ops
      → Undeniable (Goes (checked_in header name ops) c (Still c (HasCode header c name)))
  unfolding checked_in
  checked_goes header name ops c reads = with_it (either_way (WellStacked header ops)) by_case
    where
      by_case : WellStacked header ops ⊎ (WellStacked header ops → ⊥)
          → (fate : CheckFate) × IsCheckFate header ops fate × Goes (check_by name ops fate) c (Still c (HasCode header c name))
      by_case (inl stacked) = (check.Passes, check.passes stacked, (refl, record { read = reads.read; code = reads.code; stacked = stacked }))
      by_case (inr unstacked) = (check.Unstacked, check.unstacked unstacked, tt)

  pub binary_goes : (header : EngineTable) (name : List ℕ) (c : Contents) → AreFiles c → Undeniable (Goes (checked_named header name) c (Still c (HasCode header c name)))
  unfolding checked_named
  binary_goes header name c held =
      goes_both (code_named name) (checked_in header name) c (Still c (ReadsCode c name)) (Still c (HasCode header c name)) (surely (code_goes name c held))
      (λ ops d is. subst (λ x. Undeniable (Goes (checked_in header name ops) x (Still c (HasCode header c name)))) (sym is.0) (checked_goes header name ops c is.1))

  pub check_goes : OneHeader → (word name : List ℕ) (c : Contents) → AreFiles c → Undeniable (Goes (checks word name) c Anything)
  unfolding checks checks_under puts
  check_goes header word name c held =
      goes_both (table_of_word word) (checks_under name) c (Still c (HasHeader c word)) Anything (surely (table_goes header word c))
      (λ table d is. goes_both (checked_named table name) puts_passed d (Still d (HasCode table d name)) Anything
      (binary_goes table name d (subst AreFiles (sym is.0) held)) (λ ops e same. surely tt))

  -- ---- assembler texts

  asm_flawed : (fails : AsmFault) → fails ≢ asm.NoMemory → (why : CodeFlaw) × (asm_flaw fails ≡ Some why)
  asm_flawed (asm.Line number) h = (code_flaw.Line number, refl)
  asm_flawed (asm.Large size) h = (code_flaw.Large size, refl)
  asm_flawed (asm.Target number) h = (code_flaw.LineTarget number, refl)
  asm_flawed asm.NoMemory h = absurd (h refl)

  assembly_fate_of : (text : List ℕ) → AssemblyComes text → (fate : AssemblyFate) × IsAssemblyFate text fate
  assembly_fate_of text (texts.file bytes is) = (assemblies.Whole bytes, assemblies.whole bytes is)
  assembly_fate_of text (texts.broken fails own h) = let flaw = asm_flawed fails own in (assemblies.Faulty flaw.0, assemblies.broken fails flaw.0 h flaw.1)

  pub assemble_goes : SpellingLaws → (name to : List ℕ) (c : Contents) → Goes (assembles name to) c Anything
  unfolding assembles assembly_named assembly_in writes_and_puts writes puts
  assemble_goes spells name to c =
      goes_next (assembly_named name) (writes_assembly to) c Anything Anything
      (goes_next (file_named name) (assembly_in name) c (Still c (IsRead c name)) Anything (file_goes name c)
      (λ text d is. let f = assembly_fate_of text (assembly_comes spells sizes places text) in (f.0, f.1, by_fate f.0 d))) (λ bytes d is. tt)
    where
      by_fate : (fate : AssemblyFate) (d : Contents) → Goes (assembly_by name fate) d Anything
      by_fate (assemblies.Whole bytes) d = tt
      by_fate (assemblies.Faulty why) d = tt
