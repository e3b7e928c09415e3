-- What comes of a typed unit's code does the work of its file.
use Rattle.std.proofs.Common.{◌≡◌, ◌≤◌, ◌<◌, ℕ, Bool, true, false, List, length, None, Result, Ok, Err, refl, subst, sym}
use Rattle.std.specs.Prelude.{IfOk, OnOk, nat_lt}
use Rattle.std.proofs.lemmas.Bool.{lt-ltb, le-ltb}
use Rattle.nwq_value.specs.Limits.{file_limit}
use Rattle.nwq_value.specs.Engine.{EngineTable, IsTable}
use Rattle.nwq_outside.specs.Outside.{Contents}
use Rattle.ncs_code.specs.File.{file_length}
use Rattle.ncs_code.specs.Laws.{SizeLaws}
use Rattle.ncs_emit.specs.declared.fault.EmitFault.{EmitFault}
use Rattle.ncs_emit.specs.declared.fault.EmitFault.TheVariants.{Large, NoMemory}
use Rattle.ncs_emit.specs.Faults.{EmitFails}
use Rattle.ncs_emit.specs.Labelled.{program}
use Rattle.nss_include.specs.declared.file.Source.{Source}
use Rattle.nss_include.specs.View.{Gathered}
use Rattle.nss_tree.specs.Source.{SourceTree}
use Rattle.unit_laws.specs.Laws.{TypedUnitsPass}
use Rattle.typing_rules.specs.Typed.{TypedUnit}
use Rattle.emission_rules.specs.Units.{unit_code, unit_file}
use Rattle.command_work.specs.declared.cause.Cause.TheVariants as cause
use Rattle.command_work.specs.declared.status.Status.{Status}
use Rattle.command_work.specs.declared.status.Status.TheVariants.{Memory}
use Rattle.command_work.specs.Work.{Does, MayBeCut, writes}
use Rattle.command_work.specs.Parts.{Refuses, cut_here, makes_does, refused, then_ok}
use Rattle.command_sources.specs.Units.{PlainScript, at_spot, grammar_symbols, spot_of}
use Rattle.command_sources.specs.Reading.{HasTree}
use Rattle.command_sources.specs.Reads.{ReadsUnit, reads_same, reads_still}
use Rattle.command_files.specs.Checks.{IsStackedFile}
use Rattle.command_files.specs.Commands.{writes_and_puts}
use Rattle.command_compile.specs.Made.{IsUnitFile, IsTreeFile}
use Rattle.command_compile.specs.Typings.{typed_in}
use Rattle.command_compile.specs.Files.{IsTooLarge, compiled_in, file_by, file_in}

-- ---- sizes

pub small_file : SizeLaws → (unit : TypedUnit) (bytes : List ℕ) → bytes ≡ unit_file unit → file_length (program (unit_code unit).lines) ≤ file_limit
    → length bytes ≤ file_limit
small_file laws unit bytes same small =
    subst (λ x. length x ≤ file_limit) (sym same) (subst (λ n. n ≤ file_limit) (sym (laws.file (program (unit_code unit).lines))) small)

pub too_large : SizeLaws → (unit : TypedUnit) (fault : EmitFault) → EmitFails fault (unit_code unit).lines → IsTooLarge (unit_file unit) fault
too_large laws unit (Large size) h =
    subst (λ n. file_limit < n) (sym (laws.file (program (unit_code unit).lines))) (subst (λ n. file_limit < n) h.0 h.1)
too_large laws unit NoMemory h = tt

pub ruleset sizes = (small_file, too_large)

-- ---- the work

module _ (files : List Source) (unit : TypedUnit) (c : Contents) where
  pub file_does : (bytes t : List ℕ) → bytes ≡ unit_file unit → length bytes ≤ file_limit
      → Does (file_in files unit) c t (Ok bytes) c t
  unfolding file_in
  file_does bytes t same small =
      subst (λ b. Does (file_by files b (unit_file unit)) c t (Ok bytes) c t) (sym (le-ltb file_limit (length (unit_file unit)) (subst (λ x. length x ≤ file_limit) same small)))
      (makes_does (unit_file unit) bytes c c t t same refl refl)

  pub large_does : (answer : Status) (t t' : List ℕ) → file_limit < length (unit_file unit)
      → Refuses (at_spot cause.Large (spot_of files None)) t answer t' → Does (file_in files unit) c t (Err answer) c t'
  unfolding file_in
  large_does answer t t' large h =
      subst (λ b. Does (file_by files b (unit_file unit)) c t (Err answer) c t') (sym (lt-ltb file_limit (length (unit_file unit)) large))
      (refused (at_spot cause.Large (spot_of files None)) answer c t t' h)

  may_file : (large : Bool) (file : List ℕ) → MayBeCut (file_by files large file)
  may_file true file = tt
  may_file false file = tt

  pub file_cut : (t : List ℕ) → Does (file_in files unit) c t (Err Memory) c t
  unfolding file_in
  file_cut t =
      cut_here (file_in files unit) Memory c c t t (may_file (nat_lt file_limit (length (unit_file unit))) (unit_file unit)) tt refl refl

-- the name of the file is still to be made
pub name_wanted : (name file line : List ℕ) (c : Contents) (t : List ℕ) → Does (writes_and_puts name file line) c t (Err Memory) c t
unfolding writes_and_puts writes
name_wanted name file line c t = cut_here (writes_and_puts name file line) Memory c c t t tt tt refl refl

-- a script that was typed goes on to its file
pub typed_then : (header : EngineTable) (script : PlainScript) (unit : TypedUnit) (files : List Source) (r : Result (List ℕ) Status) (c : Contents) (t t' t'' : List ℕ)
    → Does (typed_in header script) c t (Ok unit) c t' → files ≡ script.files → Does (file_in files unit) c t' r c t'' → Does (compiled_in header script) c t r c t''
unfolding compiled_in
typed_then header script unit files r c t t' t'' typed same does =
    then_ok (typed_in header script) (file_in script.files) unit c c c t t' t'' r typed (subst (λ fs. Does (file_in fs unit) c t' r c t'') same does)

pub ruleset files = (file_does, large_does, file_cut)

-- ---- the file of a tree that tokens have

module _ (pass : TypedUnitsPass) (header : EngineTable) (bytes : List ℕ) where
  unit_stacked : IsTable header → IsUnitFile header bytes → length bytes ≤ file_limit → IsStackedFile header bytes
  unit_stacked table h small =
      let both = pass header h.tokens h.tree h.unit table h.parses h.types h.code (subst (λ (b : List ℕ). length b ≤ file_limit) h.is small) in
      record { ops = program (unit_code h.unit).lines; code = both.0; is = h.is; stacked = both.1 }

  pub tree_stacked : IsTable header → (unit : Gathered) (tree : SourceTree) → HasTree unit tree → IsTreeFile header tree bytes → length bytes ≤ file_limit
      → IsStackedFile header bytes
  tree_stacked table unit tree has made small = unit_stacked table (made (grammar_symbols unit.tokens) has.parses) small

-- the same of an answer
pub answer_stacked : TypedUnitsPass → (header : EngineTable) (r : Result (List ℕ) Status) → IsTable header → (unit : Gathered) (tree : SourceTree) → HasTree unit tree
    → IfOk r (IsTreeFile header tree) → IfOk r (λ bytes. length bytes ≤ file_limit) → IfOk r (IsStackedFile header)
answer_stacked pass header (Ok bytes) table unit tree has made small = tree_stacked pass header bytes table unit tree has made small
answer_stacked pass header (Err status) table unit tree has made small = tt

pub ruleset stacks = (answer_stacked)

-- ---- what is read

-- between the header, behind which nothing had changed, and a write, which reads nothing
pub reads_behind : {A : Type 0} (r : Result A Status) (c d : Contents) (script : List ℕ) (before mid between now : ℕ) → d ≡ c → mid ≡ before → now ≡ between
    → ReadsUnit d script mid between → OnOk r (ReadsUnit c script before now)
reads_behind r c d script before mid between now same none still h =
    reads_same r c d script before mid now same none (reads_still r d script mid between now still h)
