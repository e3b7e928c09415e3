-- The file of a typed unit loads and passes the checker, so its play is that of its code.
use Rattle.std.proofs.Common.{◌≡◌, inl, inr, ℕ, List, Result, Ok, Err, subst, refl}
use Rattle.nwq_value.specs.Engine.{EngineTable}
use Rattle.nwq_outside.specs.Outside.{Contents}
use Rattle.typing_rules.specs.Typed.{TypedUnit}
use Rattle.emission_rules.specs.Units.{unit_file}
use Rattle.unit_laws.specs.Laws.{TypedUnitsAreWellTyped, TypedUnitsPass}
use Rattle.typing_laws.specs.Laws.{EachTypedUnitHasCode}
use Rattle.command_files.specs.Codes.{Whole, whole, code_by, code_in}
use Rattle.command_files.specs.Checks.{CheckFate, Passes as PassesCheck, Unstacked, IsCheckFate, passes, unstacked, check_by, checked_in, loaded_in}
use Rattle.command_work.specs.declared.status.Status.{Status}
use Rattle.command_work.specs.Work.{Work, then, Stays, IsCut, Does, MayBeCut, Finished}
use Rattle.command_work.specs.Parts.{cut_here}
use Rattle.command_work.specs.Outcomes.{IsSure}
use Rattle.command_plays.specs.Scripts.{plays_code, plays_file}
use Rattle.command_plays.specs.Laws.{SurePlays}
use Rattle.world_rules.specs.Pure.{CellLookup}
use Rattle.command_meaning.specs.Units.{code_of, Passes, UnitsAreWellTyped, UnitsPass}
use Rattle.command_meaning.specs.Files.{FilesPlayTheirCode}

-- ---- the file

pub units_are_well_typed : TypedUnitsAreWellTyped → UnitsAreWellTyped
units_are_well_typed typed header u table unit = typed header unit.tokens unit.tree u table unit.parses unit.types

pub units_pass : TypedUnitsPass → EachTypedUnitHasCode → UnitsPass
units_pass pass bounds header u table unit small =
    let has = bounds unit.tokens header unit.tree u unit.few unit.literals table unit.parses unit.types in
    let h = pass header unit.tokens unit.tree u table unit.parses unit.types has small in
    record { loads = h.0; stacked = h.1 }

-- ---- its play

stays_cut : {A : Type 0} (w : Work A) (r : Result A Status) (c c' : Contents) (t t' : List ℕ) → MayBeCut w → IsCut r → Stays c c' t t' → Does w c t r c' t'
stays_cut w (Ok a) c c' t t' may cut s = absurd cut
stays_cut w (Err e) c c' t t' may cut s = cut_here w e c c' t t' may cut s.0 s.1

module _ (sure : SurePlays) (cell : CellLookup) (header : EngineTable) (name file : List ℕ) (u : TypedUnit) (pass : Passes header u)
    (c : Contents) (t : List ℕ) (r : Result Finished Status) (c' : Contents) (t' : List ℕ) where
  may_play : MayBeCut (plays_code cell header name (code_of u))
  unfolding plays_code
  may_play = tt

  by_check : (fate : CheckFate) → IsCheckFate header (code_of u) fate → Does (then (check_by file (code_of u) fate) (plays_code cell header name)) c t r c' t'
      → Does (plays_code cell header name (code_of u)) c t r c' t'
  by_check PassesCheck (passes stacked) goes = goes
  by_check Unstacked (unstacked none) goes = absurd (none pass.stacked)

  checked_plays : Does (then (checked_in header file (code_of u)) (plays_code cell header name)) c t r c' t' → Does (plays_code cell header name (code_of u)) c t r c' t'
  unfolding checked_in
  checked_plays (inl cut) = stays_cut (plays_code cell header name (code_of u)) r c c' t t' may_play cut.0 cut.1
  checked_plays (inr h) = by_check h.found h.is h.goes

  pub file_plays : Does (plays_file cell header name file (unit_file u)) c t r c' t' → Does (plays_code cell header name (code_of u)) c t r c' t'
  unfolding plays_file loaded_in code_in
  file_plays (inl cut) = stays_cut (plays_code cell header name (code_of u)) r c c' t t' may_play cut.0 cut.1
  file_plays (inr h) =
      let one : IsSure (plays_file cell header name file (unit_file u)) = sure cell header name file (unit_file u) in
      let is : h.found ≡ Whole (code_of u) = one.0 c h.found (Whole (code_of u)) h.is (whole (code_of u) pass.loads refl) in
      checked_plays (subst (λ fate. Does (then (then (code_by file fate) (checked_in header file)) (plays_code cell header name)) c t r c' t') is h.goes)

pub files_play_their_code : UnitsPass → SurePlays → FilesPlayTheirCode
files_play_their_code pass sure cell header name u c t r c' t' h =
    file_plays sure cell header name h.file u (pass header u h.table h.unit h.small) c t r c' t' h.does
