-- What comes of a check does its work.
use Rattle.std.proofs.Common.{◌≡◌, ℕ, List, Result, Ok, Err, refl, subst}
use Rattle.nwq_value.specs.Engine.{EngineTable}
use Rattle.nwq_outside.specs.Outside.{Contents}
use Rattle.ncs_code.specs.Plain.{PlainOp}
use Rattle.stack_rules.specs.Rules.{MeetsRules, WellStacked}
use Rattle.stack_check.specs.Checked.{CheckedCode, kept_table}
use Rattle.command_work.specs.declared.flaw.CodeFlaw.TheVariants as flaw
use Rattle.command_work.specs.declared.status.Status.{Status}
use Rattle.command_work.specs.declared.status.Status.TheVariants.{Done, Words, Script, Code, Area, Limit, Missing, Fault, Memory, Long}
use Rattle.command_work.specs.Refusal.{BadCode}
use Rattle.command_work.specs.Work.{Does}
use Rattle.command_work.specs.Counts.{StopsSource, StopsCode}
use Rattle.command_work.specs.Parts.{Refuses, cut_here, finds_one, refused}
use Rattle.command_files.specs.Checks.{CheckFate, Passes, Unstacked, IsCheckFate, passes, unstacked, check_by, checked_in, StopsCheck}

abbrev IsValue : Result (List PlainOp) Status → List PlainOp → Type 0
IsValue r ops = r ≡ Ok ops

module _ (header : EngineTable) (name : List ℕ) (ops : List PlainOp) (c : Contents) where
  goes : (fate : CheckFate) (r : Result (List PlainOp) Status) (t t' : List ℕ) → IsCheckFate header ops fate → Does (check_by name ops fate) c t r c t'
      → Does (checked_in header name ops) c t r c t'
  unfolding checked_in
  goes fate r t t' is does = finds_one (λ (d : Contents) (f : CheckFate). IsCheckFate header ops f) (check_by name ops) fate c c t t' r is does

  pub passes_does : (checked : CheckedCode) (t : List ℕ) → checked.code ≡ ops → MeetsRules header ops (kept_table checked)
      → Does (checked_in header name ops) c t (Ok checked.code) c t
  passes_does checked t same meets =
      goes Passes (Ok checked.code) t t (passes (kept_table checked, meets)) (subst (λ x. IsValue (Ok checked.code) x) same refl, (refl, refl))

  pub unstacked_does : (answer : Status) (t t' : List ℕ) → (WellStacked header ops → ⊥) → Refuses (BadCode name flaw.Unstacked) t answer t'
      → Does (checked_in header name ops) c t (Err answer) c t'
  unstacked_does answer t t' none h =
      goes Unstacked (Err answer) t t' (unstacked none) (refused (BadCode name flaw.Unstacked) answer c t t' h)

  pub check_cut : (t : List ℕ) → Does (checked_in header name ops) c t (Err Memory) c t
  unfolding checked_in
  check_cut t = cut_here (checked_in header name ops) Memory c c t t tt tt refl refl

pub source_stops : (status : Status) → StopsSource status → StopsCheck status
source_stops Done h = h
source_stops Words h = h
source_stops Script h = h
source_stops Code h = absurd h
source_stops Area h = h
source_stops Limit h = h
source_stops Missing h = h
source_stops Fault h = h
source_stops Memory h = h
source_stops Long h = h

pub code_stops : (status : Status) → StopsCode status → StopsCheck status
code_stops Done h = h
code_stops Words h = h
code_stops Script h = absurd h
code_stops Code h = h
code_stops Area h = h
code_stops Limit h = h
code_stops Missing h = h
code_stops Fault h = h
code_stops Memory h = h
code_stops Long h = h

pub ruleset stops = (source_stops, code_stops)
