-- One thing comes of a check.
use Rattle.std.proofs.Common.{◌≡◌, ℕ, List, length, refl}
use Rattle.nwq_value.specs.Engine.{EngineTable}
use Rattle.ncs_code.specs.Plain.{PlainOp}
use Rattle.command_work.specs.Outcomes.{IsSure, sure_then, sure_puts}
use Rattle.command_sources.specs.Headers.{table_of_word}
use Rattle.command_sources.specs.Laws.{SureTables}
use Rattle.command_files.specs.Codes.{code_in, code_named}
use Rattle.command_files.specs.Laws.{SureBytes, SureCodes}
use Rattle.command_files.specs.Checks.{CheckFate, Passes, Unstacked, IsCheckFate, passes, unstacked, check_by, checked_in, checked_named, loaded_in, passed_line, puts_passed, checks_under, checks}
use Rattle.command_files.specs.CheckLaws.{SureOps, SureLoaded, SureChecked, SureChecks}

module _ (header : EngineTable) (ops : List PlainOp) where
  one_fate : {a b : CheckFate} → IsCheckFate header ops a → IsCheckFate header ops b → a ≡ b
  one_fate (passes h) (passes k) = refl
  one_fate (passes h) (unstacked k) = absurd (k h)
  one_fate (unstacked h) (passes k) = absurd (h k)
  one_fate (unstacked h) (unstacked k) = refl

sure_by : (name : List ℕ) (ops : List PlainOp) (fate : CheckFate) → IsSure (check_by name ops fate)
sure_by name ops Passes = tt
sure_by name ops Unstacked = tt

pub sure_ops : SureOps
unfolding checked_in
sure_ops header name ops = (λ c a b p q. one_fate header ops p q, sure_by name ops)

pub sure_loaded : SureBytes → SureLoaded
unfolding loaded_in
sure_loaded codes header name bytes = sure_then (code_in name bytes) (checked_in header name) (codes name bytes) (sure_ops header name)

pub sure_checked : SureCodes → SureChecked
unfolding checked_named
sure_checked codes header name = sure_then (code_named name) (checked_in header name) (codes name) (sure_ops header name)

sure_under : SureCodes → (name : List ℕ) (header : EngineTable) → IsSure (checks_under name header)
unfolding checks_under
sure_under codes name header = sure_then (checked_named header name) puts_passed (sure_checked codes header name) (λ ops. sure_puts (passed_line (length ops)))

pub sure_checks : SureTables → SureCodes → SureChecks
unfolding checks
sure_checks tables codes header name = sure_then (table_of_word header) (checks_under name) (tables header) (sure_under codes name)
