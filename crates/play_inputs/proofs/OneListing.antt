-- One thing comes of the scripts that a plan lists.
use Rattle.std.proofs.Common.{ℕ, Bool, true, false, List, [], ◌∷◌, ◌++◌}
use Rattle.ncs_code.specs.Plain.{PlainOp}
use Rattle.nwq_value.specs.Engine.{EngineTable}
use Rattle.plan_text.specs.declared.plan.Script.{Script as ScriptLine}
use Rattle.machine_rules.specs.Machine.{Script}
use Rattle.command_work.specs.Outcomes.{IsSure, sure_then, sure_makes, sure_writes}
use Rattle.command_work.specs.Work.{makes, writes}
use Rattle.command_files.specs.Checks.{loaded_in}
use Rattle.command_files.specs.CheckLaws.{SureChecked, SureLoaded}
use Rattle.command_compile.specs.Files.{code_name, compiled_named}
use Rattle.command_compile.specs.Laws.{SureCompiled}
use Rattle.play_inputs.specs.Listings.{writes_loaded, source_named, code_by, playable, script_in, lists_on, scripts_listed}
use Rattle.play_inputs.specs.ListingLaws.{SureListed}

module _ (compiled : SureCompiled) (checked : SureChecked) (loaded : SureLoaded) (header : EngineTable) where
  sure_written : (file bytes : List ℕ) → IsSure (writes_loaded header file bytes)
  unfolding writes_loaded
  sure_written file bytes = sure_then (writes file bytes) (λ done. loaded_in header file bytes) (sure_writes file bytes) (λ done. loaded header file bytes)

  sure_source : (name : List ℕ) → IsSure (source_named header name)
  unfolding source_named
  sure_source name = sure_then (compiled_named header name) (writes_loaded header (code_name name)) (compiled header name) (sure_written (code_name name))

  sure_code : (binary : Bool) (name : List ℕ) → IsSure (code_by binary header name)
  sure_code true name = checked header (code_name name)
  sure_code false name = sure_source name

  sure_script : (line : ScriptLine) → IsSure (script_in header line)
  unfolding script_in
  sure_script line = sure_then (code_by line.binary header line.name) (λ (ops : List PlainOp). makes (playable line ops)) (sure_code line.binary line.name)
      (λ ops. sure_makes (playable line ops))

  sure_on : (scripts : List Script) (lines : List ScriptLine) → IsSure (lists_on header scripts lines)
  unfolding lists_on
  sure_on scripts [] = tt
  sure_on scripts (line ∷ lines) =
      sure_then (script_in header line) (λ script. lists_on header (scripts ++ script ∷ []) lines) (sure_script line) (λ script. sure_on (scripts ++ script ∷ []) lines)

pub sure_listed : SureCompiled → SureChecked → SureLoaded → SureListed
unfolding scripts_listed
sure_listed compiled checked loaded header lines = sure_on compiled checked loaded header [] lines
