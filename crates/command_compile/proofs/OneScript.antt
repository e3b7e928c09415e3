-- One thing comes of a script that is typed and compiled.
use Rattle.std.proofs.Common.{◌≡◌, ℕ, Bool, true, false, List, length, None, Some, sym, ap, ◌∙◌}
use Rattle.std.specs.Prelude.{nat_lt}
use Rattle.nwq_value.specs.Limits.{file_limit}
use Rattle.nwq_value.specs.Engine.{EngineTable}
use Rattle.nss_tree.specs.Source.{SourceTree}
use Rattle.typing_rules.specs.declared.fault.Fault.{Fault}
use Rattle.typing_rules.specs.Nodes.{kept}
use Rattle.typing_rules.specs.Typed.{TypedUnit}
use Rattle.typing_rules.specs.Meaning.{TypesUnit}
use Rattle.typing_rules.specs.Verdicts.{unit_faults}
use Rattle.typing_rules.specs.Laws.{OneTyped, TypedIsFaultless, LeastIsKept}
use Rattle.nss_include.specs.declared.file.Source.{Source}
use Rattle.emission_rules.specs.Units.{unit_file}
use Rattle.command_work.specs.Outcomes.{IsSure, sure_makes, sure_then, sure_puts, sure_writes}
use Rattle.command_sources.specs.Headers.{table_of_word}
use Rattle.command_sources.specs.Units.{PlainScript, unit_of}
use Rattle.command_sources.specs.Laws.{SureTables, SureUnits}
use Rattle.command_work.specs.Work.{writes, puts}
use Rattle.command_files.specs.Commands.{writes_and_puts}
use Rattle.command_compile.specs.Typings.{TypingFate, Whole, Faulty, IsTypingFate, whole, faulty, typing_by, typed_in}
use Rattle.command_compile.specs.Files.{file_by, file_in, compiled_in, compiled_named, code_name, compiled_line, writes_code, compiles_under, compiles}
use Rattle.command_compile.specs.Laws.{SureTyped, SureCompiled, SureCompiles}

abbrev fault_or : Fault → Rattle.std.specs.Prelude.Option Fault → Fault
fault_or other None = other
fault_or other (Some f) = f

some_same : (f g : Fault) → Some f ≡ Some g → f ≡ g
some_same f g e = ap (fault_or f) e

module _ (one : OneTyped) (faultless : TypedIsFaultless) (least : LeastIsKept) (header : EngineTable) (tree : SourceTree) where
  not_both : (unit : TypedUnit) (f : Fault) → TypesUnit header tree unit → kept None (unit_faults header tree) ≡ Some f → ⊥
  not_both unit f typed is = faultless header tree unit f typed (least header tree f is).is

  one_fate : {a b : TypingFate} → IsTypingFate header tree a → IsTypingFate header tree b → a ≡ b
  one_fate (whole s p) (whole t q) = ap Whole (one header tree s t p q)
  one_fate (whole s p) (faulty f q) = absurd (not_both s f p q)
  one_fate (faulty f p) (whole t q) = absurd (not_both t f q p)
  one_fate (faulty f p) (faulty g q) = ap Faulty (some_same f g (sym p ∙ q))

sure_by : (script : PlainScript) (fate : TypingFate) → IsSure (typing_by script fate)
sure_by script (Whole unit) = tt
sure_by script (Faulty fault) = tt

pub sure_typed : OneTyped → TypedIsFaultless → LeastIsKept → SureTyped
unfolding typed_in
sure_typed one faultless least header script = (λ c a b p q. one_fate one faultless least header script.tree p q, sure_by script)

sure_size : (files : List Source) (large : Bool) (file : List ℕ) → IsSure (file_by files large file)
sure_size files true file = tt
sure_size files false file = sure_makes file

sure_file : (files : List Source) (unit : TypedUnit) → IsSure (file_in files unit)
unfolding file_in
sure_file files unit = sure_size files (nat_lt file_limit (length (unit_file unit))) (unit_file unit)

sure_compiled_in : SureTyped → (header : EngineTable) (script : PlainScript) → IsSure (compiled_in header script)
unfolding compiled_in
sure_compiled_in typed header script = sure_then (typed_in header script) (file_in script.files) (typed header script) (sure_file script.files)

pub sure_compiled : SureUnits → SureTyped → SureCompiled
unfolding compiled_named
sure_compiled units typed header name = sure_then (unit_of name) (compiled_in header) (units name) (sure_compiled_in typed header)

sure_both : (name bytes line : List ℕ) → IsSure (writes_and_puts name bytes line)
unfolding writes_and_puts
sure_both name bytes line = sure_then (writes name bytes) (λ done. puts line) (sure_writes name bytes) (λ done. sure_puts line)

sure_under : SureCompiled → (script : List ℕ) (header : EngineTable) → IsSure (compiles_under script header)
unfolding compiles_under
sure_under compiled script header = sure_then (compiled_named header script) (writes_code script) (compiled header script)
    (λ file. sure_both (code_name script) file (compiled_line (code_name script) (length file)))

pub sure_compiles : SureTables → SureCompiled → SureCompiles
unfolding compiles
sure_compiles tables compiled header script = sure_then (table_of_word header) (compiles_under script) (tables header) (sure_under compiled script)
