-- Files of which a sentence tells why they are refused.
use Rattle.std.specs.Prelude.{◌≡◌, ℕ, List}
use Rattle.nwq_value.specs.Engine.{EngineTable}
use Rattle.ncs_code.specs.Plain.{PlainOp}
use Rattle.ncs_code.specs.File.{file_bytes}
use Rattle.stack_rules.specs.Rules.{WellStacked}

-- The bytes are those of a file of code for which no table of shapes meets the rules.
pub record IsRefused (header : EngineTable) (bytes : List ℕ) : Type 0 where
  pub code : List PlainOp
  pub spelled : bytes ≡ file_bytes code
  pub refused : WellStacked header code → ⊥
