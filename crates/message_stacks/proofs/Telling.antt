-- What is told of is refused.
use Rattle.std.proofs.Common.{◌≡◌, ℕ, List}
use Rattle.nwq_value.specs.Engine.{EngineTable}
use Rattle.ncs_code.specs.Plain.{PlainOp}
use Rattle.ncs_code.specs.File.{file_bytes}
use Rattle.stack_rules.specs.Rules.{WellStacked}
use Rattle.message_stacks.specs.Refused.{IsRefused}

pub refused_of : (header : EngineTable) (bytes : List ℕ) (code : List PlainOp) → bytes ≡ file_bytes code → (WellStacked header code → ⊥)
    → IsRefused header bytes
refused_of header bytes code spelled refused = record { code = code; spelled = spelled; refused = refused }

pub ruleset telling = (refused_of)
