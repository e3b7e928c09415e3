-- A refused header has no table.
use Rattle.std.specs.Prelude.{◌≢◌, ℕ, List, Some}
use Rattle.nwq_value.specs.Engine.{EngineTable}
use Rattle.engine_table.specs.Headers.{IsRefused, OneHeader}
use Rattle.engine_table.specs.declared.fault.HeaderFault.{HeaderFault}
use Rattle.engine_table.specs.declared.fault.HeaderFault.TheVariants.{NoMemory}
use Rattle.play_save.specs.Rules.{IsHeaderOf}

pub refuses_header : (bytes : List ℕ) (fault : HeaderFault) → OneHeader → fault ≢ NoMemory → IsRefused bytes fault → ((table : EngineTable) × IsHeaderOf (Some bytes) table) → ⊥
refuses_header bytes fault one other refused has = one.not_both bytes has.0 fault other has.1.1 refused
