-- Why a file was not made.
use Rattle.std.specs.Prelude.{◌≡◌, ◌<◌, List}
use Rattle.nwq_value.specs.Limits.{file_limit}
use Rattle.ncs_code.specs.File.{file_length}
use Rattle.ncs_emit.specs.declared.fault.EmitFault.{EmitFault}
use Rattle.ncs_emit.specs.declared.fault.EmitFault.TheVariants.{Large, NoMemory}
use Rattle.ncs_emit.specs.Labelled.{Line, program}

-- its size, or the want of memory, which may come at any time
abbrev pub EmitFails : EmitFault → List Line → Type 0
EmitFails (Large size) lines = (size ≡ file_length (program lines)) × (file_limit < size)
EmitFails NoMemory lines = Unit {0}
