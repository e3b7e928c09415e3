-- Listed scripts as a state has them.
use Rattle.std.specs.Prelude.{List, map}
use Rattle.ncs_code.specs.File.{file_bytes}
use Rattle.ncs_machine.specs.declared.scripts.Loaded.{Loaded}
use Rattle.state_format.specs.declared.parts.Script.{Script}

-- a listed script as a state has it: its name, and the bytes of its file
abbrev pub script_part : Loaded → Script
script_part l = record { name = l.name; code = file_bytes l.code.code }

abbrev pub script_parts : List Loaded → List Script
script_parts scripts = map script_part scripts
