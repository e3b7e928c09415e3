-- A script as it is read, seen as plain data.
use Rattle.std.specs.Prelude.{Result, Ok, Err}
use Rattle.nss_tree.specs.Reading.{plain_tree}
use Rattle.command_work.specs.declared.status.Status.{Status}
use Rattle.command_sources.specs.declared.script.Script.{Script}
use Rattle.command_sources.specs.Units.{PlainScript}

abbrev pub plain_script : Script → PlainScript
plain_script script = record {
  tokens = script.unit.tokens;
  files = script.unit.files;
  tree = plain_tree script.tree;
}

abbrev pub plain_script_answer : Result Script Status → Result PlainScript Status
plain_script_answer (Ok script) = Ok (plain_script script)
plain_script_answer (Err status) = Err status
