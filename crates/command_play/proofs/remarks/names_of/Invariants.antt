use Rattle.std.proofs.Common.{◌≡◌, take}
use Rattle.command_play.specs.Named.{names_of}
use Rattle.command_play.proofs.remarks.names_of.Given as goal

abbrev pub invariant-loop-script : goal.invariant-loop-script
invariant-loop-script l = l.names ≡ names_of (take l.script-index l.scripts)
