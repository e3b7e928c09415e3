use Rattle.std.proofs.Common.{◌≡◌, map, take}
use Rattle.state_parts.specs.World.{entry_of}
use Rattle.play_save.proofs.entries.agenda.Given as goal

abbrev pub invariant-loop-part : goal.invariant-loop-part
invariant-loop-part l = l.agenda.waiting ≡ record { entries = map entry_of (take l.part-index l.parts); next = l.next }
