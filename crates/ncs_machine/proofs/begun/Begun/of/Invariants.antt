use Rattle.std.proofs.Common.{◌≡◌, reverse, take}
use Rattle.std.specs.List.{filter_map}
use Rattle.machine_frames.specs.Tops.{int_in}
use Rattle.ncs_machine.specs.Remarks.{spot_of}
use Rattle.ncs_machine.proofs.begun.Begun.of.Given as goal

-- the ints of the lowest of those cells
abbrev pub invariant-loop-i : goal.invariant-loop-i
invariant-loop-i l = l.begun ≡ record { spot = spot_of l.frame; ints = filter_map int_in (take l.i (reverse (take l.cells l.frame.stack.cells))) }
