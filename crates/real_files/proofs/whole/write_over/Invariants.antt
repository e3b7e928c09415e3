use Rattle.std.proofs.Common.{◌≡◌}
use Rattle.std.specs.Prelude.{IsTrue}
use Rattle.std.specs.FinMap.{get}
use Rattle.real_files.proofs.whole.write_over.Given as goal

-- a name that is taken changes nothing
abbrev pub invariant-loop-number : goal.invariant-loop-number
invariant-loop-number g l =
    IsTrue g.D.Disk.tells → get (g.D.Disk.names l.fn.disk).modes l.fn.name ≡ l.fn.like → g.D.Disk.names l.disk ≡ g.D.Disk.names l.fn.disk
