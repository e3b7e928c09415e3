use Rattle.std.proofs.Common.{◌≡◌, ℕ}
use Rattle.nwq_outside.specs.Outside.{content}
use Rattle.nss_include.specs.Gather.{AreReadOnce}
use Rattle.nss_include.specs.Progress.{RunSoFar, steps_left}
use Rattle.nss_include.proofs.gatherer.Gatherer.run.Given as goal

abbrev pub invariant-loop-here : goal.invariant-loop-here
invariant-loop-here g l =
    RunSoFar g.F.Files.tells (content (g.F.Files.contents l.fn.files)) l.fn.self l.self
    × (g.F.Files.contents l.files ≡ g.F.Files.contents l.fn.files)
    × (g.F.Files.counts l.files ≡ g.F.Files.counts l.fn.files)
    × ((start : ℕ) → AreReadOnce l.fn.self.unit.files start (g.F.Files.reads l.fn.files) → AreReadOnce l.self.unit.files start (g.F.Files.reads l.files))

abbrev pub decreases-loop-here : goal.decreases-loop-here
decreases-loop-here g l = steps_left l.self
