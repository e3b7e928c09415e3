-- Runs lead worlds on by calls alone.
use Rattle.std.specs.Prelude.{◌≤◌, ℕ, List}
use Rattle.saved_state.specs.declared.saved.Saved.{Saved}
use Rattle.machine_rules.specs.Machine.{Script}
use Rattle.world_rules.specs.World.{World, count}
use Rattle.world_rules.specs.Kept.{IsWorld}
use Rattle.world_rules.specs.Settled.{IsLed}
use Rattle.ncs_machine.specs.declared.scripts.Begin.{Begin}
use Rattle.ncs_machine.specs.Host.{EngineView, host, run_from}

-- However scripts begin, and however many instructions they may take, what they make of a world as
-- one of its objects, or as none, comes of the engine's calls.
abbrev pub RunsLead : Type 0
RunsLead = (scripts : List Script) (e : EngineView) (limit script : ℕ) (begin : Begin) (self : ℕ)
    (w : World Saved)
    → IsWorld w → self ≤ count w
    → IsLed w (run_from (host scripts e) limit script begin self w).last.world
