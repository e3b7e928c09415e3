-- Plays of files between two of their entries: they stay such that there is a state of them.
use Rattle.std.specs.Prelude.{◌≢◌, ◌<◌, ◌≤◌, ◌+◌, ◌*◌, ◌-◌, min, ℕ, List, Option}
use Rattle.nwq_value.specs.Engine.{EngineTable, IsTable}
use Rattle.gff_tree.specs.Whole.{PlainGff}
use Rattle.area_rules.specs.Area.{area_of}
use Rattle.plan_text.specs.declared.plan.Plan.{Plan}
use Rattle.plan_text.specs.Plans.{Limits, limits_of, IsPlan}
use Rattle.play_worlds.specs.Worlds.{plan_world}
use Rattle.state_format.specs.Parts.{IsBlob}
use Rattle.saved_state.specs.declared.saved.Saved.{Saved}
use Rattle.machine_rules.specs.Machine.{Script}
use Rattle.world_rules.specs.Pure.{CellLookup}
use Rattle.world_rules.specs.World.{World}
use Rattle.world_rules.specs.Plays.{Progress, Played, StoppedInside}
use Rattle.ncs_machine.specs.Host.{host}
use Rattle.module_player.specs.CodePlays.{code_play_on}
use Rattle.play_room.specs.Kept.{CellsAreBytes, WorldIsKept}
use Rattle.play_save.specs.Rules.{IsAreaOf, count_limit}
use Rattle.play_save.specs.States.{MayLimit, MayCount}
use Rattle.play_save.specs.Written.{AreListed, Rests, StateOfPlay}

-- the play of listed scripts that goes on from a world, after so many entries and instructions, and
-- is broken off once `stop` entries were taken in all
abbrev pub play_from : CellLookup → EngineTable → List Script → Limits → ℕ → ℕ → ℕ → World Saved
    → Played Saved
play_from cell table scripts limits stop taken done w =
    code_play_on (host scripts
    (record { table = table; cell = cell })) limits.0 limits.1 limits.2 stop taken done w

-- the first entries of a plan over the area of a tree: so many at most
abbrev pub first_played : CellLookup → EngineTable → List Script → Plan → ℕ → PlainGff
    → Played Saved
first_played cell table scripts plan n tree = play_from cell table scripts (limits_of plan)
    (min n plan.entries) 0 0 (plan_world (area_of tree) plan)

-- it has room to go on counting
pub record MayCountOn (p : Progress Saved) : Type 0 where
  pub posts : p.world.agenda.next < count_limit
  pub instructions : p.count < count_limit

-- A play that goes on from a world that rests comes to one that rests, unless it is stopped inside
-- an entry.
abbrev pub PlaysRest : Type 0
PlaysRest =
    (cell : CellLookup) (header : Option (List ℕ)) (scripts : List Script)
    (listed : AreListed header scripts) (area : List ℕ) (limits : Limits) (stop taken done : ℕ)
    (w : World Saved)
    → IsTable listed.table → Rests listed.table scripts area w → MayLimit limits
    → MayCount limits w taken done
    → (play_from cell listed.table scripts limits stop taken done w).ending ≢ StoppedInside
    → MayCountOn (play_from cell listed.table scripts limits stop taken done w).last
    → Rests listed.table scripts area
    (play_from cell listed.table scripts limits stop taken done w).last.world
    × MayCount limits (play_from cell listed.table scripts limits stop taken done w).last.world
    (play_from cell listed.table scripts limits stop taken done w).last.entries
    (play_from cell listed.table scripts limits stop taken done w).last.count

-- So there is a state of it, where the values of the world that it goes on from are kept.
abbrev pub PlaysComeToStates : Type 0
PlaysComeToStates =
    (cell : CellLookup) (header : Option (List ℕ)) (scripts : List Script)
    (listed : AreListed header scripts) (area : List ℕ) (limits : Limits) (stop taken done : ℕ)
    (w : World Saved)
    → CellsAreBytes cell → IsTable listed.table → Rests listed.table scripts area w → WorldIsKept w
    → MayLimit limits → MayCount limits w taken done
    → (play_from cell listed.table scripts limits stop taken done w).ending ≢ StoppedInside
    → MayCountOn (play_from cell listed.table scripts limits stop taken done w).last
    → StateOfPlay header scripts area limits
    (play_from cell listed.table scripts limits stop taken done w).last.entries
    (play_from cell listed.table scripts limits stop taken done w).last.count
    (play_from cell listed.table scripts limits stop taken done w).last.world

-- How much a play counts: an entry executes so many instructions at most, and posts one entry for
-- each and two more.
abbrev pub PlaysCountFew : Type 0
PlaysCountFew = (cell : CellLookup) (table : EngineTable) (scripts : List Script) (limits : Limits)
    (stop taken done : ℕ) (w : World Saved)
    → ((play_from cell table scripts limits stop taken done w).last.count ≤ done +
    (stop - taken) * limits.0)
    × ((play_from cell table scripts limits stop taken done w).last.world.agenda.next ≤ w.agenda.next + (stop - taken) * (limits.0 + 2))

-- Of the first entries of a plan, over the area of a tree, there is a state, unless they are
-- stopped inside one.
abbrev pub FirstEntriesHaveStates : Type 0
FirstEntriesHaveStates =
    (cell : CellLookup) (header : Option (List ℕ)) (scripts : List Script)
    (listed : AreListed header scripts) (bytes : List ℕ) (tree : PlainGff) (plan : Plan) (n : ℕ)
    → CellsAreBytes cell → IsTable listed.table → IsPlan plan → IsAreaOf tree bytes → IsBlob bytes
    → (first_played cell listed.table scripts plan n tree).ending ≢ StoppedInside
    → StateOfPlay header scripts bytes (limits_of plan)
    (first_played cell listed.table scripts plan n tree).last.entries
    (first_played cell listed.table scripts plan n tree).last.count
    (first_played cell listed.table scripts plan n tree).last.world
