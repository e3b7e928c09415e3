-- How a play of files ends, where a stack fault of the machine is an end of its own; and that no
-- play of checked files has it.
use Rattle.std.specs.Prelude.{◌≡◌, ℕ, zero, suc, ◌-◌, ◌==◌, if◌then◌else◌, List, [], ◌∷◌, Option, None, Some}
use Rattle.std.specs.List.{AllByRecursion}
use Rattle.nwq_value.specs.Engine.{EngineTable, IsTable}
use Rattle.area_rules.specs.Area.{PlainArea}
use Rattle.delay_agenda.specs.declared.entry.Kind.{Kind}
use Rattle.delay_agenda.specs.declared.entry.Kind.TheVariants.{Event, Stored, Turn, Unapply}
use Rattle.saved_state.specs.declared.saved.Saved.{Saved}
use Rattle.machine_rules.specs.Machine.{Host, Script, script_named}
use Rattle.machine_rules.specs.Runs as runs
use Rattle.machine_rules.specs.Runs.{run_script, run_stored}
use Rattle.stack_rules.specs.Rules.{WellStacked}
use Rattle.stack_rules.specs.Fits.{Tables}
use Rattle.stack_rules.specs.Laws.{AllMeet}
use Rattle.ncs_machine.specs.Stored.{StatesFit}
use Rattle.world_rules.specs.Pure.{CellLookup}
use Rattle.world_rules.specs.World.{World}
use Rattle.world_rules.specs.Turns.{Begun, Planned, begin, new_world, turn}
use Rattle.world_rules.specs.Plays.{PlayEnd, Done, StoppedInside, Paused, Bounds, Progress, entry_entered, full, further, play_on, unplayed}
use Rattle.module_player.specs.CodePlays.{code_runner}
use Rattle.play_meaning.specs.Together.{whole}
use Rattle.command_plays.specs.Plays.{host_of}

-- as plays end, or at an instruction for which the machine has no case
pub data CodeEnd : Type 0 where
  Ends : PlayEnd → CodeEnd
  StackFault : CodeEnd

-- ---- how the machine ends the scripts of an entry; where none runs, they are over

abbrev pub named_ending : Host (World Saved) → ℕ → ℕ → Option ℕ → World Saved → runs.Ending
named_ending host limit o None w = runs.Over
named_ending host limit o (Some script) w = (run_script host limit script o w).ending

abbrev pub event_ending : Host (World Saved) → ℕ → ℕ → List ℕ → World Saved → runs.Ending
event_ending host limit o [] w = runs.Over
event_ending host limit o (b ∷ name) w = named_ending host limit o
    (script_named host.scripts (b ∷ name)) w

abbrev pub turn_ending : Host (World Saved) → ℕ → ℕ → Option Saved → World Saved → runs.Ending
turn_ending host limit o None w = runs.Over
turn_ending host limit o (Some saved) w = (run_stored host limit saved o w).ending

abbrev pub kind_ending : Host (World Saved) → ℕ → Kind Saved → World Saved → runs.Ending
kind_ending host limit (Event o name user) w = event_ending host limit o name w
kind_ending host limit (Stored o saved) w = (run_stored host limit saved o w).ending
kind_ending host limit (Turn o) w = turn_ending host limit o (turn o w).action (turn o w).world
kind_ending host limit (Unapply o) w = runs.Over

abbrev pub entry_ending : Host (World Saved) → ℕ → Begun Saved → runs.Ending
entry_ending host limit b = kind_ending host limit b.entry.kind b.world

-- ---- how the play ends: as `plays` of the world's rules goes, from entry to entry

abbrev pub ends_after : runs.Ending → CodeEnd → CodeEnd
ends_after runs.Over rest = rest
ends_after runs.ZeroDivisor rest = rest
ends_after runs.OutOfInstructions rest = Ends StoppedInside
ends_after runs.StackFault rest = StackFault

abbrev pub next_ends : Host (World Saved) → ℕ → Option (Begun Saved) → Progress Saved
    → (Progress Saved → CodeEnd) → CodeEnd
next_ends host limit None p rest = Ends Done
next_ends host limit (Some b) p rest = ends_after (entry_ending host limit b)
    (rest (further (entry_entered (code_runner host limit) b) p))

abbrev pub code_ends : Host (World Saved) → ℕ → Bounds → ℕ → Progress Saved → CodeEnd
code_ends host limit bounds zero p = Ends Paused
code_ends host limit bounds (suc left) p =
    if p.entries == bounds.entries then Ends (full (begin bounds.until p.world))
    else next_ends host limit (begin bounds.until p.world) p (code_ends host limit bounds left)

-- a play that goes on from here: at most so many instructions in an entry, and as far as the bounds
-- allow
abbrev pub code_end : Host (World Saved) → ℕ → Bounds → Progress Saved → CodeEnd
code_end host limit bounds p = code_ends host limit bounds (bounds.stop - p.entries) p

-- ---- checked files

-- The play of files that goes on from here ends as plays do, and so at no stack fault.
abbrev pub GoesWithoutFault : Host (World Saved) → ℕ → Bounds → Progress Saved → Type 0
GoesWithoutFault host limit bounds p = code_end host limit bounds p
    ≡ Ends (play_on (code_runner host limit) bounds p).ending

-- So does a whole play from a world on.
abbrev pub EndsWithoutFault : Host (World Saved) → ℕ → ℕ → ℕ → World Saved → Type 0
EndsWithoutFault host limit entries until w = GoesWithoutFault host limit (whole entries until)
    (unplayed w)

-- every script is well stacked under a header
abbrev pub AreStacked : EngineTable → List Script → Type 0
AreStacked header scripts = AllByRecursion (λ s. WellStacked header s.code) scripts

-- So does every play of checked files that goes on from a world whose captured states fit.
abbrev pub CheckedPlaysGoOn : Type 0
CheckedPlaysGoOn =
    (cell : CellLookup) (header : EngineTable) (scripts : List Script) (tables : Tables) (limit : ℕ)
    (bounds : Bounds) (p : Progress Saved)
    → IsTable header → AllMeet header scripts tables → StatesFit scripts tables p.world
    → GoesWithoutFault (host_of cell header scripts) limit bounds p

-- So does every one from the world of an area and of what is planned in it, in which no state is
-- captured.
abbrev pub CheckedPlaysHaveNoFault : Type 0
CheckedPlaysHaveNoFault =
    (cell : CellLookup) (header : EngineTable) (scripts : List Script) (limit : ℕ) (bounds : Bounds)
    (area : PlainArea) (random : List ℕ) (events : List Planned) (version : ℕ)
    → IsTable header → AreStacked header scripts
    → GoesWithoutFault (host_of cell header scripts) limit bounds
    (unplayed (new_world area random events version))
