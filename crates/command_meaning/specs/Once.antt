-- A run that has one entry alone.
use Rattle.std.specs.Prelude.{◌≡◌, ℕ, List, []}
use Rattle.nwq_value.specs.Engine.{EngineTable}
use Rattle.typing_rules.specs.Typed.{TypedUnit}
use Rattle.area_rules.specs.Area.{empty_area}
use Rattle.world_rules.specs.Pure.{CellLookup}
use Rattle.world_rules.specs.Turns.{still}
use Rattle.world_rules.specs.World.{World}
use Rattle.world_rules.specs.Plays.{Done, Entered, Played, after_entry, event_entry, further, unplayed}
use Rattle.source_meaning.specs.Evaluation.{Deferred}
use Rattle.source_meaning.specs.Plays.{runner}
use Rattle.play_worlds.specs.Worlds.{text_name}
use Rattle.command_meaning.specs.Runs.{setting_of, source_played, source_world}
use Rattle.command_meaning.specs.WithoutActions.{UnitHasNoAction}

-- the world in which the start of a script runs: nothing else waits, and nothing was told
abbrev pub begun_world : World Deferred
begun_world = record (still empty_area [] 2) { agenda = record { entries = []; next = 1 } }

-- the one evaluation of a script's start, with at most n steps
unfoldable pub evaluated : CellLookup → EngineTable → List ℕ → TypedUnit → ℕ → Entered Deferred
evaluated cell header name u n = event_entry (runner (setting_of cell header name u) n) 0
    (text_name name) begun_world

-- a play that has this one entry: it is done, unless the entry was stopped
abbrev pub played_once : List ℕ → Entered Deferred → Played Deferred
played_once name e = after_entry e.stopped (further e (unplayed (source_world name)))
    (λ p. record { ending = Done; last = p })

-- The play has exactly one entry, and tells what that tells.
pub record IsOneEntry (name : List ℕ) (e : Entered Deferred) (p : Played Deferred) : Type 0 where
  pub is : p ≡ played_once name e
  pub entries : p.last.entries ≡ 1
  pub told : p.last.trace ≡ e.world.trace

-- For a unit without action arguments the play of its source has exactly one entry, and tells what
-- its one evaluation tells.
abbrev pub PlaysOnce : CellLookup → EngineTable → List ℕ → TypedUnit → Type 0
PlaysOnce cell header name u = UnitHasNoAction u → (n : ℕ)
    → IsOneEntry name (evaluated cell header name u n) (source_played cell header name u n)

-- So it is for any unit where the evaluation leaves nothing on the agenda.
abbrev pub PlaysOnceWhereNothingWaits : CellLookup → EngineTable → List ℕ → TypedUnit → Type 0
PlaysOnceWhereNothingWaits cell header name u =
    (n : ℕ) → (evaluated cell header name u n).world.agenda.entries ≡ []
    → IsOneEntry name (evaluated cell header name u n) (source_played cell header name u n)

abbrev pub StartsPlayOnce : Type 0
StartsPlayOnce = (cell : CellLookup) (header : EngineTable) (name : List ℕ) (u : TypedUnit)
    → PlaysOnce cell header name u

abbrev pub StartsPlayOnceWhereNothingWaits : Type 0
StartsPlayOnceWhereNothingWaits = (cell : CellLookup) (header : EngineTable) (name : List ℕ)
    (u : TypedUnit) → PlaysOnceWhereNothingWaits cell header name u
